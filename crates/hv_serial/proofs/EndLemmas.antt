-- How the encoding of a video ends behind some groups, from how the reading or the writing of the
-- next one ended.
use Rattle.std.proofs.Common.{◌≡◌, ◌⊎◌, ℕ, zero, suc, ◌+◌, ◌-◌, ◌*◌, ◌<◌, ◌≤◌, List, [], ◌++◌, length, take, drop, refl, sym, ap, subst, ◌∙◌, inl, inr, arith, length-drop, zero-mul}
use Rattle.std.specs.Prelude.{Option, Some, Bool, nat_eq, Result, Err}
use Rattle.std.proofs.Math.Seq.{take-length}
use Rattle.std.proofs.lemmas.List.{take-take}
use Rattle.hv_lemmas.proofs.OptionLemmas.{some_same}
use Rattle.hv_types.specs.declared.settings.Settings.{Settings}
use Rattle.hv_types.specs.declared.settings.Emit.{Emit}
use Rattle.hv_types.specs.declared.picture.Picture.{Picture}
use Rattle.hv_types.specs.Configuration.{IsValid, most_pictures, picture_bytes}
use Rattle.hv_types.specs.Outside.{Rises}
use Rattle.hv_types.proofs.ConfigurationLemmas.{picture_bytes-least}
use Rattle.hv_model.specs.Decoding.{decode_of}
use Rattle.hv_model.specs.InterLaws.{InterStreamsAreDecoded}
use Rattle.hv_model.specs.InterPictures.{output, output_as}
use Rattle.hv_serial.specs.declared.answers.Totals.{Totals}
use Rattle.hv_serial.specs.declared.answers.EncodeError.{EncodeError}
use Rattle.hv_serial.specs.declared.answers.EncodeError.TheVariants.{ReadFault, ShortPicture, WriteFault, NoMemory, TooLong}
use Rattle.hv_serial.specs.Transfers.{Drawn, Put, Grows, PutsPart}
use Rattle.hv_serial.specs.Outcomes.{pictures_in, pictures_read, rest_in, whole_groups, IsReadToEnd, WroteGroups, WroteSome, WrotePart}
use Rattle.hv_serial.specs.Endings.{Decodes, Ends, EndsOk, EndsReadFault, EndsShort, EndsTooLong, NoFaults, EndsWriteFault, EndsNoMemory}
use Rattle.hv_serial.specs.Steps.{Took, GroupRead, GroupFault, GroupShort, GroupTooMany, EndsGroup, PutsPartOfGroup, EndsWriting}
use Rattle.hv_serial.proofs.GrowthLemmas.{PutsPart-more}
use Rattle.hv_serial.proofs.StreamLemmas.{output_nothing}
use Rattle.hv_serial.proofs.PictureLemmas.{taken_pictures}
use Rattle.hv_serial.proofs.ReadingLemmas.{one_told, all_dropped, next_place, places, took_more, picture_number, rest_after, number_read, whole_is, whole_same}
use Rattle.hv_serial.proofs.ProgressLemmas.{reading, writing, IsAt, Grows-none, some_bytes, took_group, all_taken, next_group, they_are_padded, group_output}

-- ---- the sink refused at the end

-- all that was written is a part of the output
all_is_part : (old mid new : Option (List ℕ)) (bytes : List ℕ) → Grows old mid bytes → new ≡ mid →
    PutsPart old new bytes
all_is_part old mid new bytes grows same had e = (
  length bytes,
  same ∙ grows had e ∙ ap (λ (x : List ℕ). Some (had ++ x)) (sym (take-length bytes)),
)

-- behind an input that was read to its end, all its pictures were read
all_read : (cfg : Settings) (bytes : List ℕ) → pictures_read cfg bytes [] ≡ pictures_in cfg bytes
all_read cfg bytes =
    let all : length bytes - 0 ≡ length bytes = omega arith in
    ap (λ x. pictures_in cfg x) (ap (λ n. take n bytes) all ∙ take-length bytes)

-- the sink refused at the end, behind a whole output
whole_part : (cfg : Settings) (bytes : List ℕ) (now old mid new : Option (List ℕ)) →
    IsReadToEnd cfg bytes now → Grows old mid (output cfg (pictures_in cfg bytes)) → new ≡ mid →
    WrotePart cfg bytes [] old new
whole_part cfg bytes now old mid new read wrote same =
    let v = pictures_in cfg bytes in
    let count : length v ≡ length (pictures_read cfg bytes []) =
    ap (λ x. length x) (sym (all_read cfg bytes)) in
    record {
      m = length v;
      groups = record { few = omega (arith, count); whole = inr (refl, read.no_rest, refl) };
      wrote =
          subst (λ x. PutsPart old new (output cfg x))
          (sym (take-length v) ∙ ap (λ x. take (length v) x) (sym (all_read cfg bytes)))
          (all_is_part old mid new (output cfg v) wrote same);
    }

pub end_fault : (cfg : Settings) (t : Totals) (d : Drawn) (old mid new : Option (List ℕ))
    (before now last : ℕ) → EndsOk cfg t d (writing old mid before now) → new ≡ mid →
    Rises now last → EndsWriteFault cfg d (writing old new before last)
end_fault cfg t d old mid new before now last h same rises = record {
  rises = subst (λ (j : ℕ). Rises j last) h.no_faults.writing rises;
  reading = h.no_faults.reading;
  wrote = λ bytes left e f.
      subst (λ (x : List ℕ). WrotePart cfg bytes x old new)
      (one_told d.now [] left (h.read bytes e).left f)
      (whole_part cfg bytes d.now old mid new (h.read bytes e) (h.wrote bytes e) same);
}

-- ---- a stream behind nothing else decodes

pub ok_decodes : InterStreamsAreDecoded → (cfg : Settings) → IsValid cfg → (t : Totals) (d : Drawn)
    (w : Put) → EndsOk cfg t d w → Decodes cfg d w
ok_decodes law cfg b t d w h bytes stream emit told none new =
    let v : List Picture = pictures_in cfg bytes in
    let same : output cfg v ≡ stream = some_same (output cfg v) stream
    (sym (h.wrote bytes told [] none) ∙ new) in
    ap decode_of (sym same ∙ ap (λ (e : Emit). output_as e cfg v) emit) ∙ law cfg v b

-- ---- before the first picture

pub start_no_memory : (cfg : Settings) → IsValid cfg → (d : Drawn) (w : Put) → w.new ≡ w.old →
    NoFaults d w → EndsNoMemory cfg d w
start_no_memory cfg b d w same no_faults =
    let g : ℕ = cfg.group in
    let none : whole_groups cfg 0 ≡ 0 =
    ap (whole_groups cfg) (sym (zero-mul g)) ∙ whole_same cfg 0 b.group_least ∙ zero-mul g in
    record {
      wrote = λ bytes left e f. record {
        m = 0;
        groups = record { few = omega arith; whole = inl (sym none) };
        wrote =
            subst (λ (x : Option (List ℕ)). Grows w.old x (output cfg [])) (sym same)
            (subst (λ (x : List ℕ). Grows w.old w.old x) (sym (output_nothing cfg))
            (Grows-none w.old));
      };
      no_faults = no_faults;
    }

-- ---- behind whole groups

next_or : (m g : ℕ) → (m < g) ⊎ (m ≡ g) → (suc m < suc g) ⊎ (suc m ≡ suc g)
next_or m g (inl below) = inl (omega (arith, below))
next_or m g (inr same) = inr (ap suc same)

fewer_or_full : (m g : ℕ) → m ≤ g → (m < g) ⊎ (m ≡ g)
fewer_or_full zero zero few = inr refl
fewer_or_full zero (suc g) few = inl (omega arith)
fewer_or_full (suc m) zero few = absurd (omega (arith, few))
fewer_or_full (suc m) (suc g) few = next_or m g (fewer_or_full m g (omega (arith, few)))

module _ (cfg : Settings) (b : IsValid cfg) (before mid now old midw : Option (List ℕ))
    (rb rm rn wb wm : ℕ) (t : Totals)
    (a : IsAt cfg (reading before mid rb rm) (writing old midw wb wm) t) where
  abbrev p : ℕ
  p = picture_bytes cfg

  abbrev k : ℕ
  k = t.pictures

  -- so many pictures and a part of one were taken behind them
  took_part : (count part : ℕ) (bytes : List ℕ) → before ≡ Some bytes →
      ((rest : List ℕ) → mid ≡ Some rest → Took (count * p + part) rest now) →
      Took ((k + count) * p + part) bytes now
  took_part count part bytes e then =
      let h = a.encoded.read bytes e in
      subst (λ (n : ℕ). Took n bytes now) (omega (arith, places k count p))
      (took_more (k * p) (count * p + part) bytes mid now h (then (drop (k * p) bytes) h.left))

  -- the first j of the pictures read are the first j of the input
  front_read : (j count part : ℕ) → part < p → (bytes left : List ℕ) → now ≡ Some left →
      Took ((j + count) * p + part) bytes now →
      take j (pictures_read cfg bytes left) ≡ take j (pictures_in cfg bytes)
  front_read j count part few bytes left f took =
      ap (take j)
      (taken_pictures cfg (some_bytes cfg b) (j + count) part bytes left now took few f) ∙
      take-take j (j + count) (pictures_in cfg bytes) (omega arith)

  -- the groups that were read whole before it are written
  groups_written : (count part : ℕ) → count < cfg.group → part < p → (bytes left : List ℕ) →
      before ≡ Some bytes → now ≡ Some left → Took ((k + count) * p + part) bytes now →
      WroteGroups cfg bytes left old midw
  groups_written count part room few bytes left e f took =
      let v : List Picture = pictures_read cfg bytes left in
      let at : ℕ = t.groups * cfg.group in
      let number : length v ≡ at + count =
      number_read cfg bytes left now (k + count) part took few f ∙
      ap (λ (n : ℕ). n + count) a.whole in
      let m : ℕ = whole_groups cfg (length v) in
      let cut : m ≡ k =
      ap (whole_groups cfg) number ∙ whole_is cfg t.groups count room ∙ sym a.whole in
      subst (λ (x : List Picture). Grows old midw (output cfg x))
      (sym (ap (λ (n : ℕ). take n v) cut ∙ front_read k count part few bytes left f took))
      (a.encoded.wrote bytes e)

  -- no call failed, where none of the group's did
  read_well : rn ≡ rm → NoFaults (reading before now rb rn) (writing old midw wb wm)
  read_well e = record {
    reading = e ∙ a.encoded.no_faults.reading;
    writing = a.encoded.no_faults.writing;
  }

  at_fault : GroupFault cfg (reading mid now rm rn) →
      EndsReadFault cfg (reading before now rb rn) (writing old midw wb wm)
  at_fault r = record {
    rises = subst (λ (j : ℕ). Rises j rn) a.encoded.no_faults.reading r.rises;
    writing = a.encoded.no_faults.writing;
    wrote = λ bytes left e f.
        let h = a.encoded.read bytes e in
        let s = r.read (drop (k * p) bytes) h.left in
        groups_written r.count s.part r.room s.few bytes left e f
        (subst (λ (n : ℕ). Took n bytes now) (omega (arith, places k r.count p))
        (took_more (k * p) (r.count * p + s.part) bytes mid now h s.took));
  }

  at_short : (have : ℕ) → GroupShort cfg t.pictures have (reading mid now rm rn) →
      EndsShort cfg have (reading before now rb rn) (writing old midw wb wm)
  at_short have r =
      let took : (bytes : List ℕ) → before ≡ Some bytes →
      Took ((k + r.count) * p + have) bytes now = λ bytes e.
      took_part r.count have bytes e
      (λ rest told. record {
        there = omega (arith, (r.read rest told).all);
        left = (r.read rest told).left;
      }) in
      let length_is : (bytes : List ℕ) → before ≡ Some bytes →
      length bytes ≡ (k + r.count) * p + have = λ bytes e.
      let h = a.encoded.read bytes e in
      omega (
        arith,
        (r.read (drop (k * p) bytes) h.left).all,
        h.there,
        length-drop (k * p) bytes,
        places k r.count p,
      ) in
      record {
        read = λ bytes e. record {
          left =
              (took bytes e).left ∙
              ap Some (all_dropped ((k + r.count) * p + have) bytes (length_is bytes e));
          part =
              omega (
                arith,
                ap (λ (x : List ℕ). length x)
                    (rest_after cfg bytes (k + r.count) have (length_is bytes e) r.few),
                length-drop ((k + r.count) * p) bytes,
                length_is bytes e,
              );
          some = r.some;
          short = r.few;
          few =
              subst (λ (n : ℕ). n < most_pictures)
              (sym (picture_number cfg bytes (k + r.count) have (length_is bytes e) r.few))
              r.number;
        };
        wrote = λ bytes left e f.
            groups_written r.count have r.room r.few bytes left e f (took bytes e);
        no_faults = read_well r.no_fault;
      }

  at_too_many : GroupTooMany cfg t.pictures (reading mid now rm rn) →
      EndsTooLong cfg (reading before now rb rn) (writing old midw wb wm)
  at_too_many r =
      let took : (bytes : List ℕ) → before ≡ Some bytes → Took ((k + r.count) * p + 1) bytes now =
      λ bytes e. took_part r.count 1 bytes e r.read in
      record {
        read = λ bytes e. record {
          more =
              subst (λ (j : ℕ). j * p < length bytes) r.number
              (omega (arith, (took bytes e).there));
          left =
              subst (λ (j : ℕ). now ≡ Some (drop (j * p + 1) bytes)) r.number (took bytes e).left;
        };
        wrote = λ bytes left e f.
            groups_written r.count 1 r.room (omega (arith, picture_bytes-least cfg b)) bytes
            left e f (took bytes e);
        no_faults = read_well r.no_fault;
      }

  -- the whole groups before it are written, where no byte of it is
  some_written : (count : ℕ) (bytes left : List ℕ) → before ≡ Some bytes → now ≡ Some left →
      Took ((k + count) * p + 0) bytes now → WroteSome cfg bytes left old midw
  some_written count bytes left e f took =
      let v : List Picture = pictures_read cfg bytes left in
      let number : length v ≡ k + count =
      number_read cfg bytes left now (k + count) 0 took (some_bytes cfg b) f in
      let whole : whole_groups cfg k ≡ k =
      ap (whole_groups cfg) a.whole ∙ whole_same cfg t.groups b.group_least ∙ sym a.whole in
      record {
        m = k;
        groups = record { few = omega (arith, number); whole = inl (sym whole) };
        wrote =
            subst (λ (x : List Picture). Grows old midw (output cfg x))
            (sym (front_read k count 0 (some_bytes cfg b) bytes left f took))
            (a.encoded.wrote bytes e);
      }

  at_no_memory : (new : Option (List ℕ)) (wn count : ℕ) → new ≡ midw → wn ≡ wm → rn ≡ rm →
      ((rest : List ℕ) → mid ≡ Some rest → Took (count * p) rest now) →
      EndsNoMemory cfg (reading before now rb rn) (writing old new wb wn)
  at_no_memory new wn count same wrote_well reads_well read = record {
    no_faults = record {
      reading = reads_well ∙ a.encoded.no_faults.reading;
      writing = wrote_well ∙ a.encoded.no_faults.writing;
    };
    wrote = λ bytes left e f.
        subst (λ (x : Option (List ℕ)). WroteSome cfg bytes left old x) (sym same)
        (some_written count bytes left e f
        (took_part count 0 bytes e
        (λ rest told. subst (λ (n : ℕ). Took n rest now) (omega arith) (read rest told))));
  }

  -- the reading of the next group ended the encoding
  pub at_read_error : (error : EncodeError) →
      EndsGroup cfg t.pictures (reading mid now rm rn) (Err error) →
      Ends cfg (reading before now rb rn) (writing old midw wb wm) (Err error)
  at_read_error ReadFault r = at_fault r
  at_read_error (ShortPicture have) r = at_short have r
  at_read_error WriteFault r = absurd r
  at_read_error NoMemory r = at_no_memory midw wm r.count refl refl r.no_fault r.read
  at_read_error TooLong r = at_too_many r

  -- m pictures behind the whole groups are one whole group more, or the last ones of the input
  are_groups : (padded : List Picture) →
      GroupRead cfg t.pictures padded (reading mid now rm rn) →
      (bytes left : List ℕ) → before ≡ Some bytes → now ≡ Some left →
      (length padded < cfg.group) ⊎ (length padded ≡ cfg.group) →
      (k + length padded ≡ whole_groups cfg (k + length padded)) ⊎
      ((left ≡ []) × (rest_in cfg bytes ≡ []) ×
      (k + length padded ≡ length (pictures_in cfg bytes)))
  are_groups padded r bytes left e f (inr full) =
      let m : ℕ = length padded in
      let next : k + m ≡ (t.groups + 1) * cfg.group =
      omega (arith, a.whole, full, next_place t.groups cfg.group) in
      inl (
      next ∙ sym (whole_same cfg (t.groups + 1) b.group_least) ∙
      sym (ap (whole_groups cfg) next)
      )
  are_groups padded r bytes left e f (inl fewer) =
      let m : ℕ = length padded in
      let all : length bytes ≡ (k + m) * p =
      all_taken cfg b before mid now old midw rb rm rn wb wm t a padded fewer r bytes e in
      let none : length bytes ≡ (k + m) * p + 0 = omega (arith, all) in
      let took : Took ((k + m) * p) bytes now =
      took_group cfg b before mid now old midw rb rm rn wb wm t a m bytes e r.read in
      inr (
        one_told now left [] f (took.left ∙ ap Some (all_dropped ((k + m) * p) bytes all)),
        rest_after cfg bytes (k + m) 0 none (some_bytes cfg b) ∙
            all_dropped ((k + m) * p) bytes all,
        sym (picture_number cfg bytes (k + m) 0 none (some_bytes cfg b)),
      )

  at_write_fault : (new : Option (List ℕ)) (wn : ℕ) (padded : List Picture) →
      0 < length padded → GroupRead cfg t.pictures padded (reading mid now rm rn) →
      PutsPartOfGroup cfg (nat_eq t.groups 0) padded (writing midw new wm wn) →
      EndsWriteFault cfg (reading before now rb rn) (writing old new wb wn)
  at_write_fault new wn padded some r puts = record {
    rises = subst (λ (j : ℕ). Rises j wn) a.encoded.no_faults.writing puts.rises;
    reading = r.no_fault ∙ a.encoded.no_faults.reading;
    wrote = λ bytes left e f.
        let m : ℕ = length padded in
        let v : List Picture = pictures_read cfg bytes left in
        let took : Took ((k + m) * p + 0) bytes now =
        took_part m 0 bytes e
        (λ rest told. subst (λ (n : ℕ). Took n rest now) (omega arith) (r.read rest told)) in
        let number : length v ≡ k + m =
        number_read cfg bytes left now (k + m) 0 took (some_bytes cfg b) f in
        let more : Took ((k + m + 0) * p + 0) bytes now =
        subst (λ (n : ℕ). Took (n * p + 0) bytes now) (omega arith) took in
        let seen : take (k + m) v ≡ take (k + m) (pictures_in cfg bytes) =
        front_read (k + m) 0 0 (some_bytes cfg b) bytes left f more in
        record {
          m = k + m;
          groups = record {
            few = omega (arith, number);
            whole = are_groups padded r bytes left e f (fewer_or_full m cfg.group r.room);
          };
          wrote =
              subst (λ (x : List ℕ). PutsPart old new x)
              (sym (ap (output cfg) seen ∙
              group_output cfg b before mid now old midw rb rm rn wb wm t a padded some r bytes e))
              (PutsPart-more old midw new _ _ (a.encoded.wrote bytes e)
              (puts.wrote (next_group cfg b before mid now old midw rb rm rn wb wm t a bytes padded)
              (they_are_padded cfg b before mid now old midw rb rm rn wb wm t a padded r bytes
              e)));
        };
  }

  -- the writing of the next group ended the encoding
  pub at_write_error : (new : Option (List ℕ)) (wn : ℕ) (padded : List Picture) →
      0 < length padded → GroupRead cfg t.pictures padded (reading mid now rm rn) →
      (error : EncodeError) →
      EndsWriting cfg (nat_eq t.groups 0) padded (writing midw new wm wn) (Err error) →
      Ends cfg (reading before now rb rn) (writing old new wb wn) (Err error)
  at_write_error new wn padded some r ReadFault h = absurd h
  at_write_error new wn padded some r (ShortPicture have) h = absurd h
  at_write_error new wn padded some r WriteFault h = at_write_fault new wn padded some r h
  at_write_error new wn padded some r NoMemory h =
      at_no_memory new wn (length padded) h.wrote h.no_fault r.no_fault r.read
  at_write_error new wn padded some r TooLong h = absurd h

-- the settings that a group was read with are those that it is written with
pub writing_is : (cfg other : Settings) (first : Bool) (padded : List Picture) (w : Put)
    (r s : Result ℕ EncodeError) → other ≡ cfg → r ≡ s → EndsWriting other first padded w r →
    EndsWriting cfg first padded w s
writing_is cfg other first padded w r s same is h =
    subst (λ (c : Settings). EndsWriting c first padded w s) same
    (subst (λ (x : Result ℕ EncodeError). EndsWriting other first padded w x) is h)
