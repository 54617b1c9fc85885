-- The reading of a group, picture by picture.
use Rattle.std.proofs.Common.{◌≡◌, ℕ, ◌+◌, ◌*◌, ◌<◌, ◌≤◌, List, [], ◌∷◌, ◌++◌, length, map, take, drop, refl, sym, ap, ap₂, subst, ◌∙◌, arith, length-append, length-drop, zero-mul}
use Rattle.std.specs.Prelude.{Option, Some, Bool, Result, Err}
use Rattle.std.proofs.lemmas.List.{map-append, take_all}
use Rattle.hv_types.specs.declared.settings.Settings.{Settings}
use Rattle.hv_types.specs.declared.picture.Picture.{Picture}
use Rattle.hv_types.specs.Configuration.{most_pictures, picture_bytes}
use Rattle.hv_types.specs.GroupInput.{GroupInput, with_picture}
use Rattle.hv_types.specs.Video.{picture_of, pad}
use Rattle.hv_types.specs.Outside.{Fills, Rises}
use Rattle.hv_serial.specs.declared.answers.EncodeError.{EncodeError}
use Rattle.hv_serial.specs.declared.answers.EncodeError.TheVariants.{ReadFault, ShortPicture, WriteFault, NoMemory, TooLong}
use Rattle.hv_serial.specs.Transfers.{Drawn, EndsAfter, StopsShort}
use Rattle.hv_serial.specs.Outcomes.{pictures_in}
use Rattle.hv_serial.specs.Endings.{Told}
use Rattle.hv_serial.specs.Steps.{Took, TookAll, PictureRead, NoPicture, PictureFault, PictureShort, PictureTooMany, EndsPicture, GroupIsRead, GroupNoMemory, EndsGroup}
use Rattle.hv_serial.proofs.ProgressLemmas.{reading}
use Rattle.hv_serial.proofs.ReadingLemmas.{next_place, took_more}
use Rattle.hv_serial.proofs.PictureLemmas.{one_picture_more}

-- ---- a picture, from what filled the buffer

took_all : (before now : Option (List ℕ)) (buffer : List ℕ) (n room : ℕ) → n < room →
    ((bytes : List ℕ) → before ≡ Some bytes → Fills bytes now buffer n) →
    (n < room → EndsAfter before n) →
    (bytes : List ℕ) → before ≡ Some bytes → TookAll n bytes now
took_all before now buffer n room few read end bytes e = record {
  all = end few bytes e;
  left = (read bytes e).left;
}

-- nothing was there
pub picture_none : (d : Drawn) (buffer : List ℕ) (n room : ℕ) → n ≡ 0 → 0 < room →
    ((bytes : List ℕ) → d.before ≡ Some bytes → Fills bytes d.now buffer n) →
    (n < room → EndsAfter d.before n) → d.faults_now ≡ d.faults_before → NoPicture d
picture_none d buffer n room none some read end no_fault = record {
  read = λ bytes e.
      subst (λ (k : ℕ). TookAll k bytes d.now) none
      (took_all d.before d.now buffer n room (omega (arith, none, some)) read end bytes e);
  no_fault = no_fault;
}

-- a part of a picture was there
pub picture_short : (cfg : Settings) (d : Drawn) (buffer : List ℕ) (number n room : ℕ) →
    number < most_pictures → (n ≡ 0 → ⊥) → n < room → room ≡ picture_bytes cfg →
    ((bytes : List ℕ) → d.before ≡ Some bytes → Fills bytes d.now buffer n) →
    (n < room → EndsAfter d.before n) → d.faults_now ≡ d.faults_before →
    PictureShort cfg number n d
picture_short cfg d buffer number n room below not_none few size read end no_fault = record {
  room = below;
  some = omega (arith, not_none);
  few = omega (arith, few, size);
  read = took_all d.before d.now buffer n room few read end;
  no_fault = no_fault;
}

-- a whole one was there
pub picture_whole : (cfg : Settings) (d : Drawn) (buffer : List ℕ) (number n room : ℕ) →
    number < most_pictures → n ≤ room → room ≤ n → room ≡ picture_bytes cfg →
    ((bytes : List ℕ) → d.before ≡ Some bytes → Fills bytes d.now buffer n) →
    d.faults_now ≡ d.faults_before → room ≡ length buffer → PictureRead cfg number buffer d
picture_whole cfg d buffer number n room below most least size read no_fault long =
    let all : n ≡ picture_bytes cfg = omega (arith, most, least, size) in
    record {
      few = below;
      read = λ bytes e.
          subst (λ (k : ℕ). Took k bytes d.now) all
          (record { there = (read bytes e).there; left = (read bytes e).left });
      bytes = λ bytes e.
          sym (take_all n buffer (omega (arith, least, long))) ∙ (read bytes e).same ∙
          ap (λ (k : ℕ). take k bytes) all;
      no_fault = no_fault;
    }

-- the source failed before the buffer was full, which has no more room than a picture needs
pub picture_fault : (cfg : Settings) (d : Drawn) (room : ℕ) → room ≤ picture_bytes cfg →
    Rises d.faults_before d.faults_now → StopsShort d.before d.now room → PictureFault cfg d
picture_fault cfg d room small rises stops = record {
  rises = rises;
  read = λ bytes e.
      let s = stops bytes e in
      record {
        n = s.n;
        few = omega (arith, s.few, small);
        there = s.there;
        left = s.left;
      };
}

-- a byte was there behind the last picture that a video may have
pub picture_too_many : (d : Drawn) (buffer : List ℕ) (n : ℕ) → (n ≡ 0 → ⊥) → n ≤ 1 →
    ((bytes : List ℕ) → d.before ≡ Some bytes → Fills bytes d.now buffer n) →
    d.faults_now ≡ d.faults_before → PictureTooMany most_pictures d
picture_too_many d buffer n not_none few read no_fault =
    let one : n ≡ 1 = omega (arith, not_none, few) in
    record {
      most = refl;
      read = λ bytes e.
          subst (λ (k : ℕ). Took k bytes d.now) one
          (record { there = (read bytes e).there; left = (read bytes e).left });
      no_fault = no_fault;
    }

pub picture_at : (cfg : Settings) (number same : ℕ) (buffer : List ℕ) (d : Drawn)
    (r s : Result Bool EncodeError) → number ≡ same → r ≡ s →
    EndsPicture cfg number buffer d r → EndsPicture cfg same buffer d s
picture_at cfg number same buffer d r s at e h =
    subst (λ (n : ℕ). EndsPicture cfg n buffer d s) at
    (subst (λ (x : Result Bool EncodeError). EndsPicture cfg number buffer d x) e h)

-- ---- a group

-- so many pictures of a group are read
pub record PartRead (cfg : Settings) (before count : ℕ) (input : GroupInput) (d : Drawn) :
    Type 0 where
  pub config : input.config ≡ cfg
  pub long : length input.pictures ≡ count
  pub few : before + count ≤ most_pictures
  pub read : Told d (λ bytes. Took (count * picture_bytes cfg) bytes d.now)
  pub pictures :
      Told d (λ bytes. input.pictures ≡ map pad (take count (pictures_in cfg bytes)))
  pub no_fault : d.faults_now ≡ d.faults_before

pub part_start : (cfg : Settings) (before : ℕ) (input : GroupInput) (now : Option (List ℕ))
    (r : ℕ) →
    before ≤ most_pictures → input ≡ record { config = cfg; pictures = [] } →
    PartRead cfg before 0 input (reading now now r r)
part_start cfg before input now r few is = record {
  config = ap (λ i. i.config) is;
  long = ap (λ i. length i.pictures) is;
  few = omega (arith, few);
  read = λ bytes e. record {
    there = omega (arith, zero-mul (picture_bytes cfg));
    left = e ∙ ap (λ (n : ℕ). Some (drop n bytes)) (sym (zero-mul (picture_bytes cfg)));
  };
  pictures = λ bytes e. ap (λ i. i.pictures) is;
  no_fault = refl;
}

module _ (cfg : Settings) (before count : ℕ) (input : GroupInput)
    (start mid now : Option (List ℕ)) (rs rm rn : ℕ)
    (a : PartRead cfg before count input (reading start mid rs rm)) where
  abbrev p : ℕ
  p = picture_bytes cfg

  took_behind : (n : ℕ) (bytes : List ℕ) → start ≡ Some bytes →
      ((rest : List ℕ) → mid ≡ Some rest → Took n rest now) → Took (count * p + n) bytes now
  took_behind n bytes e then =
      let h = a.read bytes e in
      took_more (count * p) n bytes mid now h (then (drop (count * p) bytes) h.left)

  took_next : (raw : List ℕ) → PictureRead cfg (before + count) raw (reading mid now rm rn) →
      (bytes : List ℕ) → start ≡ Some bytes → Took ((count + 1) * p) bytes now
  took_next raw r bytes e =
      subst (λ (n : ℕ). Took n bytes now) (sym (next_place count p)) (took_behind p bytes e r.read)

  took_all_behind : (n : ℕ) (bytes : List ℕ) → start ≡ Some bytes →
      ((rest : List ℕ) → mid ≡ Some rest → TookAll n rest now) → TookAll (count * p + n) bytes now
  took_all_behind n bytes e then =
      let h = a.read bytes e in
      let all = then (drop (count * p) bytes) h.left in
      let took = took_behind n bytes e
      (λ rest told. record {
        there = omega (arith, (then rest told).all);
        left = (then rest told).left;
      }) in
      record {
        all = omega (arith, all.all, h.there, length-drop (count * p) bytes);
        left = took.left;
      }

  -- the padded pictures, with that of the buffer
  pictures_next : 0 < p → (raw : List ℕ) →
      PictureRead cfg (before + count) raw (reading mid now rm rn) → (bytes : List ℕ) →
      start ≡ Some bytes →
      input.pictures ++ pad (picture_of input.config.width input.config.height raw) ∷ [] ≡
      map pad (take (count + 1) (pictures_in cfg bytes))
  pictures_next some raw r bytes e =
      let h = a.read bytes e in
      let took = took_next raw r bytes e in
      let front : List Picture = take count (pictures_in cfg bytes) in
      let last : Picture = picture_of cfg.width cfg.height (take p (drop (count * p) bytes)) in
      let seen : pad (picture_of input.config.width input.config.height raw) ≡ pad last =
      ap (λ (s : Settings). pad (picture_of s.width s.height raw)) a.config ∙
      ap (λ (x : List ℕ). pad (picture_of cfg.width cfg.height x))
      (r.bytes (drop (count * p) bytes) h.left) in
      ap₂ (λ (xs : List Picture) (x : Picture). xs ++ x ∷ []) (a.pictures bytes e) seen ∙
      sym (map-append pad front (last ∷ [])) ∙
      ap (map pad)
      (sym (one_picture_more cfg some count bytes
      (omega (arith, took.there, next_place count p))))

  -- one picture more
  pub part_next : 0 < p → (next : GroupInput) (raw : List ℕ) → next ≡ with_picture input raw →
      PictureRead cfg (before + count) raw (reading mid now rm rn) →
      PartRead cfg before (count + 1) next (reading start now rs rn)
  part_next some next raw is r =
      let picture =
      pad (picture_of input.config.width input.config.height raw) in
      record {
        config = ap (λ i. i.config) is ∙ a.config;
        long =
            ap (λ i. length i.pictures) is ∙ length-append input.pictures (picture ∷ []) ∙
            ap (λ (n : ℕ). n + 1) a.long;
        few = omega (arith, r.few);
        read = took_next raw r;
        pictures = λ bytes e.
            ap (λ i. i.pictures) is ∙ pictures_next some raw r bytes e;
        no_fault = r.no_fault ∙ a.no_fault;
      }

  -- no picture was left
  pub group_ended : count ≤ cfg.group → NoPicture (reading mid now rm rn) →
      GroupIsRead cfg before input (reading start now rs rn)
  group_ended room r =
      let took : (bytes : List ℕ) → start ≡ Some bytes → TookAll (count * p + 0) bytes now =
      λ bytes e. took_all_behind 0 bytes e r.read in
      let same : count * p + 0 ≡ length input.pictures * p =
      omega (arith, ap (λ (n : ℕ). n * p) a.long) in
      record {
        config = a.config;
        group = record {
          room = omega (arith, room, a.long);
          few = omega (arith, a.few, a.long);
          read = λ bytes e.
              subst (λ (n : ℕ). Took n bytes now) same (record {
                there = omega (arith, (took bytes e).all);
                left = (took bytes e).left;
              });
          pictures = λ bytes e.
              a.pictures bytes e ∙
              ap (λ (n : ℕ). map pad (take n (pictures_in cfg bytes))) (sym a.long);
          all = λ fewer bytes e. (took bytes e).all ∙ same;
          no_fault = r.no_fault ∙ a.no_fault;
        };
      }

  -- the reading of a picture ended that of the group
  pub group_error : count < cfg.group → (raw : List ℕ) (error : EncodeError) →
      EndsPicture cfg (before + count) raw (reading mid now rm rn) (Err error) →
      EndsGroup cfg before (reading start now rs rn) (Err error)
  group_error room raw ReadFault r = record {
    count = count;
    room = room;
    rises = subst (λ (j : ℕ). Rises j rn) a.no_fault r.rises;
    read = λ bytes e.
        let h = a.read bytes e in
        let s = r.read (drop (count * p) bytes) h.left in
        record {
          part = s.n;
          few = s.few;
          took =
              took_more (count * p) s.n bytes mid now h
              (record { there = s.there; left = s.left });
        };
  }
  group_error room raw (ShortPicture have) r = record {
    count = count;
    room = room;
    number = r.room;
    some = r.some;
    few = r.few;
    read = λ bytes e. took_all_behind have bytes e r.read;
    no_fault = r.no_fault ∙ a.no_fault;
  }
  group_error room raw WriteFault r = absurd r
  group_error room raw NoMemory r = absurd r
  group_error room raw TooLong r = record {
    count = count;
    room = room;
    number = r.most;
    read = λ bytes e. took_behind 1 bytes e r.read;
    no_fault = r.no_fault ∙ a.no_fault;
  }

  -- no memory for one more
  pub group_no_memory : (raw : List ℕ) →
      PictureRead cfg (before + count) raw (reading mid now rm rn) →
      GroupNoMemory cfg (reading start now rs rn)
  group_no_memory raw r = record {
    count = count + 1;
    read = took_next raw r;
    no_fault = r.no_fault ∙ a.no_fault;
  }

-- all pictures that a group has
pub group_full : (cfg : Settings) (before count : ℕ) (input : GroupInput) (d : Drawn) →
    PartRead cfg before count input d → count ≡ cfg.group → GroupIsRead cfg before input d
group_full cfg before count input d a full = record {
  config = a.config;
  group = record {
    room = omega (arith, a.long, full);
    few = omega (arith, a.few, a.long);
    read = λ bytes e.
        subst (λ (n : ℕ). Took (n * picture_bytes cfg) bytes d.now) (sym a.long) (a.read bytes e);
    pictures = λ bytes e.
        a.pictures bytes e ∙
        ap (λ (n : ℕ). map pad (take n (pictures_in cfg bytes))) (sym a.long);
    all = λ fewer. absurd (omega (arith, fewer, a.long, full));
    no_fault = a.no_fault;
  };
}

-- no memory for a group
pub group_not_begun : (cfg : Settings) (now : Option (List ℕ)) (r : ℕ) →
    GroupNoMemory cfg (reading now now r r)
group_not_begun cfg now r = record {
  count = 0;
  read = λ bytes e. record {
    there = omega (arith, zero-mul (picture_bytes cfg));
    left = e ∙ ap (λ (n : ℕ). Some (drop n bytes)) (sym (zero-mul (picture_bytes cfg)));
  };
  no_fault = refl;
}

pub group_is : (cfg : Settings) (before : ℕ) (d : Drawn) (r s : Result GroupInput EncodeError) →
    r ≡ s → EndsGroup cfg before d r → EndsGroup cfg before d s
group_is cfg before d r s e h =
    subst (λ (x : Result GroupInput EncodeError). EndsGroup cfg before d x) e h
