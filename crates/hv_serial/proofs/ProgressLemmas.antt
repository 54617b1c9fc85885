-- What is read, encoded and written after some groups, and what the next group makes of it.
use Rattle.std.proofs.Common.{◌≡◌, ℕ, ◌+◌, ◌*◌, ◌<◌, ◌≤◌, ◌^◌, List, [], ◌++◌, length, map, take, drop, refl, sym, ap, subst, ◌∙◌, arith, append-nil, length-append, length-drop, zero-mul}
use Rattle.std.specs.Prelude.{Option, Some, nat_eq}
use Rattle.std.proofs.lemmas.List.{length-take-le, take_all}
use Rattle.std.proofs.lemmas.Nat.{mul-le}
use Rattle.hv_types.specs.declared.settings.Settings.{Settings}
use Rattle.hv_types.specs.declared.picture.Picture.{Picture}
use Rattle.hv_types.specs.Configuration.{IsValid, most_pictures, picture_bytes}
use Rattle.hv_types.specs.Video.{pad}
use Rattle.hv_types.proofs.ConfigurationLemmas.{picture_bytes-least}
use Rattle.hv_model.specs.InterPictures.{output}
use Rattle.hv_model.specs.EncodingLaws.{IsNextGroup}
use Rattle.hv_serial.specs.declared.answers.Totals.{Totals}
use Rattle.hv_serial.specs.Transfers.{Drawn, Put, Grows}
use Rattle.hv_serial.specs.Outcomes.{pictures_in, group_count}
use Rattle.hv_serial.specs.Endings.{Told, NoFaults, EndsOk}
use Rattle.hv_serial.specs.Steps.{Took, GroupRead, PutsGroup, bytes_of_group}
use Rattle.hv_serial.proofs.GrowthLemmas.{Grows-more}
use Rattle.hv_serial.proofs.StreamLemmas.{output_nothing, output_more}
use Rattle.hv_serial.proofs.PictureLemmas.{more_pictures}
use Rattle.hv_serial.proofs.ReadingLemmas.{all_dropped, next_place, took_more, places, picture_number, pictures_there, rest_after, groups_none, groups_one}

abbrev pub reading : (before now : Option (List ℕ)) (faults_before faults_now : ℕ) → Drawn
reading before now faults_before faults_now = record {
  before = before;
  now = now;
  faults_before = faults_before;
  faults_now = faults_now;
}

abbrev pub writing : (old new : Option (List ℕ)) (faults_before faults_now : ℕ) → Put
writing old new faults_before faults_now = record {
  old = old;
  new = new;
  faults_before = faults_before;
  faults_now = faults_now;
}

-- the first pictures of the input, so many, are read, and their output is written
pub record HasEncoded (cfg : Settings) (d : Drawn) (w : Put) (t : Totals) : Type 0 where
  pub few : t.pictures ≤ most_pictures
  pub read : Told d (λ bytes. Took (t.pictures * picture_bytes cfg) bytes d.now)
  pub wrote :
      Told d (λ bytes. Grows w.old w.new (output cfg (take t.pictures (pictures_in cfg bytes))))
  pub bytes :
      Told d (λ bytes. t.bytes ≡ length (output cfg (take t.pictures (pictures_in cfg bytes))))
  pub no_faults : NoFaults d w

-- .. and they are whole groups
pub record IsAt (cfg : Settings) (d : Drawn) (w : Put) (t : Totals) : Type 0 where
  pub encoded : HasEncoded cfg d w t
  pub whole : t.pictures ≡ t.groups * cfg.group
  pub fits : t.bytes ≤ t.groups * 2 ^ 64

pub some_bytes : (cfg : Settings) → IsValid cfg → 0 < picture_bytes cfg
some_bytes cfg b = omega (arith, picture_bytes-least cfg b)

pub Grows-none : (old : Option (List ℕ)) → Grows old old []
Grows-none old had e = e ∙ ap Some (sym (append-nil had))

pub at_start : (cfg : Settings) (now new : Option (List ℕ)) (r w : ℕ) (t : Totals) →
    t.pictures ≡ 0 → t.groups ≡ 0 → t.bytes ≡ 0 →
    IsAt cfg (reading now now r r) (writing new new w w) t
at_start cfg now new r w t p g b =
    let nothing : (n : ℕ) (v : List Picture) → n ≡ 0 → output cfg (take n v) ≡ [] =
    λ n v none. ap (λ m. output cfg (take m v)) none ∙ output_nothing cfg in
    let at : t.pictures * picture_bytes cfg ≡ 0 =
    ap (λ n. n * picture_bytes cfg) p ∙ zero-mul (picture_bytes cfg) in
    record {
      encoded = record {
        few = omega (arith, p);
        read = λ bytes e. record {
          there = omega (arith, at);
          left = e ∙ ap (λ (n : ℕ). Some (drop n bytes)) (sym at);
        };
        wrote = λ bytes e.
            subst (λ (x : List ℕ). Grows new new x)
            (sym (nothing t.pictures (pictures_in cfg bytes) p)) (Grows-none new);
        bytes = λ bytes e.
            b ∙ ap (λ (x : List ℕ). length x)
            (sym (nothing t.pictures (pictures_in cfg bytes) p));
        no_faults = record { reading = refl; writing = refl };
      };
      whole = p ∙ sym (ap (λ n. n * cfg.group) g ∙ zero-mul cfg.group);
      fits = omega (arith, b);
    }

module _ (cfg : Settings) (b : IsValid cfg) where
  -- as many pictures are there as were taken
  pub are_there : (k : ℕ) (bytes : List ℕ) (now : Option (List ℕ)) →
      Took (k * picture_bytes cfg) bytes now → length (take k (pictures_in cfg bytes)) ≡ k
  are_there k bytes now took =
      length-take-le k (pictures_in cfg bytes)
      (pictures_there cfg bytes k (some_bytes cfg b) took.there)

  -- the groups are no more than the pictures
  pub groups_few : (d : Drawn) (w : Put) (t : Totals) → IsAt cfg d w t → t.groups ≤ most_pictures
  groups_few d w t a =
      omega (
        arith,
        a.whole,
        a.encoded.few,
        mul-le t.groups 1 t.groups cfg.group (omega arith) b.group_least,
      )

  module _ (before mid now old midw : Option (List ℕ)) (rb rm rn wb wm : ℕ) (t : Totals)
      (a : IsAt cfg (reading before mid rb rm) (writing old midw wb wm) t) where
    pub took_behind : (n : ℕ) (bytes : List ℕ) → before ≡ Some bytes →
        ((rest : List ℕ) → mid ≡ Some rest → Took n rest now) →
        Took (t.pictures * picture_bytes cfg + n) bytes now
    took_behind n bytes e then =
        let h = a.encoded.read bytes e in
        took_more (t.pictures * picture_bytes cfg) n bytes mid now h
        (then (drop (t.pictures * picture_bytes cfg) bytes) h.left)

    pub took_group : (m : ℕ) (bytes : List ℕ) → before ≡ Some bytes →
        ((rest : List ℕ) → mid ≡ Some rest → Took (m * picture_bytes cfg) rest now) →
        Took ((t.pictures + m) * picture_bytes cfg) bytes now
    took_group m bytes e then =
        subst (λ (n : ℕ). Took n bytes now) (sym (places t.pictures m (picture_bytes cfg)))
        (took_behind (m * picture_bytes cfg) bytes e then)

    -- the pictures of a group that is read behind them, and they themselves
    pub next_group : List ℕ → List Picture → List Picture
    next_group bytes padded =
        take (length padded) (pictures_in cfg (drop (t.pictures * picture_bytes cfg) bytes))

    pub they_are_padded : (padded : List Picture) →
        GroupRead cfg t.pictures padded (reading mid now rm rn) → (bytes : List ℕ) →
        before ≡ Some bytes → map pad (next_group bytes padded) ≡ padded
    unfolding next_group
    they_are_padded padded r bytes e =
        sym (r.pictures (drop (t.pictures * picture_bytes cfg) bytes) (a.encoded.read bytes e).left)

    pub they_are_next : (padded : List Picture) → 0 < length padded →
        GroupRead cfg t.pictures padded (reading mid now rm rn) → (bytes : List ℕ) →
        before ≡ Some bytes →
        IsNextGroup cfg t.groups (take t.pictures (pictures_in cfg bytes))
        (next_group bytes padded)
    unfolding next_group
    they_are_next padded some r bytes e =
        let h = a.encoded.read bytes e in
        let rest : List ℕ = drop (t.pictures * picture_bytes cfg) bytes in
        let long : length (take (length padded) (pictures_in cfg rest)) ≡ length padded =
        are_there (length padded) rest now (r.read rest h.left) in
        record {
          whole = are_there t.pictures bytes mid h ∙ a.whole;
          some = omega (arith, long, some);
          few = omega (arith, long, r.room);
        }

    pub they_follow : (padded : List Picture) →
        GroupRead cfg t.pictures padded (reading mid now rm rn) → (bytes : List ℕ) →
        before ≡ Some bytes →
        take (t.pictures + length padded) (pictures_in cfg bytes) ≡
        take t.pictures (pictures_in cfg bytes) ++ next_group bytes padded
    unfolding next_group
    they_follow padded r bytes e =
        let took = took_group (length padded) bytes e r.read in
        more_pictures cfg (some_bytes cfg b) t.pictures (length padded) bytes
        (omega (arith, took.there, places t.pictures (length padded) (picture_bytes cfg)))

    -- what is written of the pictures with the next group
    pub group_output : (padded : List Picture) → 0 < length padded →
        GroupRead cfg t.pictures padded (reading mid now rm rn) → (bytes : List ℕ) →
        before ≡ Some bytes →
        output cfg (take (t.pictures + length padded) (pictures_in cfg bytes)) ≡
        output cfg (take t.pictures (pictures_in cfg bytes)) ++
        bytes_of_group cfg (nat_eq t.groups 0) (next_group bytes padded)
    group_output padded some r bytes e =
        ap (output cfg) (they_follow padded r bytes e) ∙
        output_more cfg t.groups (take t.pictures (pictures_in cfg bytes))
        (next_group bytes padded) (they_are_next padded some r bytes e)

    -- one group more, and it may have fewer pictures
    pub after_group : (new : Option (List ℕ)) (wn : ℕ) (padded : List Picture) (n : ℕ)
        (u : Totals) → 0 < length padded →
        GroupRead cfg t.pictures padded (reading mid now rm rn) →
        PutsGroup cfg (nat_eq t.groups 0) padded n (writing midw new wm wn) →
        u.pictures ≡ t.pictures + length padded → u.bytes ≡ t.bytes + n →
        HasEncoded cfg (reading before now rb rn) (writing old new wb wn) u
    after_group new wn padded n u some r puts pictures size = record {
      few = omega (arith, pictures, r.few);
      read = λ bytes e.
          subst (λ (k : ℕ). Took (k * picture_bytes cfg) bytes now) (sym pictures)
          (took_group (length padded) bytes e r.read);
      wrote = λ bytes e.
          subst (λ (x : List ℕ). Grows old new x)
          (sym (written bytes e))
          (Grows-more old midw new _ _ (a.encoded.wrote bytes e)
          (puts.wrote (next_group bytes padded) (they_are_padded padded r bytes e)));
      bytes = λ bytes e.
          let group : List Picture = next_group bytes padded in
          let front : List ℕ = output cfg (take t.pictures (pictures_in cfg bytes)) in
          omega (
            arith,
            size,
            a.encoded.bytes bytes e,
            puts.bytes group (they_are_padded padded r bytes e),
            ap length (written bytes e),
            length-append front (bytes_of_group cfg (nat_eq t.groups 0) group),
          );
      no_faults = record {
        reading = r.no_fault ∙ a.encoded.no_faults.reading;
        writing = puts.no_fault ∙ a.encoded.no_faults.writing;
      };
    }
      where
        written : (bytes : List ℕ) → before ≡ Some bytes →
            output cfg (take u.pictures (pictures_in cfg bytes)) ≡
            output cfg (take t.pictures (pictures_in cfg bytes)) ++
            bytes_of_group cfg (nat_eq t.groups 0) (next_group bytes padded)
        written bytes e =
            ap (λ (k : ℕ). output cfg (take k (pictures_in cfg bytes))) pictures ∙
            group_output padded some r bytes e

    -- one whole group more
    pub at_next : (new : Option (List ℕ)) (wn : ℕ) (padded : List Picture) (n : ℕ)
        (u : Totals) → 0 < length padded → cfg.group ≤ length padded →
        GroupRead cfg t.pictures padded (reading mid now rm rn) →
        PutsGroup cfg (nat_eq t.groups 0) padded n (writing midw new wm wn) →
        u.pictures ≡ t.pictures + length padded → u.groups ≡ t.groups + 1 →
        u.bytes ≡ t.bytes + n →
        IsAt cfg (reading before now rb rn) (writing old new wb wn) u
    at_next new wn padded n u some full r puts pictures groups size = record {
      encoded = after_group new wn padded n u some r puts pictures size;
      whole =
          omega (
            arith,
            pictures,
            a.whole,
            full,
            r.room,
            next_place t.groups cfg.group,
            ap (λ (k : ℕ). k * cfg.group) groups,
          );
      fits = omega (arith, a.fits, size, puts.fits, groups);
    }

    -- the input has ended behind whole groups
    pub after_none : (padded : List Picture) → length padded ≡ 0 →
        GroupRead cfg t.pictures padded (reading mid now rm rn) →
        HasEncoded cfg (reading before now rb rn) (writing old midw wb wm) t
    after_none padded none r = record {
      few = a.encoded.few;
      read = λ bytes e.
          subst (λ (k : ℕ). Took (k * picture_bytes cfg) bytes now)
          (omega (arith, none)) (took_group (length padded) bytes e r.read);
      wrote = a.encoded.wrote;
      bytes = a.encoded.bytes;
      no_faults = record {
        reading = r.no_fault ∙ a.encoded.no_faults.reading;
        writing = a.encoded.no_faults.writing;
      };
    }

    -- all bytes were taken
    pub all_taken : (padded : List Picture) → length padded < cfg.group →
        GroupRead cfg t.pictures padded (reading mid now rm rn) → (bytes : List ℕ) →
        before ≡ Some bytes → length bytes ≡ (t.pictures + length padded) * picture_bytes cfg
    all_taken padded short r bytes e =
        let h = a.encoded.read bytes e in
        let at : ℕ = t.pictures * picture_bytes cfg in
        omega (
          arith,
          r.all short (drop at bytes) h.left,
          length-drop at bytes,
          h.there,
          places t.pictures (length padded) (picture_bytes cfg),
        )

  -- all bytes were taken, and are encoded
  pub ends_ok : (d : Drawn) (w : Put) (t : Totals) → HasEncoded cfg d w t →
      t.groups ≡ group_count cfg t.pictures →
      ((bytes : List ℕ) → d.before ≡ Some bytes →
      length bytes ≡ t.pictures * picture_bytes cfg) → EndsOk cfg t d w
  ends_ok d w t h groups all =
      let p : ℕ = picture_bytes cfg in
      let none : (bytes : List ℕ) → d.before ≡ Some bytes → length bytes ≡ t.pictures * p + 0 =
      λ bytes e. omega (arith, all bytes e) in
      let number : (bytes : List ℕ) → d.before ≡ Some bytes →
      length (pictures_in cfg bytes) ≡ t.pictures =
      λ bytes e. picture_number cfg bytes t.pictures 0 (none bytes e) (some_bytes cfg b) in
      let whole : (bytes : List ℕ) → d.before ≡ Some bytes →
      take t.pictures (pictures_in cfg bytes) ≡ pictures_in cfg bytes =
      λ bytes e. take_all t.pictures (pictures_in cfg bytes) (omega (arith, number bytes e)) in
      record {
        read = λ bytes e. record {
          left = (h.read bytes e).left ∙ ap Some (all_dropped (t.pictures * p) bytes (all bytes e));
          no_rest =
              rest_after cfg bytes t.pictures 0 (none bytes e) (some_bytes cfg b) ∙
              all_dropped (t.pictures * p) bytes (all bytes e);
          few = subst (λ (n : ℕ). n ≤ most_pictures) (sym (number bytes e)) h.few;
        };
        wrote = λ bytes e.
            subst (λ (v : List Picture). Grows w.old w.new (output cfg v)) (whole bytes e)
            (h.wrote bytes e);
        totals = λ bytes e. record {
          pictures = sym (number bytes e);
          groups = groups ∙ ap (λ (n : ℕ). group_count cfg n) (sym (number bytes e));
          bytes =
              h.bytes bytes e ∙
              ap (λ (v : List Picture). length (output cfg v)) (whole bytes e);
        };
        no_faults = h.no_faults;
      }

  module _ (before mid now old midw : Option (List ℕ)) (rb rm rn wb wm : ℕ) (t : Totals)
      (a : IsAt cfg (reading before mid rb rm) (writing old midw wb wm) t) where
    -- no picture was left
    pub at_none : (padded : List Picture) → length padded ≡ 0 →
        GroupRead cfg t.pictures padded (reading mid now rm rn) →
        EndsOk cfg t (reading before now rb rn) (writing old midw wb wm)
    at_none padded none r =
        ends_ok (reading before now rb rn) (writing old midw wb wm) t
        (after_none before mid now old midw rb rm rn wb wm t a padded none r)
        (sym (ap (group_count cfg) a.whole ∙ groups_none cfg t.groups b.group_least))
        (λ bytes e.
        all_taken before mid now old midw rb rm rn wb wm t a padded
        (omega (arith, none, b.group_least)) r bytes e ∙
        ap (λ (k : ℕ). k * picture_bytes cfg) (omega (arith, none)))

    -- a last group with fewer pictures was left
    pub at_last : (new : Option (List ℕ)) (wn : ℕ) (padded : List Picture) (n : ℕ)
        (u : Totals) → 0 < length padded → length padded < cfg.group →
        GroupRead cfg t.pictures padded (reading mid now rm rn) →
        PutsGroup cfg (nat_eq t.groups 0) padded n (writing midw new wm wn) →
        u.pictures ≡ t.pictures + length padded → u.groups ≡ t.groups + 1 →
        u.bytes ≡ t.bytes + n →
        EndsOk cfg u (reading before now rb rn) (writing old new wb wn)
    at_last new wn padded n u some short r puts pictures groups size =
        ends_ok (reading before now rb rn) (writing old new wb wn) u
        (after_group before mid now old midw rb rm rn wb wm t a new wn padded n u some r puts
        pictures size)
        (groups ∙
        sym (ap (group_count cfg) (pictures ∙ ap (λ (k : ℕ). k + length padded) a.whole) ∙
        groups_one cfg t.groups (length padded) some r.room))
        (λ bytes e.
        all_taken before mid now old midw rb rm rn wb wm t a padded short r bytes e ∙
        ap (λ (k : ℕ). k * picture_bytes cfg) (sym pictures))
