-- What a call says that encoded a source, or generated video in its place.
use Rattle.std.proofs.Common.{◌≡◌, ℕ, ◌+◌, ◌-◌, ◌*◌, ◌/◌, ◌<◌, ◌≤◌, Bool, true, false, cond, List, [], length, take, refl, sym, ap, subst, ◌∙◌, inl, inr, arith}
use Rattle.std.specs.Prelude.{◌⊎◌, Option, Some, min, ◌^◌}
use Rattle.std.proofs.Math.Seq.{take-length}
use Rattle.std.proofs.lemmas.List.{length-take, take-take}
use Rattle.std.proofs.lemmas.Nat.{mul-le}
use Rattle.hv_lemmas.proofs.OptionLemmas.{some_same}
use Rattle.hv_types.specs.declared.settings.Settings.{Settings}
use Rattle.hv_types.specs.declared.picture.Picture.{Picture}
use Rattle.hv_types.specs.Configuration.{IsValid, most_pictures, picture_bytes, pictures_asked}
use Rattle.hv_types.specs.Outside.{Rises}
use Rattle.hv_types.specs.Video.{pictures}
use Rattle.hv_types.proofs.ConfigurationLemmas.{picture_bytes-least}
use Rattle.hv_synth.specs.Generator.{generated}
use Rattle.hv_synth.specs.GeneratorLaws.{IsVideo}
use Rattle.hv_synth.proofs.FrontLemmas.{front_pictures, length-whole}
use Rattle.hv_model.specs.InterPictures.{output}
use Rattle.hv_serial.specs.Transfers.{Drawn, Put, Grows, PutsPart, drawn}
use Rattle.hv_serial.specs.Outcomes.{pictures_in, pictures_read, rest_in, AreGroups, WroteSome, WrotePart, IsReadToEnd, EndsWithin, GoesOn}
use Rattle.hv_serial.specs.Endings.{EndsOk}
use Rattle.hv_run.specs.declared.status.Status.{Status}
use Rattle.hv_run.specs.declared.status.Status.TheVariants.{Ok, Words, ReadFault, ShortPicture, WriteFault, NoMemory, TooLong, ReportFault}
use Rattle.hv_run.specs.Statuses.{is_of_input, Concludes}
use Rattle.hv_run.specs.Input.{generated_bytes, input, input_bytes, input_drawn, input_left, input_faults, is_generated}

-- ---- the source

-- a count of faults that doesn't change doesn't rise from 0
pub never_rises : Rises 0 0 → ⊥
never_rises h = omega (arith, h.counted)

-- where the faults of the input rise, they are those of the source
pub source_rises : (cfg : Settings) (before now : ℕ) →
    Rises (input_faults cfg before) (input_faults cfg now) → Rises before now
source_rises cfg before now h = by_input (is_generated cfg) h
  where
    by_input : (g : Bool) → Rises (cond g 0 before) (cond g 0 now) → Rises before now
    by_input true h = absurd (never_rises h)
    by_input false h = h

-- where they stay, those of the source stay: with a generator it isn't touched
pub source_kept : (cfg : Settings) (before now : ℕ) → (is_generated cfg ≡ true → now ≡ before) →
    input_faults cfg now ≡ input_faults cfg before → now ≡ before
source_kept cfg before now untouched h = by_input (is_generated cfg) untouched h
  where
    by_input : (g : Bool) → (g ≡ true → now ≡ before) → cond g 0 now ≡ cond g 0 before →
        now ≡ before
    by_input true untouched h = untouched refl
    by_input false untouched h = h

-- a source that tells its bytes tells those to encode
pub input_told : (cfg : Settings) (bytes : List ℕ) →
    input cfg (Some bytes) ≡ Some (input_bytes cfg bytes)
input_told cfg bytes = by_input (is_generated cfg)
  where
    by_input : (g : Bool) → cond g (Some (generated_bytes cfg)) (Some bytes) ≡
        Some (cond g (generated_bytes cfg) bytes)
    by_input true = refl
    by_input false = refl

pub left_told : (cfg : Settings) (left : Option (List ℕ)) → is_generated cfg ≡ false →
    input_left cfg left ≡ left
left_told cfg left none = ap (λ g. cond g (Some []) left) none

-- ---- generated video, which was read so far that these bytes were left

abbrev made_drawn : Settings → List ℕ → Drawn
made_drawn cfg left = record {
  before = Some (generated_bytes cfg);
  now = Some left;
  faults_before = 0;
  faults_now = 0;
}

module _ (cfg : Settings) (b : IsValid cfg) (video : IsVideo cfg) where
  abbrev all : List ℕ
  all = generated_bytes cfg

  some_bytes : 0 < picture_bytes cfg
  some_bytes = omega (arith, picture_bytes-least cfg b)

  -- what was read is a front of it
  read_front : (left : List ℕ) →
      pictures_read cfg all left ≡
      take ((length all - length left) / picture_bytes cfg) (generated cfg)
  read_front left =
      front_pictures cfg.width cfg.height (length all - length left) (generated cfg) video.whole
      some_bytes (omega arith)

  read_all : pictures_read cfg all [] ≡ generated cfg
  read_all =
      let whole : length all - 0 ≡ length all = omega arith in
      ap (pictures_in cfg) (ap (λ n. take n all) whole ∙ take-length all) ∙ video.pictures_again

  -- so the first ones of what was read are the first ones of all
  few_of_all : (left : List ℕ) (m : ℕ) → m ≤ length (pictures_read cfg all left) →
      m ≤ length (pictures_read cfg all [])
  few_of_all left m few =
      let k : ℕ = (length all - length left) / picture_bytes cfg in
      omega (
        arith,
        few,
        ap (λ x. length x) (read_front left),
        length-take k (generated cfg),
        ap (λ x. length x) read_all,
      )

  first_of_all : (left : List ℕ) (m : ℕ) → m ≤ length (pictures_read cfg all left) →
      take m (pictures_read cfg all left) ≡ take m (pictures_read cfg all [])
  first_of_all left m few =
      let k : ℕ = (length all - length left) / picture_bytes cfg in
      let inside : m ≤ k =
      omega (
        arith,
        few,
        ap (λ x. length x) (read_front left),
        length-take k (generated cfg),
      ) in
      ap (take m) (read_front left) ∙ take-take m k (generated cfg) inside ∙
      ap (take m) (sym read_all)

  groups_of_all : (left : List ℕ) (m : ℕ) → AreGroups cfg all left m → AreGroups cfg all [] m
  groups_of_all left m h = record {
    few = few_of_all left m h.few;
    whole = by_end h.whole;
  }
    where
      none : List ℕ
      none = []

      by_end : {A B C D : Type 0} → A ⊎ (B × C × D) → A ⊎ ((none ≡ none) × C × D)
      by_end (inl whole) = inl whole
      by_end (inr end) = inr (refl, end.1, end.2)

  some_of_all : (left : List ℕ) (old new : Option (List ℕ)) → WroteSome cfg all left old new →
      WroteSome cfg all [] old new
  some_of_all left old new h = record {
    m = h.m;
    groups = groups_of_all left h.m h.groups;
    wrote =
        subst (λ v. Grows old new (output cfg v)) (first_of_all left h.m h.groups.few) h.wrote;
  }

  part_of_all : (left : List ℕ) (old new : Option (List ℕ)) → WrotePart cfg all left old new →
      WrotePart cfg all [] old new
  part_of_all left old new h = record {
    m = h.m;
    groups = groups_of_all left h.m h.groups;
    wrote =
        subst (λ v. PutsPart old new (output cfg v)) (first_of_all left h.m h.groups.few) h.wrote;
  }

  -- of the bytes and what is left of them, as they are told
  as_told : (P : List ℕ → List ℕ → Type 0) → P all [] → (bytes left : List ℕ) →
      Some all ≡ Some bytes → Some [] ≡ Some left → P bytes left
  as_told P h bytes left e f =
      subst (λ x. P x left) (some_same all bytes e)
      (subst (λ x. P all x) (some_same [] left f) h)

  -- ---- how its encoding doesn't end

  no_part : (have : ℕ) (now : Option (List ℕ)) → EndsWithin cfg have all now → ⊥
  no_part have now h =
      omega (arith, h.part, h.some, ap (λ x. length x) video.rest_again)

  not_too_long : (now : Option (List ℕ)) → GoesOn cfg all now → ⊥
  not_too_long now h =
      omega (
        arith,
        h.more,
        length-whole cfg.width cfg.height (generated cfg) video.whole some_bytes,
        video.count,
        mul-le (length (generated cfg)) (picture_bytes cfg) most_pictures (picture_bytes cfg)
            (omega (arith, video.count, b.pictures)) (omega arith),
      )

  made_never : (left : List ℕ) (w r : Put) (s : Status) →
      Concludes cfg (made_drawn cfg left) w r s → is_of_input s ≡ false
  made_never left w r Ok h = refl
  made_never left w r Words h = refl
  made_never left w r ReadFault h = absurd (never_rises h.encoded.rises)
  made_never left w r (ShortPicture have) h = absurd (no_part have _ (h.encoded.read all refl))
  made_never left w r WriteFault h = refl
  made_never left w r NoMemory h = refl
  made_never left w r TooLong h = absurd (not_too_long _ (h.encoded.read all refl))
  made_never left w r ReportFault h = refl

  -- ---- how it ends

  ok_of_all : (t : _) (left : List ℕ) (w : Put) → EndsOk cfg t (made_drawn cfg left) w →
      EndsOk cfg t (made_drawn cfg []) w
  ok_of_all t left w h = record {
    read = λ bytes e. record {
      left = refl;
      no_rest = (h.read bytes e).no_rest;
      few = (h.read bytes e).few;
    };
    wrote = h.wrote;
    totals = h.totals;
    no_faults = record { reading = refl; writing = h.no_faults.writing };
  }

  all_case : (left : List ℕ) (w r : Put) (s : Status) → Concludes cfg (made_drawn cfg left) w r s →
      Concludes cfg (made_drawn cfg []) w r s
  all_case left w r Ok h = record {
    totals = h.totals;
    encoded = ok_of_all h.totals left w h.encoded;
    reported = h.reported;
  }
  all_case left w r Words h = h
  all_case left w r ReadFault h = absurd (never_rises h.encoded.rises)
  all_case left w r (ShortPicture have) h = absurd (no_part have _ (h.encoded.read all refl))
  all_case left w r WriteFault h = record {
    encoded = record {
      rises = h.encoded.rises;
      reading = refl;
      wrote =
          as_told (λ bytes rest. WrotePart cfg bytes rest w.old w.new)
          (part_of_all left w.old w.new (h.encoded.wrote all left refl refl));
    };
    reported = h.reported;
  }
  all_case left w r NoMemory h = record {
    encoded = record {
      wrote =
          as_told (λ bytes rest. WroteSome cfg bytes rest w.old w.new)
          (some_of_all left w.old w.new (h.encoded.wrote all left refl refl));
      no_faults = record { reading = refl; writing = h.encoded.no_faults.writing };
    };
    reported = h.reported;
  }
  all_case left w r TooLong h = absurd (not_too_long _ (h.encoded.read all refl))
  all_case left w r ReportFault h = record {
    totals = h.totals;
    encoded = ok_of_all h.totals left w h.encoded;
    reported = h.reported;
  }

  generator_drawn : (d : Drawn) → is_generated cfg ≡ true → made_drawn cfg [] ≡ input_drawn cfg d
  generator_drawn d named = sym (ap (λ g. either g) named)
    where
      either : Bool → Drawn
      either g = record {
        before = cond g (Some (generated_bytes cfg)) d.before;
        now = cond g (Some []) d.now;
        faults_before = cond g 0 d.faults_before;
        faults_now = cond g 0 d.faults_now;
      }

  -- of a source that made it
  as_made : (made left : List ℕ) (w r : Put) (s : Status) → made ≡ all →
      Concludes cfg (drawn Some (λ x. 0) made left) w r s →
      Concludes cfg (made_drawn cfg left) w r s
  as_made made left w r s is h =
      subst (λ x. Concludes cfg (drawn Some (λ y. 0) x left) w r s) is h

  pub generator_concludes : (made left : List ℕ) (d : Drawn) (w r : Put) (s : Status) →
      made ≡ all → is_generated cfg ≡ true →
      Concludes cfg (drawn Some (λ x. 0) made left) w r s → Concludes cfg (input_drawn cfg d) w r s
  generator_concludes made left d w r s is named h =
      subst (λ x. Concludes cfg x w r s) (generator_drawn d named)
      (all_case left w r s (as_made made left w r s is h))

  pub generator_never : (made left : List ℕ) (w r : Put) (s : Status) → made ≡ all →
      Concludes cfg (drawn Some (λ x. 0) made left) w r s → is_of_input s ≡ false
  generator_never made left w r s is h = made_never left w r s (as_made made left w r s is h)
