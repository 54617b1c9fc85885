-- Runs of bytes: where they stand in a picture and in the video, and what a read gives.
use Rattle.std.proofs.Common.{◌≡◌, ℕ, ◌+◌, ◌-◌, ◌*◌, ◌/◌, ◌%◌, ◌<◌, ◌≤◌, List, ◌++◌, Some, length, take, drop, get_or, sym, ◌∙◌, ap, ap₂, subst, arith, length-append, mul_comm}
use Rattle.std.proofs.lemmas.List.{get_or_append_left, get_or-take, get_or-drop, length-drop, length-take-le, drop-drop, drop_all, take_at}
use Rattle.std.proofs.lemmas.Option.{same_Some}
use Rattle.std.proofs.lemmas.Nat.{div_below, div-add-mod'}
use Rattle.std.proofs.lemmas.Grind.{same_number_lists}
use Rattle.std.specs.List.{flat_map}
use Rattle.hv_types.specs.Configuration.{IsValid, picture_bytes}
use Rattle.hv_types.specs.Video.{raw}
use Rattle.hv_types.specs.declared.settings.Settings.{Settings}
use Rattle.hv_types.specs.declared.settings.SynthSpec.{SynthSpec}
use Rattle.hv_types.specs.Outside.{Fills, Reads}
use Rattle.hv_synth.specs.Generator.{generated}
use Rattle.hv_synth.specs.Runs.{IsRun, Generates}
use Rattle.hv_synth.proofs.GeneratorLemmas.{length-generated}

-- a run at the front of a list, in other words
pub run_in_front : (n : ℕ) (f g : ℕ → ℕ) (new more : List ℕ) → length new ≡ n → IsRun (length new) f
    new → ((k : ℕ) → k < n → g k ≡ f k) → IsRun n g (new ++ more)
run_in_front n f g new more size run same k below =
    get_or_append_left new more 0 k (omega arith) ∙ run k (omega arith) ∙ sym (same k below)

-- a place in the video is one in a picture
pub place_in_video : (at size bytes place : ℕ) → size ≡ bytes → place ≡ at % size →
    at / size * bytes + place ≡ at
place_in_video at size bytes place same is =
    ap₂ (λ n p. at / size * n + p) (sym same) is ∙ div-add-mod' at size

pub picture_in_video : (at size bytes pictures : ℕ) → size ≡ bytes → 0 < bytes →
    at < pictures * bytes → at / size < pictures
picture_in_video at size bytes pictures same some there =
    subst (λ n. at / n < pictures) (sym same) (div_below at bytes pictures some there)

-- the first n bytes from a place on
pub fills_run : (all bytes new more : List ℕ) (at n : ℕ) → bytes ≡ drop at all →
    at + n ≤ length all → length new ≡ n → IsRun (length new) (λ k. get_or all (at + k) 0) new → Fills
    bytes (Some (drop (at + n) all)) (new ++ more) n
fills_run all bytes new more at n is there size run =
    let long : length bytes ≡ length all - at = ap length is ∙ length-drop at all in
    let cut : length (take n bytes) ≡ n = length-take-le n bytes (omega arith) in
    record {
      there = omega arith;
      same = take_at new more n size ∙ same_number_lists new (take n bytes) (size ∙ sym cut)
          (λ k below.
          run k below
          ∙ sym (get_or-drop at all k 0)
          ∙ ap (λ bs. get_or bs k 0) (sym is)
          ∙ sym (get_or-take n bytes k 0 (omega arith)));
      left = ap Some (sym (drop-drop n at all) ∙ ap (drop n) (sym is));
    }

-- a read that gives them, and nothing only at the end
pub reads_run : (all bytes new more : List ℕ) (at n : ℕ) → bytes ≡ drop at all →
    at + n ≤ length all → length new ≡ n → (n ≡ 0 → length all ≤ at) → IsRun (length new)
    (λ k. get_or all (at + k) 0) new → Reads (Some bytes) (Some (drop (at + n) all)) (new ++ more) n
reads_run all bytes new more at n is there size end run = record {
  room = omega (arith, length-append new more);
  told = λ told e. subst
      (λ bs. Fills bs (Some (drop (at + n) all)) (new ++ more) n) (same_Some bytes told e)
      (fills_run all bytes new more at n is there size run);
  end = λ told e none. sym (same_Some bytes told e) ∙ is ∙ drop_all at all (end none);
  untold = λ e. absurd cc;
}

-- What settings s that name a generator come to, where s are those of a configuration.
pub record IsTotal (config s : Settings) (spec : SynthSpec) (total : ℕ) : Type 0 where
  pub generates : Generates s spec
  pub all : length (flat_map raw (generated config)) ≡ total
  pub of_settings : spec.pictures * picture_bytes s ≡ total

pub total_is : (config s : Settings) (spec : SynthSpec) (bytes n : ℕ) → s ≡ config → IsValid config →
    s.synth ≡ Some spec → bytes ≡ picture_bytes config → n ≡ spec.pictures → IsTotal config s spec
    (bytes * n)
total_is config s spec bytes n same valid named per many =
    let it : Generates s spec = record { valid = subst (λ t. IsValid t) (sym same) valid; named = named } in
    let product : spec.pictures * picture_bytes s ≡ bytes * n =
    ap₂ (λ a b. a * b) (sym many) (ap picture_bytes same ∙ sym per) ∙ mul_comm n bytes in
    record {
      generates = it;
      all = ap (λ t. length (flat_map raw (generated t))) (sym same) ∙ length-generated s spec it ∙ product;
      of_settings = product;
    }
