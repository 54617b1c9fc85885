-- The output of a group is what is written of it.
use Rattle.std.proofs.Common.{◌≡◌, ℕ, ◌<◌, ◌^◌, List, ◌++◌, length, ap, subst, ◌∙◌}
use Rattle.std.specs.Prelude.{Bool, flat_map}
use Rattle.std.proofs.lemmas.List.Folds.{flat_map-map}
use Rattle.hv_types.specs.declared.settings.Settings.{Settings}
use Rattle.hv_types.specs.declared.settings.Emit.{Emit}
use Rattle.hv_types.specs.declared.settings.Emit.TheVariants.{Stream, Recon}
use Rattle.hv_types.specs.declared.picture.Picture.{Picture}
use Rattle.hv_types.specs.Video.{raw}
use Rattle.hv_types.specs.Outside.{Rises}
use Rattle.hv_decision.specs.Groups.{GroupOutput}
use Rattle.hv_model.specs.Encoding.{EncodedGroup}
use Rattle.hv_serial.specs.Transfers.{Put, Grows, PutsPart}
use Rattle.hv_serial.specs.Steps.{sets_of, emitted, joined_as, written_as, bytes_of_group, OfPadded, PutsGroup, PutsPartOfGroup}

pub output_is_written : (emit : Emit) (cfg : Settings) (first : Bool) (output : GroupOutput)
    (group : EncodedGroup) → output.slices ≡ group.units →
    output.shown ≡ emitted emit group.shown →
    joined_as emit cfg first output ≡ written_as emit cfg first group
output_is_written Stream cfg first output group units shown =
    ap (λ (us : List (List ℕ)). sets_of cfg first ++ flat_map (λ unit. unit) us) units
output_is_written Recon cfg first output group units shown =
    ap (flat_map (λ picture. picture)) shown ∙
    flat_map-map (λ picture. picture) raw group.shown

-- ---- the bytes of a group are put into a sink

-- where these bytes are what is written of the group
module _ (cfg : Settings) (first : Bool) (padded : List Picture) (bytes put : List ℕ) (w : Put)
    (written : OfPadded padded (λ group. bytes ≡ bytes_of_group cfg first group))
    (same : put ≡ bytes) where
  pub puts_group : (n : ℕ) → Grows w.old w.new put → n ≡ length bytes → n < 2 ^ 64 →
      w.faults_now ≡ w.faults_before → PutsGroup cfg first padded n w
  puts_group n grows long fits no_fault = record {
    wrote = λ group are.
        subst (λ (x : List ℕ). Grows w.old w.new x) (same ∙ written group are) grows;
    bytes = λ group are. long ∙ ap (λ (x : List ℕ). length x) (written group are);
    fits = fits;
    no_fault = no_fault;
  }

  pub puts_part : PutsPart w.old w.new put → Rises w.faults_before w.faults_now →
      PutsPartOfGroup cfg first padded w
  puts_part part rises = record {
    rises = rises;
    wrote = λ group are.
        subst (λ (x : List ℕ). PutsPart w.old w.new x) (same ∙ written group are) part;
  }
