-- Where sample adaptive offset is off, each sample stays (8.7.3).
use Rattle.std.proofs.Common.{◌≡◌, ℕ, ◌<◌, List, length, get_or, map, refl, sym, ◌∙◌, ap, arith, pos, ◌+ℤ◌, inl, inr}
use Rattle.std.specs.Prelude.{All}
use Rattle.std.proofs.lemmas.Int.{ints, clamps}
use Rattle.std.proofs.lemmas.Bool.{cases_lt}
use Rattle.std.proofs.lemmas.List.{get_or_past}
use Rattle.std.proofs.lemmas.List.Elements.{All-map}
use Rattle.hv_lemmas.specs.Clipping.{clip1}
use Rattle.hv_types.specs.declared.picture.Picture.{Picture}
use Rattle.hv_types.specs.Samples.{Plane, IsWhole, HasByteSamples, sample_at}
use Rattle.hv_types.proofs.SampleLemmas.{plane_is, byte_at}
use Rattle.hv_plan.specs.declared.offsets.SaoKind.{SaoKind}
use Rattle.hv_plan.specs.declared.offsets.SaoKind.TheVariants.{Off}
use Rattle.hv_plan.specs.declared.offsets.SaoComponent.{SaoComponent}
use Rattle.hv_filter_model.specs.Blocks.{block_number, luma_side, chroma_side, blocks_over}
use Rattle.hv_filter_model.specs.SampleAdaptiveOffset.{category, SaoOffsetVal, sao_sample, sao_plane, off}
use Rattle.hv_filter_model.specs.OffLaws.{OffChangesNothing}

-- a byte without an offset
pub clip1_same : (s : ℕ) → s < 256 → clip1 (pos s +ℤ pos 0) ≡ s
clip1_same s byte = omega (arith, ints, clamps)

abbrev picture_from : Plane → Plane → Plane → Picture
picture_from luma cb cr = record { luma = luma; cb = cb; cr = cr }

-- a picture is known by its planes
pub picture_same : (a b c d e f : Plane) → a ≡ d → b ≡ e → c ≡ f →
    picture_from a b c ≡ picture_from d e f
picture_same a b c d e f p q r = cc

sample_off : (component : SaoComponent) (plane : Plane) (x y : ℕ) → component.kind ≡ Off →
    HasByteSamples plane → sao_sample component plane x y ≡ sample_at plane x y
sample_off component plane x y is_off bytes =
    ap (λ (kind : SaoKind).
    clip1 (pos (sample_at plane x y) +ℤ SaoOffsetVal component (category kind plane x y))) is_off
    ∙ clip1_same (sample_at plane x y) (byte_at plane.samples _ bytes)

-- the choice of a block, which may be missing
choice_off : (choices : List SaoComponent) (k : ℕ) → All (λ c. c.kind ≡ Off) choices →
    (get_or choices k off).kind ≡ Off
choice_off choices k all = elim (cases_lt k (length choices)) [
  | inl inside ↦ all k off inside
  | inr beyond ↦ ap (λ (c : SaoComponent). c.kind) (get_or_past choices k off beyond)
]

plane_off : (side across : ℕ) (choices : List SaoComponent) (plane : Plane) → IsWhole plane →
    HasByteSamples plane → All (λ c. c.kind ≡ Off) choices →
    sao_plane side across choices plane ≡ plane
plane_off side across choices plane whole bytes all =
    sym (plane_is plane.width plane.height _ plane
    (record { wide = refl; high = refl; whole = whole })
    (λ x y across_x down.
    sym (sample_off (get_or choices (block_number side across x y) off) plane x y
    (choice_off choices (block_number side across x y) all) bytes)))

pub off_changes_nothing : OffChangesNothing
off_changes_nothing picture choices whole bytes all =
    let across : ℕ = blocks_over luma_side picture.luma.width in
    picture_same _ _ _ _ _ _
    (plane_off luma_side across (map (λ c. c.luma) choices) picture.luma whole.luma bytes.luma
    (All-map (λ (c : SaoComponent). c.kind ≡ Off) _ choices (λ k d below. (all k d below).luma)))
    (plane_off chroma_side across (map (λ c. c.cb) choices) picture.cb whole.cb bytes.cb
    (All-map (λ (c : SaoComponent). c.kind ≡ Off) _ choices (λ k d below. (all k d below).cb)))
    (plane_off chroma_side across (map (λ c. c.cr) choices) picture.cr whole.cr bytes.cr
    (All-map (λ (c : SaoComponent). c.kind ≡ Off) _ choices (λ k d below. (all k d below).cr)))
