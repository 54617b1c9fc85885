-- Offsets of a component may be coded where each of the four lies in its range (7.4.9.3): this
-- serves the tests of offsets that were read.
use Rattle.std.proofs.Common.{◌≡◌, ℕ, ◌<◌, pos, negsuc, sym, subst, arith}
use Rattle.hv_plan.specs.declared.offsets.SaoKind.{SaoKind}
use Rattle.hv_plan.specs.declared.offsets.SaoKind.TheVariants.{Off, Band, Edge}
use Rattle.hv_plan.specs.declared.offsets.SaoComponent.{SaoComponent}
use Rattle.hv_filter_model.specs.SampleAdaptiveOffset.{IsKind, IsBetween, least_offset, most_offset, offset_at, IsValidComponent}
use Rattle.hv_lemmas.proofs.ComputedLemmas.{each_of_four}

-- offset i lies in the range of a kind
abbrev IsIn : SaoKind → SaoComponent → ℕ → Type 0
IsIn kind component i = IsBetween (least_offset kind i) (most_offset kind i) (offset_at component i)

kind_valid : (kind : SaoKind) (component : SaoComponent) → component.kind ≡ kind → IsKind kind →
    IsIn kind component 0 → IsIn kind component 1 → IsIn kind component 2 →
    IsIn kind component 3 → IsValidComponent component
kind_valid kind component is h a b c d = record {
  kind = subst IsKind (sym is) h;
  offsets = subst (λ k. (i : ℕ) → i < 4 → IsIn k component i) (sym is)
      (each_of_four (IsIn kind component) a b c d);
}

pub off_valid : (component : SaoComponent) → component.kind ≡ Off →
    IsBetween (pos 0) (pos 0) (offset_at component 0) →
    IsBetween (pos 0) (pos 0) (offset_at component 1) →
    IsBetween (pos 0) (pos 0) (offset_at component 2) →
    IsBetween (pos 0) (pos 0) (offset_at component 3) → IsValidComponent component
off_valid component is a b c d = kind_valid Off component is tt a b c d

pub band_valid : (component : SaoComponent) (position : ℕ) → component.kind ≡ Band position →
    position < 32 → IsBetween (negsuc 6) (pos 7) (offset_at component 0) →
    IsBetween (negsuc 6) (pos 7) (offset_at component 1) →
    IsBetween (negsuc 6) (pos 7) (offset_at component 2) →
    IsBetween (negsuc 6) (pos 7) (offset_at component 3) → IsValidComponent component
band_valid component position is small a b c d =
    kind_valid (Band position) component is small a b c d

pub edge_valid : (component : SaoComponent) (class : ℕ) → component.kind ≡ Edge class →
    class < 4 → IsBetween (pos 0) (pos 7) (offset_at component 0) →
    IsBetween (pos 0) (pos 7) (offset_at component 1) →
    IsBetween (negsuc 6) (pos 0) (offset_at component 2) →
    IsBetween (negsuc 6) (pos 0) (offset_at component 3) → IsValidComponent component
edge_valid component class is small a b c d =
    kind_valid (Edge class) component is small a b c d
