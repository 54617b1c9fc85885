-- A plane that a filter fills keeps its sides.
use Rattle.std.proofs.Common.{ℕ}
use Rattle.hv_types.specs.Samples.{Plane, IsPlane, plane_of}
use Rattle.hv_types.proofs.SampleLemmas.{IsPlane-plane_of}

pub sides_kept : (w h : ℕ) (f : ℕ → ℕ → ℕ) (p : Plane) → IsPlane w h p →
    IsPlane w h (plane_of p.width p.height f)
sides_kept w h f p it = record {
  wide = it.wide;
  high = it.high;
  whole = (IsPlane-plane_of p.width p.height f it.whole.wide it.whole.high).whole;
}
