-- What a settled register makes of the interval.
use Rattle.std.proofs.Common.{◌≡◌, ℕ, ◌+◌, ◌*◌, ◌^◌, ◌<◌, ◌≤◌, Bool, cond, List, [], ap, ◌∙◌, arith, pow_pos, pow-add}
use Rattle.hv_tables.specs.Bins.{Bypass}
use Rattle.hv_entropy_model.specs.CodeWord.{part, cut, shift_of}
use Rattle.hv_cabac.specs.Bytes.{total, HasRoom}
use Rattle.hv_cabac.specs.Registers.{Cuts, PutsBits}
use Rattle.hv_cabac.specs.declared.register.Register.{Register}
use Rattle.hv_cabac.proofs.BoundLemmas.{room, room_of, total_grows}

-- a part that was doubled
pub part_is_cut : (old new : Register) (skip width s l w : ℕ) →
    PutsBits old new l w (old.bits + s) → w ≡ width * 2 ^ s → s ≡ shift_of width →
    l ≡ (old.low + skip) * 2 ^ s →
    skip + width ≤ old.range → 0 < width → Cuts old new (part skip width)
part_is_cut old new skip width s l w h g e f k p = record {
  held = h.held;
  range = h.range ∙ g ∙ ap (λ (x : ℕ). width * 2 ^ x) e;
  places = omega (arith, h.places, e);
  low = λ n d r.
      let fits = room old.out.items old.bits old.low old.range skip width s n d r k p in
      let t = total_grows old.out.items old.bits old.low skip s in
      rw (← e) (h.low (rw f fits) ∙ rw f (t ∙ omega arith));
}

doubled_total : (xs : List ℕ) (bits low skip : ℕ) →
    total xs (bits + 1) (low * 2 + skip) ≡ total xs bits low * 2 + skip
doubled_total xs bits low skip = rw (pow-add 2 bits 1) (omega arith)

-- the doubled interval, and one of its halves left out
pub half_is_cut : (old new : Register) (v : Bool) (skip l : ℕ) →
    PutsBits old new l old.range (old.bits + 1) → l ≡ old.low * 2 + skip →
    skip ≡ cond v old.range 0 → skip ≤ old.range → Cuts old new (cut [] old.range Bypass v)
half_is_cut old new v skip l h g e k = record {
  held = h.held;
  range = h.range;
  places = omega (arith, h.places);
  low = λ n d r.
      let t = doubled_total old.out.items old.bits old.low skip in
      let b = room_of old.out.items old.bits n d in
      let q = pow_pos n in
      let m : HasRoom old.out.items (old.bits + 1) (old.low * 2 + skip) =
      rw (t, pow-add 2 old.bits 1) (omega (arith, b, r, q, old.wide)) in
      rw (← e) (h.low (rw g m) ∙ rw g t);
}
