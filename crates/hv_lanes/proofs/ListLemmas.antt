-- Lists made number by number.
use Rattle.std.proofs.Common.{List, arith, length, map, negsuc, pos, slice_index_or, sym, ℕ, ℤ, ◌<◌, ◌∙◌, ◌≡◌, ◌≤◌}
use Rattle.std.proofs.lemmas.List.{ext_get_or, get_or-map, length-map}
use Rattle.hv_lanes.specs.Passes.{HasFirst}
use Rattle.std.specs.Int.RustNames.{FitsSigned}
use Rattle.std.proofs.lemmas.Bool.Decides.{nat_tests}
use mir.Syntax.{w16}
use Rattle.hv_lemmas.specs.Clipping.{clip16}
use Rattle.std.proofs.lemmas.List.Elements.{All-from_get_or}
use Rattle.hv_lanes.specs.Ranges.{Have16Bits}

pub map_is : (f : ℤ → ℤ) (numbers results : List ℤ) (count : ℕ) → length results ≡ length numbers → length numbers ≤ count → HasFirst count (λ k. f (slice_index_or numbers k (pos 0))) results → results ≡ map f numbers
map_is f numbers results count even all each =
    ext_get_or (pos 0) results (map f numbers) (even ∙ sym (length-map numbers f))
    (λ i below.
    let inside : i < length numbers = omega (arith, even, below) in
    each i (omega (arith, inside, all)) ∙ sym (get_or-map f numbers i (pos 0) (pos 0) inside))

fits_clipped : (z : ℤ) → FitsSigned w16 (clip16 z)
fits_clipped (pos n) = record { sfits = grind (arith, nat_tests) }
fits_clipped (negsuc n) = record { sfits = grind (arith, nat_tests) }

pub Have16Bits-clipped : (f : ℕ → ℤ) (results : List ℤ) (count : ℕ) → length results ≤ count → HasFirst count (λ k. clip16 (f k)) results → Have16Bits results
Have16Bits-clipped f results count all each =
    All-from_get_or (FitsSigned w16) results (pos 0) (λ i below. rw (each i (omega (arith, below, all))) (fits_clipped (f i)))
