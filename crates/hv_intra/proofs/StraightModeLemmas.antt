-- The straight modes of the smaller luma blocks, sample by sample.
use Rattle.std.proofs.Common.{◌≡◌, ℕ, zero, suc, ◌<◌, true, false, List, refl, sym, ◌∙◌, ◌^◌, arith, eqb}
use Rattle.std.proofs.lemmas.Bool.{lt-ltb, ne_eqb}
use Rattle.hv_sample_model.specs.IntraPrediction.{angular, left, above}
use Rattle.hv_intra.specs.Blocks.{HasRows}
use Rattle.hv_intra.specs.StraightModes.{straight_on}
use Rattle.hv_intra.proofs.InterpolationLemmas.{straight}

-- at the block's edge, and inside it
vertical_is : (log2 x y : ℕ) (line : List ℕ) → log2 < 5 →
    straight_on (above log2 line) (left log2 line) x y ≡ angular log2 26 true line x y
vertical_is log2 zero y line few = rw (lt-ltb log2 5 few) refl
vertical_is log2 (suc x) y line few =
    let off : eqb (suc x) 0 ≡ false = ne_eqb (suc x) 0 (λ same. absurd (omega arith)) in
    rw (lt-ltb log2 5 few, off) (sym (straight (above log2 line) (left log2 line) 26 (suc x) y refl))

horizontal_is : (log2 x y : ℕ) (line : List ℕ) → log2 < 5 →
    straight_on (left log2 line) (above log2 line) y x ≡ angular log2 10 true line x y
horizontal_is log2 x zero line few = rw (lt-ltb log2 5 few) refl
horizontal_is log2 x (suc y) line few =
    let off : eqb (suc y) 0 ≡ false = ne_eqb (suc y) 0 (λ same. absurd (omega arith)) in
    rw (lt-ltb log2 5 few, off) (sym (straight (left log2 line) (above log2 line) 10 (suc y) x refl))

pub vertical_block : (log2 : ℕ) (line block : List ℕ) → log2 < 5 →
    HasRows (2 ^ log2) (2 ^ log2) (λ x y. straight_on (above log2 line) (left log2 line) x y) block →
    HasRows (2 ^ log2) (2 ^ log2) (angular log2 26 true line) block
vertical_block log2 line block few rows = λ x y column row. rows x y column row ∙ vertical_is log2 x y line few

pub horizontal_block : (log2 : ℕ) (line block : List ℕ) → log2 < 5 →
    HasRows (2 ^ log2) (2 ^ log2) (λ x y. straight_on (left log2 line) (above log2 line) y x) block →
    HasRows (2 ^ log2) (2 ^ log2) (angular log2 10 true line) block
horizontal_block log2 line block few rows = λ x y column row. rows x y column row ∙ horizontal_is log2 x y line few
