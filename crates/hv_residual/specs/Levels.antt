-- What the flags of the levels before say of the next level of a sub-block (7.3.8.11).
use Rattle.std.specs.Prelude.{ℕ, zero, suc, Bool, true, false, cond, nat_eq, ◌&&◌, List, [], ◌∷◌, ℤ, pos, slice_index_or}
use Rattle.hv_residual_model.specs.UnitBins.{UnitQuestion, UnitBin, unit_bin}
use Rattle.hv_residual_model.specs.ScanOrder.{Position, position_at}
use Rattle.hv_residual_model.specs.ResidualContexts.{TransformBlock, sig_coeff_at}
use Rattle.hv_plan.specs.Levels.{is_significant}
use Rattle.hv_residual_model.specs.Binarization.{remaining_bins}
use Rattle.hv_residual_model.specs.ResidualSyntax.{Base, base}

-- the base of a level, where so many greater1 flags may follow, `first` while none was 1, from the
-- greater2 flag and its own greater1 flag
abbrev pub base_at : ℕ → Bool → Bool → Bool → Base
base_at zero first greater2 flag = base 1 true
base_at (suc k) first greater2 false = base 1 false
base_at (suc k) true greater2 true = cond greater2 (base 3 true) (base 2 false)
base_at (suc k) false greater2 true = base 2 true

-- whether no greater1 flag was 1 behind it
abbrev pub first_at : ℕ → Bool → Bool → Bool
first_at zero first flag = first
first_at (suc k) first false = first
first_at (suc k) first true = false

-- the bins of what is left of a level
unfoldable pub one_remaining_bins : Bool → ℕ → ℕ → List UnitBin
one_remaining_bins has_remaining cRiceParam value =
    cond has_remaining (remaining_bins cRiceParam value) []

-- how many levels that are 0 stand before the first other
abbrev pub zeros_before : List ℤ → ℕ
zeros_before [] = 0
zeros_before (level ∷ levels) = cond (is_significant level) 0 (suc (zeros_before levels))

-- sig_coeff_flag at position n: where it is sure, that of position 0 isn't coded
unfoldable pub one_sig_bins : (ℕ → UnitQuestion) → ℕ → Bool → Bool → List UnitBin
one_sig_bins question n sure flag = cond (sure && nat_eq n 0) [] (unit_bin (question n) flag ∷ [])

-- the context of sig_coeff_flag at position i of sub-block S (9.3.4.2.5)
abbrev pub sig_question : TransformBlock → Bool → Bool → Position → ℕ → UnitQuestion
sig_question b right below S i = sig_coeff_at b right below S (position_at b.scanIdx 2 i)

-- four rows of four, each eight entries behind the one before
abbrev pub with_gaps : List ℤ → List ℤ → List ℤ → List ℤ → List ℤ
with_gaps first second third fourth =
    let at = λ (row : List ℤ) (x : ℕ). slice_index_or row x (pos 0) in
    at first 0 ∷ at first 1 ∷ at first 2 ∷ at first 3 ∷ pos 0 ∷ pos 0 ∷ pos 0 ∷ pos 0 ∷
    at second 0 ∷ at second 1 ∷ at second 2 ∷ at second 3 ∷ pos 0 ∷ pos 0 ∷ pos 0 ∷ pos 0 ∷
    at third 0 ∷ at third 1 ∷ at third 2 ∷ at third 3 ∷ pos 0 ∷ pos 0 ∷ pos 0 ∷ pos 0 ∷
    at fourth 0 ∷ at fourth 1 ∷ at fourth 2 ∷ at fourth 3 ∷ []
