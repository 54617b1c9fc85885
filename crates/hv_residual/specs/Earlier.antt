-- What the code keeps of the sub-blocks before, and what follows a sub-block.
use Rattle.std.specs.Prelude.{◌≡◌, ◌≤◌, ℕ, zero, suc, ◌+◌, ◌*◌, Bool, true, false, cond, nat_eq, nat_lt, ◌&&◌, List, [], ◌∷◌, ◌++◌, ℤ, slice_index_or}
use Rattle.hv_residual_model.specs.UnitBins.{UnitBin, unit_bin}
use Rattle.hv_residual_model.specs.ScanOrder.{Position}
use Rattle.hv_residual_model.specs.ResidualContexts.{TransformBlock, coded_sub_block_at, ctxSet}
use Rattle.hv_residual_model.specs.ResidualSyntax.{Earlier, had_greater1_after}
use Rattle.hv_residual_model.specs.ResidualBins.{sig_coeff_bins, level_bins, greater1_of}
use Rattle.hv_residual.specs.declared.block.Spot.{Spot}
use Rattle.hv_residual.specs.declared.coded.Coded.{Coded}
use Rattle.hv_residual.specs.Levels.{sig_question}

-- the code keeps this
pub record Shows (c : Coded) (e : Earlier) : Type 0 where
  pub flags : (x y : ℕ) → x ≤ 8 → y ≤ 8 →
      slice_index_or c.flags (9 * y + x) false ≡ e.coded_sub_block_flag x y
  pub had : c.had_greater1 ≡ e.had_greater1

abbrev pub behind_spot : Spot → Earlier → Bool → Bool → Earlier
behind_spot corner e flag had = record {
  coded_sub_block_flag = λ x y.
      cond (nat_eq x corner.x && nat_eq y corner.y) flag (e.coded_sub_block_flag x y);
  had_greater1 = had;
}

-- coded_sub_block_flag, from the flags at the right and below
abbrev pub coded_flag_bins : TransformBlock → ℕ → Bool → Bool → Bool → List UnitBin
coded_flag_bins b zero right below flag = []
coded_flag_bins b (suc s) right below flag =
    unit_bin (coded_sub_block_at b right below) flag ∷ []

-- the value of coded_sub_block_flag, where one of the levels isn't 0, or none
abbrev pub flag_value : ℕ → Bool → Bool
flag_value zero any = true
flag_value (suc s) any = any

-- what follows coded_sub_block_flag, from the flags at the right and below
abbrev pub coded_bins :
    TransformBlock → ℕ → Position → Bool → Bool → Bool → Bool → List ℤ → List UnitBin
coded_bins b s S right below had false levels = []
coded_bins b s S right below had true levels =
    sig_coeff_bins (sig_question b right below S) levels (nat_lt 0 s) ++
    level_bins b (ctxSet b s had) levels

-- whether a greater1 flag was 1 behind a sub-block
abbrev pub had_behind : Bool → Bool → List ℤ → Bool
had_behind false had levels = had
had_behind true had levels = had_greater1_after had (greater1_of levels)
