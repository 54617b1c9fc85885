-- The plans before a block of a picture, and the bins of a block by what lies around it.
use Rattle.std.proofs.Common.{◌≡◌, ℕ, ◌≤◌, List, [], ◌∷◌, length, take, ap, arith}
use Rattle.std.proofs.lemmas.List.{length-take-le}
use Rattle.hv_tables.specs.declared.bins.SliceKind.{SliceKind}
use Rattle.hv_tables.specs.Bins.{terminate_bin}
use Rattle.std.specs.Prelude.{map, ◌++◌}
use Rattle.hv_residual_model.specs.UnitBins.{UnitBin, slice_bin}
use Rattle.hv_tree_model.specs.Trees.{CodingTreeUnit, greatest_size}
use Rattle.hv_tree_model.specs.Sites.{Site, site}
use Rattle.hv_tree_model.specs.EarlierUnits.{in_picture}
use Rattle.hv_unit_model.specs.Bins.{sao_bins, bins}
use Rattle.hv_tree_model.specs.Plans.{Plan, UnitsAround, in_block}
use Rattle.hv_unit_model.specs.PlanLaws.{ArePlansBefore, LieAround, squares_before}
use Rattle.hv_unit_model.proofs.SeenBinsLemmas.{bins_in_block}
use Rattle.hv_slice_model.specs.PlannedUnits.{NameTheirUnits}
use Rattle.hv_syntax.proofs.PictureLemmas.{got_in_front}
use Rattle.hv_packet.specs.BlockPlans.{AreWhole}

-- ---- the blocks before

pub plans_before : (width height index : ℕ) (plans : List Plan) → index ≤ length plans →
    AreWhole index plans → NameTheirUnits width height plans →
    ArePlansBefore (site width height index) (take index plans)
plans_before width height index plans within whole named = record {
  count = length-take-le index plans within;
  whole = λ i plan there.
      let r = got_in_front index plans i plan there in whole i plan r.0 r.1;
  named = λ i plan there.
      let r = got_in_front index plans i plan there in named i plan r.1;
}

-- the bins of a block are the same by what lies around it as by the picture
pub bins_by_around : (kind : SliceKind) (references : ℕ) (here : Site) (plans : List Plan)
    (around : UnitsAround) (unit : CodingTreeUnit) → ArePlansBefore here plans →
    LieAround here plans around →
    bins (in_block kind references here around) unit ≡
    bins (in_picture kind references here (squares_before here plans)) unit
bins_by_around kind references here plans around unit before lie =
    ap (λ (list : List UnitBin). map slice_bin (sao_bins here unit.sao) ++
    (map slice_bin list ++ terminate_bin unit.end_of_slice_segment_flag ∷ []))
    (bins_in_block kind references here plans around greatest_size 0 [] unit.tree before lie
    (omega arith))
