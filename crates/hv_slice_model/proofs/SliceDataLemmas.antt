-- How slice data ends (7.3.8.1).
use Rattle.std.proofs.Common.{◌≡◌, ◌≢◌, ℕ, false, List, [], ◌∷◌, ◌++◌, refl, sym, ap, subst, append_assoc}
use Rattle.std.specs.Prelude.{Bool, map}
use Rattle.std.proofs.lemmas.Bool.{false≢true}
use Rattle.hv_tables.specs.declared.bins.SliceKind.{SliceKind}
use Rattle.hv_tables.specs.Bins.{Bin, terminate_bin}
use Rattle.hv_entropy_model.specs.CodeWord.{is_last, IsEnded}
use Rattle.hv_residual_model.specs.UnitBins.{UnitQuestion, ByContext, InBypass, UnitBin, slice_question, slice_bin}
use Rattle.hv_tree_model.specs.Trees.{CodingTreeUnit, greatest_size}
use Rattle.hv_tree_model.specs.Sites.{Site}
use Rattle.hv_tree_model.specs.EarlierUnits.{Square, Surroundings, after, in_picture}
use Rattle.hv_tree_model.specs.Validity.{AreValid, is_empty}
use Rattle.hv_unit_model.specs.Bins.{sao_bins, bins_of_node, bins, slice_bins_from}
use Rattle.hv_slice_model.specs.SliceLaws.{SliceDataEnds}

-- no bin of a coding tree unit ends a slice
goes_on : (question : UnitQuestion) (value : Bool) → is_last (slice_question question) value ≡ false
goes_on (ByContext context) value = refl
goes_on InBypass value = refl

ended_behind : (xs : List UnitBin) (ys : List Bin) → IsEnded ys →
    IsEnded (map slice_bin xs ++ ys)
ended_behind [] ys h = h
ended_behind (x ∷ xs) ys h = rw (goes_on x.question x.value) (ended_behind xs ys h)

-- with other bins behind a unit
unit_ends : (s : Surroundings) (unit : CodingTreeUnit) (behind : List Bin) →
    IsEnded (terminate_bin unit.end_of_slice_segment_flag ∷ behind) →
    IsEnded (bins s unit ++ behind)
unit_ends s unit behind h =
    let offsets : List UnitBin = sao_bins s.site unit.sao in
    let tree : List UnitBin = bins_of_node s greatest_size 0 [] unit.tree in
    let end : List Bin = terminate_bin unit.end_of_slice_segment_flag ∷ [] in
    subst IsEnded
    (sym (append_assoc (map slice_bin offsets) (map slice_bin tree ++ end) behind))
    (ended_behind offsets ((map slice_bin tree ++ end) ++ behind)
    (subst IsEnded (sym (append_assoc (map slice_bin tree) end behind))
    (ended_behind tree (end ++ behind) h)))

ends_from : (slice_type : SliceKind) (references : ℕ) (done : List Square) (sites : List Site)
    (units : List CodingTreeUnit) → sites ≢ [] → AreValid slice_type references sites units →
    IsEnded (slice_bins_from slice_type references done sites units)
ends_from slice_type references done [] units there valid = absurd (there refl)
ends_from slice_type references done (site ∷ sites) [] there valid = absurd valid
ends_from slice_type references done (site ∷ []) (unit ∷ []) there valid =
    unit_ends (in_picture slice_type references site done) unit [] (rw valid.2 refl)
ends_from slice_type references done (site ∷ []) (unit ∷ other ∷ units) there valid =
    absurd valid.3
ends_from slice_type references done (site ∷ next ∷ sites) (unit ∷ units) there valid =
    let behind : List Square = after greatest_size done unit.tree in
    unit_ends (in_picture slice_type references site done) unit
    (slice_bins_from slice_type references behind (next ∷ sites) units)
    (rw valid.2
    (ends_from slice_type references behind (next ∷ sites) units
    (λ e. false≢true (ap is_empty e)) valid.3))

pub slice_ends : SliceDataEnds
slice_ends slice_type references sites units there valid =
    ends_from slice_type references [] sites units there valid
