-- Slice data (7.3.8.1) asks only for contexts with a variable (9.3.4.2).
use Rattle.std.proofs.Common.{ℕ, List, [], ◌∷◌, ◌++◌, map}
use Rattle.hv_tables.specs.declared.bins.SliceKind.{SliceKind}
use Rattle.hv_tables.specs.Bins.{Bin}
use Rattle.hv_entropy_model.specs.CodeWord.{IsAskable, AllAskable}
use Rattle.hv_residual_model.specs.UnitBins.{UnitQuestion, ByContext, InBypass, UnitBin, slice_question, slice_bin}
use Rattle.hv_residual_model.specs.ResidualLaws.{IsAskedIn, AreAskedIn}
use Rattle.hv_tree_model.specs.Trees.{CodingTreeUnit, greatest_size}
use Rattle.hv_tree_model.specs.Sites.{Site}
use Rattle.hv_tree_model.specs.EarlierUnits.{Square, Surroundings, after, in_picture}
use Rattle.hv_tree_model.specs.Validity.{IsValidTree, AreValid}
use Rattle.hv_unit_model.specs.Bins.{sao_bins, bins_of_node, bins, slice_bins_from}
use Rattle.hv_unit_model.proofs.ContextLemmas.{offsets_ask_there, nodes_ask_there}
use Rattle.hv_slice_model.specs.SliceLaws.{SliceDataContextsAreValid}

question_askable : (kind : SliceKind) (question : UnitQuestion) → IsAskedIn kind question →
    IsAskable kind (slice_question question)
question_askable kind (ByContext c) h = h
question_askable kind InBypass h = tt

askable_then : (kind : SliceKind) (xs : List UnitBin) (ys : List Bin) → AreAskedIn kind xs →
    AllAskable kind ys → AllAskable kind (map slice_bin xs ++ ys)
askable_then kind [] ys h k = k
askable_then kind (x ∷ xs) ys h k =
    (question_askable kind x.question h.0, askable_then kind xs ys h.1 k)

all_then : (kind : SliceKind) (xs ys : List Bin) → AllAskable kind xs → AllAskable kind ys →
    AllAskable kind (xs ++ ys)
all_then kind [] ys h k = k
all_then kind (x ∷ xs) ys h k = (h.0, all_then kind xs ys h.1 k)

bins_askable : (s : Surroundings) (unit : CodingTreeUnit) →
    IsValidTree s.slice_type s.references s.site unit.tree → AllAskable s.slice_type (bins s unit)
bins_askable s unit valid =
    askable_then s.slice_type (sao_bins s.site unit.sao) _
    (offsets_ask_there s.slice_type s.site unit.sao)
    (askable_then s.slice_type (bins_of_node s greatest_size 0 [] unit.tree) _
    (nodes_ask_there s greatest_size 0 [] unit.tree valid) (tt, tt))

all_askable : (kind : SliceKind) (references : ℕ) (done : List Square) (sites : List Site)
    (units : List CodingTreeUnit) → AreValid kind references sites units →
    AllAskable kind (slice_bins_from kind references done sites units)
all_askable kind references done [] units valid = tt
all_askable kind references done (site ∷ sites) [] valid = tt
all_askable kind references done (site ∷ sites) (unit ∷ units) valid =
    all_then kind (bins (in_picture kind references site done) unit) _
    (bins_askable (in_picture kind references site done) unit valid.1)
    (all_askable kind references (after greatest_size done unit.tree) sites units valid.3)

pub slice_askable : SliceDataContextsAreValid
slice_askable kind references sites units valid = all_askable kind references [] sites units valid
