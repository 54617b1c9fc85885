-- How a slice and its data end, which contexts the data asks for, and that units in which nothing
-- is chosen may be coded.
use Rattle.std.specs.Prelude.{◌≢◌, ℕ, List, []}
use Rattle.hv_tables.specs.declared.bins.SliceKind.{SliceKind}
use Rattle.hv_stream_model.specs.Units.{last_of}
use Rattle.hv_stream_model.specs.Headers.{SliceHeader}
use Rattle.hv_entropy_model.specs.CodeWord.{IsEnded, AllAskable}
use Rattle.hv_tree_model.specs.Trees.{CodingTreeUnit}
use Rattle.hv_tree_model.specs.Sites.{Site}
use Rattle.hv_tree_model.specs.Validity.{AreValid}
use Rattle.hv_unit_model.specs.Bins.{slice_bins}
use Rattle.hv_slice_model.specs.Slices.{payload_of_slice}
use Rattle.hv_slice_model.specs.BlankUnits.{blank_units}

-- the last bin of the slice data of some blocks, and no other, ends it
abbrev pub SliceDataEnds : Type 0
SliceDataEnds =
    (slice_type : SliceKind) (references : ℕ) (sites : List Site) (units : List CodingTreeUnit) →
    sites ≢ [] → AreValid slice_type references sites units →
    IsEnded (slice_bins slice_type references sites units)

-- Slice data asks only for contexts that its elements have a variable for, in slices of its kind: a
-- number past a table's end would take the variable of another table.
abbrev pub SliceDataContextsAreValid : Type 0
SliceDataContextsAreValid =
    (slice_type : SliceKind) (references : ℕ) (sites : List Site) (units : List CodingTreeUnit) →
    AreValid slice_type references sites units →
    AllAskable slice_type (slice_bins slice_type references sites units)

-- the last byte of a slice's payload isn't 0
abbrev pub SlicesEnd : Type 0
SlicesEnd =
    (header : SliceHeader) (sites : List Site) (units : List CodingTreeUnit) →
    last_of (payload_of_slice header sites units) ≢ 0

-- units in which nothing is chosen may be coded in any blocks, in slices of both kinds
abbrev pub BlankUnitsAreValid : Type 0
BlankUnitsAreValid =
    (slice_type : SliceKind) (references : ℕ) (sites : List Site) →
    AreValid slice_type references sites (blank_units sites)
