-- What is read of the bins of slice data is what was coded.
use Rattle.std.specs.Prelude.{◌≡◌, ◌≢◌, ℕ, ◌+◌, ◌%◌, ◌^◌, ◌<◌, ◌≤◌, List, [], length}
use Rattle.hv_tables.specs.declared.bins.SliceKind.{SliceKind}
use Rattle.hv_tables.specs.declared.bins.SliceKind.TheVariants.{I, P}
use Rattle.hv_tables.specs.Bins.{Bin}
use Rattle.hv_plan.specs.declared.offsets.SaoParam.{SaoParam}
use Rattle.hv_stream_model.specs.Scripts.{Reads}
use Rattle.hv_residual_model.specs.UnitBins.{UnitBin}
use Rattle.hv_residual_model.specs.ResidualLaws.{AreAskedIn}
use Rattle.hv_tree_model.specs.Trees.{Tree, CodingTreeUnit, greatest_size}
use Rattle.hv_tree_model.specs.Sites.{Site, sites, address_of, column_of, row_of, squares}
use Rattle.hv_tree_model.specs.EarlierUnits.{Square, Surroundings, squares_of}
use Rattle.hv_tree_model.specs.Validity.{AreOffsets, HaveModes, SeesModes, IsValidNode, IsValidTree, AreValid}
use Rattle.hv_unit_model.specs.BlockSyntax.{sao, coding_quadtree, coding_tree_unit, slice_segment_data}
use Rattle.hv_unit_model.specs.Bins.{sao_bins, bins_of_node, bins, slice_bins}

-- sample adaptive offsets, at any block
abbrev pub OffsetsAreReadBack : Type 0
OffsetsAreReadBack =
    (site : Site) (offsets : SaoParam) → AreOffsets offsets →
    Reads (sao site) (sao_bins site offsets) offsets

-- a node of any size, at any address, in any surroundings, behind any earlier squares
abbrev pub NodesAreReadBack : Type 0
NodesAreReadBack =
    (s : Surroundings) (size address : ℕ) (earlier : List Square) (tree : Tree) →
    SeesModes s.look → HaveModes earlier →
    IsValidNode s.slice_type s.references s.site size address tree →
    Reads (coding_quadtree s size address earlier) (bins_of_node s size address earlier tree) tree

abbrev pub CodingTreeUnitsAreRead : Type 0
CodingTreeUnitsAreRead =
    (s : Surroundings) (unit : CodingTreeUnit) → SeesModes s.look →
    AreOffsets unit.sao → IsValidTree s.slice_type s.references s.site unit.tree →
    Reads (coding_tree_unit s) (bins s unit) unit

-- slice data of any kind, with any number of references, of any blocks
abbrev pub SliceDataIsReadBack : Type 0
SliceDataIsReadBack =
    (slice_type : SliceKind) (references : ℕ) (sites : List Site) (units : List CodingTreeUnit) →
    AreValid slice_type references sites units →
    Reads (slice_segment_data slice_type references sites)
    (slice_bins slice_type references sites units) units

-- ---- whatever answers: what is read may be coded there

-- a P slice has one reference or two
abbrev pub HasReferences : SliceKind → ℕ → Type 0
HasReferences I references = Unit {0}
HasReferences P references = (1 ≤ references) × (references ≤ 2)

abbrev pub OffsetsThatAreReadMayBeCoded : Type 0
OffsetsThatAreReadMayBeCoded =
    (site : Site) (bins : List UnitBin) (offsets : SaoParam) →
    Reads (sao site) bins offsets → AreOffsets offsets

abbrev pub NodesThatAreReadMayBeCoded : Type 0
NodesThatAreReadMayBeCoded =
    (s : Surroundings) (size address : ℕ) (earlier : List Square) (bins : List UnitBin)
    (tree : Tree) →
    HasReferences s.slice_type s.references → SeesModes s.look → HaveModes earlier →
    Reads (coding_quadtree s size address earlier) bins tree →
    IsValidNode s.slice_type s.references s.site size address tree

abbrev pub SliceDataThatIsReadMayBeCoded : Type 0
SliceDataThatIsReadMayBeCoded =
    (slice_type : SliceKind) (references : ℕ) (sites : List Site) (bins : List Bin)
    (units : List CodingTreeUnit) →
    HasReferences slice_type references →
    Reads (slice_segment_data slice_type references sites) bins units →
    AreValid slice_type references sites units

-- ---- contexts (9.3.4.2): an index beyond its table would name a variable of the next

abbrev pub OffsetsAskForVariablesThatAreThere : Type 0
OffsetsAskForVariablesThatAreThere =
    (slice_type : SliceKind) (site : Site) (offsets : SaoParam) →
    AreAskedIn slice_type (sao_bins site offsets)

abbrev pub NodesAskForVariablesThatAreThere : Type 0
NodesAskForVariablesThatAreThere =
    (s : Surroundings) (size address : ℕ) (earlier : List Square) (tree : Tree) →
    IsValidNode s.slice_type s.references s.site size address tree →
    AreAskedIn s.slice_type (bins_of_node s size address earlier tree)

-- ---- places

-- an address of a block's 64 squares is that of a column and a row, and the other way round
abbrev pub AddressesArePlaces : Type 0
AddressesArePlaces =
    (address : ℕ) → address < 64 →
    (address_of (column_of address) (row_of address) ≡ address) ×
    (column_of address < 8) × (row_of address < 8)

abbrev pub PlacesHaveAddresses : Type 0
PlacesHaveAddresses =
    (column row : ℕ) → column < 8 → row < 8 →
    (column_of (address_of column row) ≡ column) × (row_of (address_of column row) ≡ row) ×
    (address_of column row < 64)

-- the squares of a node at a multiple of their number are a square of 2^size by 2^size
abbrev pub NodesAreSquares : Type 0
NodesAreSquares =
    (size address b : ℕ) → size ≤ greatest_size → address < 64 → address % squares size ≡ 0 →
    b < squares size →
    (column_of (address + b) ≡ column_of address + column_of b) ×
    (row_of (address + b) ≡ row_of address + row_of b) ×
    (column_of b < 2 ^ size) × (row_of b < 2 ^ size)

-- as many squares are known behind a node as it has, so that an address is a place in the list
abbrev pub NodesHaveTheirSquares : Type 0
NodesHaveTheirSquares =
    (slice_type : SliceKind) (references : ℕ) (site : Site) (size address : ℕ) (tree : Tree) →
    IsValidNode slice_type references site size address tree →
    length (squares_of size tree) ≡ squares size

-- a picture with a sample has a block
abbrev pub SitesAreThere : Type 0
SitesAreThere = (width height : ℕ) → 1 ≤ width → 1 ≤ height → sites width height ≢ []
