-- The context variables of each syntax element: their places, and the values that they start from
-- (9.3.2.2).
use Rattle.std.specs.Prelude.{ℕ, ◌+◌, ◌-◌, ◌<◌, List, [], ◌∷◌, ◌++◌, flat_map, length, replicate}
use Rattle.hv_tables.specs.declared.bins.SliceKind.{SliceKind}
use Rattle.hv_tables.specs.declared.bins.SliceKind.TheVariants.{I, P}
use Rattle.hv_tables.specs.declared.bins.Ctx.{Ctx}
use Rattle.hv_tables.specs.declared.bins.CtxTable.{CtxTable}
use Rattle.hv_tables.specs.declared.bins.CtxTable.TheVariants.{Split, Skip, PartMode, PredMode, PrevIntra, ChromaMode, Merge, RefIdx, MvdGreater0, MvdGreater1, MvpFlag, RootCbf, CbfLuma, CbfChroma, SaoMerge, SaoType, LastX, LastY, CodedSub, Sig, Greater1, Greater2}

-- initValue in I slices (initType 0); none where the element isn't coded in them
abbrev pub initValue_I : CtxTable → List ℕ
initValue_I Split = 139 ∷ 141 ∷ 157 ∷ []
initValue_I Skip = []
initValue_I PartMode = 184 ∷ []
initValue_I PredMode = []
initValue_I PrevIntra = 184 ∷ []
initValue_I ChromaMode = 63 ∷ []
initValue_I Merge = []
initValue_I RefIdx = []
initValue_I MvdGreater0 = []
initValue_I MvdGreater1 = []
initValue_I MvpFlag = []
initValue_I RootCbf = []
initValue_I CbfLuma = 111 ∷ 141 ∷ []
initValue_I CbfChroma = 94 ∷ 138 ∷ 182 ∷ 154 ∷ []
initValue_I SaoMerge = 153 ∷ []
initValue_I SaoType = 200 ∷ []
initValue_I LastX =
    110 ∷ 110 ∷ 124 ∷ 125 ∷ 140 ∷ 153 ∷ 125 ∷ 127 ∷ 140 ∷ 109 ∷ 111 ∷ 143 ∷ 127 ∷ 111 ∷
    79 ∷ 108 ∷ 123 ∷ 63 ∷ []
initValue_I LastY =
    110 ∷ 110 ∷ 124 ∷ 125 ∷ 140 ∷ 153 ∷ 125 ∷ 127 ∷ 140 ∷ 109 ∷ 111 ∷ 143 ∷ 127 ∷ 111 ∷
    79 ∷ 108 ∷ 123 ∷ 63 ∷ []
initValue_I CodedSub = 91 ∷ 171 ∷ 134 ∷ 141 ∷ []
initValue_I Sig =
    111 ∷ 111 ∷ 125 ∷ 110 ∷ 110 ∷ 94 ∷ 124 ∷ 108 ∷ 124 ∷ 107 ∷ 125 ∷ 141 ∷ 179 ∷ 153 ∷
    125 ∷ 107 ∷ 125 ∷ 141 ∷ 179 ∷ 153 ∷ 125 ∷ 107 ∷ 125 ∷ 141 ∷ 179 ∷ 153 ∷ 125 ∷ 140 ∷
    139 ∷ 182 ∷ 182 ∷ 152 ∷ 136 ∷ 152 ∷ 136 ∷ 153 ∷ 136 ∷ 139 ∷ 111 ∷ 136 ∷ 139 ∷ 111 ∷ []
initValue_I Greater1 =
    140 ∷ 92 ∷ 137 ∷ 138 ∷ 140 ∷ 152 ∷ 138 ∷ 139 ∷ 153 ∷ 74 ∷ 149 ∷ 92 ∷ 139 ∷ 107 ∷
    122 ∷ 152 ∷ 140 ∷ 179 ∷ 166 ∷ 182 ∷ 140 ∷ 227 ∷ 122 ∷ 197 ∷ []
initValue_I Greater2 = 138 ∷ 153 ∷ 136 ∷ 167 ∷ 152 ∷ 152 ∷ []

-- initValue in P slices (initType 1)
abbrev pub initValue_P : CtxTable → List ℕ
initValue_P Split = 107 ∷ 139 ∷ 126 ∷ []
initValue_P Skip = 197 ∷ 185 ∷ 201 ∷ []
initValue_P PartMode = 154 ∷ 139 ∷ 154 ∷ 154 ∷ []
initValue_P PredMode = 149 ∷ []
initValue_P PrevIntra = 154 ∷ []
initValue_P ChromaMode = 152 ∷ []
initValue_P Merge = 110 ∷ []
initValue_P RefIdx = 153 ∷ 153 ∷ []
initValue_P MvdGreater0 = 140 ∷ []
initValue_P MvdGreater1 = 198 ∷ []
initValue_P MvpFlag = 168 ∷ []
initValue_P RootCbf = 79 ∷ []
initValue_P CbfLuma = 153 ∷ 111 ∷ []
initValue_P CbfChroma = 149 ∷ 107 ∷ 167 ∷ 154 ∷ []
initValue_P SaoMerge = 153 ∷ []
initValue_P SaoType = 185 ∷ []
initValue_P LastX =
    125 ∷ 110 ∷ 94 ∷ 110 ∷ 95 ∷ 79 ∷ 125 ∷ 111 ∷ 110 ∷ 78 ∷ 110 ∷ 111 ∷ 111 ∷ 95 ∷
    94 ∷ 108 ∷ 123 ∷ 108 ∷ []
initValue_P LastY =
    125 ∷ 110 ∷ 94 ∷ 110 ∷ 95 ∷ 79 ∷ 125 ∷ 111 ∷ 110 ∷ 78 ∷ 110 ∷ 111 ∷ 111 ∷ 95 ∷
    94 ∷ 108 ∷ 123 ∷ 108 ∷ []
initValue_P CodedSub = 121 ∷ 140 ∷ 61 ∷ 154 ∷ []
initValue_P Sig =
    155 ∷ 154 ∷ 139 ∷ 153 ∷ 139 ∷ 123 ∷ 123 ∷ 63 ∷ 153 ∷ 166 ∷ 183 ∷ 140 ∷ 136 ∷ 153 ∷
    154 ∷ 166 ∷ 183 ∷ 140 ∷ 136 ∷ 153 ∷ 154 ∷ 166 ∷ 183 ∷ 140 ∷ 136 ∷ 153 ∷ 154 ∷ 170 ∷
    153 ∷ 123 ∷ 123 ∷ 107 ∷ 121 ∷ 107 ∷ 121 ∷ 167 ∷ 151 ∷ 183 ∷ 140 ∷ 151 ∷ 183 ∷ 140 ∷ []
initValue_P Greater1 =
    154 ∷ 196 ∷ 196 ∷ 167 ∷ 154 ∷ 152 ∷ 167 ∷ 182 ∷ 182 ∷ 134 ∷ 149 ∷ 136 ∷ 153 ∷ 121 ∷
    136 ∷ 137 ∷ 169 ∷ 194 ∷ 166 ∷ 167 ∷ 154 ∷ 167 ∷ 137 ∷ 182 ∷ []
initValue_P Greater2 = 107 ∷ 167 ∷ 91 ∷ 122 ∷ 107 ∷ 167 ∷ []

abbrev pub initValue : SliceKind → CtxTable → List ℕ
initValue I table = initValue_I table
initValue P table = initValue_P table

-- how many context variables a table has, in slices of any kind
abbrev pub size_of : CtxTable → ℕ
size_of Split = 3
size_of Skip = 3
size_of PartMode = 4
size_of PredMode = 1
size_of PrevIntra = 1
size_of ChromaMode = 1
size_of Merge = 1
size_of RefIdx = 2
size_of MvdGreater0 = 1
size_of MvdGreater1 = 1
size_of MvpFlag = 1
size_of RootCbf = 1
size_of CbfLuma = 2
size_of CbfChroma = 4
size_of SaoMerge = 1
size_of SaoType = 1
size_of LastX = 18
size_of LastY = 18
size_of CodedSub = 4
size_of Sig = 42
size_of Greater1 = 24
size_of Greater2 = 6

-- how many stand in the tables before it
abbrev pub offset_of : CtxTable → ℕ
offset_of Split = 0
offset_of Skip = 3
offset_of PartMode = 6
offset_of PredMode = 10
offset_of PrevIntra = 11
offset_of ChromaMode = 12
offset_of Merge = 13
offset_of RefIdx = 14
offset_of MvdGreater0 = 16
offset_of MvdGreater1 = 17
offset_of MvpFlag = 18
offset_of RootCbf = 19
offset_of CbfLuma = 20
offset_of CbfChroma = 22
offset_of SaoMerge = 26
offset_of SaoType = 27
offset_of LastX = 28
offset_of LastY = 46
offset_of CodedSub = 64
offset_of Sig = 68
offset_of Greater1 = 110
offset_of Greater2 = 134

-- the tables in the order of their places
abbrev pub tables : List CtxTable
tables =
    Split ∷ Skip ∷ PartMode ∷ PredMode ∷ PrevIntra ∷ ChromaMode ∷ Merge ∷ RefIdx ∷
    MvdGreater0 ∷ MvdGreater1 ∷ MvpFlag ∷ RootCbf ∷ CbfLuma ∷ CbfChroma ∷ SaoMerge ∷ SaoType ∷
    LastX ∷ LastY ∷ CodedSub ∷ Sig ∷ Greater1 ∷ Greater2 ∷ []

-- one value for each variable of a table: a variable that the kind has no value for is never used,
-- and stands at 154
abbrev pub values_of : SliceKind → CtxTable → List ℕ
values_of kind table =
    initValue kind table ++ replicate (size_of table - length (initValue kind table)) 154

-- the values of all variables, in the order of their places
unfoldable pub values_of_kind : SliceKind → List ℕ
values_of_kind kind = flat_map (values_of kind) tables

-- a context has a variable in slices of this kind
abbrev pub IsValid : SliceKind → Ctx → Type 0
IsValid kind context = context.index < length (initValue kind context.table)

-- the place of a context's variable among all of them
abbrev pub place_of : Ctx → ℕ
place_of context = offset_of context.table + context.index
