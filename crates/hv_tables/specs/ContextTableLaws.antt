-- What the tables of context variables owe (9.3.2.2).
use Rattle.std.specs.Prelude.{◌≡◌, ℕ, suc, ◌+◌, ◌*◌, ◌<◌, List, [], ◌∷◌, length}
use Rattle.hv_tables.specs.declared.bins.SliceKind.{SliceKind}
use Rattle.hv_tables.specs.declared.bins.SliceKind.TheVariants.{I, P}
use Rattle.hv_tables.specs.declared.bins.CtxTable.{CtxTable}
use Rattle.hv_tables.specs.declared.bins.CtxTable.TheVariants.{Split, Skip, PartMode, PredMode, PrevIntra, ChromaMode, Merge, RefIdx, MvdGreater0, MvdGreater1, MvpFlag, RootCbf, CbfLuma, CbfChroma, SaoMerge, SaoType, LastX, LastY, CodedSub, Sig, Greater1, Greater2}
use Rattle.hv_tables.specs.declared.bins.Ctx.{Ctx}
use Rattle.hv_tables.specs.ContextTables.{initValue, size_of, offset_of, values_of, place_of, IsValid}

-- these tables have their variables one after another, from this place up to the last of 140
abbrev pub AreAdjacent : ℕ → List CtxTable → Type 0
AreAdjacent place [] = place ≡ 140
AreAdjacent place (table ∷ rest) =
    (offset_of table ≡ place) × AreAdjacent (place + size_of table) rest

-- every variable has an initValue in P slices
abbrev pub AreFull : Type 0
AreFull =
    (table : CtxTable) → length (initValue P table) ≡ size_of table

-- each table has a value for each of its variables, in slices of any kind
abbrev pub HaveValues : Type 0
HaveValues =
    (kind : SliceKind) (table : CtxTable) → length (values_of kind table) ≡ size_of table

-- a context that has a variable has one of the 140 places
abbrev pub HavePlaces : Type 0
HavePlaces =
    (kind : SliceKind) (context : Ctx) → IsValid kind context → place_of context < 140

-- the x and the y of the last coefficient start alike
abbrev pub CoordinatesAreAlike : Type 0
CoordinatesAreAlike = (kind : SliceKind) → initValue kind LastX ≡ initValue kind LastY

-- ---- sums, taken from the tables as they are printed: one number that is off changes the first,
-- two that are exchanged the second
abbrev pub plain_sum : List ℕ → ℕ
plain_sum [] = 0
plain_sum (x ∷ xs) = x + plain_sum xs

-- each times its place, where the first has this one
abbrev pub sum_by_place : ℕ → List ℕ → ℕ
sum_by_place place [] = 0
sum_by_place place (x ∷ xs) = place * x + sum_by_place (suc place) xs

-- the sum, and that of each value times its place from 1, in I slices
abbrev pub sums_I : CtxTable → ℕ × ℕ
sums_I Split = (437, 892)
sums_I Skip = (0, 0)
sums_I PartMode = (184, 184)
sums_I PredMode = (0, 0)
sums_I PrevIntra = (184, 184)
sums_I ChromaMode = (63, 63)
sums_I Merge = (0, 0)
sums_I RefIdx = (0, 0)
sums_I MvdGreater0 = (0, 0)
sums_I MvdGreater1 = (0, 0)
sums_I MvpFlag = (0, 0)
sums_I RootCbf = (0, 0)
sums_I CbfLuma = (252, 393)
sums_I CbfChroma = (568, 1532)
sums_I SaoMerge = (153, 153)
sums_I SaoType = (200, 200)
sums_I LastX = (2128, 19341)
sums_I LastY = (2128, 19341)
sums_I CodedSub = (537, 1399)
sums_I Sig = (5651, 125778)
sums_I Greater1 = (3417, 45268)
sums_I Greater2 = (898, 3192)

-- and in P slices
abbrev pub sums_P : CtxTable → ℕ × ℕ
sums_P Split = (372, 763)
sums_P Skip = (583, 1170)
sums_P PartMode = (601, 1510)
sums_P PredMode = (149, 149)
sums_P PrevIntra = (154, 154)
sums_P ChromaMode = (152, 152)
sums_P Merge = (110, 110)
sums_P RefIdx = (306, 459)
sums_P MvdGreater0 = (140, 140)
sums_P MvdGreater1 = (198, 198)
sums_P MvpFlag = (168, 168)
sums_P RootCbf = (79, 79)
sums_P CbfLuma = (264, 375)
sums_P CbfChroma = (577, 1480)
sums_P SaoMerge = (153, 153)
sums_P SaoType = (185, 185)
sums_P LastX = (1897, 18037)
sums_P LastY = (1897, 18037)
sums_P CodedSub = (476, 1200)
sums_P Sig = (6138, 132588)
sums_P Greater1 = (3852, 47559)
sums_P Greater2 = (761, 2739)

abbrev pub sums : SliceKind → CtxTable → ℕ × ℕ
sums I table = sums_I table
sums P table = sums_P table

abbrev pub HaveSums : Type 0
HaveSums =
    (kind : SliceKind) (table : CtxTable) →
    (plain_sum (initValue kind table), sum_by_place 1 (initValue kind table)) ≡ sums kind table
