-- Where context variables start (9.3.2.2), worked by hand. With v for initValue and QP for the
-- slice's quantiser, m is v / 16 * 5 - 45, n is v % 16 * 8 - 16, and preCtxState is m * QP / 16 + n,
-- rounded down, and brought within 1 and 126. From 64 on, pStateIdx is 64 less and valMps is 1; below,
-- pStateIdx is 63 less it and valMps is 0. The first variable of each table at the quantisers 0, 26
-- and 51, by the kind of slice; behind each row its v, m and n, and the three preCtxState.
use Rattle.std.proofs.Common.{◌≡◌, ℕ, Bool, true, false, List, [], ◌∷◌, refl, map}
use Rattle.hv_tables.specs.declared.bins.SliceKind.{SliceKind}
use Rattle.hv_tables.specs.declared.bins.SliceKind.TheVariants.{I, P}
use Rattle.hv_tables.specs.declared.bins.CtxTable.{CtxTable}
use Rattle.hv_tables.specs.declared.bins.CtxTable.TheVariants.{Split, Skip, PartMode, PredMode, PrevIntra, ChromaMode, Merge, RefIdx, MvdGreater0, MvdGreater1, MvpFlag, RootCbf, CbfLuma, CbfChroma, SaoMerge, SaoType, LastX, LastY, CodedSub, Sig, Greater1, Greater2}
use Rattle.hv_entropy_model.specs.Contexts.{ContextVariable, first_variables, variable_at, preCtxState}

abbrev of : ℕ → Bool → ContextVariable
of state value = record { pStateIdx = state; valMps = value }

abbrev starts : SliceKind → CtxTable → ℕ → List ContextVariable
starts kind table index =
    map (λ qp. variable_at (first_variables kind qp) (record { table = table; index = index }))
    (0 ∷ 26 ∷ 51 ∷ [])

-- a table of which I slices have no variable stands at 154, with m 0 and n 64
abbrev unused : List ContextVariable
unused = of 0 true ∷ of 0 true ∷ of 0 true ∷ []

abbrev starts_I : CtxTable → List ContextVariable
-- 139: -5, 72; 72, 63, 56
starts_I Split = of 8 true ∷ of 0 false ∷ of 7 false ∷ []
starts_I Skip = unused
-- 184: 10, 48; 48, 64, 79
starts_I PartMode = of 15 false ∷ of 0 true ∷ of 15 true ∷ []
starts_I PredMode = unused
-- 184: 10, 48; 48, 64, 79
starts_I PrevIntra = of 15 false ∷ of 0 true ∷ of 15 true ∷ []
-- 63: -30, 104; 104, 55, 8
starts_I ChromaMode = of 40 true ∷ of 8 false ∷ of 55 false ∷ []
starts_I Merge = unused
starts_I RefIdx = unused
starts_I MvdGreater0 = unused
starts_I MvdGreater1 = unused
starts_I MvpFlag = unused
starts_I RootCbf = unused
-- 111: -15, 104; 104, 79, 56
starts_I CbfLuma = of 40 true ∷ of 15 true ∷ of 7 false ∷ []
-- 94: -20, 96; 96, 63, 32
starts_I CbfChroma = of 32 true ∷ of 0 false ∷ of 31 false ∷ []
-- 153: 0, 56; 56, 56, 56
starts_I SaoMerge = of 7 false ∷ of 7 false ∷ of 7 false ∷ []
-- 200: 15, 48; 48, 72, 95
starts_I SaoType = of 15 false ∷ of 8 true ∷ of 31 true ∷ []
-- 110: -15, 96; 96, 71, 48
starts_I LastX = of 32 true ∷ of 7 true ∷ of 15 false ∷ []
-- 110: -15, 96; 96, 71, 48
starts_I LastY = of 32 true ∷ of 7 true ∷ of 15 false ∷ []
-- 91: -20, 72; 72, 39, 8
starts_I CodedSub = of 8 true ∷ of 24 false ∷ of 55 false ∷ []
-- 111: -15, 104; 104, 79, 56
starts_I Sig = of 40 true ∷ of 15 true ∷ of 7 false ∷ []
-- 140: -5, 80; 80, 71, 64
starts_I Greater1 = of 16 true ∷ of 7 true ∷ of 0 true ∷ []
-- 138: -5, 64; 64, 55, 48
starts_I Greater2 = of 0 true ∷ of 8 false ∷ of 15 false ∷ []

all_start_I : (table : CtxTable) → starts I table 0 ≡ starts_I table
unfolding first_variables
all_start_I Split = refl
all_start_I _ = refl

abbrev starts_P : CtxTable → List ContextVariable
-- 107: -15, 72; 72, 47, 24
starts_P Split = of 8 true ∷ of 16 false ∷ of 39 false ∷ []
-- 197: 15, 24; 24, 48, 71
starts_P Skip = of 39 false ∷ of 15 false ∷ of 7 true ∷ []
-- 154: 0, 64; 64, 64, 64
starts_P PartMode = of 0 true ∷ of 0 true ∷ of 0 true ∷ []
-- 149: 0, 24; 24, 24, 24
starts_P PredMode = of 39 false ∷ of 39 false ∷ of 39 false ∷ []
-- 154: 0, 64; 64, 64, 64
starts_P PrevIntra = of 0 true ∷ of 0 true ∷ of 0 true ∷ []
-- 152: 0, 48; 48, 48, 48
starts_P ChromaMode = of 15 false ∷ of 15 false ∷ of 15 false ∷ []
-- 110: -15, 96; 96, 71, 48
starts_P Merge = of 32 true ∷ of 7 true ∷ of 15 false ∷ []
-- 153: 0, 56; 56, 56, 56
starts_P RefIdx = of 7 false ∷ of 7 false ∷ of 7 false ∷ []
-- 140: -5, 80; 80, 71, 64
starts_P MvdGreater0 = of 16 true ∷ of 7 true ∷ of 0 true ∷ []
-- 198: 15, 32; 32, 56, 79
starts_P MvdGreater1 = of 31 false ∷ of 7 false ∷ of 15 true ∷ []
-- 168: 5, 48; 48, 56, 63
starts_P MvpFlag = of 15 false ∷ of 7 false ∷ of 0 false ∷ []
-- 79: -25, 104; 104, 63, 24
starts_P RootCbf = of 40 true ∷ of 0 false ∷ of 39 false ∷ []
-- 153: 0, 56; 56, 56, 56
starts_P CbfLuma = of 7 false ∷ of 7 false ∷ of 7 false ∷ []
-- 149: 0, 24; 24, 24, 24
starts_P CbfChroma = of 39 false ∷ of 39 false ∷ of 39 false ∷ []
-- 153: 0, 56; 56, 56, 56
starts_P SaoMerge = of 7 false ∷ of 7 false ∷ of 7 false ∷ []
-- 185: 10, 56; 56, 72, 87
starts_P SaoType = of 7 false ∷ of 8 true ∷ of 23 true ∷ []
-- 125: -10, 88; 88, 71, 56
starts_P LastX = of 24 true ∷ of 7 true ∷ of 7 false ∷ []
-- 125: -10, 88; 88, 71, 56
starts_P LastY = of 24 true ∷ of 7 true ∷ of 7 false ∷ []
-- 121: -10, 56; 56, 39, 24
starts_P CodedSub = of 7 false ∷ of 24 false ∷ of 39 false ∷ []
-- 155: 0, 72; 72, 72, 72
starts_P Sig = of 8 true ∷ of 8 true ∷ of 8 true ∷ []
-- 154: 0, 64; 64, 64, 64
starts_P Greater1 = of 0 true ∷ of 0 true ∷ of 0 true ∷ []
-- 107: -15, 72; 72, 47, 24
starts_P Greater2 = of 8 true ∷ of 16 false ∷ of 39 false ∷ []

all_start_P : (table : CtxTable) → starts P table 0 ≡ starts_P table
unfolding first_variables
all_start_P Split = refl
all_start_P _ = refl

-- 61: -30, 88; 88, 39, and -8, which is brought to 1
clipped_below : starts P CodedSub 2 ≡ of 24 true ∷ of 24 false ∷ of 62 false ∷ []
unfolding first_variables
clipped_below = refl

-- 194: 15, 0; 0, which is brought to 1, and 24, 47
clipped_at_0 : starts P Greater1 17 ≡ of 62 false ∷ of 39 false ∷ of 16 false ∷ []
unfolding first_variables
clipped_at_0 = refl

-- 227: 25, 8; 8, 48, 87
rising : starts I Greater1 21 ≡ of 55 false ∷ of 15 false ∷ of 23 true ∷ []
unfolding first_variables
rising = refl

-- 255: 30, 104; 124 at 11, 126 at 12, and 128 at 13 and 199 at 51, which are brought to 126
abbrev pre_states : List ℕ
pre_states = map (λ qp. preCtxState qp 255) (11 ∷ 12 ∷ 13 ∷ 51 ∷ [])

clipped_above : pre_states ≡ 124 ∷ 126 ∷ 126 ∷ 126 ∷ []
clipped_above = refl
