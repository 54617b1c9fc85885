-- The bins of levels ask only for context variables that are there (9.3.4.2).
use Rattle.std.proofs.Common.{◌≡◌, ℕ, zero, suc, ◌+◌, ◌-◌, ◌*◌, ◌/◌, ◌%◌, ◌^◌, ◌<◌, ◌≤◌, Bool, true, false, cond, not, List, [], ◌∷◌, ◌++◌, ℤ, refl, arith, ltb-true}
use Rattle.std.specs.Prelude.{nat_lt, nat_eq, ◌&&◌, ◌||◌, min, slice_index_or}
use Rattle.std.proofs.Math.Nat.{min-le_left}
use Rattle.hv_lemmas.proofs.ComputedLemmas.{all_below, holds_below}
use Rattle.hv_tables.specs.declared.bins.SliceKind.{SliceKind}
use Rattle.hv_tables.specs.declared.bins.SliceKind.TheVariants.{I, P}
use Rattle.hv_tables.specs.declared.bins.CtxTable.TheVariants.{LastX, LastY, CodedSub, Sig, Greater1, Greater2}
use Rattle.hv_plan.specs.declared.prediction.Scan.{Scan}
use Rattle.hv_residual_model.specs.UnitBins.{UnitQuestion, InBypass, UnitBin, unit_bin, context}
use Rattle.hv_residual_model.specs.Binarization.{fixed_length_bins, truncated_unary_bins, exp_golomb_bins, bypass_at, remaining_bins}
use Rattle.hv_residual_model.specs.ScanOrder.{Position, position_at, block_position}
use Rattle.hv_residual_model.specs.ResidualContexts.{TransformBlock, ctxOffset, ctxShift, last_prefix_at, number, csbfCtx, ctxIdxMap, by_distance, by_neighbours, is_diagonal, added_in_luma, added_in_chroma, sig_coeff_at, ctxSet, next_greater1Ctx, greater2_at}
use Rattle.hv_residual_model.specs.ResidualSyntax.{swapped_in, Earlier, nothing_earlier, sub_block_at, right_flag, below_flag, any, sig_coeff_of, Base, next_cRiceParam, most_greater1_flags, positions}
use Rattle.hv_residual_model.specs.ResidualBins.{levels_below, last_significant, prefix_of, last_prefix_bins, last_suffix_bins, last_bins, sig_coeff_bins, magnitudes, signs, greater1_values, greater1_bins, greater2_value, greater2_bins, sign_bins, all_remaining_bins, bases_of, level_bins, coded_sub_block_value, coded_sub_block_bins, sub_block_bins, behind_levels, sub_blocks_bins, last_sub_block_bins, bins_from, residual_bins}
use Rattle.hv_plan.specs.Levels.{is_significant}
use Rattle.hv_residual_model.specs.ResidualLaws.{HasSide, IsAskedIn, AreAskedIn, LevelsAskForVariablesThatAreThere}
use Rattle.hv_residual_model.proofs.SubBlockLemmas.{all_or}

-- ---- lists

both_asked : (kind : SliceKind) (xs ys : List UnitBin) → AreAskedIn kind xs → AreAskedIn kind ys →
    AreAskedIn kind (xs ++ ys)
both_asked kind [] ys h k = k
both_asked kind (x ∷ xs) ys h k = (h.0, both_asked kind xs ys h.1 k)

asked_if : (kind : SliceKind) (test : Bool) (xs ys : List UnitBin) → AreAskedIn kind xs →
    AreAskedIn kind ys → AreAskedIn kind (cond test xs ys)
asked_if kind true xs ys h k = h
asked_if kind false xs ys h k = k

fixed_length_asked : (kind : SliceKind) (k v : ℕ) → AreAskedIn kind (fixed_length_bins k v)
fixed_length_asked kind zero v = tt
fixed_length_asked kind (suc k) v = (tt, fixed_length_asked kind k v)

-- questions of bins below a bound
unary_asked : (kind : SliceKind) (question : ℕ → UnitQuestion) (cMax binIdx v : ℕ) →
    ((i : ℕ) → i < binIdx + cMax → IsAskedIn kind (question i)) →
    AreAskedIn kind (truncated_unary_bins question cMax binIdx v)
unfolding truncated_unary_bins
unary_asked kind question zero binIdx v h = tt
unary_asked kind question (suc cMax) binIdx zero h = (h binIdx (omega arith), tt)
unary_asked kind question (suc cMax) binIdx (suc v) h = (
  h binIdx (omega arith),
  unary_asked kind question cMax (suc binIdx) v
      (λ i below. h i (omega (arith, below))),
)

exp_golomb_asked : (kind : SliceKind) (fuel k v : ℕ) → AreAskedIn kind (exp_golomb_bins fuel k v)
unfolding exp_golomb_bins
exp_golomb_asked kind zero k v = tt
exp_golomb_asked kind (suc fuel) k v =
    asked_if kind (nat_lt v (2 ^ k)) (unit_bin InBypass false ∷ fixed_length_bins k v)
    (unit_bin InBypass true ∷ exp_golomb_bins fuel (suc k) (v - 2 ^ k))
    (tt, fixed_length_asked kind k v)
    (tt, exp_golomb_asked kind fuel (suc k) (v - 2 ^ k))

remaining_asked : (kind : SliceKind) (k v : ℕ) → AreAskedIn kind (remaining_bins k v)
unfolding remaining_bins
remaining_asked kind k v =
    asked_if kind (nat_lt (v / 2 ^ k) 4)
    (truncated_unary_bins bypass_at 4 0 (v / 2 ^ k) ++ fixed_length_bins k v)
    (truncated_unary_bins bypass_at 4 0 4 ++ exp_golomb_bins 32 (suc k) (v - 4 * 2 ^ k))
    (both_asked kind _ _ (unary_asked kind bypass_at 4 0 (v / 2 ^ k) (λ i below. tt))
    (fixed_length_asked kind k v))
    (both_asked kind _ _ (unary_asked kind bypass_at 4 0 4 (λ i below. tt))
    (exp_golomb_asked kind 32 (suc k) (v - 4 * 2 ^ k)))

-- ---- one context

last_x_there : (kind : SliceKind) (i : ℕ) → i < 18 → IsAskedIn kind (context LastX i)
last_x_there I i h = h
last_x_there P i h = h

last_y_there : (kind : SliceKind) (i : ℕ) → i < 18 → IsAskedIn kind (context LastY i)
last_y_there I i h = h
last_y_there P i h = h

coded_sub_there : (kind : SliceKind) (i : ℕ) → i < 4 → IsAskedIn kind (context CodedSub i)
coded_sub_there I i h = h
coded_sub_there P i h = h

sig_there : (kind : SliceKind) (i : ℕ) → i < 42 → IsAskedIn kind (context Sig i)
sig_there I i h = h
sig_there P i h = h

greater1_there : (kind : SliceKind) (i : ℕ) → i < 24 → IsAskedIn kind (context Greater1 i)
greater1_there I i h = h
greater1_there P i h = h

greater2_there : (kind : SliceKind) (i : ℕ) → i < 6 → IsAskedIn kind (context Greater2 i)
greater2_there I i h = h
greater2_there P i h = h

-- ---- the last position

abbrev last_fits : Scan → ℕ → Bool → ℕ → Bool
last_fits scan log2 luma i =
    let b : TransformBlock = record { scanIdx = scan; log2TrafoSize = log2; is_luma = luma } in
    nat_lt (i / 2 ^ ctxShift b + ctxOffset b) 18

all_fit : (scan : Scan) (log2 : ℕ) (luma : Bool) → 2 ≤ log2 → log2 ≤ 5 →
    all_below (2 * log2 - 1) (last_fits scan log2 luma) ≡ true
all_fit scan zero luma least most = absurd (omega arith)
all_fit scan (suc zero) luma least most = absurd (omega arith)
all_fit scan (suc (suc zero)) true least most = refl
all_fit scan (suc (suc zero)) false least most = refl
all_fit scan (suc (suc (suc zero))) true least most = refl
all_fit scan (suc (suc (suc zero))) false least most = refl
all_fit scan (suc (suc (suc (suc zero)))) true least most = refl
all_fit scan (suc (suc (suc (suc zero)))) false least most = refl
all_fit scan (suc (suc (suc (suc (suc zero))))) true least most = refl
all_fit scan (suc (suc (suc (suc (suc zero))))) false least most = refl
all_fit scan (suc (suc (suc (suc (suc (suc n)))))) luma least most = absurd (omega arith)

index_fits : (b : TransformBlock) (i : ℕ) → HasSide b → i < 2 * b.log2TrafoSize - 1 →
    i / 2 ^ ctxShift b + ctxOffset b < 18
index_fits b i side h =
    ltb-true (i / 2 ^ ctxShift b + ctxOffset b) 18
    (holds_below (2 * b.log2TrafoSize - 1) (last_fits b.scanIdx b.log2TrafoSize b.is_luma)
    (all_fit b.scanIdx b.log2TrafoSize b.is_luma side.0 side.1) i h)

last_asked : (kind : SliceKind) (b : TransformBlock) (n : ℕ) → HasSide b →
    AreAskedIn kind (last_bins b n)
unfolding last_bins
last_asked kind b n side =
    let p = swapped_in b.scanIdx (block_position b.scanIdx b.log2TrafoSize n) in
    both_asked kind (last_prefix_bins LastX b p.x) _
    (unary_asked kind (last_prefix_at LastX b) (2 * b.log2TrafoSize - 1) 0 (prefix_of p.x)
    (λ i h. last_x_there kind _ (index_fits b i side (omega (arith, h)))))
    (both_asked kind (last_prefix_bins LastY b p.y) _
    (unary_asked kind (last_prefix_at LastY b) (2 * b.log2TrafoSize - 1) 0 (prefix_of p.y)
    (λ i h. last_y_there kind _ (index_fits b i side (omega (arith, h)))))
    (both_asked kind (last_suffix_bins p.x) (last_suffix_bins p.y)
    (fixed_length_asked kind _ _) (fixed_length_asked kind _ _)))

-- ---- coded_sub_block_flag

coded_below : (luma right below : Bool) → min (csbfCtx right below) 1 + cond luma 0 2 < 4
coded_below true true true = omega arith
coded_below true true false = omega arith
coded_below true false true = omega arith
coded_below true false false = omega arith
coded_below false true true = omega arith
coded_below false true false = omega arith
coded_below false false true = omega arith
coded_below false false false = omega arith

coded_asked : (kind : SliceKind) (b : TransformBlock) (s : ℕ) (e : Earlier) (levels : List ℤ) →
    AreAskedIn kind (coded_sub_block_bins b s e levels)
coded_asked kind b zero e levels = tt
coded_asked kind b (suc s) e levels =
    let S = sub_block_at b (suc s) in
    (coded_sub_there kind _ (coded_below b.is_luma (right_flag e S) (below_flag e S)), tt)

-- ---- sig_coeff_flag

at_most_if : (test : Bool) (x y most : ℕ) → x ≤ most → y ≤ most → cond test x y ≤ most
at_most_if true x y most h k = h
at_most_if false x y most h k = k

map_below_9 : (i : ℕ) → slice_index_or ctxIdxMap i 0 < 9
map_below_9 i =
    ltb-true (slice_index_or ctxIdxMap i 0) 9 (all_or (λ k. nat_lt k 9) ctxIdxMap i 0 refl refl)

distance_most : (d : ℕ) → by_distance d ≤ 2
distance_most d =
    at_most_if (nat_eq d 0) 2 (cond (nat_eq d 1) 1 0) 2 (omega arith)
    (at_most_if (nat_eq d 1) 1 0 2 (omega arith) (omega arith))

neighbours_most : (right below : Bool) (p : Position) → by_neighbours right below p ≤ 2
neighbours_most false false p =
    at_most_if (nat_eq (p.x + p.y) 0) 2 (cond (nat_lt (p.x + p.y) 3) 1 0) 2 (omega arith)
    (at_most_if (nat_lt (p.x + p.y) 3) 1 0 2 (omega arith) (omega arith))
neighbours_most true false p = distance_most p.y
neighbours_most false true p = distance_most p.x
neighbours_most true true p = omega arith

luma_most : (b : TransformBlock) (S : Position) → added_in_luma b S ≤ 24
luma_most b S =
    let place = at_most_if (nat_lt 0 (S.x + S.y)) 3 0 3 (omega arith) (omega arith) in
    let size = at_most_if (nat_eq b.log2TrafoSize 3) (cond (is_diagonal b.scanIdx) 9 15) 21 21
    (at_most_if (is_diagonal b.scanIdx) 9 15 21 (omega arith) (omega arith)) (omega arith) in
    omega (arith, place, size)

chroma_most : (b : TransformBlock) → added_in_chroma b ≤ 12
chroma_most b = at_most_if (nat_eq b.log2TrafoSize 3) 9 12 12 (omega arith) (omega arith)

sig_most : (b : TransformBlock) (right below : Bool) (S p : Position) (added most : ℕ) →
    added ≤ most → 8 ≤ most →
    cond (nat_eq b.log2TrafoSize 2) (slice_index_or ctxIdxMap (4 * p.y + p.x) 0)
    (cond (nat_eq (S.x + S.y + p.x + p.y) 0) 0 (by_neighbours right below p + added)) ≤ most + 2
sig_most b right below S p added most h least =
    let entry = map_below_9 (4 * p.y + p.x) in
    let n = neighbours_most right below p in
    at_most_if (nat_eq b.log2TrafoSize 2) _ _ (most + 2) (omega (arith, entry, least))
    (at_most_if (nat_eq (S.x + S.y + p.x + p.y) 0) 0 (by_neighbours right below p + added)
    (most + 2) (omega arith) (omega (arith, n, h)))

sig_asked_by : (kind : SliceKind) (b : TransformBlock) (right below : Bool) (S p : Position)
    (luma : Bool) → b.is_luma ≡ luma → IsAskedIn kind (sig_coeff_at b right below S p)
sig_asked_by kind b right below S p true e =
    let m = sig_most b right below S p (added_in_luma b S) 24 (luma_most b S) (omega arith) in
    rw e (sig_there kind _ (omega (arith, m)))
sig_asked_by kind b right below S p false e =
    let m = sig_most b right below S p (added_in_chroma b) 12 (chroma_most b) (omega arith) in
    rw e (sig_there kind _ (omega (arith, m)))

sig_flag_asked : (kind : SliceKind) (b : TransformBlock) (s : ℕ) (e : Earlier) (i : ℕ) →
    IsAskedIn kind (sig_coeff_of b s e i)
sig_flag_asked kind b s e i =
    let S = sub_block_at b s in
    sig_asked_by kind b (right_flag e S) (below_flag e S) S (position_at b.scanIdx 2 i) b.is_luma
    refl

sig_bins_asked : (kind : SliceKind) (question : ℕ → UnitQuestion) (levels : List ℤ) (sure : Bool) →
    ((i : ℕ) → IsAskedIn kind (question i)) → AreAskedIn kind (sig_coeff_bins question levels sure)
unfolding sig_coeff_bins
sig_bins_asked kind question [] sure h = tt
sig_bins_asked kind question (c ∷ []) true h = tt
sig_bins_asked kind question (c ∷ []) false h = (h 0, tt)
sig_bins_asked kind question (c ∷ d ∷ levels) sure h =
    (h _, sig_bins_asked kind question (d ∷ levels) (sure && not (is_significant c)) h)

-- ---- what follows the significance

greater1_index : (luma : Bool) (set n : ℕ) → set ≤ 1 + cond luma 2 0 →
    4 * set + min 3 n + cond luma 0 16 < 24
greater1_index true set n h = let m = min-le_left 3 n in omega (arith, h, m)
greater1_index false set n h = let m = min-le_left 3 n in omega (arith, h, m)

greater1_asked : (kind : SliceKind) (b : TransformBlock) (set k : ℕ) (ms : List ℕ) (n : ℕ) →
    set ≤ 1 + cond b.is_luma 2 0 → AreAskedIn kind (greater1_bins b set k ms n)
unfolding greater1_bins
greater1_asked kind b set zero ms n h = tt
greater1_asked kind b set (suc k) [] n h = tt
greater1_asked kind b set (suc k) (m ∷ ms) n h = (
  greater1_there kind _ (greater1_index b.is_luma set n h),
  greater1_asked kind b set k ms (next_greater1Ctx n (nat_lt 1 m)) h,
)

greater2_index : (luma : Bool) (set : ℕ) → set ≤ 1 + cond luma 2 0 → set + cond luma 0 4 < 6
greater2_index true set h = omega (arith, h)
greater2_index false set h = omega (arith, h)

greater2_asked : (kind : SliceKind) (b : TransformBlock) (set : ℕ) (ms : List ℕ) →
    set ≤ 1 + cond b.is_luma 2 0 → AreAskedIn kind (greater2_bins b set ms)
greater2_asked kind b set ms h =
    asked_if kind (any (greater1_values most_greater1_flags ms))
    (unit_bin (greater2_at b set) (greater2_value ms) ∷ []) []
    (greater2_there kind _ (greater2_index b.is_luma set h), tt) tt

signs_asked : (kind : SliceKind) (ss : List Bool) → AreAskedIn kind (sign_bins ss)
signs_asked kind [] = tt
signs_asked kind (s ∷ ss) = (tt, signs_asked kind ss)

all_remaining_asked : (kind : SliceKind) (bs : List Base) (ms : List ℕ) (k : ℕ) →
    AreAskedIn kind (all_remaining_bins bs ms k)
all_remaining_asked kind [] ms k = tt
all_remaining_asked kind (b ∷ bs) [] k = tt
all_remaining_asked kind (b ∷ bs) (m ∷ ms) k =
    asked_if kind b.has_remaining
    (remaining_bins k (m - b.baseLevel) ++ all_remaining_bins bs ms (next_cRiceParam k m))
    (all_remaining_bins bs ms k)
    (both_asked kind _ _ (remaining_asked kind k (m - b.baseLevel))
    (all_remaining_asked kind bs ms (next_cRiceParam k m)))
    (all_remaining_asked kind bs ms k)

levels_asked : (kind : SliceKind) (b : TransformBlock) (set : ℕ) (levels : List ℤ) →
    set ≤ 1 + cond b.is_luma 2 0 → AreAskedIn kind (level_bins b set levels)
unfolding level_bins
levels_asked kind b set levels h =
    let ms : List ℕ = magnitudes levels in
    both_asked kind (greater1_bins b set most_greater1_flags ms 1) _
    (greater1_asked kind b set most_greater1_flags ms 1 h)
    (both_asked kind (greater2_bins b set ms) _ (greater2_asked kind b set ms h)
    (both_asked kind (sign_bins (signs levels)) _ (signs_asked kind (signs levels))
    (all_remaining_asked kind (bases_of ms) ms 0)))

set_most_by : (first luma had : Bool) →
    cond (first || not luma) 0 2 + number had ≤ 1 + cond luma 2 0
set_most_by true true true = omega arith
set_most_by true true false = omega arith
set_most_by true false true = omega arith
set_most_by true false false = omega arith
set_most_by false true true = omega arith
set_most_by false true false = omega arith
set_most_by false false true = omega arith
set_most_by false false false = omega arith

set_most : (b : TransformBlock) (s : ℕ) (had : Bool) → ctxSet b s had ≤ 1 + cond b.is_luma 2 0
set_most b s had = set_most_by (nat_eq s 0) b.is_luma had

-- ---- sub-blocks

sub_block_asked : (kind : SliceKind) (b : TransformBlock) (s : ℕ) (e : Earlier) (flag : Bool)
    (levels : List ℤ) → AreAskedIn kind (sub_block_bins b s e flag levels)
sub_block_asked kind b s e false levels = tt
sub_block_asked kind b s e true levels =
    both_asked kind (sig_coeff_bins (sig_coeff_of b s e) levels (nat_lt 0 s)) _
    (sig_bins_asked kind (sig_coeff_of b s e) levels (nat_lt 0 s) (sig_flag_asked kind b s e))
    (levels_asked kind b (ctxSet b s e.had_greater1) levels (set_most b s e.had_greater1))

sub_blocks_asked : (kind : SliceKind) (b : TransformBlock) (levels : List ℤ) (s : ℕ)
    (e : Earlier) → AreAskedIn kind (sub_blocks_bins b levels s e)
unfolding sub_blocks_bins
sub_blocks_asked kind b levels zero e = tt
sub_blocks_asked kind b levels (suc s) e =
    let these : List ℤ = levels_below b levels s positions in
    let flag : Bool = coded_sub_block_value s these in
    both_asked kind (coded_sub_block_bins b s e these) _ (coded_asked kind b s e these)
    (both_asked kind (sub_block_bins b s e flag these) _ (sub_block_asked kind b s e flag these)
    (sub_blocks_asked kind b levels s (behind_levels b s e flag these)))

last_sub_block_asked : (kind : SliceKind) (b : TransformBlock) (s : ℕ) (levels : List ℤ) →
    AreAskedIn kind (last_sub_block_bins b s levels)
last_sub_block_asked kind b s [] = tt
last_sub_block_asked kind b s (c ∷ cs) =
    both_asked kind (sig_coeff_bins (sig_coeff_of b s nothing_earlier) cs false) _
    (sig_bins_asked kind (sig_coeff_of b s nothing_earlier) cs false
    (sig_flag_asked kind b s nothing_earlier))
    (levels_asked kind b (ctxSet b s false) (c ∷ cs) (set_most b s false))

pub levels_ask_there : LevelsAskForVariablesThatAreThere
unfolding residual_bins bins_from
levels_ask_there kind b levels side =
    let last : ℕ = last_significant b levels in
    let s : ℕ = last / 16 in
    let these : List ℤ = levels_below b levels s (last % 16 + 1) in
    both_asked kind (last_bins b last) _ (last_asked kind b last side)
    (both_asked kind (last_sub_block_bins b s these) _ (last_sub_block_asked kind b s these)
    (sub_blocks_asked kind b levels s (behind_levels b s nothing_earlier true these)))
