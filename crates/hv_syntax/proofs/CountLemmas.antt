-- How many bins the parts of coding units have (7.3.8.5 to 7.3.8.10).
use Rattle.std.proofs.Common.{◌≡◌, ◌≢◌, ℕ, zero, suc, ◌+◌, ◌-◌, ◌≤◌, Bool, true, false, cond, nat_lt, nat_eq, List, [], ◌∷◌, ◌++◌, length, length-append, refl, sym, ap, ◌∙◌, arith}
use Rattle.hv_lemmas.proofs.ComparisonLemmas.{lt_below}
use Rattle.std.proofs.lemmas.Bool.Decides.{nat_tests}
use Rattle.hv_tables.specs.declared.bins.CtxTable.TheVariants.{MvpFlag, RefIdx, CbfChroma, ChromaMode, RootCbf}
use Rattle.hv_plan.specs.declared.prediction.Mv.{Mv}
use Rattle.hv_residual_model.specs.UnitBins.{UnitBin, unit_bin}
use Rattle.hv_plan.specs.Levels.{any_significant}
use Rattle.hv_residual_model.specs.Binarization.{truncated_unary_bins}
use Rattle.hv_tree_model.specs.Trees.{Motion, Prediction, Intra, Inter, TransformUnit, any_cb, any_cr, any_level, log2TrafoSize}
use Rattle.hv_unit_model.specs.BlockSyntax.{transform_block, has_luma_flag, luma_flag_at}
use Rattle.hv_unit_model.specs.Bins.{bin, where_coded, luma_mode_bins, greater1_bins, rest_bins, mvd_bins, reference_bins, prediction_unit_bins, luma_flag_bins, block_bins, transform_unit_bins, transform_tree_bins, intra_part_bins}
use Rattle.hv_syntax.specs.Parts.{quarter_bins, rooted_bins, intra_bins, inter_bins}
use Rattle.hv_syntax.proofs.ModeLemmas.{first_bins, second_bins, third_bins, other_bins}
use Rattle.hv_syntax.proofs.PartLemmas.{four_quarters}

pub length_where : (coded : Bool) (b : UnitBin) → length (where_coded coded b) ≡ cond coded 1 0
length_where true b = refl
length_where false b = refl

-- ---- luma modes
pub count_first : (a b c m : ℕ) → m ≡ a → 2 ≡ length (luma_mode_bins (a ∷ b ∷ c ∷ []) m)
unfolding truncated_unary_bins
count_first a b c m h = ap length (first_bins a b c m h)

pub count_second : (a b c m : ℕ) → m ≢ a → m ≡ b → 3 ≡ length (luma_mode_bins (a ∷ b ∷ c ∷ []) m)
unfolding truncated_unary_bins
count_second a b c m h k = ap length (second_bins a b c m h k)

pub count_third : (a b c m : ℕ) → m ≢ a → m ≢ b → m ≡ c →
    3 ≡ length (luma_mode_bins (a ∷ b ∷ c ∷ []) m)
unfolding truncated_unary_bins
count_third a b c m h k l = ap length (third_bins a b c m h k l)

pub count_other : (a b c m : ℕ) → m ≢ a → m ≢ b → m ≢ c →
    6 ≡ length (luma_mode_bins (a ∷ b ∷ c ∷ []) m)
count_other a b c m h k l = ap length (other_bins a b c m h k l)

-- ---- vector differences
pub length_mvd : (d : Mv) → length (mvd_bins d) ≡
    2 + ((length (greater1_bins d.x) + length (rest_bins d.x)) +
    (length (greater1_bins d.y) + length (rest_bins d.y)))
unfolding mvd_bins
length_mvd d =
    omega (
      arith,
      length-append (greater1_bins d.x) (greater1_bins d.y ++ (rest_bins d.x ++ rest_bins d.y)),
      length-append (greater1_bins d.y) (rest_bins d.x ++ rest_bins d.y),
      length-append (rest_bins d.x) (rest_bins d.y),
    )

pub length_prediction_unit : (references : ℕ) (m : Motion) →
    length (prediction_unit_bins references m) ≡
    1 + (cond (nat_lt 1 references) 1 0 + (length (mvd_bins m.MvdL0) + 1))
unfolding prediction_unit_bins
length_prediction_unit references m =
    let flag : List UnitBin = bin MvpFlag 0 (nat_eq m.mvp_l0_flag 1) ∷ [] in
    omega (
      arith,
      length-append (reference_bins references m.ref_idx_l0) (mvd_bins m.MvdL0 ++ flag),
      length-append (mvd_bins m.MvdL0) flag,
      length_where (nat_lt 1 references) (bin RefIdx 0 (nat_eq m.ref_idx_l0 1)),
    )

-- ---- transform trees
pub length_transform_unit : (p : Prediction) (log2 depth : ℕ) (t : TransformUnit) →
    length (transform_unit_bins p log2 depth t) ≡
    cond (has_luma_flag p depth (any_significant t.cb) (any_significant t.cr)) 1 0 +
    (length (block_bins (transform_block p log2 true) t.luma) +
    (length (block_bins (transform_block p (log2 - 1) false) t.cb) +
    length (block_bins (transform_block p (log2 - 1) false) t.cr)))
unfolding transform_unit_bins
length_transform_unit p log2 depth t =
    let luma : List UnitBin = block_bins (transform_block p log2 true) t.luma in
    let cb : List UnitBin = block_bins (transform_block p (log2 - 1) false) t.cb in
    let cr : List UnitBin = block_bins (transform_block p (log2 - 1) false) t.cr in
    let has : Bool = has_luma_flag p depth (any_significant t.cb) (any_significant t.cr) in
    omega (
      arith,
      length-append (luma_flag_bins p depth t) (luma ++ (cb ++ cr)),
      length-append luma (cb ++ cr),
      length-append cb cr,
      length_where has (unit_bin (luma_flag_at depth) (any_significant t.luma)),
    )

pub length_single : (p : Prediction) (log2 : ℕ) (t : TransformUnit) → 3 ≤ log2 → log2 ≤ 5 →
    length (transform_tree_bins p (log2 - 3) (t ∷ [])) ≡ 2 + length (transform_unit_bins p log2 0 t)
unfolding transform_tree_bins
length_single p log2 t least most =
    let small : nat_lt (log2 - 3) 3 ≡ true = lt_below (log2 - 3) 3 (omega (arith, least, most)) in
    let side : log2TrafoSize (log2 - 3) ≡ log2 = omega (arith, least, most) in
    rw (small, side) (omega arith)

pub length_quarter : (p : Prediction) (cb cr : Bool) (t : TransformUnit) →
    length (quarter_bins p cb cr t) ≡
    cond cb 1 0 + (cond cr 1 0 + length (transform_unit_bins p 5 1 t))
unfolding quarter_bins
length_quarter p cb cr t =
    let first : UnitBin = bin CbfChroma 1 (any_significant t.cb) in
    let second : UnitBin = bin CbfChroma 1 (any_significant t.cr) in
    omega (
      arith,
      length-append (where_coded cb first) (where_coded cr second ++ transform_unit_bins p 5 1 t),
      length-append (where_coded cr second) (transform_unit_bins p 5 1 t),
      length_where cb first,
      length_where cr second,
    )

length_four : (q : TransformUnit → List UnitBin) (t u v w : TransformUnit) →
    length (q t ++ (q u ++ (q v ++ q w))) ≡
    length (q t) + (length (q u) + (length (q v) + length (q w)))
length_four q t u v w =
    rw (
      length-append (q t) (q u ++ (q v ++ q w)),
      length-append (q u) (q v ++ q w),
      length-append (q v) (q w),
    ) refl

pub length_quarters : (p : Prediction) (cb cr : Bool) (t u v w : TransformUnit) →
    cb ≡ any_cb (t ∷ u ∷ v ∷ w ∷ []) → cr ≡ any_cr (t ∷ u ∷ v ∷ w ∷ []) →
    length (transform_tree_bins p 3 (t ∷ u ∷ v ∷ w ∷ [])) ≡
    2 + (length (quarter_bins p cb cr t) + (length (quarter_bins p cb cr u) +
    (length (quarter_bins p cb cr v) + length (quarter_bins p cb cr w))))
unfolding transform_tree_bins
length_quarters p cb cr t u v w is_cb is_cr =
    rw (sym is_cb, sym is_cr)
    (ap (λ n. suc (suc n)) (ap length (sym (four_quarters p cb cr t u v w)) ∙
    length_four (quarter_bins p cb cr) t u v w) ∙ omega arith)

-- ---- coding units
part_count : (size : ℕ) → length (intra_part_bins size) ≡ cond (nat_eq size 0) 1 0
part_count zero = refl
part_count (suc size) = let e : nat_eq (suc size) 0 ≡ false = grind (arith, nat_tests) in rw e refl

pub length_intra : (size : ℕ) (list : List ℕ) (mode : ℕ) (units : List TransformUnit) →
    length (intra_bins size list mode units) ≡
    cond (nat_eq size 0) 1 0 + (length (luma_mode_bins list mode) +
    (1 + length (transform_tree_bins (Intra mode) size units)))
unfolding intra_bins
length_intra size list mode units =
    let tree : List UnitBin =
    bin ChromaMode 0 false ∷ transform_tree_bins (Intra mode) size units in
    omega (
      arith,
      length-append (intra_part_bins size) (luma_mode_bins list mode ++ tree),
      length-append (luma_mode_bins list mode) tree,
      part_count size,
    )

pub length_inter : (references size : ℕ) (m : Motion) (units : List TransformUnit) →
    length (inter_bins references size m units) ≡
    1 + (length (prediction_unit_bins references m) +
    (1 + length (rooted_bins (Inter m) size units)))
unfolding inter_bins
length_inter references size m units =
    let tree : List UnitBin = bin RootCbf 0 (any_level units) ∷ rooted_bins (Inter m) size units in
    omega (arith, length-append (prediction_unit_bins references m) tree)
