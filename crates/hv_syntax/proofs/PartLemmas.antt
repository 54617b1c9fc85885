-- What puts the parts of a syntax structure (7.3.8) puts the structure.
use Rattle.std.proofs.Common.{◌≡◌, ℕ, ◌-◌, Bool, true, false, nat_lt, nat_eq, ◌≤◌, List, [], ◌∷◌, ◌++◌, ℤ, refl, sym, ap, ◌∙◌, subst, append_assoc, append-nil, arith}
use Rattle.std.specs.Prelude.{◌||◌}
use Rattle.hv_lemmas.proofs.ComparisonLemmas.{lt_below}
use Rattle.std.proofs.lemmas.Int.{to_z-of_z}
use mir.Syntax.{Width}
use mir.Val.{to_z, of_z, SFits}
use Rattle.hv_plan.specs.declared.prediction.Mv.{Mv}
use Rattle.hv_tables.specs.declared.bins.CtxTable.TheVariants.{Merge, MvpFlag, CbfChroma, PartMode, ChromaMode, RootCbf}
use Rattle.hv_residual_model.specs.UnitBins.{UnitBin, PutsUnit}
use Rattle.hv_residual.proofs.PuttingLemmas.{Stands, puts_same}
use Rattle.hv_tree_model.specs.Trees.{Motion, Prediction, Intra, Inter, TransformUnit, any_cb, any_cr, any_level, log2TrafoSize}
use Rattle.hv_unit_model.specs.BlockSyntax.{transform_block}
use Rattle.hv_unit_model.specs.Bins.{bin, where_coded, greater0_bin, greater1_bins, rest_bins, mvd_bins, reference_bins, prediction_unit_bins, luma_flag_bins, block_bins, transform_unit_bins, quarters_bins, transform_tree_bins, luma_mode_bins, intra_part_bins}
use Rattle.hv_plan.specs.Levels.{any_significant}
use Rattle.hv_syntax.specs.Parts.{quarter_bins, rooted_bins, intra_bins, inter_bins}
use Rattle.hv_syntax.proofs.ChainLemmas.{puts_3, puts_4, puts_6}

or_false : (b : Bool) → (b || false) ≡ b
or_false true = refl
or_false false = refl

abbrev pub one_bin : UnitBin → List UnitBin
one_bin b = b ∷ []

-- bins of a number that is passed on
pub puts_passed : {S : Type 0} (s : Stands S) (a b : S) (w : Width) (z : ℤ) (f : ℤ → List UnitBin) →
    SFits w z → PutsUnit s a b (f (to_z w (of_z w z))) → PutsUnit s a b (f z)
puts_passed s a b w z f fits p =
    subst (λ (x : ℤ). PutsUnit s a b (f x)) (to_z-of_z w z fits) p

-- ---- mvd_coding (7.3.8.9)
pub puts_mvd : {S : Type 0} (s : Stands S) (a b c d e f g : S) (v : Mv) →
    PutsUnit s a b (one_bin (greater0_bin v.x)) → PutsUnit s b c (one_bin (greater0_bin v.y)) →
    PutsUnit s c d (greater1_bins v.x) → PutsUnit s d e (greater1_bins v.y) →
    PutsUnit s e f (rest_bins v.x) → PutsUnit s f g (rest_bins v.y) → PutsUnit s a g (mvd_bins v)
unfolding mvd_bins
puts_mvd s a b c d e f g v p1 p2 p3 p4 p5 p6 =
    puts_6 s a b c d e f g (one_bin (greater0_bin v.x)) (one_bin (greater0_bin v.y))
    (greater1_bins v.x) (greater1_bins v.y) (rest_bins v.x) (rest_bins v.y) p1 p2 p3 p4 p5 p6

-- ---- prediction_unit (7.3.8.6)
pub puts_prediction_unit : {S : Type 0} (s : Stands S) (a b c d e : S) (references : ℕ) (m : Motion) →
    PutsUnit s a b (one_bin (bin Merge 0 false)) →
    PutsUnit s b c (reference_bins references m.ref_idx_l0) → PutsUnit s c d (mvd_bins m.MvdL0) →
    PutsUnit s d e (one_bin (bin MvpFlag 0 (nat_eq m.mvp_l0_flag 1))) →
    PutsUnit s a e (prediction_unit_bins references m)
unfolding prediction_unit_bins
puts_prediction_unit s a b c d e references m p1 p2 p3 p4 =
    puts_4 s a b c d e (one_bin (bin Merge 0 false)) (reference_bins references m.ref_idx_l0)
    (mvd_bins m.MvdL0) (one_bin (bin MvpFlag 0 (nat_eq m.mvp_l0_flag 1))) p1 p2 p3 p4

-- ---- transform_unit (7.3.8.10)
pub puts_transform_unit : {S : Type 0} (s : Stands S) (a b c d e : S) (p : Prediction)
    (log2 depth : ℕ) (t : TransformUnit) →
    PutsUnit s a b (luma_flag_bins p depth t) →
    PutsUnit s b c (block_bins (transform_block p log2 true) t.luma) →
    PutsUnit s c d (block_bins (transform_block p (log2 - 1) false) t.cb) →
    PutsUnit s d e (block_bins (transform_block p (log2 - 1) false) t.cr) →
    PutsUnit s a e (transform_unit_bins p log2 depth t)
unfolding transform_unit_bins
puts_transform_unit s a b c d e p log2 depth t p1 p2 p3 p4 =
    puts_4 s a b c d e (luma_flag_bins p depth t) (block_bins (transform_block p log2 true) t.luma)
    (block_bins (transform_block p (log2 - 1) false) t.cb)
    (block_bins (transform_block p (log2 - 1) false) t.cr) p1 p2 p3 p4

-- ---- transform_tree (7.3.8.8)
pub puts_single : {S : Type 0} (s : Stands S) (a b c d : S) (p : Prediction) (log2 : ℕ) (x y : Bool)
    (t : TransformUnit) → 3 ≤ log2 → log2 ≤ 5 → x ≡ any_significant t.cb → y ≡ any_significant t.cr →
    PutsUnit s a b (one_bin (bin CbfChroma 0 x)) → PutsUnit s b c (one_bin (bin CbfChroma 0 y)) →
    PutsUnit s c d (transform_unit_bins p log2 0 t) →
    PutsUnit s a d (transform_tree_bins p (log2 - 3) (t ∷ []))
unfolding transform_tree_bins
puts_single s a b c d p log2 x y t least most ex ey p1 p2 p3 =
    let small : nat_lt (log2 - 3) 3 ≡ true = lt_below (log2 - 3) 3 (omega (arith, least, most)) in
    let side : log2TrafoSize (log2 - 3) ≡ log2 = omega (arith, least, most) in
    let cb : any_significant t.cb || false ≡ x = or_false (any_significant t.cb) ∙ sym ex in
    let cr : any_significant t.cr || false ≡ y = or_false (any_significant t.cr) ∙ sym ey in
    rw (small, side, cb, cr)
    (puts_3 s a b c d (one_bin (bin CbfChroma 0 x)) (one_bin (bin CbfChroma 0 y))
    (transform_unit_bins p log2 0 t) p1 p2 p3)

pub puts_quarter : {S : Type 0} (s : Stands S) (a b c d : S) (p : Prediction) (log2 : ℕ)
    (cb cr x y : Bool) (t : TransformUnit) → log2 ≡ 5 → x ≡ any_significant t.cb →
    y ≡ any_significant t.cr →
    PutsUnit s a b (where_coded cb (bin CbfChroma 1 x)) →
    PutsUnit s b c (where_coded cr (bin CbfChroma 1 y)) →
    PutsUnit s c d (transform_unit_bins p log2 1 t) → PutsUnit s a d (quarter_bins p cb cr t)
unfolding quarter_bins
puts_quarter s a b c d p log2 cb cr x y t e ex ey p1 p2 p3 =
    rw (sym ex, sym ey)
    (puts_3 s a b c d (where_coded cb (bin CbfChroma 1 x)) (where_coded cr (bin CbfChroma 1 y))
    (transform_unit_bins p 5 1 t) p1 p2
    (subst (λ (n : ℕ). PutsUnit s c d (transform_unit_bins p n 1 t)) e p3))

quarters_cons : (p : Prediction) (cb cr : Bool) (t : TransformUnit) (units : List TransformUnit) →
    quarter_bins p cb cr t ++ quarters_bins p cb cr units ≡ quarters_bins p cb cr (t ∷ units)
unfolding quarter_bins quarters_bins
quarters_cons p cb cr t units =
    append_assoc (where_coded cb (bin CbfChroma 1 (any_significant t.cb)))
    (where_coded cr (bin CbfChroma 1 (any_significant t.cr)) ++ transform_unit_bins p 5 1 t)
    (quarters_bins p cb cr units) ∙
    ap (λ (l : List UnitBin). where_coded cb (bin CbfChroma 1 (any_significant t.cb)) ++ l)
    (append_assoc (where_coded cr (bin CbfChroma 1 (any_significant t.cr)))
    (transform_unit_bins p 5 1 t) (quarters_bins p cb cr units))

no_quarter : (p : Prediction) (cb cr : Bool) → quarters_bins p cb cr [] ≡ []
unfolding quarters_bins
no_quarter p cb cr = refl

pub four_quarters : (p : Prediction) (cb cr : Bool) (t u v w : TransformUnit) →
    quarter_bins p cb cr t ++ (quarter_bins p cb cr u ++ (quarter_bins p cb cr v ++
    quarter_bins p cb cr w)) ≡ quarters_bins p cb cr (t ∷ u ∷ v ∷ w ∷ [])
four_quarters p cb cr t u v w =
    let q : TransformUnit → List UnitBin = quarter_bins p cb cr in
    let last : q w ≡ quarters_bins p cb cr (w ∷ []) =
    sym (append-nil (q w)) ∙ ap (λ (l : List UnitBin). q w ++ l) (sym (no_quarter p cb cr)) ∙
    quarters_cons p cb cr w [] in
    ap (λ (l : List UnitBin). q t ++ (q u ++ (q v ++ l))) last ∙
    ap (λ (l : List UnitBin). q t ++ (q u ++ l)) (quarters_cons p cb cr v (w ∷ [])) ∙
    ap (λ (l : List UnitBin). q t ++ l) (quarters_cons p cb cr u (v ∷ w ∷ [])) ∙
    quarters_cons p cb cr t (u ∷ v ∷ w ∷ [])

pub puts_quarters : {S : Type 0} (s : Stands S) (a b c d e f g : S) (p : Prediction) (cb cr : Bool)
    (t u v w : TransformUnit) → cb ≡ any_cb (t ∷ u ∷ v ∷ w ∷ []) →
    cr ≡ any_cr (t ∷ u ∷ v ∷ w ∷ []) →
    PutsUnit s a b (one_bin (bin CbfChroma 0 cb)) → PutsUnit s b c (one_bin (bin CbfChroma 0 cr)) →
    PutsUnit s c d (quarter_bins p cb cr t) → PutsUnit s d e (quarter_bins p cb cr u) →
    PutsUnit s e f (quarter_bins p cb cr v) → PutsUnit s f g (quarter_bins p cb cr w) →
    PutsUnit s a g (transform_tree_bins p 3 (t ∷ u ∷ v ∷ w ∷ []))
unfolding transform_tree_bins
puts_quarters s a b c d e f g p cb cr t u v w is_cb is_cr p1 p2 p3 p4 p5 p6 =
    let rest : PutsUnit s c g (quarters_bins p cb cr (t ∷ u ∷ v ∷ w ∷ [])) =
    puts_same s c g _ _ (four_quarters p cb cr t u v w)
    (puts_4 s c d e f g (quarter_bins p cb cr t) (quarter_bins p cb cr u) (quarter_bins p cb cr v)
    (quarter_bins p cb cr w) p3 p4 p5 p6) in
    rw (sym is_cb, sym is_cr)
    (puts_3 s a b c g (one_bin (bin CbfChroma 0 cb)) (one_bin (bin CbfChroma 0 cr))
    (quarters_bins p cb cr (t ∷ u ∷ v ∷ w ∷ [])) p1 p2 rest)

-- ---- coding_unit (7.3.8.5)
pub puts_intra : {S : Type 0} (s : Stands S) (a b c d e : S) (size : ℕ) (list : List ℕ) (mode : ℕ)
    (units : List TransformUnit) → PutsUnit s a b (intra_part_bins size) →
    PutsUnit s b c (luma_mode_bins list mode) → PutsUnit s c d (one_bin (bin ChromaMode 0 false)) →
    PutsUnit s d e (transform_tree_bins (Intra mode) size units) →
    PutsUnit s a e (intra_bins size list mode units)
unfolding intra_bins
puts_intra s a b c d e size list mode units p1 p2 p3 p4 =
    puts_4 s a b c d e (intra_part_bins size) (luma_mode_bins list mode)
    (one_bin (bin ChromaMode 0 false)) (transform_tree_bins (Intra mode) size units) p1 p2 p3 p4

pub puts_inter : {S : Type 0} (s : Stands S) (a b c d e : S) (references size : ℕ) (m : Motion)
    (units : List TransformUnit) (rooted : Bool) → rooted ≡ any_level units →
    PutsUnit s a b (one_bin (bin PartMode 0 true)) → PutsUnit s b c (prediction_unit_bins references m) →
    PutsUnit s c d (one_bin (bin RootCbf 0 rooted)) →
    PutsUnit s d e (rooted_bins (Inter m) size units) →
    PutsUnit s a e (inter_bins references size m units)
unfolding inter_bins
puts_inter s a b c d e references size m units rooted is p1 p2 p3 p4 =
    puts_4 s a b c d e (one_bin (bin PartMode 0 true)) (prediction_unit_bins references m)
    (one_bin (bin RootCbf 0 (any_level units))) (rooted_bins (Inter m) size units) p1 p2
    (subst (λ (v : Bool). PutsUnit s c d (one_bin (bin RootCbf 0 v))) is p3) p4
