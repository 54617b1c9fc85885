-- Deblocking (8.7.2) asks only how squares inside the picture are coded, and no difference of a
-- vector: both passes give the same samples where the edges have the same strengths.
use Rattle.std.proofs.Common.{◌≡◌, ℕ, ◌+◌, ◌-◌, ◌*◌, ◌/◌, ◌%◌, ◌<◌, Bool, true, false, cond, nat_lt, ◌&&◌, ◌||◌, refl, sym, ◌∙◌, ap, subst, arith}
use Rattle.std.proofs.lemmas.Bool.{and_parts, ltb-true}
use Rattle.hv_types.specs.declared.picture.Picture.{Picture}
use Rattle.hv_types.specs.Samples.{Plane, sample_at}
use Rattle.hv_types.specs.Video.{IsPicture}
use Rattle.hv_plan.specs.declared.prediction.Pred.{Pred}
use Rattle.hv_plan.specs.declared.prediction.Pred.TheVariants.{Intra, Inter}
use Rattle.hv_inter_model.specs.UnitVectors.{pred_with_vector}
use Rattle.hv_filter_model.proofs.OffLemmas.{picture_same}
use Rattle.hv_deblock_model.specs.declared.coding.SquareCoding.{SquareCoding}
use Rattle.hv_deblock_model.specs.declared.line.Line.{Line}
use Rattle.hv_deblock_model.specs.EdgeStrength.{Squares, is_transform_edge, motion_strength, with_levels, strength, edge_strength}
use Rattle.hv_deblock_model.specs.EdgeFilters.{luma_edge, chroma_edge}
use Rattle.hv_deblock_model.specs.Deblocking.{Samples, EdgeFilter, line_at, line_sample, pass, turned, nearest_edge, first_of_four, filtered_line, luma_filter, chroma_filter, both_passes, deblocked_plane, deblocked_picture}
use Rattle.hv_deblock_model.specs.SquaresInside.{SameInside, OnlySquaresInsideCount, squares_with_vectors, DifferencesDoNotCount}
use Rattle.hv_deblock_model.proofs.LineLemmas.{line_same}
use Rattle.hv_types.proofs.SampleLemmas.{plane_same}

-- ---- one pass

-- two filters do the same at each edge of so many columns, in so many rows
abbrev SameFilter : ℕ → ℕ → EdgeFilter → EdgeFilter → Type 0
SameFilter columns rows f g =
    (k y : ℕ) (first last line : Line) → 0 < k → 8 * k < columns → y < rows →
    f k y first last line ≡ g k y first last line

-- by the test whether an edge is near
by_edge : (t : Bool) (a b c : ℕ) → (t ≡ true → a ≡ b) → cond t a c ≡ cond t b c
by_edge true a b c same = same refl
by_edge false a b c same = refl

pass_same_filter : (columns rows : ℕ) (f g : EdgeFilter) (s : Samples) (x y : ℕ) → y < rows →
    SameFilter columns rows f g → pass columns f s x y ≡ pass columns g s x y
pass_same_filter columns rows f g s x y down same =
    let k : ℕ = nearest_edge x in
    by_edge (nat_lt 0 k && nat_lt (8 * k) columns)
    (line_sample (filtered_line f s k y) ((x + 4) % 8))
    (line_sample (filtered_line g s k y) ((x + 4) % 8)) (s x y)
    (λ near.
    let both = and_parts (nat_lt 0 k) (nat_lt (8 * k) columns) near in
    ap (λ line. line_sample line ((x + 4) % 8))
    (same k y (line_at s k (first_of_four y)) (line_at s k (first_of_four y + 3)) (line_at s k y)
    (ltb-true 0 k both.0) (ltb-true (8 * k) columns both.1) down))

filter_same : (f : EdgeFilter) (k y : ℕ) (a b c d e g : Line) → a ≡ d → b ≡ e → c ≡ g →
    f k y a b c ≡ f k y d e g
filter_same f k y a b c d e g p q r = rw (p, q, r) refl

pass_same_samples : (columns : ℕ) (f : EdgeFilter) (s t : Samples) (x y : ℕ) →
    columns % 4 ≡ 0 → x < columns → ((a b : ℕ) → a < columns → s a b ≡ t a b) →
    pass columns f s x y ≡ pass columns f t x y
pass_same_samples columns f s t x y fours across same =
    let k : ℕ = nearest_edge x in
    let test : Bool = nat_lt 0 k && nat_lt (8 * k) columns in
    by_edge test
    (line_sample (filtered_line f s k y) ((x + 4) % 8))
    (line_sample (filtered_line f t k y) ((x + 4) % 8)) (s x y)
    (λ near.
    let both = and_parts (nat_lt 0 k) (nat_lt (8 * k) columns) near in
    let some : 0 < k = ltb-true 0 k both.0 in
    let inside : 8 * k < columns = ltb-true (8 * k) columns both.1 in
    let line : (b : ℕ) → line_at s k b ≡ line_at t k b = λ b.
    line_same s t k b some (λ a low high. same a b (omega (arith, inside, fours, high))) in
    ap (λ l. line_sample l ((x + 4) % 8))
    (filter_same f k y _ _ _ _ _ _ (line (first_of_four y)) (line (first_of_four y + 3))
    (line y))) ∙
    ap (cond test (line_sample (filtered_line f t k y) ((x + 4) % 8))) (same x y across)

-- ---- both passes

abbrev PassesAlike : ℕ → ℕ → (Squares → EdgeFilter) → Squares → Squares → Type 0
PassesAlike columns rows filter a b =
    (s : Samples) (x y : ℕ) → x < columns → y < rows →
    both_passes columns rows filter a s x y ≡ both_passes columns rows filter b s x y

passes_alike : (columns rows : ℕ) (filter : Squares → EdgeFilter) (a b : Squares) →
    SameFilter columns rows (filter a) (filter b) →
    SameFilter rows columns (filter (turned a)) (filter (turned b)) → rows % 4 ≡ 0 →
    PassesAlike columns rows filter a b
passes_alike columns rows filter a b upright level fours s x y across down =
    pass_same_samples rows (filter (turned a)) (turned (pass columns (filter a) s))
    (turned (pass columns (filter b) s)) y x fours down
    (λ m n inside. pass_same_filter columns rows (filter a) (filter b) s n m inside upright) ∙
    pass_same_filter rows columns (filter (turned a)) (filter (turned b))
    (turned (pass columns (filter b) s)) y x across level

plane_alike : (columns rows : ℕ) (filter : Squares → EdgeFilter) (a b : Squares)
    (plane : Plane) → plane.width ≡ columns → plane.height ≡ rows →
    PassesAlike columns rows filter a b →
    deblocked_plane filter a plane ≡ deblocked_plane filter b plane
plane_alike columns rows filter a b plane wide high alike =
    let here : PassesAlike plane.width plane.height filter a b =
    subst (λ c. PassesAlike c plane.height filter a b) (sym wide)
    (subst (λ r. PassesAlike columns r filter a b) (sym high) alike) in
    plane_same plane.width plane.height
    (both_passes plane.width plane.height filter a (sample_at plane))
    (both_passes plane.width plane.height filter b (sample_at plane))
    (here (sample_at plane))

-- ---- strengths

abbrev StrengthsAlike : ℕ → ℕ → Squares → Squares → Type 0
StrengthsAlike width height a b =
    (column row : ℕ) → 8 * column < width → 8 * row < height →
    edge_strength a column row ≡ edge_strength b column row

strength_same : (column row : ℕ) (p q r s : SquareCoding) → p ≡ r → q ≡ s →
    cond (nat_lt 0 column && is_transform_edge column q.unit.depth) (strength p q) 0 ≡
    cond (nat_lt 0 column && is_transform_edge column s.unit.depth) (strength r s) 0
strength_same column row p q r s e f = rw (e, f) refl

edge_same : (width height : ℕ) (a b : Squares) → SameInside width height a b →
    StrengthsAlike width height a b
edge_same width height a b same column row across down =
    strength_same column row (a (column - 1) row) (a column row) (b (column - 1) row)
    (b column row) (same (column - 1) row (omega (arith, across)) down)
    (same column row across down)

luma_same : (qp width height : ℕ) (a b : Squares) → StrengthsAlike width height a b →
    SameFilter width height (luma_filter qp a) (luma_filter qp b)
luma_same qp width height a b alike k y first last line some across down =
    ap (λ bS. luma_edge qp bS first last line)
    (alike k (y / 8) across (omega (arith, down)))

chroma_same : (qp width height : ℕ) (a b : Squares) → StrengthsAlike width height a b →
    SameFilter (width / 2) (height / 2) (chroma_filter qp a) (chroma_filter qp b)
chroma_same qp width height a b alike k y first last line some across down =
    ap (λ bS. chroma_edge qp bS line)
    (alike (2 * k) (y / 4) (omega (arith, across)) (omega (arith, down)))

strengths_count : (qp width height : ℕ) (a b : Squares) (picture : Picture) →
    width % 8 ≡ 0 → height % 8 ≡ 0 → IsPicture width height picture →
    StrengthsAlike width height a b → StrengthsAlike height width (turned a) (turned b) →
    deblocked_picture qp a picture ≡ deblocked_picture qp b picture
strengths_count qp width height a b picture wide high is upright level =
    let luma : PassesAlike width height (luma_filter qp) a b =
    passes_alike width height (luma_filter qp) a b (luma_same qp width height a b upright)
    (luma_same qp height width (turned a) (turned b) level) (omega (arith, high)) in
    let chroma : PassesAlike (width / 2) (height / 2) (chroma_filter qp) a b =
    passes_alike (width / 2) (height / 2) (chroma_filter qp) a b
    (chroma_same qp width height a b upright)
    (chroma_same qp height width (turned a) (turned b) level) (omega (arith, high)) in
    picture_same _ _ _ _ _ _
    (plane_alike width height (luma_filter qp) a b picture.luma is.luma.wide is.luma.high luma)
    (plane_alike (width / 2) (height / 2) (chroma_filter qp) a b picture.cb is.cb.wide is.cb.high
    chroma)
    (plane_alike (width / 2) (height / 2) (chroma_filter qp) a b picture.cr is.cr.wide is.cr.high
    chroma)

pub inside_counts : OnlySquaresInsideCount
inside_counts qp width height a b picture wide high is same =
    strengths_count qp width height a b picture wide high is (edge_same width height a b same)
    (edge_same height width (turned a) (turned b)
    (λ column row across down. same row column down across))

-- ---- differences of vectors

motion_moved : (p q : Pred) →
    motion_strength p q ≡ motion_strength (pred_with_vector p) (pred_with_vector q)
motion_moved (Intra mode) (Intra other) = refl
motion_moved (Intra mode) (Inter other vector other_flag other_mvd) = refl
motion_moved (Inter reference mv flag mvd) (Intra mode) = refl
motion_moved (Inter reference mv flag mvd) (Inter other vector other_flag other_mvd) = refl

edge_moved : (width height : ℕ) (squares : Squares) →
    StrengthsAlike width height squares (squares_with_vectors squares)
edge_moved width height squares column row across down =
    let p : SquareCoding = squares (column - 1) row in
    let q : SquareCoding = squares column row in
    ap (λ n. cond (nat_lt 0 column && is_transform_edge column q.unit.depth)
    (with_levels (p.has_levels || q.has_levels) n) 0) (motion_moved p.unit.pred q.unit.pred)

pub differences_do_not_count : DifferencesDoNotCount
differences_do_not_count qp width height squares picture wide high is =
    sym (strengths_count qp width height squares (squares_with_vectors squares) picture wide high
    is (edge_moved width height squares) (edge_moved height width (turned squares)))
