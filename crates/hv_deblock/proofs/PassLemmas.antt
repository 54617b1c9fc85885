-- A pass of the code, segment after segment, is the pass of the formulas: no segment reads what
-- another one writes (8.7.2).
use Rattle.std.proofs.Common.{◌≡◌, ℕ, ◌+◌, ◌-◌, ◌*◌, ◌/◌, ◌%◌, ◌<◌, ◌≤◌, true, false, cond, nat_lt, ◌&&◌, ⊎_elim, refl, sym, ◌∙◌, ap, ap₂, subst, arith}
use Rattle.std.proofs.lemmas.Bool.{cases_lt, eqb-true}
use Rattle.hv_lemmas.proofs.ComparisonLemmas.{lt_below, lt_not_below, lt_zero}
use Rattle.hv_types.specs.Samples.{Plane, IsWhole}
use Rattle.hv_deblock_model.specs.declared.line.Line.{Line}
use Rattle.hv_deblock_model.specs.EdgeStrength.{Squares, edge_strength}
use Rattle.hv_deblock_model.specs.EdgeFilters.{beta, line_curvature, is_filtered, luma_edge, chroma_edge}
use Rattle.hv_deblock_model.specs.Deblocking.{Samples, EdgeFilter, line_at, line_sample, nearest_edge, first_of_four, filtered_line, pass}
use Rattle.hv_deblock.specs.declared.component.Component.{Component}
use Rattle.hv_deblock.specs.declared.component.Component.TheVariants.{Luma, Chroma}
use Rattle.hv_deblock.specs.Filled.{Direction}
use Rattle.hv_deblock.specs.Filled.{columns_of, rows_of, samples_of, IsFilled, IsTurnedInto}
use Rattle.hv_deblock.specs.Passes.{edge_line, segment_sample, filter_of, strength_of_four, IsCarried, is_still, scale}
use Rattle.hv_deblock.proofs.LineLemmas.{first_of_cond, second_of_cond, and_false}
use Rattle.hv_deblock_model.proofs.LineLemmas.{line_same}
use Rattle.hv_deblock.proofs.SegmentLemmas.{line_below, unchanged_line, unfiltered, own_sample}
use Rattle.hv_deblock.proofs.FilledLemmas.{columns_same, rows_same, fill_below, fill_right, filled_same}

-- ---- a segment is a part of the pass

-- the strength of four rows is that of each
strength_of_row : (component : Component) (qp : ℕ) (squares : Squares) (k four y : ℕ) (first last line : Line) → 4 * four ≤ y → y < 4 * four + 4 →
    filter_of component qp squares k y first last line ≡ edge_line component qp (strength_of_four component squares k four) first last line
strength_of_row Luma qp squares k four y first last line from to =
    ap (λ r. luma_edge qp (edge_strength squares k r) first last line) (omega arith)
strength_of_row Chroma qp squares k four y first last line from to =
    ap (λ r. chroma_edge qp (edge_strength squares (2 * k) r) line) (omega arith)

-- the pass beside an edge
pass_beside : (columns : ℕ) (edge : EdgeFilter) (s : Samples) (k x y : ℕ) → 0 < k → 8 * k < columns → 8 * k - 4 ≤ x → x < 8 * k + 4 →
    pass columns edge s x y ≡ line_sample (filtered_line edge s k y) ((x + 4) % 8)
pass_beside columns edge s k x y some inside from to =
    let here : nearest_edge x ≡ k = omega (arith, some, from, to) in
    ap (λ e. cond (nat_lt 0 e && nat_lt (8 * e) columns) (line_sample (filtered_line edge s e y) ((x + 4) % 8)) (s x y)) here
    ∙ first_of_cond (nat_lt 0 k && nat_lt (8 * k) columns) _ (s x y)
    (ap₂ (λ a b. a && b) (lt_below 0 k some) (lt_below (8 * k) columns inside))

pub segment_of_pass : (component : Component) (qp columns : ℕ) (squares : Squares) (s : Samples) (k four x y : ℕ) → 0 < k → 8 * k < columns →
    8 * k - 4 ≤ x → x < 8 * k + 4 → 4 * four ≤ y → y < 4 * four + 4 →
    segment_sample component qp (strength_of_four component squares k four) k (4 * four) s x y ≡ pass columns (filter_of component qp squares) s x y
segment_of_pass component qp columns squares s k four x y some inside from to up down =
    let first : 4 * four ≡ first_of_four y = omega (arith, up, down) in
    sym (
    pass_beside columns (filter_of component qp squares) s k x y some inside from to
    ∙ ap (λ l. line_sample l ((x + 4) % 8))
    (ap (λ t. filter_of component qp squares k y (line_at s k t) (line_at s k (t + 3)) (line_at s k y)) (sym first)
    ∙ strength_of_row component qp squares k four y (line_at s k (4 * four)) (line_at s k (4 * four + 3)) (line_at s k y) up down))

-- the strength of two fours of one square
pub carried_first : (component : Component) (squares : Squares) (k above : ℕ) → IsCarried component squares k 0 above
carried_first Luma squares k above = λ second. absurd (grind (arith, second))
carried_first Chroma squares k above = λ second. absurd (grind (arith, second))

pub carried_on : (component : Component) (squares : Squares) (k four next above : ℕ) → next ≡ four + 1 →
    above ≡ strength_of_four component squares k four → IsCarried component squares k next above
carried_on Luma squares k four next above is same = λ second.
    let odd : next % 2 ≡ 1 = eqb-true (next % 2) 1 second in
    same ∙ ap (edge_strength squares k) (omega (arith, odd, is))
carried_on Chroma squares k four next above is same = λ second. absurd (grind (arith, second))

-- a segment below those that are filtered
pub four_more : (component : Component) (d : Direction) (qp bS : ℕ) (squares : Squares) (k four top bottom : ℕ) (old mid new : Plane) →
    bS ≡ strength_of_four component squares k four →
    0 < k → 8 * k + 3 < columns_of d old → top ≡ 4 * four → bottom ≡ 4 * four + 4 → 4 * four + 3 < rows_of d old →
    IsFilled d (8 * k - 4) (8 * k + 4) 0 top (pass (columns_of d old) (filter_of component qp squares) (samples_of d old)) old mid →
    IsFilled d (8 * k - 4) (8 * k + 4) (4 * four) (4 * four + 4)
    (segment_sample component qp bS k (4 * four) (samples_of d mid)) mid new →
    IsFilled d (8 * k - 4) (8 * k + 4) 0 bottom (pass (columns_of d old) (filter_of component qp squares) (samples_of d old)) old new
four_more component d qp bS squares k four top bottom old mid new is_strength some across at is down h g =
    let f : Samples = pass (columns_of d old) (filter_of component qp squares) (samples_of d old) in
    let same : (y : ℕ) → 4 * four ≤ y → y < rows_of d old → line_at (samples_of d mid) k y ≡ line_at (samples_of d old) k y =
    λ y after within. line_below d k 0 top y f old mid some across (omega (arith, at, after)) within h in
    subst (λ n. IsFilled d (8 * k - 4) (8 * k + 4) 0 n f old new) (sym is)
    (fill_below d (8 * k - 4) (8 * k + 4) 0 (4 * four) (4 * four + 4) f old mid new (omega arith) (omega arith)
    (subst (λ n. IsFilled d (8 * k - 4) (8 * k + 4) 0 n f old mid) at h)
    (filled_same d (8 * k - 4) (8 * k + 4) (4 * four) (4 * four + 4)
    (segment_sample component qp bS k (4 * four) (samples_of d mid)) f mid new
    (λ x y from to up below column row.
    let within : y < rows_of d old = subst (λ n. y < n) (rows_same d old mid h.wide h.high) row in
    ap (λ l. line_sample (edge_line component qp bS l (line_at (samples_of d mid) k (4 * four + 3)) (line_at (samples_of d mid) k y)) ((x + 4) % 8))
    (same (4 * four) (omega arith) (omega (arith, down)))
    ∙ ap (λ l. line_sample (edge_line component qp bS (line_at (samples_of d old) k (4 * four)) l (line_at (samples_of d mid) k y)) ((x + 4) % 8))
    (same (4 * four + 3) (omega arith) down)
    ∙ ap (λ l. line_sample (edge_line component qp bS (line_at (samples_of d old) k (4 * four)) (line_at (samples_of d old) k (4 * four + 3)) l) ((x + 4) % 8))
    (same y up within)
    ∙ ap (λ b. segment_sample component qp b k (4 * four) (samples_of d old) x y) is_strength
    ∙ segment_of_pass component qp (columns_of d old) squares (samples_of d old) k four x y some (omega (arith, across)) from to up below)
    g))

-- ---- edges of the pass

-- two components that are alike around an edge are filtered alike there
pub pass_alike : (columns rows : ℕ) (edge : EdgeFilter) (s t : Samples) (k x y : ℕ) → 0 < k → 8 * k < columns → 8 * k - 4 ≤ x → x < 8 * k + 4 →
    y < rows → rows % 4 ≡ 0 → ((a b : ℕ) → 8 * k - 4 ≤ a → a < 8 * k + 4 → b < rows → s a b ≡ t a b) →
    pass columns edge s x y ≡ pass columns edge t x y
pass_alike columns rows edge s t k x y some inside from to down fours same =
    let line : (b : ℕ) → b < rows → line_at s k b ≡ line_at t k b = λ b below. line_same s t k b some (λ a low high. same a b low high below) in
    let first : line_at s k (first_of_four y) ≡ line_at t k (first_of_four y) = line (first_of_four y) (omega (arith, down)) in
    let last : line_at s k (first_of_four y + 3) ≡ line_at t k (first_of_four y + 3) = line (first_of_four y + 3) (omega (arith, down, fours)) in
    pass_beside columns edge s k x y some inside from to
    ∙ ap (λ l. line_sample (edge k y l (line_at s k (first_of_four y + 3)) (line_at s k y)) ((x + 4) % 8)) first
    ∙ ap (λ l. line_sample (edge k y (line_at t k (first_of_four y)) l (line_at s k y)) ((x + 4) % 8)) last
    ∙ ap (λ l. line_sample (edge k y (line_at t k (first_of_four y)) (line_at t k (first_of_four y + 3)) l) ((x + 4) % 8)) (line y down)
    ∙ sym (pass_beside columns edge t k x y some inside from to)

-- an edge at the right of those that are filtered
pub edge_more : (d : Direction) (edge : EdgeFilter) (k left right : ℕ) (old mid new : Plane) → 0 < k → 8 * k + 3 < columns_of d old →
    left ≡ 8 * k - 4 → right ≡ 8 * k + 4 → rows_of d old % 4 ≡ 0 →
    IsFilled d 4 left 0 (rows_of d old) (pass (columns_of d old) edge (samples_of d old)) old mid →
    IsFilled d (8 * k - 4) (8 * k + 4) 0 (rows_of d mid) (pass (columns_of d mid) edge (samples_of d mid)) mid new →
    IsFilled d 4 right 0 (rows_of d old) (pass (columns_of d old) edge (samples_of d old)) old new
edge_more d edge k left right old mid new some across at is fours h g =
    let f : Samples = pass (columns_of d old) edge (samples_of d old) in
    let columns : columns_of d mid ≡ columns_of d old = columns_same d old mid h.wide h.high in
    let rows : rows_of d mid ≡ rows_of d old = rows_same d old mid h.wide h.high in
    subst (λ n. IsFilled d 4 n 0 (rows_of d old) f old new) (sym is)
    (fill_right d 4 (8 * k - 4) (8 * k + 4) 0 (rows_of d old) f old mid new (omega (arith, some)) (omega arith)
    (subst (λ n. IsFilled d 4 n 0 (rows_of d old) f old mid) at h)
    (subst (λ n. IsFilled d (8 * k - 4) (8 * k + 4) 0 n f mid new) rows
    (filled_same d (8 * k - 4) (8 * k + 4) 0 (rows_of d mid) (pass (columns_of d mid) edge (samples_of d mid)) f mid new
    (λ x y from to up down column row.
    ap (λ n. pass n edge (samples_of d mid) x y) columns
    ∙ pass_alike (columns_of d old) (rows_of d old) edge (samples_of d mid) (samples_of d old) k x y some (omega (arith, across)) from to
    (subst (λ n. y < n) rows row) fours
    (λ a b low high below. h.behind a b (omega (arith, at, low)) (omega (arith, high, across)) below))
    g)))

-- ---- the whole pass

-- no edge at the borders
pub outside_edges : (columns : ℕ) (edge : EdgeFilter) (s : Samples) (x y : ℕ) → nearest_edge x ≡ 0 → pass columns edge s x y ≡ s x y
outside_edges columns edge s x y none =
    second_of_cond (nat_lt 0 (nearest_edge x) && nat_lt (8 * nearest_edge x) columns) _ (s x y)
    (ap (λ e. nat_lt 0 e && nat_lt (8 * e) columns) none)

pub behind_edges : (columns : ℕ) (edge : EdgeFilter) (s : Samples) (x y : ℕ) → columns ≤ 8 * nearest_edge x → pass columns edge s x y ≡ s x y
behind_edges columns edge s x y more =
    second_of_cond (nat_lt 0 (nearest_edge x) && nat_lt (8 * nearest_edge x) columns) _ (s x y)
    (ap (λ b. nat_lt 0 (nearest_edge x) && b) (lt_not_below (8 * nearest_edge x) columns more) ∙ and_false (nat_lt 0 (nearest_edge x)))

pub all_edges : (d : Direction) (edge : EdgeFilter) (k : ℕ) (old new : Plane) → 0 < k → columns_of d old ≤ 8 * k →
    IsFilled d 4 (8 * k - 4) 0 (rows_of d old) (pass (columns_of d old) edge (samples_of d old)) old new →
    IsTurnedInto d (pass (columns_of d old) edge (samples_of d old)) old new
all_edges d edge k old new some all h = record {
  wide = h.wide;
  high = h.high;
  whole = h.whole;
  samples = λ x y column row.
      ⊎_elim
      (λ less. h.before x y less column row ∙ sym (outside_edges (columns_of d old) edge (samples_of d old) x y (omega (arith, less))))
      (λ more.
      ⊎_elim
      (λ inside. h.inside x y more inside (omega arith) row column row)
      (λ behind. h.behind x y behind column row ∙ sym (behind_edges (columns_of d old) edge (samples_of d old) x y (omega (arith, behind, all, some))))
      (cases_lt x (8 * k - 4)))
      (cases_lt x 4);
}

-- ---- a pass that changes nothing

still_line : (component : Component) (qp : ℕ) (squares : Squares) (k y : ℕ) (first last line : Line) → is_still component qp ≡ true →
    filter_of component qp squares k y first last line ≡ line
still_line Luma qp squares k y first last line still =
    let none : is_filtered (beta qp) first last ≡ false =
    ap (λ b. is_filtered b first last) (eqb-true (beta qp) 0 still) ∙ lt_zero (line_curvature first + line_curvature last) in
    let bS : ℕ = edge_strength squares k (y / 8) in
    unchanged_line Luma qp bS first last line (unfiltered qp bS first last none)
still_line Chroma qp squares k y first last line still = absurd (grind (arith, still))

still_sample : (component : Component) (qp columns : ℕ) (squares : Squares) (s : Samples) (x y : ℕ) → is_still component qp ≡ true →
    pass columns (filter_of component qp squares) s x y ≡ s x y
still_sample component qp columns squares s x y still =
    let edge : EdgeFilter = filter_of component qp squares in
    let k : ℕ = nearest_edge x in
    ⊎_elim
    (λ less. outside_edges columns edge s x y (omega (arith, less)))
    (λ more.
    ⊎_elim
    (λ inside.
    let some : 0 < k = omega (arith, more) in
    pass_beside columns edge s k x y some inside (omega (arith, more)) (omega (arith, more))
    ∙ ap (λ l. line_sample l ((x + 4) % 8))
    (still_line component qp squares k y (line_at s k (first_of_four y)) (line_at s k (first_of_four y + 3)) (line_at s k y) still)
    ∙ own_sample s k x y some (omega (arith, more)) (omega (arith, more)))
    (λ behind. behind_edges columns edge s x y behind)
    (cases_lt (8 * k) columns))
    (cases_lt x 4)

pub still_pass : (component : Component) (d : Direction) (qp : ℕ) (squares : Squares) (p : Plane) → is_still component qp ≡ true → IsWhole p →
    IsTurnedInto d (pass (columns_of d p) (filter_of component qp squares) (samples_of d p)) p p
still_pass component d qp squares p still whole = record {
  wide = refl;
  high = refl;
  whole = whole;
  samples = λ x y column row. sym (still_sample component qp (columns_of d p) squares (samples_of d p) x y still);
}

-- ---- sides

by_fours : (component : Component) (n : ℕ) → scale component * n % 4 ≡ 0
by_fours Luma n = omega arith
by_fours Chroma n = omega arith

pub side_by_fours : (component : Component) (side n : ℕ) → side ≡ scale component * n → side % 4 ≡ 0
side_by_fours component side n is = ap (λ s. s % 4) is ∙ by_fours component n
