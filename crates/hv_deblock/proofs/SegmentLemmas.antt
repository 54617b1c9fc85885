-- Lines that are read from a plane while it is filtered, and edges that change nothing.
use Rattle.std.proofs.Common.{◌≡◌, ℕ, zero, suc, ◌+◌, ◌-◌, ◌*◌, ◌%◌, ◌<◌, ◌≤◌, Bool, true, false, cond, nat_eq, ◌&&◌, refl, sym, ◌∙◌, ap, subst, arith}
use Rattle.std.specs.Prelude.{not}
use Rattle.hv_lemmas.proofs.ComparisonLemmas.{other_than_0}
use Rattle.hv_types.specs.Samples.{Plane, IsWhole}
use Rattle.hv_tables.specs.Quantisers.{chroma_qp}
use Rattle.hv_deblock_model.specs.declared.line.Line.{Line}
use Rattle.hv_deblock_model.specs.EdgeFilters.{beta, tc, is_filtered, is_strong, is_smooth, strong_line, normal_line, chroma_line}
use Rattle.hv_deblock_model.specs.Deblocking.{Samples, line_at, line_sample}
use Rattle.hv_deblock.specs.declared.component.Component.{Component}
use Rattle.hv_deblock.specs.declared.component.Component.TheVariants.{Luma, Chroma}
use Rattle.hv_deblock.specs.Filled.{Direction}
use Rattle.hv_deblock.specs.Filled.{columns_of, rows_of, samples_of, IsFilled}
use Rattle.hv_deblock.specs.Lines.{KeepsOuter, lines_after}
use Rattle.hv_deblock.specs.Passes.{edge_line, edge_changes, segment_sample}
use Rattle.hv_deblock_model.proofs.LineLemmas.{line_same}
use Rattle.hv_deblock.proofs.LineLemmas.{first_of_cond, second_of_cond, and_false}
use Rattle.hv_deblock.proofs.FilledLemmas.{fill_below, fill_right, filled_same, kept_filled, no_rows}

-- a row below those that are filled is as before
pub line_below : (d : Direction) (k top bottom y : ℕ) (f : Samples) (old mid : Plane) → 0 < k → 8 * k + 3 < columns_of d old →
    bottom ≤ y → y < rows_of d old → IsFilled d (8 * k - 4) (8 * k + 4) top bottom f old mid →
    line_at (samples_of d mid) k y ≡ line_at (samples_of d old) k y
line_below d k top bottom y f old mid some across after down h =
    line_same (samples_of d mid) (samples_of d old) k y some
    (λ x from to. h.below x y after (omega (arith, to, across)) down)

-- one line more of four, of which all were read before
pub line_more : (d : Direction) (k top y next : ℕ) (after : Line → Line) (line new_line : Line) (old mid new : Plane) →
    top ≤ y → next ≡ y + 1 → line ≡ line_at (samples_of d old) k y → new_line ≡ after line →
    IsFilled d (8 * k - 4) (8 * k + 4) top y (lines_after after k (samples_of d old)) old mid →
    IsFilled d (8 * k - 4) (8 * k + 4) y (y + 1) (λ a b. line_sample new_line ((a + 4) % 8)) mid new →
    IsFilled d (8 * k - 4) (8 * k + 4) top next (lines_after after k (samples_of d old)) old new
line_more d k top y next after line new_line old mid new low is is_line is_new h g =
    let f : Samples = lines_after after k (samples_of d old) in
    subst (λ n. IsFilled d (8 * k - 4) (8 * k + 4) top n f old new) (sym is)
    (fill_below d (8 * k - 4) (8 * k + 4) top y (y + 1) f old mid new low (omega arith) h
    (filled_same d (8 * k - 4) (8 * k + 4) y (y + 1) (λ a b. line_sample new_line ((a + 4) % 8)) f mid new
    (λ a b from to up below column row.
    let same : b ≡ y = omega arith in
    ap (λ l. line_sample l ((a + 4) % 8)) (is_new ∙ ap after is_line) ∙ ap (f a) (sym same))
    g))

pub line_first : (d : Direction) (k top : ℕ) (after : Line → Line) (line new_line : Line) (old new : Plane) → IsWhole old →
    line ≡ line_at (samples_of d old) k top → new_line ≡ after line →
    IsFilled d (8 * k - 4) (8 * k + 4) top (top + 1) (λ a b. line_sample new_line ((a + 4) % 8)) old new →
    IsFilled d (8 * k - 4) (8 * k + 4) top (top + 1) (lines_after after k (samples_of d old)) old new
line_first d k top after line new_line old new whole is_line is_new g =
    line_more d k top top (top + 1) after line new_line old old new (omega arith) refl is_line is_new
    (no_rows d (lines_after after k (samples_of d old)) old (8 * k - 4) (8 * k + 4) top whole) g

-- the row that is put next is as it was read
pub keeps_later : (d : Direction) (m margin k top y : ℕ) (f : Samples) (line new_line : Line) (old mid : Plane) → m ≡ margin → 0 < k →
    8 * k + 3 < columns_of d old → y < rows_of d old → line ≡ line_at (samples_of d old) k y →
    IsFilled d (8 * k - 4) (8 * k + 4) top y f old mid → KeepsOuter margin line new_line →
    KeepsOuter m (line_at (samples_of d mid) k y) new_line
keeps_later d m margin k top y f line new_line old mid same some across down is_line h kept =
    subst (λ l. KeepsOuter m l new_line) (is_line ∙ sym (line_below d k top y y f old mid some across (omega arith) down h))
    (subst (λ n. KeepsOuter n line new_line) (sym same) kept)

-- lines that a filter was decided on for are a segment
pub lines_as_segment : (component : Component) (d : Direction) (qp bS k top bottom : ℕ) (after : Line → Line) (first last : Line) (old new : Plane) →
    first ≡ line_at (samples_of d old) k top → last ≡ line_at (samples_of d old) k (top + 3) →
    ((line : Line) → after line ≡ edge_line component qp bS first last line) →
    IsFilled d (8 * k - 4) (8 * k + 4) top bottom (lines_after after k (samples_of d old)) old new →
    IsFilled d (8 * k - 4) (8 * k + 4) top bottom (segment_sample component qp bS k top (samples_of d old)) old new
lines_as_segment component d qp bS k top bottom after first last old new is_first is_last same h =
    filled_same d (8 * k - 4) (8 * k + 4) top bottom (lines_after after k (samples_of d old))
    (segment_sample component qp bS k top (samples_of d old)) old new
    (λ x y from to up down column row.
    let line : Line = line_at (samples_of d old) k y in
    ap (λ l. line_sample l ((x + 4) % 8))
    (same line
    ∙ ap (λ l. edge_line component qp bS l last line) is_first
    ∙ ap (λ l. edge_line component qp bS (line_at (samples_of d old) k top) l line) is_last))
    h

-- the filters that are decided on
pub strong_edge : (qp bS : ℕ) (first last : Line) → 0 < bS → is_filtered (beta qp) first last ≡ true →
    is_strong (beta qp) (tc qp bS) first last ≡ true → (line : Line) → strong_line (tc qp bS) line ≡ edge_line Luma qp bS first last line
strong_edge qp bS first last some filtered strong line =
    sym (second_of_cond (nat_eq bS 0) line _ (other_than_0 bS some)
    ∙ first_of_cond (is_filtered (beta qp) first last) _ line filtered
    ∙ first_of_cond (is_strong (beta qp) (tc qp bS) first last) _ _ strong)

pub normal_edge : (qp bS : ℕ) (first last : Line) → 0 < bS → is_filtered (beta qp) first last ≡ true →
    is_strong (beta qp) (tc qp bS) first last ≡ false → (line : Line) →
    normal_line (tc qp bS) (is_smooth (beta qp) first.p last.p) (is_smooth (beta qp) first.q last.q) line ≡ edge_line Luma qp bS first last line
normal_edge qp bS first last some filtered weak line =
    sym (second_of_cond (nat_eq bS 0) line _ (other_than_0 bS some)
    ∙ first_of_cond (is_filtered (beta qp) first last) _ line filtered
    ∙ second_of_cond (is_strong (beta qp) (tc qp bS) first last) _ _ weak)

pub chroma_edge_2 : (qp bS : ℕ) (first last : Line) → bS ≡ 2 → (line : Line) →
    chroma_line (tc (chroma_qp qp) bS) line ≡ edge_line Chroma qp bS first last line
chroma_edge_2 qp bS first last is line = sym (first_of_cond (nat_eq bS 2) _ line (ap (λ b. nat_eq b 2) is))

pub unfiltered : (qp bS : ℕ) (first last : Line) → is_filtered (beta qp) first last ≡ false →
    edge_changes Luma qp bS first last ≡ false
unfiltered qp bS first last none = ap (λ b. not (nat_eq bS 0) && b) none ∙ and_false (not (nat_eq bS 0))

-- ---- edges that change nothing

either_way : (a b : Bool) (x y : Line) → (not a && b) ≡ false → cond a x (cond b y x) ≡ x
either_way true b x y none = refl
either_way false true x y none = absurd cc
either_way false false x y none = refl

pub unchanged_line : (component : Component) (qp bS : ℕ) (first last line : Line) → edge_changes component qp bS first last ≡ false →
    edge_line component qp bS first last line ≡ line
unchanged_line Luma qp bS first last line none = either_way (nat_eq bS 0) (is_filtered (beta qp) first last) line _ none
unchanged_line Chroma qp bS first last line none = second_of_cond (nat_eq bS 2) _ line none

-- the samples of a line stand where they came from
own_places : (s : Samples) (k y i : ℕ) → 0 < k → i < 8 → line_sample (line_at s k y) i ≡ s (8 * k - 4 + i) y
own_places s k y zero some less = ap (λ x. s x y) (omega arith)
own_places s k y (suc zero) some less = ap (λ x. s x y) (omega arith)
own_places s k y (suc (suc zero)) some less = ap (λ x. s x y) (omega arith)
own_places s k y (suc (suc (suc zero))) some less = ap (λ x. s x y) (omega arith)
own_places s k y (suc (suc (suc (suc zero)))) some less = ap (λ x. s x y) (omega arith)
own_places s k y (suc (suc (suc (suc (suc zero))))) some less = ap (λ x. s x y) (omega arith)
own_places s k y (suc (suc (suc (suc (suc (suc zero)))))) some less = ap (λ x. s x y) (omega arith)
own_places s k y (suc (suc (suc (suc (suc (suc (suc zero))))))) some less = ap (λ x. s x y) (omega arith)
own_places s k y (suc (suc (suc (suc (suc (suc (suc (suc i)))))))) some less = absurd (omega arith)

pub own_sample : (s : Samples) (k x y : ℕ) → 0 < k → 8 * k - 4 ≤ x → x < 8 * k + 4 → line_sample (line_at s k y) ((x + 4) % 8) ≡ s x y
own_sample s k x y some from to =
    own_places s k y ((x + 4) % 8) some (omega arith) ∙ ap (λ c. s c y) (omega (arith, some, from, to))

pub nothing_changes : (component : Component) (d : Direction) (qp bS k top bottom : ℕ) (first last : Line) (p : Plane) →
    first ≡ line_at (samples_of d p) k top → last ≡ line_at (samples_of d p) k (top + 3) → edge_changes component qp bS first last ≡ false →
    0 < k → IsWhole p → IsFilled d (8 * k - 4) (8 * k + 4) top bottom (segment_sample component qp bS k top (samples_of d p)) p p
nothing_changes component d qp bS k top bottom first last p is_first is_last none some whole = record {
  wide = refl;
  high = refl;
  whole = whole;
  inside = λ x y from to up down column row.
      sym (
      ap (λ l. line_sample l ((x + 4) % 8))
      (ap (λ l. edge_line component qp bS l (line_at (samples_of d p) k (top + 3)) (line_at (samples_of d p) k y)) (sym is_first)
      ∙ ap (λ l. edge_line component qp bS first l (line_at (samples_of d p) k y)) (sym is_last)
      ∙ unchanged_line component qp bS first last (line_at (samples_of d p) k y) none)
      ∙ own_sample (samples_of d p) k x y some from to);
  before = λ x y less column row. refl;
  behind = λ x y more column row. refl;
  above = λ x y less column row. refl;
  below = λ x y more column row. refl;
}

-- at strength 0 nothing changes
none_at_0 : (component : Component) (qp bS : ℕ) (first last : Line) → bS ≡ 0 → edge_changes component qp bS first last ≡ false
none_at_0 Luma qp bS first last none = ap (λ b. not (nat_eq b 0) && is_filtered (beta qp) first last) none
none_at_0 Chroma qp bS first last none = ap (λ b. nat_eq b 2) none

pub nothing_filtered : (component : Component) (d : Direction) (qp bS k top bottom : ℕ) (p : Plane) → bS ≡ 0 → 0 < k → IsWhole p →
    IsFilled d (8 * k - 4) (8 * k + 4) top bottom (segment_sample component qp bS k top (samples_of d p)) p p
nothing_filtered component d qp bS k top bottom p none some whole =
    nothing_changes component d qp bS k top bottom (line_at (samples_of d p) k top) (line_at (samples_of d p) k (top + 3)) p refl refl
    (none_at_0 component qp bS (line_at (samples_of d p) k top) (line_at (samples_of d p) k (top + 3)) none) some whole

-- ---- the outer samples of a line

-- the samples before those that are put
pub kept_left : (d : Direction) (margin k y : ℕ) (line : Line) (p : Plane) → margin ≤ 3 → 0 < k → IsWhole p →
    KeepsOuter margin (line_at (samples_of d p) k y) line →
    IsFilled d (8 * k - 4) (8 * k - 4 + margin) y (y + 1) (λ a b. line_sample line ((a + 4) % 8)) p p
kept_left d margin k y line p few some whole kept =
    kept_filled d (8 * k - 4) (8 * k - 4 + margin) y (λ a b. line_sample line ((a + 4) % 8)) p whole
    (λ x from to.
    let place : (x + 4) % 8 ≡ x - (8 * k - 4) = omega (arith, few, some, from, to) in
    ap (line_sample line) place
    ∙ (kept (x - (8 * k - 4)) (omega arith)).0
    ∙ ap (line_sample (line_at (samples_of d p) k y)) (sym place)
    ∙ own_sample (samples_of d p) k x y some from (omega (arith, few, to)))

-- and those behind them
pub kept_right : (d : Direction) (margin k y right : ℕ) (line : Line) (old new : Plane) → margin ≤ 3 → 0 < k →
    8 * k + 3 < columns_of d old → y < rows_of d old → right ≡ 8 * k + 4 - margin →
    KeepsOuter margin (line_at (samples_of d old) k y) line →
    IsFilled d (8 * k - 4) right y (y + 1) (λ a b. line_sample line ((a + 4) % 8)) old new →
    IsFilled d (8 * k - 4) (8 * k + 4) y (y + 1) (λ a b. line_sample line ((a + 4) % 8)) old new
kept_right d margin k y right line old new few some across down is kept h =
    let f : Samples = λ a b. line_sample line ((a + 4) % 8) in
    fill_right d (8 * k - 4) right (8 * k + 4) y (y + 1) f old new new (omega (arith, is, few, some)) (omega (arith, is)) h
    (kept_filled d right (8 * k + 4) y f new h.whole
    (λ x from to.
    let place : (x + 4) % 8 ≡ 7 - (8 * k + 3 - x) = omega (arith, few, some, is, from, to) in
    ap (line_sample line) place
    ∙ (kept (8 * k + 3 - x) (omega (arith, is, from, to, some, few))).1
    ∙ ap (line_sample (line_at (samples_of d old) k y)) (sym place)
    ∙ own_sample (samples_of d old) k x y some (omega (arith, is, from, few)) to
    ∙ sym (h.behind x y from (omega (arith, to, across)) down)))
