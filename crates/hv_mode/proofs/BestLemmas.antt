-- What is chosen of a node, by the tests of the definition: outside the picture, across its edge,
-- and inside of it, where little or more is tried.
use Rattle.std.proofs.Common.{◌≡◌, ℕ, zero, suc, ◌+◌, ◌-◌, ◌%◌, ◌<◌, ◌≤◌, true, false, refl, sym, ap, arith}
use Rattle.std.specs.Prelude.{nat_eq}
use Rattle.std.proofs.Math.Pow.{pow_mono}
use Rattle.std.proofs.lemmas.Bool.{true≢false}
use Rattle.std.proofs.lemmas.Bool.Decides.{nat_tests}
use Rattle.hv_tree_model.specs.Trees.{Outside, side}
use Rattle.hv_tree_model.specs.Sites.{Site, x0, y0, is_outside, crosses, must_split}
use Rattle.hv_mode_model.specs.ModeDecision.{Given, Before, best, chosen, split_of}
use Rattle.hv_mode.specs.declared.task.Task.{Task}
use Rattle.hv_mode.specs.Nodes.{given_of, blank_choice}
use Rattle.hv_mode.specs.SplitNodes.{split_choice, tried_choice}

-- ---- the tests

some_side : (size : ℕ) → 0 < side size
some_side size = let h = pow_mono {i = 0} {j = size} (omega arith) in omega (arith, h)

-- a node that lies in the picture begins there, and doesn't cross its edge
pub begins_inside : (site : Site) (size address : ℕ) → x0 site address + side size ≤ site.width →
    y0 site address + side size ≤ site.height → is_outside site address ≡ false
unfolding is_outside
begins_inside site size address right bottom =
    let some = some_side size in grind (arith, nat_tests)

pub not_split : (site : Site) (size address : ℕ) → x0 site address + side size ≤ site.width →
    y0 site address + side size ≤ site.height → must_split site size address ≡ false
unfolding crosses
not_split site zero address right bottom = refl
not_split site (suc size) address right bottom = grind (arith, nat_tests)

-- and the other way round, where the picture has whole squares
pub fits_across : (site : Site) (size address : ℕ) → site.width % 8 ≡ 0 →
    is_outside site address ≡ false → must_split site size address ≡ false →
    x0 site address + side size ≤ site.width
unfolding is_outside crosses
fits_across site zero address whole inside fits =
    let left : x0 site address < site.width = grind (arith, nat_tests, inside) in
    omega (arith, left, whole)
fits_across site (suc size) address whole inside fits = grind (arith, nat_tests, fits)

pub fits_down : (site : Site) (size address : ℕ) → site.height % 8 ≡ 0 →
    is_outside site address ≡ false → must_split site size address ≡ false →
    y0 site address + side size ≤ site.height
unfolding is_outside crosses
fits_down site zero address whole inside fits =
    let top : y0 site address < site.height = grind (arith, nat_tests, inside) in
    omega (arith, top, whole)
fits_down site (suc size) address whole inside fits = grind (arith, nat_tests, fits)

-- ---- the choice

pub best_outside : (g : Given) (size address : ℕ) (before : Before) →
    is_outside g.surroundings.site address ≡ true → best g size address before ≡ Outside
unfolding best
best_outside g zero address before outside = rw outside refl
best_outside g (suc size) address before outside = rw outside refl

module _ (t : Task) (address : ℕ) (before : Before) (inside : is_outside t.place address ≡ false)
  where
    -- a split by the size below
    split_above : (size : ℕ) →
        split_choice t (suc size) address before ≡
        split_of (given_of t) size address before (best (given_of t) size)
    split_above size =
        let below : suc size - 1 ≡ size = omega arith in
        ap (λ k. split_of (given_of t) k address before (best (given_of t) k)) below

    pub best_forced : (size : ℕ) → must_split t.place size address ≡ true →
        best (given_of t) size address before ≡ split_choice t size address before
    unfolding best
    best_forced zero must = absurd (true≢false (sym must))
    best_forced (suc size) must = rw (inside, must) (sym (split_above size))

    pub best_blank : (size : ℕ) → must_split t.place size address ≡ false → t.effort ≡ 0 →
        best (given_of t) size address before ≡ blank_choice size before
    unfolding best chosen
    best_blank zero whole none = rw (inside, none) refl
    best_blank (suc size) whole none = rw (inside, whole, none) refl

    pub best_tried : 0 < t.effort → (size : ℕ) → must_split t.place size address ≡ false →
        best (given_of t) size address before ≡ tried_choice t size address before
    unfolding best chosen
    best_tried some zero whole =
        let tries : nat_eq t.effort 0 ≡ false = grind (arith, nat_tests) in rw (inside, tries) refl
    best_tried some (suc size) whole =
        let tries : nat_eq t.effort 0 ≡ false = grind (arith, nat_tests) in
        rw (inside, whole, tries) refl
