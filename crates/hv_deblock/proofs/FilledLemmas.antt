-- Planes of which rectangles are filled, one after another.
use Rattle.std.proofs.Common.{◌≡◌, ℕ, ◌+◌, ◌<◌, ◌≤◌, ⊎_elim, refl, sym, ◌∙◌, ap, ap₂, subst, arith}
use Rattle.std.proofs.lemmas.Bool.{cases_lt}
use Rattle.hv_types.specs.Samples.{Plane, IsWhole, sample_at, with_sample}
use Rattle.hv_types.proofs.SampleLemmas.{IsPlane-with_sample, sample_at-with_sample_same, sample_at-with_sample_other}
use Rattle.hv_deblock_model.specs.Deblocking.{Samples}
use Rattle.hv_deblock.specs.Filled.{Direction}
use Rattle.hv_deblock.specs.Filled.{Vertical, Horizontal}
use Rattle.hv_deblock.specs.Filled.{columns_of, rows_of, samples_of, with_sample_of, IsFilled}

pub columns_same : (d : Direction) (old new : Plane) → new.width ≡ old.width → new.height ≡ old.height → columns_of d new ≡ columns_of d old
columns_same Vertical old new wide high = wide
columns_same Horizontal old new wide high = high

pub rows_same : (d : Direction) (old new : Plane) → new.width ≡ old.width → new.height ≡ old.height → rows_of d new ≡ rows_of d old
rows_same Vertical old new wide high = high
rows_same Horizontal old new wide high = wide

whole_with : (p : Plane) (x y v : ℕ) → IsWhole p → IsWhole (with_sample p x y v)
whole_with p x y v whole = (IsPlane-with_sample p.width p.height x y v p (record { wide = refl; high = refl; whole = whole })).whole

-- one sample
pub one_filled : (d : Direction) (f : Samples) (p : Plane) (x y v : ℕ) → IsWhole p → x < columns_of d p → y < rows_of d p → v ≡ f x y →
    IsFilled d x (x + 1) y (y + 1) f p (with_sample_of d p x y v)
one_filled Vertical f p x y v whole across down is = record {
  wide = refl;
  high = refl;
  whole = whole_with p x y v whole;
  inside = λ a b from to top bottom column row.
      let same_x : a ≡ x = omega arith in
      let same_y : b ≡ y = omega arith in
      ap₂ (sample_at (with_sample p x y v)) same_x same_y
      ∙ sample_at-with_sample_same p x y v whole across down ∙ is ∙ sym (ap₂ f same_x same_y);
  before = λ a b less column row. sample_at-with_sample_other p x y v a b across column (λ e e₂. omega arith);
  behind = λ a b more column row. sample_at-with_sample_other p x y v a b across column (λ e e₂. omega arith);
  above = λ a b less column row. sample_at-with_sample_other p x y v a b across column (λ e e₂. omega arith);
  below = λ a b more column row. sample_at-with_sample_other p x y v a b across column (λ e e₂. omega arith);
}
one_filled Horizontal f p x y v whole across down is = record {
  wide = refl;
  high = refl;
  whole = whole_with p y x v whole;
  inside = λ a b from to top bottom column row.
      let same_x : a ≡ x = omega arith in
      let same_y : b ≡ y = omega arith in
      ap₂ (sample_at (with_sample p y x v)) same_y same_x
      ∙ sample_at-with_sample_same p y x v whole down across ∙ is ∙ sym (ap₂ f same_x same_y);
  before = λ a b less column row. sample_at-with_sample_other p y x v b a down row (λ e e₂. omega arith);
  behind = λ a b more column row. sample_at-with_sample_other p y x v b a down row (λ e e₂. omega arith);
  above = λ a b less column row. sample_at-with_sample_other p y x v b a down row (λ e e₂. omega arith);
  below = λ a b more column row. sample_at-with_sample_other p y x v b a down row (λ e e₂. omega arith);
}

-- nothing
pub no_columns : (d : Direction) (f : Samples) (p : Plane) (at top bottom : ℕ) → IsWhole p → IsFilled d at at top bottom f p p
no_columns d f p at top bottom whole = record {
  wide = refl;
  high = refl;
  whole = whole;
  inside = λ a b from to up down column row. absurd (omega arith);
  before = λ a b less column row. refl;
  behind = λ a b more column row. refl;
  above = λ a b less column row. refl;
  below = λ a b more column row. refl;
}

pub no_rows : (d : Direction) (f : Samples) (p : Plane) (left right at : ℕ) → IsWhole p → IsFilled d left right at at f p p
no_rows d f p left right at whole = record {
  wide = refl;
  high = refl;
  whole = whole;
  inside = λ a b from to up down column row. absurd (omega arith);
  before = λ a b less column row. refl;
  behind = λ a b more column row. refl;
  above = λ a b less column row. refl;
  below = λ a b more column row. refl;
}

-- a part of a row that is as it becomes
pub kept_filled : (d : Direction) (left right y : ℕ) (f : Samples) (p : Plane) → IsWhole p →
    ((x : ℕ) → left ≤ x → x < right → f x y ≡ samples_of d p x y) →
    IsFilled d left right y (y + 1) f p p
kept_filled d left right y f p whole same = record {
  wide = refl;
  high = refl;
  whole = whole;
  inside = λ a b from to up down column row.
      let is : b ≡ y = omega arith in
      ap (samples_of d p a) is ∙ sym (same a from to) ∙ sym (ap (f a) is);
  before = λ a b less column row. refl;
  behind = λ a b more column row. refl;
  above = λ a b less column row. refl;
  below = λ a b more column row. refl;
}

-- one rectangle at the right of another
pub fill_right : (d : Direction) (left middle right top bottom : ℕ) (f : Samples) (old mid new : Plane) → left ≤ middle → middle ≤ right →
    IsFilled d left middle top bottom f old mid → IsFilled d middle right top bottom f mid new → IsFilled d left right top bottom f old new
fill_right d left middle right top bottom f old mid new low high h k =
    let columns : (x : ℕ) → x < columns_of d old → x < columns_of d mid =
    λ x less. subst (λ n. x < n) (sym (columns_same d old mid h.wide h.high)) less in
    let rows : (y : ℕ) → y < rows_of d old → y < rows_of d mid =
    λ y less. subst (λ n. y < n) (sym (rows_same d old mid h.wide h.high)) less in
    record {
      wide = k.wide ∙ h.wide;
      high = k.high ∙ h.high;
      whole = k.whole;
      inside = λ x y from to up down column row.
          ⊎_elim
          (λ less. k.before x y less (columns x column) (rows y row) ∙ h.inside x y from less up down column row)
          (λ more. k.inside x y more to up down (columns x column) (rows y row))
          (cases_lt x middle);
      before = λ x y less column row. k.before x y (omega arith) (columns x column) (rows y row) ∙ h.before x y less column row;
      behind = λ x y more column row. k.behind x y more (columns x column) (rows y row) ∙ h.behind x y (omega arith) column row;
      above = λ x y less column row. k.above x y less (columns x column) (rows y row) ∙ h.above x y less column row;
      below = λ x y more column row. k.below x y more (columns x column) (rows y row) ∙ h.below x y more column row;
    }

-- one below another
pub fill_below : (d : Direction) (left right top middle bottom : ℕ) (f : Samples) (old mid new : Plane) → top ≤ middle → middle ≤ bottom →
    IsFilled d left right top middle f old mid → IsFilled d left right middle bottom f mid new → IsFilled d left right top bottom f old new
fill_below d left right top middle bottom f old mid new low high h k =
    let columns : (x : ℕ) → x < columns_of d old → x < columns_of d mid =
    λ x less. subst (λ n. x < n) (sym (columns_same d old mid h.wide h.high)) less in
    let rows : (y : ℕ) → y < rows_of d old → y < rows_of d mid =
    λ y less. subst (λ n. y < n) (sym (rows_same d old mid h.wide h.high)) less in
    record {
      wide = k.wide ∙ h.wide;
      high = k.high ∙ h.high;
      whole = k.whole;
      inside = λ x y from to up down column row.
          ⊎_elim
          (λ less. k.above x y less (columns x column) (rows y row) ∙ h.inside x y from to up less column row)
          (λ more. k.inside x y from to more down (columns x column) (rows y row))
          (cases_lt y middle);
      before = λ x y less column row. k.before x y less (columns x column) (rows y row) ∙ h.before x y less column row;
      behind = λ x y more column row. k.behind x y more (columns x column) (rows y row) ∙ h.behind x y more column row;
      above = λ x y less column row. k.above x y (omega arith) (columns x column) (rows y row) ∙ h.above x y less column row;
      below = λ x y more column row. k.below x y more (columns x column) (rows y row) ∙ h.below x y (omega arith) column row;
    }

-- with the same samples, said in another way
pub filled_same : (d : Direction) (left right top bottom : ℕ) (f g : Samples) (old new : Plane) →
    ((x y : ℕ) → left ≤ x → x < right → top ≤ y → y < bottom → x < columns_of d old → y < rows_of d old → f x y ≡ g x y) →
    IsFilled d left right top bottom f old new → IsFilled d left right top bottom g old new
filled_same d left right top bottom f g old new same h = record {
  wide = h.wide;
  high = h.high;
  whole = h.whole;
  inside = λ x y from to up down column row. h.inside x y from to up down column row ∙ same x y from to up down column row;
  before = h.before;
  behind = h.behind;
  above = h.above;
  below = h.below;
}

-- one sample more in a row
pub sample_more : (d : Direction) (left right next y v : ℕ) (f : Samples) (old new : Plane) → left ≤ right → next ≡ right + 1 →
    right < columns_of d old → y < rows_of d old → v ≡ f right y → IsFilled d left right y (y + 1) f old new →
    IsFilled d left next y (y + 1) f old (with_sample_of d new right y v)
sample_more d left right next y v f old new low is across down same h =
    subst (λ n. IsFilled d left n y (y + 1) f old (with_sample_of d new right y v)) (sym is)
    (fill_right d left right (right + 1) y (y + 1) f old new (with_sample_of d new right y v) low (omega arith) h
    (one_filled d f new right y v h.whole
    (subst (λ n. right < n) (sym (columns_same d old new h.wide h.high)) across)
    (subst (λ n. y < n) (sym (rows_same d old new h.wide h.high)) down) same))
