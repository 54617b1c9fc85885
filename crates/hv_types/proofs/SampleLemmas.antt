-- Planes made from a function of column and row: padding, cropping, and their samples.
use Rattle.std.proofs.Common.{◌≡◌, ℕ, zero, suc, ◌+◌, ◌-◌, ◌*◌, ◌/◌, ◌%◌, ◌<◌, ◌≤◌, List, [], ◌∷◌, ◌++◌, length, get_or, replicate, min, slice_range, ⊎_elim, append-nil, append_assoc, refl, sym, ◌∙◌, ap, ap₂, subst, mul_comm, arith, length-append}
use Rattle.std.specs.List.{concat}
use Rattle.std.proofs.lemmas.List.{get_or_append_left, get_or-append_right, same_lists, get_or_default, get_or_past, get_or-set_same, get_or-set_other, length-set, get_or-replicate, length-replicate}
use Rattle.std.proofs.lemmas.Nat.{div_below, mod_below, mul-add-lt, same_from_place, row_fits_turned, div-add-mod'}
use Rattle.std.proofs.lemmas.Bool.{cases_lt}
use Rattle.std.proofs.lemmas.List.Elements.{All-append}
use Rattle.std.specs.Prelude.{All}
use Rattle.std.proofs.lemmas.List.Edits.{length-between, get_or-between}
use Rattle.hv_lemmas.specs.Lists.{tabulate}
use Rattle.hv_lemmas.proofs.ListLemmas.{length-tabulate, get_or-tabulate, tabulate_push, tabulate-same}
use Rattle.hv_types.specs.Samples.{Plane, IsWhole, IsPlane, HasByteSamples, lengthened_row, sample_at, row_of, with_sample, plane_of, filled_plane, pad_plane, crop_plane, plane_by_rows}

pub length-rows : (w h : ℕ) (f : ℕ → ℕ → ℕ) → length
    (concat (tabulate h (λ y. tabulate w (λ x. f x y)))) ≡ w * h
unfolding tabulate
length-rows w zero f = omega arith
length-rows w (suc h) f =
    omega (
      arith,
      length-append (tabulate w (λ x. f x 0))
          (concat (tabulate h (λ y. tabulate w (λ x. f x (suc y))))),
      length-tabulate w (λ x. f x 0),
      length-rows w h (λ x y. f x (suc y)),
    )

pub get_or-rows : (w h x y i : ℕ) (f : ℕ → ℕ → ℕ) → x < w → y < h → i ≡ y * w + x → get_or
    (concat (tabulate h (λ v. tabulate w (λ u. f u v)))) i 0 ≡ f x y
unfolding tabulate
get_or-rows w zero x y i f across down at = absurd (omega arith)
get_or-rows w (suc h) x zero i f across down at =
    let here : i ≡ x = omega arith in
    let size : length (tabulate w (λ u. f u 0)) ≡ w = length-tabulate w (λ u. f u 0) in
    get_or_append_left (tabulate w (λ u. f u 0))
    (concat (tabulate h (λ v. tabulate w (λ u. f u (suc v))))) 0 i (omega arith)
    ∙ ap (λ k. get_or (tabulate w (λ u. f u 0)) k 0) here
    ∙ get_or-tabulate w x (λ u. f u 0) 0 across
get_or-rows w (suc h) x (suc y) i f across down at =
    let size : length (tabulate w (λ u. f u 0)) ≡ w = length-tabulate w (λ u. f u 0) in
    get_or-append_right (tabulate w (λ u. f u 0))
    (concat (tabulate h (λ v. tabulate w (λ u. f u (suc v))))) w i 0 size (omega arith)
    ∙ get_or-rows w h x y (i - w) (λ u v. f u (suc v)) across (omega arith) (omega arith)

-- a list by rows is known by what stands in each column of each row
pub rows_are : (w h : ℕ) (f : ℕ → ℕ → ℕ) (xs : List ℕ) → 0 < w → length xs ≡ w * h →
    ((x y : ℕ) → x < w → y < h → get_or xs (y * w + x) 0 ≡ f x y) → xs ≡ concat
    (tabulate h (λ y. tabulate w (λ x. f x y)))
rows_are w h f xs wide count each =
    let size : length (concat (tabulate h (λ y. tabulate w (λ x. f x y)))) ≡ w * h = length-rows w h
    f in
    same_lists xs (concat (tabulate h (λ y. tabulate w (λ x. f x y)))) (count ∙ sym size)
    (λ k d within.
    let across : k % w < w = mod_below k w wide in
    let down : k / w < h = div_below k w h wide (omega (arith, mul_comm w h)) in
    let at : k ≡ k / w * w + k % w = sym (div-add-mod' k w) in
    get_or_default xs k d 0 within
    ∙ ap (λ i. get_or xs i 0) at
    ∙ each (k % w) (k / w) across down
    ∙ sym (get_or-rows w h (k % w) (k / w) k f across down at)
    ∙ get_or_default (concat (tabulate h (λ y. tabulate w (λ x. f x y)))) k 0 d (omega arith))

pub sample_at-plane_of : (w h x y : ℕ) (f : ℕ → ℕ → ℕ) → x < w → y < h → sample_at (plane_of w h f)
    x y ≡ f x y
sample_at-plane_of w h x y f across down = get_or-rows w h x y (y * w + x) f across down refl

pub IsPlane-plane_of : (w h : ℕ) (f : ℕ → ℕ → ℕ) → 0 < w → 0 < h → IsPlane w h (plane_of w h f)
IsPlane-plane_of w h f wide high =
    record {
      wide = refl;
      high = refl;
      whole = record
          { count = length-rows w h f; wide = wide; high = high };
    }

-- a plane is known by its sides and its samples
pub plane_is : (w h : ℕ) (f : ℕ → ℕ → ℕ) (p : Plane) → IsPlane w h p →
    ((x y : ℕ) → x < w → y < h → sample_at p x y ≡ f x y) → p ≡ plane_of w h f
plane_is w h f p it each =
    let size : length p.samples ≡ w * h = it.whole.count ∙ ap₂ (λ a b. a * b) it.wide it.high in
    let wide : 0 < w = subst (λ n. 0 < n) it.wide it.whole.wide in
    let samples : p.samples ≡ concat (tabulate h (λ y. tabulate w (λ x. f x y))) =
    rows_are w h f p.samples wide size
    (λ x y across down. ap (λ n. get_or p.samples (y * n + x) 0) (sym it.wide) ∙ each x y across
    down) in
    let made : (a b : ℕ) (s : List ℕ) → a ≡ w → b ≡ h → s ≡ concat
    (tabulate h (λ y. tabulate w (λ x. f x y))) → record
    { width = a; height = b; samples = s } ≡ plane_of w h f = λ a b s e₁ e₂ e₃. cc in
    made p.width p.height p.samples it.wide it.high samples

pub crop-pad : (w h pw ph : ℕ) (p : Plane) → IsPlane w h p → w ≤ pw → h ≤ ph → crop_plane
    (pad_plane p pw ph) w h ≡ p
crop-pad w h pw ph p it wider higher =
    sym (plane_is w h (λ x y. sample_at (pad_plane p pw ph) x y) p it (λ x y across down.
    let column : min x (p.width - 1) ≡ x = omega (arith, it.wide) in
    let row : min y (p.height - 1) ≡ y = omega (arith, it.high) in
    sym (sample_at-plane_of pw ph x y
    (λ u v. sample_at p (min u (p.width - 1)) (min v (p.height - 1))) (omega arith)
    (omega arith)
    ∙ ap₂ (λ a b. sample_at p a b) column row)))

pub IsPlane-pad : (p : Plane) (w h : ℕ) → 0 < w → 0 < h → IsPlane w h (pad_plane p w h)
IsPlane-pad p w h wide high = IsPlane-plane_of w h
    (λ x y. sample_at p (min x (p.width - 1)) (min y (p.height - 1))) wide high

pub IsPlane-crop : (p : Plane) (w h : ℕ) → 0 < w → 0 < h → IsPlane w h (crop_plane p w h)
IsPlane-crop p w h wide high = IsPlane-plane_of w h (λ x y. sample_at p x y) wide high

-- equal samples by rows
pub replicate-rows : (w h v : ℕ) → 0 < w → replicate (w * h) v ≡ concat
    (tabulate h (λ _. tabulate w (λ _. v)))
replicate-rows w h v wide =
    rows_are w h (λ _ _. v) (replicate (w * h) v) wide (length-replicate (w * h) v)
    (λ x y across down. get_or-replicate (w * h) (y * w + x) v 0
    (omega (arith, mul-add-lt y w x h down across)))

concat-push : (xss : List (List ℕ)) (xs : List ℕ) → concat (xss ++ xs ∷ []) ≡ concat xss ++ xs
concat-push [] xs = append-nil xs
concat-push (ys ∷ xss) xs = ap (λ t. ys ++ t) (concat-push xss xs) ∙ sym
    (append_assoc ys (concat xss) xs)

-- one row more
pub rows_push : (w h : ℕ) (f : ℕ → ℕ → ℕ) (row : List ℕ) → row ≡ tabulate w (λ x. f x h) → concat
    (tabulate h (λ y. tabulate w (λ x. f x y))) ++ row ≡ concat
    (tabulate (h + 1) (λ y. tabulate w (λ x. f x y)))
rows_push w h f row is =
    let rows : ℕ → List ℕ = λ y. tabulate w (λ x. f x y) in
    let one : h + 1 ≡ suc h = omega arith in
    ap (λ t. concat (tabulate h rows) ++ t) is
    ∙ sym (concat-push (tabulate h rows) (rows h))
    ∙ ap concat (sym (tabulate_push h rows))
    ∙ ap (λ n. concat (tabulate n rows)) (sym one)

-- a row of w samples from `start`, and then its last sample until there are n
pub padded_row : (xs : List ℕ) (start w n : ℕ) → 0 < w → w ≤ n → start + w ≤ length xs → slice_range
    xs start (start + w) ++ replicate (n - w)
    (get_or (slice_range xs start (start + w)) (w - 1) 0) ≡ tabulate n
    (λ x. get_or xs (start + min x (w - 1)) 0)
padded_row xs start w n wide wider within =
    let row : List ℕ = slice_range xs start (start + w) in
    let last : ℕ = get_or row (w - 1) 0 in
    let f : ℕ → ℕ = λ x. get_or xs (start + min x (w - 1)) 0 in
    let size : length row ≡ w = length-between xs start (start + w) within ∙ omega arith in
    let sum : length (row ++ replicate (n - w) last) ≡ n = omega
    (arith, length-append row (replicate (n - w) last), length-replicate (n - w) last) in
    same_lists (row ++ replicate (n - w) last) (tabulate n f) (sum ∙ sym (length-tabulate n f))
    (λ k d below.
    let below_n : k < n = omega arith in
    let in_row : (i : ℕ) → i < w → get_or row i 0 ≡ get_or xs (start + i) 0 = λ i inside.
    get_or-between xs start (start + w) i 0 (omega arith) in
    let at_zero : get_or (row ++ replicate (n - w) last) k d ≡ get_or
    (row ++ replicate (n - w) last) k 0 = get_or_default (row ++ replicate (n - w) last) k d 0
    below in
    let made : get_or (tabulate n f) k d ≡ f k = get_or-tabulate n k f d below_n in
    let column : ℕ = min k (w - 1) in
    let cases = cases_lt k w in
    at_zero ∙ ⊎_elim
    (λ inside.
    let here : min k (w - 1) ≡ k = omega arith in
    get_or_append_left row (replicate (n - w) last) 0 k (omega arith) ∙ in_row k inside ∙ ap
    (λ i. get_or xs (start + i) 0) (sym here))
    (λ beyond.
    let here : min k (w - 1) ≡ w - 1 = omega arith in
    get_or-append_right row (replicate (n - w) last) w k 0 size beyond
    ∙ get_or-replicate (n - w) (k - w) last 0 (omega arith)
    ∙ in_row (w - 1) (omega arith)
    ∙ ap (λ i. get_or xs (start + i) 0) (sym here))
    cases
    ∙ sym made)

-- the first n rows of these samples by rows, padded to v columns, the last row again and again
pub padded_rows : List ℕ → ℕ → ℕ → ℕ → ℕ → List ℕ
padded_rows xs w h v n = concat
    (tabulate n (λ y. tabulate v (λ x. get_or xs (min y (h - 1) * w + min x (w - 1)) 0)))

pub padded_rows_none : (xs : List ℕ) (w h v : ℕ) → padded_rows xs w h v 0 ≡ []
unfolding padded_rows tabulate
padded_rows_none xs w h v = refl

pub length-padded_rows : (xs : List ℕ) (w h v n : ℕ) → length (padded_rows xs w h v n) ≡ v * n
unfolding padded_rows
length-padded_rows xs w h v n = length-rows v n
    (λ x y. get_or xs (min y (h - 1) * w + min x (w - 1)) 0)

pub padded_rows_more : (xs : List ℕ) (w h v n y : ℕ) → length xs ≡ w * h → 0 < w → 0 < h → w ≤ v →
    y ≡ min n (h - 1) → padded_rows xs w h v n ++ lengthened_row (slice_range xs (y * w) (y * w + w))
    v ≡ padded_rows xs w h v (n + 1)
unfolding padded_rows
padded_rows_more xs w h v n y count wide high wider at =
    let start : y * w + w ≤ w * h = row_fits_turned y w w h (omega arith) (omega arith) in
    let row : List ℕ = slice_range xs (y * w) (y * w + w) in
    let size : length row ≡ w = length-between xs (y * w) (y * w + w) (omega arith) ∙ omega arith in
    let longer : lengthened_row row v ≡ tabulate v
    (λ x. get_or xs (min n (h - 1) * w + min x (w - 1)) 0) =
    ap (λ m. row ++ replicate (v - m) (get_or row (m - 1) 0)) size
    ∙ padded_row xs (y * w) w v wide wider (omega arith)
    ∙ ap (λ m. tabulate v (λ x. get_or xs (m * w + min x (w - 1)) 0)) at in
    rows_push v n (λ x z. get_or xs (min z (h - 1) * w + min x (w - 1)) 0) (lengthened_row row v) longer

pub padded_rows_all : (xs : List ℕ) (w h v u n : ℕ) (ys : List ℕ) → ys ≡ padded_rows xs w h v n →
    n ≡ u → record { width = v; height = u; samples = ys } ≡ pad_plane record
    { width = w; height = h; samples = xs } v u
unfolding padded_rows
padded_rows_all xs w h v u n ys is all =
    let samples : ys ≡ concat (tabulate u
    (λ y. tabulate v (λ x. get_or xs (min y (h - 1) * w + min x (w - 1)) 0))) =
    is ∙ ap (λ m. concat (tabulate m
    (λ y. tabulate v (λ x. get_or xs (min y (h - 1) * w + min x (w - 1)) 0)))) all in
    let made : List ℕ → Plane = λ t. record { width = v; height = u; samples = t } in
    ap made samples

pub filled_plane_is : (w h v : ℕ) (xs : List ℕ) → 0 < w → xs ≡ replicate (w * h) v → record
    { width = w; height = h; samples = xs } ≡ filled_plane w h v
filled_plane_is w h v xs wide is =
    let made : List ℕ → Plane = λ t. record { width = w; height = h; samples = t } in
    ap made (is ∙ replicate-rows w h v wide)

pub length-row_of : (p : Plane) (y : ℕ) → IsWhole p → y < p.height → length (row_of p y) ≡ p.width
length-row_of p y it down =
    let within : y * p.width + p.width ≤ p.width * p.height = row_fits_turned y p.width p.width
    p.height down (omega arith) in
    length-between p.samples (y * p.width) (y * p.width + p.width) (omega (arith, it.count)) ∙ omega
    arith

pub get_or-row_of : (p : Plane) (x y : ℕ) → x < p.width → get_or (row_of p y) x 0 ≡ sample_at p x y
get_or-row_of p x y across = get_or-between p.samples (y * p.width) (y * p.width + p.width) x 0
    (omega arith)

pub sample_at-filled_plane : (w h x y v : ℕ) → x < w → y < h → sample_at (filled_plane w h v) x y ≡ v
sample_at-filled_plane w h x y v across down = sample_at-plane_of w h x y (λ _ _. v) across down

pub IsPlane-with_sample : (w h x y v : ℕ) (p : Plane) → IsPlane w h p → IsPlane w h
    (with_sample p x y v)
IsPlane-with_sample w h x y v p it = record {
  wide = it.wide;
  high = it.high;
  whole = record {
    count = length-set p.samples (y * p.width + x) v ∙ it.whole.count;
    wide = it.whole.wide;
    high = it.whole.high;
  };
}

pub sample_at-with_sample_same : (p : Plane) (x y v : ℕ) → IsWhole p → x < p.width → y < p.height →
    sample_at (with_sample p x y v) x y ≡ v
sample_at-with_sample_same p x y v it across down =
    get_or-set_same p.samples (y * p.width + x) v 0
    (omega (arith, it.count, mul-add-lt y p.width x p.height down across))

pub sample_at-with_sample_other : (p : Plane) (x y v s t : ℕ) → x < p.width → s < p.width →
    (s ≡ x → t ≡ y → ⊥) → sample_at (with_sample p x y v) s t ≡ sample_at p s t
sample_at-with_sample_other p x y v s t across inside apart =
    get_or-set_other p.samples (y * p.width + x) (t * p.width + s) v 0
    (λ same. let both = same_from_place t s y x p.width inside across same in apart both.1 both.0)

-- what holds of each value holds of the rows
pub All-rows : (P : ℕ → Type 0) (w h : ℕ) (f : ℕ → ℕ → ℕ) → ((x y : ℕ) → P (f x y)) → All P
    (concat (tabulate h (λ y. tabulate w (λ x. f x y))))
unfolding tabulate
All-rows P w zero f each = λ k d below. absurd (omega arith)
All-rows P w (suc h) f each =
    All-append P (tabulate w (λ x. f x 0))
    (concat (tabulate h (λ y. tabulate w (λ x. f x (suc y)))))
    (λ k d below.
    let inside : k < w = omega (arith, length-tabulate w (λ x. f x 0)) in
    subst P (sym (get_or-tabulate w k (λ x. f x 0) d inside)) (each k 0))
    (All-rows P w h (λ x y. f x (suc y)) (λ x y. each x (suc y)))

-- a byte, or 0 behind the last one
pub byte_at : (xs : List ℕ) (i : ℕ) → All (λ s. s < 256) xs → get_or xs i 0 < 256
byte_at xs i all =
    ⊎_elim (λ inside. all i 0 inside) (λ beyond. omega (arith, get_or_past xs i 0 beyond))
    (cases_lt i (length xs))

pub HasByteSamples-pad : (p : Plane) (w h : ℕ) → HasByteSamples p → HasByteSamples (pad_plane p w h)
HasByteSamples-pad p w h all =
    All-rows (λ s. s < 256) w h (λ x y. sample_at p (min x (p.width - 1)) (min y (p.height - 1)))
    (λ x y. byte_at p.samples (min y (p.height - 1) * p.width + min x (p.width - 1)) all)

pub HasByteSamples-crop : (p : Plane) (w h : ℕ) → HasByteSamples p → HasByteSamples
    (crop_plane p w h)
HasByteSamples-crop p w h all =
    All-rows (λ s. s < 256) w h (λ x y. sample_at p x y)
    (λ x y. byte_at p.samples (y * p.width + x) all)

-- planes of functions that agree inside
pub plane_same : (width height : ℕ) (f g : ℕ → ℕ → ℕ) →
    ((x y : ℕ) → x < width → y < height → f x y ≡ g x y) →
    plane_of width height f ≡ plane_of width height g
plane_same width height f g same =
    ap (λ rows. plane_by_rows width height (concat rows))
    (tabulate-same height (λ y. tabulate width (λ x. f x y)) (λ y. tabulate width (λ x. g x y))
    (λ y high. tabulate-same width (λ x. f x y) (λ x. g x y) (λ x wide. same x y wide high)))
