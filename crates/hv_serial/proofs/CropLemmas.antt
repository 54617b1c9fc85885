-- The samples of the upper left part of a plane, row by row.
use Rattle.std.proofs.Common.{◌≡◌, ℕ, ◌+◌, ◌*◌, ◌<◌, ◌≤◌, List, ◌++◌, length, take, drop, get_or, sym, ap, ◌∙◌, arith, append-nil, append_assoc, length-drop}
use Rattle.std.proofs.lemmas.List.{same_lists, get_or-take, get_or-drop, get_or_default, length-take-le}
use Rattle.hv_lemmas.specs.Lists.{tabulate}
use Rattle.hv_lemmas.proofs.ListLemmas.{length-tabulate, get_or-tabulate}
use Rattle.hv_types.specs.Samples.{Plane, sample_at, crop_plane}
use Rattle.hv_types.specs.Windows.{row_of_block}
use Rattle.hv_types.proofs.SampleLemmas.{rows_push}

-- so many samples from a place on
taken : (xs : List ℕ) (start w : ℕ) → start + w ≤ length xs →
    take w (drop start xs) ≡ tabulate w (λ x. get_or xs (start + x) 0)
taken xs start w within =
    let f : ℕ → ℕ = λ x. get_or xs (start + x) 0 in
    let size : length (take w (drop start xs)) ≡ w =
    length-take-le w (drop start xs) (omega (arith, within, length-drop start xs)) in
    same_lists (take w (drop start xs)) (tabulate w f) (size ∙ sym (length-tabulate w f))
    (λ k d below.
    let inside : k < w = omega (arith, below, size) in
    get_or-take w (drop start xs) k d inside ∙ get_or-drop start xs k d ∙
    get_or_default xs (start + k) d 0 (omega (arith, inside, within)) ∙
    sym (get_or-tabulate w k f d inside))

-- a row of the block at the upper left of the plane
row_is : (p : Plane) (samples : List ℕ) (w stride y : ℕ) → samples ≡ drop (0 * p.width + 0) p.samples →
    stride ≡ p.width → y * stride + w ≤ length samples →
    row_of_block samples stride w y ≡ tabulate w (λ x. sample_at p x y)
row_is p samples w stride y are same within =
    let start : 0 * p.width + 0 ≡ 0 = omega arith in
    let all : samples ≡ p.samples = are ∙ ap (λ n. drop n p.samples) start in
    taken samples (y * stride) w within ∙
    ap (λ xs. tabulate w (λ x. get_or xs (y * stride + x) 0)) all ∙
    ap (λ n. tabulate w (λ x. get_or p.samples (y * n + x) 0)) same

-- a row more
pub row_appended : (p : Plane) (before now samples row : List ℕ) (w stride y : ℕ) →
    now ≡ before ++ (crop_plane p w y).samples →
    samples ≡ drop (0 * p.width + 0) p.samples → stride ≡ p.width →
    y * stride + w ≤ length samples → row ≡ row_of_block samples stride w y →
    now ++ row ≡ before ++ (crop_plane p w (y + 1)).samples
row_appended p before now samples row w stride y had are same within is =
    ap (λ t. t ++ row) had ∙ append_assoc before (crop_plane p w y).samples row ∙
    ap (λ t. before ++ t)
    (rows_push w y (λ x v. sample_at p x v) row (is ∙ row_is p samples w stride y are same within))

-- no row yet
pub no_rows : (p : Plane) (w : ℕ) (before : List ℕ) → before ≡ before ++ (crop_plane p w 0).samples
unfolding tabulate
no_rows p w before = sym (append-nil before)
