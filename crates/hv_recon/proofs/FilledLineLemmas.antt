-- How the line of neighbours is filled.
use Rattle.std.proofs.Common.{◌≡◌, ℕ, suc, ◌+◌, ◌-◌, ◌*◌, ◌/◌, ◌%◌, ◌^◌, ◌<◌, ◌≤◌, inl, inr, List, [], ◌∷◌, ◌++◌, length, take, set, arith, ap, ap₂, sym, ◌∙◌, take-suc-set}
use Rattle.std.specs.Prelude.{Option}
use Rattle.std.proofs.lemmas.Bool.{cases_lt}
use Rattle.std.proofs.lemmas.List.{append_assoc}
use Rattle.std.proofs.lemmas.Nat.{div-mul-add, div-add-mod'}
use Rattle.std.proofs.Math.Nat.{mul-le-mul_right, add-mul}
use Rattle.hv_block.proofs.EdgeLemmas.{tabulate-filled}
use Rattle.hv_lemmas.specs.Lists.{tabulate}
use Rattle.hv_lemmas.proofs.ListLemmas.{tabulate_push}
use Rattle.hv_recon_model.specs.SeenSamples.{Spot, SamplesAround, look_around}

-- the neighbours at the left, from the lowest on, and those above

abbrev pub left_at : Spot → SamplesAround → List ℕ → ℕ → ℕ → ℕ → ℕ → ℕ → Option ℕ
left_at s around own address x y log2 i =
    look_around s around own address (s.side + x - 1) (s.side + y + (2 * 2 ^ log2 - i) - 1)

abbrev pub above_at : Spot → SamplesAround → List ℕ → ℕ → ℕ → ℕ → ℕ → Option ℕ
above_at s around own address x y i =
    look_around s around own address (s.side + x + i) (s.side + y - 1)

-- one place more behind others
pub filled_behind : {A : Type 0} (f : ℕ → A) (before list : List A) (m k : ℕ) (value : A) →
    m + k < length list → take (m + k) list ≡ before ++ tabulate k f → value ≡ f k →
    take (m + (k + 1)) (set list (m + k) value) ≡ before ++ tabulate (k + 1) f
filled_behind f before list m k value below filled here =
    let place : m + (k + 1) ≡ suc (m + k) = omega arith in
    let more : suc k ≡ k + 1 = omega arith in
    ap (λ n. take n (set list (m + k) value)) place ∙
    take-suc-set list (m + k) value below ∙
    ap₂ (λ front last. front ++ last ∷ []) filled here ∙
    append_assoc before (tabulate k f) (f k ∷ []) ∙
    ap (λ l. before ++ l) (sym (tabulate_push k f)) ∙
    ap (λ n. before ++ tabulate n f) more

-- none, and one more, where the numbers of places are given

pub none_filled : {A : Type 0} (f : ℕ → A) (list : List A) (n : ℕ) → n ≡ 0 →
    take n list ≡ tabulate n f
unfolding tabulate
none_filled f list n none = ap (λ m. take m list) none ∙ ap (λ m. tabulate m f) (sym none)

pub none_behind : {A : Type 0} (f : ℕ → A) (n : ℕ) → n ≡ 0 → [] ≡ tabulate n f
unfolding tabulate
none_behind f n none = ap (λ m. tabulate m f) (sym none)

pub filled_next : {A : Type 0} (f : ℕ → A) (list : List A) (k next : ℕ) (value : A) →
    next ≡ k + 1 → k < length list → take k list ≡ tabulate k f → value ≡ f k →
    take next (set list k value) ≡ tabulate next f
filled_next f list k next value one below filled here =
    ap (λ n. take n (set list k value)) one ∙
    tabulate-filled f list k value below filled here ∙
    ap (λ n. tabulate n f) (sym one)

pub filled_further : {A : Type 0} (f : ℕ → A) (before list : List A) (m k at end more : ℕ)
    (value : A) → at ≡ m + k → end ≡ m + (k + 1) → more ≡ k + 1 → m + k < length list →
    take (m + k) list ≡ before ++ tabulate k f → value ≡ f k →
    take end (set list at value) ≡ before ++ tabulate more f
filled_further f before list m k at end more value place last one below filled here =
    ap₂ (λ n a. take n (set list a value)) last place ∙
    filled_behind f before list m k value below filled here ∙
    ap (λ n. before ++ tabulate n f) (sym one)

-- ---- squares

pub whole_squares : (samples square : ℕ) → samples % square ≡ 0 →
    samples ≡ samples / square * square
whole_squares samples square whole = omega (arith, div-add-mod' samples square, whole)

pub twice_whole : (samples square : ℕ) → 0 < square → samples % square ≡ 0 →
    2 * samples ≡ 2 * samples / square * square
twice_whole samples square some whole =
    let q : ℕ = samples / square in
    let once = whole_squares samples square whole in
    let twice : 2 * samples ≡ (q + q) * square + 0 = omega (arith, once, add-mul q q square) in
    let count : 2 * samples / square ≡ q + q =
    ap (λ n. n / square) twice ∙ div-mul-add (q + q) square 0 some in
    omega (arith, twice, ap (λ n. n * square) count)

pub few_squares : (a b square : ℕ) → 0 < square → a * square + b * square ≤ 16 * square →
    a + b ≤ 16
few_squares a b square some most = elim (cases_lt 16 (a + b)) [
  | inl above ↦
      let more : 17 * square ≤ (a + b) * square = mul-le-mul_right square (omega (arith, above)) in
      absurd (omega (arith, more, add-mul a b square, most, some))
  | inr few ↦ few
]

pub run_ends : (p i count square samples : ℕ) → p < count → i < square →
    samples ≡ count * square → p * square + i < samples
run_ends p i count square samples below small whole =
    let ends : (p + 1) * square ≤ count * square = mul-le-mul_right square (omega (arith, below)) in
    omega (arith, ends, add-mul p 1 square, small, whole)

-- where the samples of a run lie, from the lowest on
pub place_down : (side y n row count p i square : ℕ) → y ≡ row * square → n ≡ count * square →
    p < count → i < square →
    side + ((row + (count - p) - 1) * square + (square - 1 - i)) ≡
    side + y + (n - (p * square + i)) - 1
place_down side y n row count p i square rows whole below small =
    let m : ℕ = count - p - 1 in
    let last : row + (count - p) - 1 ≡ row + m = omega (arith, below) in
    let all : count ≡ p + 1 + m = omega (arith, below) in
    let places : count * square ≡ p * square + 1 * square + m * square =
    ap (λ c. c * square) all ∙ add-mul (p + 1) m square ∙
    ap (λ t. t + m * square) (add-mul p 1 square) in
    let here : (row + (count - p) - 1) * square ≡ row * square + m * square =
    ap (λ r. r * square) last ∙ add-mul row m square in
    omega (arith, here, places, rows, whole, small)

pub place_along : (side x column q k square : ℕ) → x ≡ column * square →
    side + ((column + q) * square + k) ≡ side + x + (q * square + k)
place_along side x column q k square columns = omega (arith, add-mul column q square, columns)
