-- The levels of a whole block are read back (7.3.8.11).
use Rattle.std.proofs.Common.{◌≡◌, ℕ, zero, suc, ◌+◌, ◌-◌, ◌*◌, ◌/◌, ◌%◌, ◌^◌, ◌<◌, Bool, true, false, List, [], ◌∷◌, ◌++◌, length, ℤ, pos, negsuc, refl, sym, ap, ◌∙◌, subst, arith, ltb-true, ltb-false, true≢false, pow_pos, inl, inr, below_more, add-one, mod-lt}
use Rattle.std.specs.Prelude.{nat_lt, slice_index_or, ◌⊎◌}
use Rattle.std.specs.List.{list_all}
use Rattle.std.proofs.Math.Nat.{div-lt_iff_lt-mul}
use Rattle.std.proofs.lemmas.Nat.{div-add-mod'}
use Rattle.std.proofs.lemmas.Bool.{cond_both}
use Rattle.hv_lemmas.specs.Lists.{tabulate}
use Rattle.hv_lemmas.proofs.ListLemmas.{tabulate-same, tabulate_own}
use Rattle.hv_stream_model.specs.Scripts.{Done, ◌>>=◌, Reads}
use Rattle.hv_stream_model.proofs.ScriptLemmas.{reads_then, reads_map}
use Rattle.hv_residual_model.specs.ScanOrder.{at, block_number}
use Rattle.hv_residual_model.specs.ResidualContexts.{TransformBlock}
use Rattle.hv_residual_model.specs.ResidualSyntax.{nothing_earlier, behind_sub_block, last_sub_block, sub_blocks_below, level_of_number, by_rows, residual_coding}
use Rattle.hv_plan.specs.Levels.{has_16_bits, is_significant, any_significant}
use Rattle.hv_residual_model.specs.ResidualBins.{level_at, downwards, levels_below, last_below, last_significant, last_sub_block_bins, behind_levels, bins_from, residual_bins}
use Rattle.hv_residual_model.specs.ResidualLaws.{HasSide, AreLevels}
use Rattle.hv_residual_model.proofs.UnitBinLemmas.{reads_value}
use Rattle.hv_residual_model.proofs.ScanLemmas.{comes}
use Rattle.hv_residual_model.proofs.LastPositionLemmas.{reads_last}
use Rattle.hv_residual_model.proofs.SubBlockLemmas.{length-downwards, downwards-both, small_below, as_many, read_block, reads_sub_blocks, reads_last_sub_block}

-- ---- a list downwards, by numbers

at_number : (m n : ℕ) (f : ℕ → ℤ) (d : ℤ) → n < m →
    slice_index_or (downwards m f) (m - 1 - n) d ≡ f n
unfolding downwards
at_number zero n f d h = absurd (omega arith)
at_number (suc m) n f d h =
    let Holds : ℕ → Type 0 =
    λ k. slice_index_or (downwards (suc m) f) (suc m - 1 - k) d ≡ f k in
    let later : (k : ℕ) → k < m → Holds k =
    λ k less.
    let e : suc m - 1 - k ≡ suc (m - 1 - k) = omega arith in
    rw e (at_number m k f d less) in
    let first : Holds m = let e : suc m - 1 - m ≡ 0 = omega arith in rw e refl in
    below_more Holds m later first n (omega (arith, h))

-- ---- the last level that isn't 0

abbrev NoneBelow : TransformBlock → List ℤ → ℕ → Type 0
NoneBelow b levels m = (n : ℕ) → n < m → is_significant (level_at b levels n) ≡ false

record IsLast (b : TransformBlock) (levels : List ℤ) (m last : ℕ) : Type 0 where
  below : last < m
  there : is_significant (level_at b levels last) ≡ true
  rest : (n : ℕ) → last < n → n < m → is_significant (level_at b levels n) ≡ false

none_or_last_by : (b : TransformBlock) (levels : List ℤ) (m : ℕ) →
    NoneBelow b levels m ⊎ IsLast b levels m (last_below b levels m) →
    (t : Bool) → is_significant (level_at b levels m) ≡ t →
    NoneBelow b levels (suc m) ⊎ IsLast b levels (suc m) (last_below b levels (suc m))
none_or_last_by b levels m h true e =
    rw e (inr (record { below = omega arith; there = e; rest = λ n a c. absurd (omega arith) }))
none_or_last_by b levels m (inl none) false e =
    inl (λ n h.
    below_more (λ k. is_significant (level_at b levels k) ≡ false) m none e n (omega (arith, h)))
none_or_last_by b levels m (inr last) false e =
    let l : ℕ = last_below b levels m in
    let Holds : ℕ → Type 0 = λ k. l < k → is_significant (level_at b levels k) ≡ false in
    rw e (inr (record {
      below = let h = last.below in omega (arith, h);
      there = last.there;
      rest = λ n a c.
          below_more Holds m (λ k less more. last.rest k more less) (λ more. e) n (omega (arith, c))
          a;
    }))

none_or_last : (b : TransformBlock) (levels : List ℤ) (m : ℕ) →
    NoneBelow b levels m ⊎ IsLast b levels m (last_below b levels m)
none_or_last b levels zero = inl (λ n h. absurd (omega arith))
none_or_last b levels (suc m) =
    none_or_last_by b levels m (none_or_last b levels m) (is_significant (level_at b levels m)) refl

nothing_significant : (xs : List ℤ) →
    ((i : ℕ) → i < length xs → is_significant (slice_index_or xs i (pos 0)) ≡ false) →
    any_significant xs ≡ false
nothing_significant [] h = refl
nothing_significant (x ∷ xs) h =
    rw (h 0 (omega arith))
    (nothing_significant xs (λ i less. h (suc i) (omega arith)))

zero_of : (c : ℤ) → is_significant c ≡ false → c ≡ pos 0
zero_of (pos zero) h = refl
zero_of (pos (suc n)) h = absurd (true≢false h)
zero_of (negsuc n) h = absurd (true≢false h)

-- ---- the level at a place, by its number

abbrev number_at : TransformBlock → ℕ → ℕ
number_at b i =
    block_number b.scanIdx b.log2TrafoSize (at (i % 2 ^ b.log2TrafoSize) (i / 2 ^ b.log2TrafoSize))

record IsAt (b : TransformBlock) (levels : List ℤ) (i : ℕ) : Type 0 where
  below : number_at b i < 2 ^ b.log2TrafoSize * 2 ^ b.log2TrafoSize
  same : level_at b levels (number_at b i) ≡ slice_index_or levels i (pos 0)

is_at : (b : TransformBlock) (levels : List ℤ) (i : ℕ) → HasSide b →
    i < 2 ^ b.log2TrafoSize * 2 ^ b.log2TrafoSize → IsAt b levels i
unfolding level_at
is_at b levels i side h =
    let log2 : ℕ = b.log2TrafoSize in
    let s : ℕ = 2 ^ log2 in
    let some : 0 < s = pow_pos log2 in
    let x : i % s < s = mod-lt i some in
    let y : i / s < s = (div-lt_iff_lt-mul some).1 h in
    let c = comes b.scanIdx log2 (i % s) (i / s) side.0 side.1 x y in
    let whole : i / s * s + i % s ≡ i = div-add-mod' i s in
    record {
      below = c.below;
      same =
          ap (λ p. slice_index_or levels (p.y * s + p.x) (pos 0)) c.same ∙
          ap (λ (k : ℕ). slice_index_or levels k (pos 0)) whole;
    }

-- ---- by rows

rows_come_back : (b : TransformBlock) (levels : List ℤ) (n : ℕ) → HasSide b →
    length levels ≡ 2 ^ b.log2TrafoSize * 2 ^ b.log2TrafoSize →
    IsLast b levels (2 ^ b.log2TrafoSize * 2 ^ b.log2TrafoSize) n →
    by_rows b (downwards (n + 1) (level_at b levels)) ≡ levels
rows_come_back b levels n side whole last =
    let s : ℕ = 2 ^ b.log2TrafoSize in
    let f : ℕ → ℤ = level_at b levels in
    let L : List ℤ = downwards (n + 1) f in
    let many : length L ≡ n + 1 = length-downwards (n + 1) f in
    let numbered : (k : ℕ) → k < s * s → level_of_number L k ≡ f k =
    λ k less.
    cond_both (nat_lt k (length L)) (slice_index_or L (length L - 1 - k) (pos 0)) (pos 0)
    (λ c. c ≡ f k)
    (λ e.
    let below = ltb-true k (length L) e in
    rw many (at_number (n + 1) k f (pos 0) (omega (arith, many, below))))
    (λ e.
    let from = ltb-false k (length L) e in
    sym (zero_of (f k) (last.rest k (omega (arith, many, from)) less))) in
    let own : (i : ℕ) → i < s * s →
    level_of_number L (number_at b i) ≡ slice_index_or levels i (pos 0) =
    λ i less.
    let place = is_at b levels i side less in
    numbered (number_at b i) place.below ∙ place.same in
    tabulate-same (s * s) (λ i. level_of_number L (number_at b i))
    (λ i. slice_index_or levels i (pos 0)) own ∙
    (ap (λ (k : ℕ). tabulate k (λ i. slice_index_or levels i (pos 0))) (sym whole) ∙
    tabulate_own levels (pos 0))

-- ---- the whole block

some_last_by : (b : TransformBlock) (levels : List ℤ) → HasSide b → AreLevels b levels →
    (let s = 2 ^ b.log2TrafoSize in
    NoneBelow b levels (s * s) ⊎ IsLast b levels (s * s) (last_below b levels (s * s)) →
    IsLast b levels (s * s) (last_below b levels (s * s)))
some_last_by b levels side h (inr last) = last
some_last_by b levels side h (inl none) =
    let zero_at : (i : ℕ) → i < length levels →
    is_significant (slice_index_or levels i (pos 0)) ≡ false =
    λ i less.
    let place = is_at b levels i side (let w = h.whole in omega (arith, w, less)) in
    let there : is_significant (level_at b levels (number_at b i)) ≡ false =
    none (number_at b i) place.below in
    rw place.same at there in
    absurd (true≢false (sym h.some ∙ nothing_significant levels zero_at))

some_last : (b : TransformBlock) (levels : List ℤ) → HasSide b → AreLevels b levels →
    IsLast b levels (2 ^ b.log2TrafoSize * 2 ^ b.log2TrafoSize) (last_significant b levels)
unfolding last_significant
some_last b levels side h =
    let s : ℕ = 2 ^ b.log2TrafoSize in
    some_last_by b levels side h (none_or_last b levels (s * s))

one_in_front : (b : TransformBlock) (levels : List ℤ) (s i : ℕ) →
    levels_below b levels s (i + 1) ≡ level_at b levels (16 * s + i) ∷ levels_below b levels s i
unfolding levels_below downwards
one_in_front b levels s i = rw add-one refl

all_from : (b : TransformBlock) (levels : List ℤ) (s i : ℕ) →
    levels_below b levels s (i + 1) ++ downwards (16 * s) (level_at b levels) ≡
    downwards (16 * s + (i + 1)) (level_at b levels)
unfolding levels_below
all_from b levels s i = downwards-both (i + 1) (16 * s) (level_at b levels)

pub reads_residual : (b : TransformBlock) (levels : List ℤ) → HasSide b → AreLevels b levels →
    Reads (residual_coding b) (residual_bins b levels) levels
unfolding residual_coding residual_bins bins_from
reads_residual b levels side h =
    let s2 : ℕ = 2 ^ b.log2TrafoSize in
    let f : ℕ → ℤ = level_at b levels in
    let n : ℕ = last_significant b levels in
    let s : ℕ = n / 16 in
    let i : ℕ = n % 16 in
    let last = some_last b levels side h in
    let back : 16 * s + i ≡ n = omega arith in
    let c : ℤ = f (16 * s + i) in
    let cs : List ℤ = levels_below b levels s i in
    let front : levels_below b levels s (i + 1) ≡ c ∷ cs = one_in_front b levels s i in
    let small : list_all has_16_bits (c ∷ cs) ≡ true =
    subst (λ (xs : List ℤ). list_all has_16_bits xs ≡ true) front
    (small_below b levels h.small s (i + 1)) in
    let there : is_significant c ≡ true = rw back last.there in
    let here : Reads (last_sub_block b s i)
    (last_sub_block_bins b s (levels_below b levels s (i + 1)))
    (read_block true (levels_below b levels s (i + 1))) =
    rw front (subst (λ (k : ℕ). Reads (last_sub_block b s k) (last_sub_block_bins b s (c ∷ cs))
    (read_block true (c ∷ cs))) (as_many b levels s i)
    (reads_last_sub_block b s c cs small there)) in
    let these : List ℤ = levels_below b levels s (i + 1) in
    let whole : these ++ downwards (16 * s) f ≡ downwards (n + 1) f =
    all_from b levels s i ∙
    ap (λ (k : ℕ). downwards k f) (let e : 16 * s + (i + 1) ≡ n + 1 = omega arith in e) in
    let value : by_rows b (these ++ downwards (16 * s) f) ≡ levels =
    ap (by_rows b) whole ∙ rows_come_back b levels n side h.whole last in
    let rest = reads_value
    (reads_map (λ (ls : List ℤ). by_rows b (these ++ ls))
    (reads_sub_blocks b levels h.small s (behind_levels b s nothing_earlier true these)))
    value in
    reads_then
    (λ l. last_sub_block b (l / 16) (l % 16) >>= λ this.
    sub_blocks_below b (l / 16)
    (behind_sub_block b (l / 16) nothing_earlier true this.greater1_flags) >>= λ ls.
    Done (by_rows b (this.levels ++ ls)))
    (reads_last b n side.0 side.1 last.below)
    (reads_then
    (λ this. sub_blocks_below b s
    (behind_sub_block b s nothing_earlier true this.greater1_flags) >>= λ ls.
    Done (by_rows b (this.levels ++ ls)))
    here rest)
