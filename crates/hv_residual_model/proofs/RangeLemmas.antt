-- Whatever answers: the levels that are read of a block have 16 bits (7.4.9.11).
use Rattle.std.proofs.Common.{◌≡◌, ℕ, zero, suc, ◌+◌, ◌-◌, ◌*◌, ◌/◌, ◌%◌, ◌^◌, ◌<◌, Bool, true, false, cond, List, [], ◌∷◌, ◌++◌, length, replicate, ℤ, pos, refl, arith}
use Rattle.std.specs.Prelude.{nat_lt, slice_index_or, ◌&&◌}
use Rattle.std.specs.List.{list_all}
use Rattle.std.proofs.lemmas.Bool.{and_parts, cond_both}
use Rattle.hv_lemmas.specs.Lists.{tabulate}
use Rattle.hv_lemmas.proofs.ListLemmas.{length-tabulate}
use Rattle.hv_stream_model.specs.Scripts.{Done, Ask, Fail, only_if, ◌>>=◌, Reads, nothing, one}
use Rattle.hv_residual_model.specs.UnitBins.{UnitBin, UnitScript}
use Rattle.hv_residual_model.specs.Binarization.{coeff_abs_level_remaining}
use Rattle.hv_residual_model.specs.ResidualContexts.{TransformBlock, ctxSet}
use Rattle.hv_residual_model.specs.ResidualSyntax.{Earlier, nothing_earlier, behind_sub_block, sig_coeff_of, sig_coeff_flags, greater1_flags, greater2_flag, sign_flags, Base, base, bases, next_cRiceParam, with_sign, significant_levels, count, with_zeros, SubBlock, most_greater1_flags, levels_of_flags, last_sub_block, positions, coded_sub_block_flag, sub_block, sub_blocks_below, last_sig_coeff, level_of_number, by_rows, residual_coding}
use Rattle.hv_plan.specs.Levels.{has_16_bits}
use Rattle.hv_residual_model.specs.ResidualLaws.{LevelsThatAreReadHave16Bits}
use Rattle.hv_residual_model.proofs.SubBlockLemmas.{AllSmall, all_or}

-- ---- what every value of a script is

abbrev Gives : {A : Type 0} → (A → Type 0) → UnitScript A → Type 0
Gives P (Done a) = P a
Gives P (Ask q c) = (v : Bool) → Gives P (c v)
Gives P Fail = Unit {0}

given : {A : Type 0} (P : A → Type 0) {s : UnitScript A} {bins : List UnitBin} {a : A} →
    Gives P s → Reads s bins a → P a
given P g nothing = g
given P g (one {v = v} r) = given P (g v) r

gives_then : {A B : Type 0} (P : A → Type 0) (R : B → Type 0) (s : UnitScript A)
    (k : A → UnitScript B) → Gives P s → ((a : A) → P a → Gives R (k a)) → Gives R (s >>= k)
gives_then P R (Done a) k g h = h a g
gives_then P R (Ask q c) k g h = λ v. gives_then P R (c v) k (g v) h
gives_then P R Fail k g h = tt

-- whatever the first script gives
gives_after : {A B : Type 0} (R : B → Type 0) (s : UnitScript A) (k : A → UnitScript B) →
    ((a : A) → Gives R (k a)) → Gives R (s >>= k)
gives_after R (Done a) k h = h a
gives_after R (Ask q c) k h = λ v. gives_after R (c v) k h
gives_after R Fail k h = tt

gives_if : {A : Type 0} (P : A → Type 0) (test : Bool) (s : UnitScript A) →
    (test ≡ true → Gives P s) → Gives P (only_if test s)
gives_if P true s h = h refl
gives_if P false s h = tt

-- ---- significant levels

abbrev Low : List Base → Type 0
Low [] = Unit {0}
Low (b ∷ bs) = (b.baseLevel < 4) × Low bs

low_ones : (n : ℕ) → Low (replicate n (base 1 true))
low_ones zero = tt
low_ones (suc n) = (omega arith, low_ones n)

low_by : (g : Bool) (bs : List Base) → Low bs → Low (cond g (base 3 true) (base 2 false) ∷ bs)
low_by true bs h = (omega arith, h)
low_by false bs h = (omega arith, h)

low_bases : (first g : Bool) (flags : List Bool) (n : ℕ) → Low (bases first g flags n)
low_bases first g [] n = low_ones n
low_bases first g (flag ∷ flags) zero = tt
low_bases first g (false ∷ flags) (suc n) = (omega arith, low_bases first g flags n)
low_bases true g (true ∷ flags) (suc n) =
    low_by g (bases false g flags n) (low_bases false g flags n)
low_bases false g (true ∷ flags) (suc n) = (omega arith, low_bases false g flags n)

small_base : (sign : Bool) (n : ℕ) → n < 4 → has_16_bits (with_sign sign n) ≡ true
small_base true zero h = refl
small_base true (suc zero) h = refl
small_base true (suc (suc zero)) h = refl
small_base true (suc (suc (suc zero))) h = refl
small_base true (suc (suc (suc (suc n)))) h = absurd (omega arith)
small_base false zero h = refl
small_base false (suc zero) h = refl
small_base false (suc (suc zero)) h = refl
small_base false (suc (suc (suc zero))) h = refl
small_base false (suc (suc (suc (suc n)))) h = absurd (omega arith)

both_true : (a b : Bool) → a ≡ true → b ≡ true → a && b ≡ true
both_true a b e f = rw (e, f) refl

gives_levels : (bs : List Base) (signs : List Bool) (k : ℕ) → Low bs →
    Gives AllSmall (significant_levels bs signs k)
gives_levels [] signs k low = refl
gives_levels (b ∷ bs) [] k low = refl
gives_levels (b ∷ bs) (sign ∷ signs) k low =
    cond_both b.has_remaining
    (coeff_abs_level_remaining k >>= λ remaining.
    only_if (has_16_bits (with_sign sign (b.baseLevel + remaining)))
    (significant_levels bs signs (next_cRiceParam k (b.baseLevel + remaining)) >>= λ levels.
    Done (with_sign sign (b.baseLevel + remaining) ∷ levels)))
    (significant_levels bs signs k >>= λ levels. Done (with_sign sign b.baseLevel ∷ levels))
    (Gives AllSmall)
    (λ e.
    gives_after AllSmall (coeff_abs_level_remaining k) _ (λ remaining.
    let level : ℤ = with_sign sign (b.baseLevel + remaining) in
    gives_if AllSmall (has_16_bits level) _ (λ small.
    gives_then AllSmall AllSmall _ _
    (gives_levels bs signs (next_cRiceParam k (b.baseLevel + remaining)) low.1)
    (λ levels h. both_true (has_16_bits level) (list_all has_16_bits levels) small h))))
    (λ e.
    gives_then AllSmall AllSmall _ _ (gives_levels bs signs k low.1)
    (λ levels h.
    both_true (has_16_bits (with_sign sign b.baseLevel)) (list_all has_16_bits levels)
    (small_base sign b.baseLevel low.0) h))

small_placed : (flags : List Bool) (levels : List ℤ) → AllSmall levels →
    AllSmall (with_zeros flags levels)
small_placed [] levels h = refl
small_placed (false ∷ flags) levels h = small_placed flags levels h
small_placed (true ∷ flags) [] h = refl
small_placed (true ∷ flags) (level ∷ levels) h =
    let p = and_parts (has_16_bits level) (list_all has_16_bits levels) h in
    both_true (has_16_bits level) (list_all has_16_bits (with_zeros flags levels)) p.0
    (small_placed flags levels p.1)

-- ---- sub-blocks

abbrev SmallBlock : SubBlock → Type 0
SmallBlock block = AllSmall block.levels

gives_block : (b : TransformBlock) (set : ℕ) (flags : List Bool) →
    Gives SmallBlock (levels_of_flags b set flags)
unfolding levels_of_flags
gives_block b set flags =
    gives_after SmallBlock (greater1_flags b set most_greater1_flags (count flags) 1) _ (λ gs.
    gives_after SmallBlock (greater2_flag b set gs) _ (λ g.
    gives_after SmallBlock (sign_flags (count flags)) _ (λ signs.
    gives_then AllSmall SmallBlock (significant_levels (bases true g gs (count flags)) signs 0) _
    (gives_levels (bases true g gs (count flags)) signs 0 (low_bases true g gs (count flags)))
    (λ levels h. small_placed flags levels h))))

small_zeros : (n : ℕ) → AllSmall (replicate n (pos 0))
small_zeros zero = refl
small_zeros (suc n) = small_zeros n

gives_sub_block : (b : TransformBlock) (s : ℕ) (e : Earlier) (flag : Bool) →
    Gives SmallBlock (sub_block b s e flag)
gives_sub_block b s e false = small_zeros positions
gives_sub_block b s e true =
    gives_after SmallBlock (sig_coeff_flags (sig_coeff_of b s e) positions (nat_lt 0 s)) _
    (λ flags. gives_block b (ctxSet b s e.had_greater1) flags)

small_both : (xs ys : List ℤ) → AllSmall xs → AllSmall ys → AllSmall (xs ++ ys)
small_both [] ys h k = k
small_both (x ∷ xs) ys h k =
    let p = and_parts (has_16_bits x) (list_all has_16_bits xs) h in
    both_true (has_16_bits x) (list_all has_16_bits (xs ++ ys)) p.0 (small_both xs ys p.1 k)

gives_sub_blocks : (b : TransformBlock) (s : ℕ) (e : Earlier) →
    Gives AllSmall (sub_blocks_below b s e)
unfolding sub_blocks_below
gives_sub_blocks b zero e = refl
gives_sub_blocks b (suc s) e =
    gives_after AllSmall (coded_sub_block_flag b s e) _ (λ flag.
    gives_then SmallBlock AllSmall (sub_block b s e flag) _ (gives_sub_block b s e flag)
    (λ this h.
    gives_then AllSmall AllSmall
    (sub_blocks_below b s (behind_sub_block b s e flag this.greater1_flags)) _
    (gives_sub_blocks b s (behind_sub_block b s e flag this.greater1_flags))
    (λ levels k. small_both this.levels levels h k)))

-- ---- the block

small_tabulated : (n : ℕ) (f : ℕ → ℤ) → ((i : ℕ) → has_16_bits (f i) ≡ true) →
    AllSmall (tabulate n f)
unfolding tabulate
small_tabulated zero f h = refl
small_tabulated (suc n) f h =
    both_true (has_16_bits (f 0)) (list_all has_16_bits (tabulate n (λ i. f (suc i)))) (h 0)
    (small_tabulated n (λ i. f (suc i)) (λ i. h (suc i)))

small_number : (levels : List ℤ) → AllSmall levels → (n : ℕ) →
    has_16_bits (level_of_number levels n) ≡ true
small_number levels h n =
    cond_both (nat_lt n (length levels)) (slice_index_or levels (length levels - 1 - n) (pos 0))
    (pos 0) (λ c. has_16_bits c ≡ true)
    (λ e. all_or has_16_bits levels (length levels - 1 - n) (pos 0) h refl)
    (λ e. refl)

abbrev IsBlock : TransformBlock → List ℤ → Type 0
IsBlock b levels =
    (length levels ≡ 2 ^ b.log2TrafoSize * 2 ^ b.log2TrafoSize) ×
    (list_all has_16_bits levels ≡ true)

rows_are_block : (b : TransformBlock) (levels : List ℤ) → AllSmall levels →
    IsBlock b (by_rows b levels)
rows_are_block b levels h =
    let side : ℕ = 2 ^ b.log2TrafoSize in (
      length-tabulate (side * side) _,
      small_tabulated (side * side) _ (λ i. small_number levels h _),
    )

gives_residual : (b : TransformBlock) → Gives (IsBlock b) (residual_coding b)
unfolding residual_coding
gives_residual b =
    gives_after (IsBlock b) (last_sig_coeff b) _ (λ last.
    gives_then SmallBlock (IsBlock b) (last_sub_block b (last / 16) (last % 16)) _
    (gives_after SmallBlock
    (sig_coeff_flags (sig_coeff_of b (last / 16) nothing_earlier) (last % 16) false) _
    (λ flags. gives_block b (ctxSet b (last / 16) false) (true ∷ flags)))
    (λ this h.
    gives_then AllSmall (IsBlock b) _ _
    (gives_sub_blocks b (last / 16)
    (behind_sub_block b (last / 16) nothing_earlier true this.greater1_flags))
    (λ levels k. rows_are_block b (this.levels ++ levels) (small_both this.levels levels h k))))

pub read_levels_are_small : LevelsThatAreReadHave16Bits
read_levels_are_small b bins levels r = given (IsBlock b) (gives_residual b) r
