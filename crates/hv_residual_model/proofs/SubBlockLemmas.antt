-- Sub-blocks, one after another, are read back (7.3.8.11).
use Rattle.std.proofs.Common.{◌≡◌, ℕ, zero, suc, ◌+◌, ◌*◌, Bool, true, false, List, [], ◌∷◌, ◌++◌, map, length, replicate, ℤ, pos, negsuc, refl, sym, ap, ◌∙◌, subst, arith, true≢false}
use Rattle.std.specs.Prelude.{nat_lt, slice_index_or}
use Rattle.std.specs.List.{list_all}
use Rattle.std.proofs.lemmas.Bool.{and_parts}
use Rattle.hv_stream_model.specs.Scripts.{Done, ◌>>=◌, Reads, nothing}
use Rattle.hv_stream_model.proofs.ScriptLemmas.{reads_then, reads_map, reads_ask}
use Rattle.hv_residual_model.specs.ResidualContexts.{TransformBlock, coded_sub_block_at, ctxSet}
use Rattle.hv_residual_model.specs.ResidualSyntax.{Earlier, nothing_earlier, sub_block_at, right_flag, below_flag, behind_sub_block, sig_coeff_of, sig_coeff_flags, SubBlock, levels_of_flags, last_sub_block, positions, coded_sub_block_flag, sub_block, sub_blocks_below}
use Rattle.hv_plan.specs.Levels.{has_16_bits, is_significant, any_significant}
use Rattle.hv_residual_model.specs.ResidualBins.{level_at, downwards, levels_below, sig_coeff_bins, level_bins, coded_sub_block_value, coded_sub_block_bins, sub_block_bins, greater1_if, behind_levels, sub_blocks_bins, last_sub_block_bins}
use Rattle.hv_residual_model.proofs.UnitBinLemmas.{reads_value}
use Rattle.hv_residual_model.proofs.LevelLemmas.{reads_sig_coeff, reads_levels_of_flags}

-- ---- lists downwards

pub length-downwards : {A : Type 0} (n : ℕ) (f : ℕ → A) → length (downwards n f) ≡ n
unfolding downwards
length-downwards zero f = refl
length-downwards (suc n) f = ap suc (length-downwards n f)

-- those from n on, and then those below n
pub downwards-both : {A : Type 0} (m n : ℕ) (f : ℕ → A) →
    downwards m (λ i. f (n + i)) ++ downwards n f ≡ downwards (n + m) f
unfolding downwards
downwards-both zero n f = let e : n ≡ n + 0 = omega arith in ap (λ (k : ℕ). downwards k f) e
downwards-both (suc m) n f =
    let e : suc (n + m) ≡ n + suc m = omega arith in
    ap (λ xs. f (n + m) ∷ xs) (downwards-both m n f) ∙ ap (λ (k : ℕ). downwards k f) e

pub all-downwards : {A : Type 0} (p : A → Bool) (n : ℕ) (f : ℕ → A) →
    ((i : ℕ) → p (f i) ≡ true) → list_all p (downwards n f) ≡ true
unfolding downwards
all-downwards p zero f h = refl
all-downwards p (suc n) f h = rw (h n, all-downwards p n f h) refl

-- ---- levels of 16 bits

pub all_or : {A : Type 0} (p : A → Bool) (xs : List A) (i : ℕ) (d : A) →
    list_all p xs ≡ true → p d ≡ true → p (slice_index_or xs i d) ≡ true
all_or p [] i d h k = k
all_or p (x ∷ xs) zero d h k = (and_parts (p x) (list_all p xs) h).0
all_or p (x ∷ xs) (suc i) d h k = all_or p xs i d (and_parts (p x) (list_all p xs) h).1 k

abbrev pub AllSmall : List ℤ → Type 0
AllSmall levels = list_all has_16_bits levels ≡ true

small_at : (b : TransformBlock) (levels : List ℤ) → AllSmall levels → (n : ℕ) →
    has_16_bits (level_at b levels n) ≡ true
unfolding level_at
small_at b levels h n = all_or has_16_bits levels _ (pos 0) h refl

pub small_below : (b : TransformBlock) (levels : List ℤ) → AllSmall levels → (s n : ℕ) →
    AllSmall (levels_below b levels s n)
unfolding levels_below
small_below b levels h s n =
    all-downwards has_16_bits n (λ i. level_at b levels (16 * s + i))
    (λ i. small_at b levels h (16 * s + i))

pub as_many : (b : TransformBlock) (levels : List ℤ) (s n : ℕ) →
    length (levels_below b levels s n) ≡ n
unfolding levels_below
as_many b levels s n = length-downwards n (λ i. level_at b levels (16 * s + i))

-- ---- a sub-block without levels

none_set : (cs : List ℤ) → any_significant cs ≡ false → cs ≡ replicate (length cs) (pos 0)
none_set [] h = refl
none_set (pos zero ∷ cs) h = ap (λ (xs : List ℤ). pos 0 ∷ xs) (none_set cs h)
none_set (pos (suc n) ∷ cs) h = absurd (true≢false h)
none_set (negsuc n ∷ cs) h = absurd (true≢false h)

empty : (cs : List ℤ) → length cs ≡ positions → any_significant cs ≡ false →
    replicate positions (pos 0) ≡ cs
empty cs l h = sym (none_set cs h ∙ ap (λ (n : ℕ). replicate n (pos 0)) l)

-- ---- a sub-block

abbrev pub read_block : Bool → List ℤ → SubBlock
read_block flag cs = record { levels = cs; greater1_flags = greater1_if flag cs }

reads_flag : (b : TransformBlock) (s : ℕ) (e : Earlier) (cs : List ℤ) →
    Reads (coded_sub_block_flag b s e) (coded_sub_block_bins b s e cs) (coded_sub_block_value s cs)
reads_flag b zero e cs = nothing
reads_flag b (suc s) e cs =
    let S = sub_block_at b (suc s) in
    reads_ask (coded_sub_block_at b (right_flag e S) (below_flag e S)) (any_significant cs)

reads_coded : (b : TransformBlock) (s : ℕ) (e : Earlier) (cs : List ℤ) →
    length cs ≡ positions → AllSmall cs → (nat_lt 0 s ≡ true → any_significant cs ≡ true) →
    Reads (sub_block b s e true) (sub_block_bins b s e true cs) (read_block true cs)
reads_coded b s e cs l small h =
    let sure : Bool = nat_lt 0 s in
    let i = subst (λ (n : ℕ).
    Reads (sig_coeff_flags (sig_coeff_of b s e) n sure)
    (sig_coeff_bins (sig_coeff_of b s e) cs sure) (map is_significant cs)) l
    (reads_sig_coeff (sig_coeff_of b s e) cs sure h) in
    reads_then (λ flags. levels_of_flags b (ctxSet b s e.had_greater1) flags) i
    (reads_levels_of_flags b (ctxSet b s e.had_greater1) cs small)

reads_later : (b : TransformBlock) (s : ℕ) (e : Earlier) (cs : List ℤ) →
    length cs ≡ positions → AllSmall cs → (flag : Bool) → any_significant cs ≡ flag →
    Reads (sub_block b (suc s) e flag) (sub_block_bins b (suc s) e flag cs) (read_block flag cs)
reads_later b s e cs l small true k = reads_coded b (suc s) e cs l small (λ sure. k)
reads_later b s e cs l small false k =
    reads_value nothing
    (ap (λ (xs : List ℤ). record { levels = xs; greater1_flags = [] }) (empty cs l k))

reads_sub_block : (b : TransformBlock) (s : ℕ) (e : Earlier) (cs : List ℤ) →
    length cs ≡ positions → AllSmall cs →
    Reads (sub_block b s e (coded_sub_block_value s cs))
    (sub_block_bins b s e (coded_sub_block_value s cs) cs)
    (read_block (coded_sub_block_value s cs) cs)
reads_sub_block b zero e cs l small =
    reads_coded b zero e cs l small (λ sure. absurd (true≢false (sym sure)))
reads_sub_block b (suc s) e cs l small = reads_later b s e cs l small (any_significant cs) refl

-- ---- all below

sixteen_more : (b : TransformBlock) (levels : List ℤ) (s : ℕ) →
    levels_below b levels s positions ++ downwards (16 * s) (level_at b levels) ≡
    downwards (16 * suc s) (level_at b levels)
unfolding levels_below positions
sixteen_more b levels s =
    let e : 16 * s + 16 ≡ 16 * suc s = omega arith in
    downwards-both 16 (16 * s) (level_at b levels) ∙
    ap (λ (k : ℕ). downwards k (level_at b levels)) e

none_below : (b : TransformBlock) (levels : List ℤ) → downwards (16 * 0) (level_at b levels) ≡ []
unfolding downwards
none_below b levels = refl

pub reads_sub_blocks : (b : TransformBlock) (levels : List ℤ) → AllSmall levels →
    (s : ℕ) (e : Earlier) →
    Reads (sub_blocks_below b s e) (sub_blocks_bins b levels s e)
    (downwards (16 * s) (level_at b levels))
unfolding sub_blocks_below sub_blocks_bins
reads_sub_blocks b levels small zero e = reads_value nothing (sym (none_below b levels))
reads_sub_blocks b levels small (suc s) e =
    let cs : List ℤ = levels_below b levels s positions in
    let flag : Bool = coded_sub_block_value s cs in
    let here = reads_sub_block b s e cs (as_many b levels s positions)
    (small_below b levels small s positions) in
    let rest = reads_value
    (reads_map (λ (ls : List ℤ). cs ++ ls)
    (reads_sub_blocks b levels small s (behind_levels b s e flag cs)))
    (sixteen_more b levels s) in
    reads_then
    (λ f. sub_block b s e f >>= λ this.
    sub_blocks_below b s (behind_sub_block b s e f this.greater1_flags) >>= λ ls.
    Done (this.levels ++ ls))
    (reads_flag b s e cs)
    (reads_then
    (λ this. sub_blocks_below b s (behind_sub_block b s e flag this.greater1_flags) >>= λ ls.
    Done (this.levels ++ ls))
    here rest)

-- ---- the sub-block of the last position

pub reads_last_sub_block : (b : TransformBlock) (s : ℕ) (c : ℤ) (cs : List ℤ) →
    AllSmall (c ∷ cs) → is_significant c ≡ true →
    Reads (last_sub_block b s (length cs)) (last_sub_block_bins b s (c ∷ cs))
    (read_block true (c ∷ cs))
reads_last_sub_block b s c cs small k =
    let set : ℕ = ctxSet b s false in
    let all = reads_levels_of_flags b set (c ∷ cs) small in
    let first : Reads (levels_of_flags b set (true ∷ map is_significant cs))
    (level_bins b set (c ∷ cs)) (read_block true (c ∷ cs)) =
    subst (λ (v : Bool). Reads (levels_of_flags b set (v ∷ map is_significant cs))
    (level_bins b set (c ∷ cs)) (read_block true (c ∷ cs))) k all in
    reads_then (λ flags. levels_of_flags b set (true ∷ flags))
    (reads_sig_coeff (sig_coeff_of b s nothing_earlier) cs false
    (λ sure. absurd (true≢false (sym sure))))
    first
