-- What is written of the levels of a sub-block is what is read (7.3.8.11): significance, greater1
-- and greater2 flags, signs, and what remains.
use Rattle.std.proofs.Common.{◌≡◌, ℕ, zero, suc, ◌+◌, ◌-◌, ◌<◌, ◌≤◌, Bool, true, false, cond, not, List, [], ◌∷◌, map, length, replicate, ℤ, pos, negsuc, refl, sym, ap, ◌∙◌, subst, arith, ltb-true, ltb-false, le-ltb, true≢false}
use Rattle.std.specs.Prelude.{nat_lt, ◌&&◌, ◌||◌}
use Rattle.std.specs.List.{list_all}
use Rattle.std.specs.Int.{is_negative}
use Rattle.std.proofs.lemmas.Bool.{and_parts}
use Rattle.std.proofs.Math.Bool.{or-false}
use Rattle.hv_stream_model.specs.Scripts.{Done, only_if, ◌>>=◌, Reads, nothing, one}
use Rattle.hv_stream_model.proofs.ScriptLemmas.{reads_then, reads_map, reads_ask, where_true}
use Rattle.hv_residual_model.specs.UnitBins.{UnitQuestion, unit_bin}
use Rattle.hv_residual_model.specs.ResidualContexts.{TransformBlock, next_greater1Ctx, greater2_at}
use Rattle.hv_residual_model.specs.ResidualSyntax.{any, sig_coeff_flags, greater1_flags, greater2_flag, sign_flags, Base, base, bases, next_cRiceParam, with_sign, significant_levels, count, with_zeros, SubBlock, most_greater1_flags, levels_of_flags}
use Rattle.hv_plan.specs.Levels.{has_16_bits, is_significant, any_significant}
use Rattle.hv_residual_model.specs.ResidualBins.{sig_coeff_bins, only_if_so, magnitudes, signs, greater1_values, greater1_bins, first_above_1, greater2_value, greater2_bins, sign_bins, all_remaining_bins, bases_of, level_bins, greater1_of}
use Rattle.hv_residual_model.proofs.UnitBinLemmas.{reads_value}
use Rattle.hv_residual_model.proofs.BinarizationLemmas.{reads_remaining}

-- ---- significance

-- what is sure of a list is sure of its rest where the head is 0
still_sure : (sure a b : Bool) → (sure ≡ true → (a || b) ≡ true) → (sure && not a) ≡ true →
    b ≡ true
still_sure true true b h e = absurd (true≢false (sym e))
still_sure true false b h e = h refl
still_sure false a b h e = absurd (true≢false (sym e))

pub reads_sig_coeff : (question : ℕ → UnitQuestion) (levels : List ℤ) (sure : Bool) →
    (sure ≡ true → any_significant levels ≡ true) →
    Reads (sig_coeff_flags question (length levels) sure) (sig_coeff_bins question levels sure)
    (map is_significant levels)
unfolding sig_coeff_flags sig_coeff_bins
reads_sig_coeff question [] sure h = nothing
reads_sig_coeff question (c ∷ []) true h =
    reads_value nothing
    (ap (λ (v : Bool). v ∷ []) (sym (sym (or-false (is_significant c)) ∙ h refl)))
reads_sig_coeff question (c ∷ []) false h = one nothing
reads_sig_coeff question (c ∷ d ∷ levels) sure h =
    one (reads_map (λ (flags : List Bool). is_significant c ∷ flags)
    (reads_sig_coeff question (d ∷ levels) (sure && not (is_significant c))
    (still_sure sure (is_significant c) (any_significant (d ∷ levels)) h)))

-- ---- greater1

pub reads_greater1 : (b : TransformBlock) (set k : ℕ) (ms : List ℕ) (greater1Ctx : ℕ) →
    Reads (greater1_flags b set k (length ms) greater1Ctx) (greater1_bins b set k ms greater1Ctx)
    (greater1_values k ms)
unfolding greater1_flags greater1_bins
reads_greater1 b set zero ms greater1Ctx = nothing
reads_greater1 b set (suc k) [] greater1Ctx = nothing
reads_greater1 b set (suc k) (m ∷ ms) greater1Ctx =
    one (reads_map (λ (flags : List Bool). nat_lt 1 m ∷ flags)
    (reads_greater1 b set k ms (next_greater1Ctx greater1Ctx (nat_lt 1 m))))

-- ---- greater2

reads_greater2_by : (b : TransformBlock) (set : ℕ) (flags : List Bool) (v t : Bool) →
    any flags ≡ t → (any flags ≡ false → v ≡ false) →
    Reads (greater2_flag b set flags)
    (cond (any flags) (unit_bin (greater2_at b set) v ∷ []) []) v
reads_greater2_by b set flags v true e h = rw e (reads_ask (greater2_at b set) v)
reads_greater2_by b set flags v false e h = rw e (reads_value nothing (sym (h e)))

none_by : (k m : ℕ) (ms : List ℕ) → any (greater1_values (suc k) (m ∷ ms)) ≡ false →
    (any (greater1_values k ms) ≡ false → first_above_1 k ms ≡ 0) →
    (t : Bool) → nat_lt 1 m ≡ t → first_above_1 (suc k) (m ∷ ms) ≡ 0
none_by k m ms h ih true e = absurd (true≢false (rw e at h))
none_by k m ms h ih false e = rw e (ih (rw e at h))

none_above_1 : (k : ℕ) (ms : List ℕ) → any (greater1_values k ms) ≡ false →
    first_above_1 k ms ≡ 0
none_above_1 zero ms h = refl
none_above_1 (suc k) [] h = refl
none_above_1 (suc k) (m ∷ ms) h = none_by k m ms h (none_above_1 k ms) (nat_lt 1 m) refl

reads_greater2 : (b : TransformBlock) (set : ℕ) (ms : List ℕ) →
    Reads (greater2_flag b set (greater1_values most_greater1_flags ms)) (greater2_bins b set ms)
    (greater2_value ms)
reads_greater2 b set ms =
    reads_greater2_by b set (greater1_values most_greater1_flags ms) (greater2_value ms)
    (any (greater1_values most_greater1_flags ms)) refl
    (λ h. rw (none_above_1 most_greater1_flags ms h) refl)

-- ---- signs

reads_signs : (ss : List Bool) → Reads (sign_flags (length ss)) (sign_bins ss) ss
reads_signs [] = nothing
reads_signs (s ∷ ss) = one (reads_map (λ (flags : List Bool). s ∷ flags) (reads_signs ss))

-- ---- what remains

-- these magnitudes are at least what the flags say, and just that where nothing remains
abbrev pub Allows : List Base → List ℕ → Type 0
Allows [] [] = Unit {0}
Allows [] (m ∷ ms) = ⊥
Allows (b ∷ bs) [] = ⊥
Allows (b ∷ bs) (m ∷ ms) =
    (b.baseLevel ≤ m) × cond b.has_remaining (Unit {0}) (m ≡ b.baseLevel) × Allows bs ms

-- these levels have these magnitudes and signs, and 16 bits
abbrev pub Signed : List ℕ → List Bool → List ℤ → Type 0
Signed [] [] [] = Unit {0}
Signed [] [] (l ∷ ls) = ⊥
Signed [] (s ∷ ss) ls = ⊥
Signed (m ∷ ms) [] ls = ⊥
Signed (m ∷ ms) (s ∷ ss) [] = ⊥
Signed (m ∷ ms) (s ∷ ss) (l ∷ ls) =
    (with_sign s m ≡ l) × (has_16_bits l ≡ true) × (1 ≤ m) × (m ≤ 32768) × Signed ms ss ls

reads_level_by : (b : Base) (bs : List Base) (m : ℕ) (ms : List ℕ) (s : Bool) (ss : List Bool)
    (l : ℤ) (ls : List ℤ) (k : ℕ) →
    Allows (b ∷ bs) (m ∷ ms) → Signed (m ∷ ms) (s ∷ ss) (l ∷ ls) →
    ((j : ℕ) → Reads (significant_levels bs ss j) (all_remaining_bins bs ms j) ls) →
    (o : Bool) → b.has_remaining ≡ o →
    Reads (significant_levels (b ∷ bs) (s ∷ ss) k) (all_remaining_bins (b ∷ bs) (m ∷ ms) k)
    (l ∷ ls)
reads_level_by b bs m ms s ss l ls k h g ih true e =
    let w : b.baseLevel + (m - b.baseLevel) ≡ m = omega (arith, h.0) in
    let test : has_16_bits (with_sign s m) ≡ true = rw g.0 g.1 in
    let rest : Reads
    (only_if (has_16_bits (with_sign s m))
    (significant_levels bs ss (next_cRiceParam k m) >>= λ levels.
    Done (with_sign s m ∷ levels)))
    (all_remaining_bins bs ms (next_cRiceParam k m)) (l ∷ ls) =
    where_true (has_16_bits (with_sign s m)) test
    (reads_value
    (reads_map (λ (levels : List ℤ). with_sign s m ∷ levels) (ih (next_cRiceParam k m)))
    (ap (λ (x : ℤ). x ∷ ls) g.0)) in
    let here : Reads
    (only_if (has_16_bits (with_sign s (b.baseLevel + (m - b.baseLevel))))
    (significant_levels bs ss (next_cRiceParam k (b.baseLevel + (m - b.baseLevel))) >>= λ levels.
    Done (with_sign s (b.baseLevel + (m - b.baseLevel)) ∷ levels)))
    (all_remaining_bins bs ms (next_cRiceParam k m)) (l ∷ ls) =
    rw w rest in
    rw e (reads_then
    (λ (remaining : ℕ).
    only_if (has_16_bits (with_sign s (b.baseLevel + remaining)))
    (significant_levels bs ss (next_cRiceParam k (b.baseLevel + remaining)) >>= λ levels.
    Done (with_sign s (b.baseLevel + remaining) ∷ levels)))
    (reads_remaining k (m - b.baseLevel) (omega (arith, g.3)))
    here)
reads_level_by b bs m ms s ss l ls k h g ih false e =
    let w : m ≡ b.baseLevel = rw e at h.1 in
    rw e (reads_value (reads_map (λ (levels : List ℤ). with_sign s b.baseLevel ∷ levels) (ih k))
    (ap (λ (x : ℤ). x ∷ ls) (ap (with_sign s) (sym w) ∙ g.0)))

reads_levels : (bs : List Base) (ms : List ℕ) (ss : List Bool) (ls : List ℤ) (k : ℕ) →
    Allows bs ms → Signed ms ss ls →
    Reads (significant_levels bs ss k) (all_remaining_bins bs ms k) ls
reads_levels [] [] [] [] k h g = nothing
reads_levels [] [] [] (l ∷ ls) k h g = absurd g
reads_levels [] [] (s ∷ ss) ls k h g = absurd g
reads_levels [] (m ∷ ms) ss ls k h g = absurd h
reads_levels (b ∷ bs) [] ss ls k h g = absurd h
reads_levels (b ∷ bs) (m ∷ ms) [] ls k h g = absurd g
reads_levels (b ∷ bs) (m ∷ ms) (s ∷ ss) [] k h g = absurd g
reads_levels (b ∷ bs) (m ∷ ms) (s ∷ ss) (l ∷ ls) k h g =
    reads_level_by b bs m ms s ss l ls k h g (λ j. reads_levels bs ms ss ls j h.2 g.4)
    b.has_remaining refl

-- ---- what the flags say of magnitudes is true of them

abbrev pub AllPositive : List ℕ → Type 0
AllPositive [] = Unit {0}
AllPositive (m ∷ ms) = (1 ≤ m) × AllPositive ms

allows_beyond : (ms : List ℕ) → AllPositive ms → Allows (replicate (length ms) (base 1 true)) ms
allows_beyond [] h = tt
allows_beyond (m ∷ ms) h = (h.0, tt, allows_beyond ms h.1)

allows_later_by : (g : Bool) (k m : ℕ) (ms : List ℕ) → AllPositive (m ∷ ms) →
    Allows (bases false g (greater1_values k ms) (length ms)) ms →
    (t : Bool) → nat_lt 1 m ≡ t →
    Allows (bases false g (greater1_values (suc k) (m ∷ ms)) (length (m ∷ ms))) (m ∷ ms)
allows_later_by g k m ms h ih true e = let less = ltb-true 1 m e in rw e (less, tt, ih)
allows_later_by g k m ms h ih false e =
    let from = ltb-false 1 m e in
    let w : m ≡ 1 = omega (arith, from, h.0) in
    rw e (h.0, w, ih)

allows_later : (g : Bool) (k : ℕ) (ms : List ℕ) → AllPositive ms →
    Allows (bases false g (greater1_values k ms) (length ms)) ms
allows_later g zero ms h = allows_beyond ms h
allows_later g (suc k) [] h = tt
allows_later g (suc k) (m ∷ ms) h =
    allows_later_by g k m ms h (allows_later g k ms h.1) (nat_lt 1 m) refl

allows_first : (k m : ℕ) (ms : List ℕ) → AllPositive (m ∷ ms) → 1 < m →
    (t : Bool) → nat_lt 2 m ≡ t →
    Allows (bases true (nat_lt 2 m) (true ∷ greater1_values k ms) (length (m ∷ ms))) (m ∷ ms)
allows_first k m ms h less true e =
    let three = ltb-true 2 m e in rw e (three, tt, allows_later true k ms h.1)
allows_first k m ms h less false e =
    let from = ltb-false 2 m e in
    let w : m ≡ 2 = omega (arith, from, less) in
    rw e (less, w, allows_later false k ms h.1)

allows_by : (k m : ℕ) (ms : List ℕ) → AllPositive (m ∷ ms) →
    Allows (bases true (nat_lt 2 (first_above_1 k ms)) (greater1_values k ms) (length ms)) ms →
    (t : Bool) → nat_lt 1 m ≡ t →
    Allows
    (bases true (nat_lt 2 (first_above_1 (suc k) (m ∷ ms))) (greater1_values (suc k) (m ∷ ms))
    (length (m ∷ ms)))
    (m ∷ ms)
allows_by k m ms h ih true e = rw e (allows_first k m ms h (ltb-true 1 m e) (nat_lt 2 m) refl)
allows_by k m ms h ih false e =
    let from = ltb-false 1 m e in
    let w : m ≡ 1 = omega (arith, from, h.0) in
    rw e (h.0, w, ih)

pub allows : (k : ℕ) (ms : List ℕ) → AllPositive ms →
    Allows (bases true (nat_lt 2 (first_above_1 k ms)) (greater1_values k ms) (length ms)) ms
allows zero ms h = allows_beyond ms h
allows (suc k) [] h = tt
allows (suc k) (m ∷ ms) h = allows_by k m ms h (allows k ms h.1) (nat_lt 1 m) refl

-- ---- levels, from their magnitudes and signs

-- those that aren't 0
abbrev pub non_zero : List ℤ → List ℤ
non_zero [] = []
non_zero (c ∷ cs) = only_if_so (is_significant c) c (non_zero cs)

all_placed : (cs : List ℤ) → with_zeros (map is_significant cs) (non_zero cs) ≡ cs
all_placed [] = refl
all_placed (pos zero ∷ cs) = ap (λ (xs : List ℤ). pos 0 ∷ xs) (all_placed cs)
all_placed (pos (suc n) ∷ cs) = ap (λ (xs : List ℤ). pos (suc n) ∷ xs) (all_placed cs)
all_placed (negsuc n ∷ cs) = ap (λ (xs : List ℤ). negsuc n ∷ xs) (all_placed cs)

pub counted : (cs : List ℤ) → count (map is_significant cs) ≡ length (magnitudes cs)
counted [] = refl
counted (pos zero ∷ cs) = counted cs
counted (pos (suc n) ∷ cs) = ap suc (counted cs)
counted (negsuc n ∷ cs) = ap suc (counted cs)

pub as_many_signs : (cs : List ℤ) → length (signs cs) ≡ length (magnitudes cs)
as_many_signs [] = refl
as_many_signs (pos zero ∷ cs) = as_many_signs cs
as_many_signs (pos (suc n) ∷ cs) = ap suc (as_many_signs cs)
as_many_signs (negsuc n ∷ cs) = ap suc (as_many_signs cs)

all_positive : (cs : List ℤ) → AllPositive (magnitudes cs)
all_positive [] = tt
all_positive (pos zero ∷ cs) = all_positive cs
all_positive (pos (suc n) ∷ cs) = (omega arith, all_positive cs)
all_positive (negsuc n ∷ cs) = (omega arith, all_positive cs)

all_signed : (cs : List ℤ) → list_all has_16_bits cs ≡ true →
    Signed (magnitudes cs) (signs cs) (non_zero cs)
all_signed [] h = tt
all_signed (pos zero ∷ cs) h = all_signed cs h
all_signed (pos (suc n) ∷ cs) h =
    let p = and_parts (nat_lt (suc n) 32768) (list_all has_16_bits cs) h in
    let less = ltb-true (suc n) 32768 p.0 in
    let sign : is_negative (pos (suc n)) ≡ false = le-ltb (suc n) 0 (omega arith) in
    (rw sign refl, p.0, omega arith, omega (arith, less), all_signed cs p.1)
all_signed (negsuc n ∷ cs) h =
    let p = and_parts (nat_lt n 32768) (list_all has_16_bits cs) h in
    let less = ltb-true n 32768 p.0 in
    (refl, p.0, omega arith, omega (arith, less), all_signed cs p.1)

-- ---- what follows the significance

abbrev pub this_block : List ℤ → SubBlock
this_block cs = record { levels = cs; greater1_flags = greater1_of cs }

pub reads_levels_of_flags : (b : TransformBlock) (set : ℕ) (cs : List ℤ) →
    list_all has_16_bits cs ≡ true →
    Reads (levels_of_flags b set (map is_significant cs)) (level_bins b set cs) (this_block cs)
unfolding levels_of_flags level_bins
reads_levels_of_flags b set cs h =
    let ms : List ℕ = magnitudes cs in
    let n : ℕ = length ms in
    let flags : List Bool = map is_significant cs in
    let greater1 : List Bool = greater1_values most_greater1_flags ms in
    let greater2 : Bool = greater2_value ms in
    let made : List ℤ → SubBlock =
    λ levels. record { levels = with_zeros flags levels; greater1_flags = greater1 } in
    let levels : Reads (significant_levels (bases true greater2 greater1 n) (signs cs) 0)
    (all_remaining_bins (bases_of ms) ms 0) (non_zero cs) =
    reads_levels (bases_of ms) ms (signs cs) (non_zero cs) 0
    (allows most_greater1_flags ms (all_positive cs)) (all_signed cs h) in
    let last : Reads
    (significant_levels (bases true greater2 greater1 n) (signs cs) 0 >>= λ ls. Done (made ls))
    (all_remaining_bins (bases_of ms) ms 0) (this_block cs) =
    reads_value (reads_map made levels)
    (ap (λ (xs : List ℤ). record { levels = xs; greater1_flags = greater1 }) (all_placed cs)) in
    let some_signs : Reads (sign_flags n) (sign_bins (signs cs)) (signs cs) =
    subst (λ (k : ℕ). Reads (sign_flags k) (sign_bins (signs cs)) (signs cs)) (as_many_signs cs)
    (reads_signs (signs cs)) in
    let after_signs = reads_then
    (λ ss. significant_levels (bases true greater2 greater1 n) ss 0 >>= λ ls. Done (made ls))
    some_signs last in
    let after_greater2 = reads_then
    (λ g. sign_flags n >>= λ ss.
    significant_levels (bases true g greater1 n) ss 0 >>= λ ls. Done (made ls))
    (reads_greater2 b set ms) after_signs in
    let all_flags : Reads
    (greater1_flags b set most_greater1_flags n 1 >>= λ gs.
    greater2_flag b set gs >>= λ g.
    sign_flags n >>= λ ss.
    significant_levels (bases true g gs n) ss 0 >>= λ ls.
    Done (record { levels = with_zeros flags ls; greater1_flags = gs }))
    (level_bins b set cs) (this_block cs) =
    reads_then
    (λ gs. greater2_flag b set gs >>= λ g.
    sign_flags n >>= λ ss.
    significant_levels (bases true g gs n) ss 0 >>= λ ls.
    Done (record { levels = with_zeros flags ls; greater1_flags = gs }))
    (reads_greater1 b set most_greater1_flags ms 1) after_greater2 in
    rw (counted cs) all_flags
