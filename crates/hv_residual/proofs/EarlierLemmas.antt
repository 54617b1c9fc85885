-- What follows a sub-block, from what the code keeps of those before, and what it keeps then.
use Rattle.std.proofs.Common.{add-one, drop, take, ◌≡◌, ◌≤◌, ◌<◌, ℕ, zero, suc, ◌+◌, ◌-◌, ◌*◌, Bool, true, false, cond, nat_eq, nat_lt, ◌&&◌, List, [], ◌∷◌, ◌++◌, ℤ, length, replicate, get_or, refl, ap, sym, ◌∙◌, arith, append_assoc}
use Rattle.std.proofs.Math.Seq.{take-length}
use Rattle.std.specs.Bool.{if◌then◌else◌}
use Rattle.std.proofs.Math.Dec.{eqb-suc-zero}
use Rattle.hv_residual_model.proofs.SubBlockLemmas.{as_many}
use Rattle.hv_residual_model.specs.ScanOrder.{Position}
use Rattle.hv_residual_model.specs.ResidualContexts.{TransformBlock, ctxSet}
use Rattle.hv_residual_model.specs.ResidualSyntax.{Earlier, had_greater1_after, sub_block_at, right_flag, below_flag, positions, any}
use Rattle.hv_residual_model.specs.ResidualBins.{sig_coeff_bins, level_bins, greater1_of, greater1_bins, greater2_bins, sign_bins, all_remaining_bins, greater1_values, first_above_1, magnitudes, signs, levels_below, downwards, coded_sub_block_value, coded_sub_block_bins, sub_block_bins, behind_levels, sub_blocks_bins, last_sub_block_bins, level_at}
use Rattle.hv_plan.specs.Levels.{any_significant}
use Rattle.hv_residual_model.specs.ResidualSyntax.{bases}
use Rattle.hv_residual.specs.Levels.{sig_question}
use Rattle.hv_residual.specs.Earlier.{coded_flag_bins, flag_value, coded_bins, had_behind}

pub all_off : (n i : ℕ) → get_or (replicate n false) i false ≡ false
all_off zero i = refl
all_off (suc n) zero = refl
all_off (suc n) (suc i) = all_off n i

-- ---- what follows the significance of levels
pub level_parts : (b : TransformBlock) (set : ℕ) (levels : List ℤ) (m : List ℕ) (v : List Bool)
    (first : ℕ) → m ≡ magnitudes levels → v ≡ signs levels → first ≡ first_above_1 8 m →
    greater1_bins b set 8 m 1 ++ (greater2_bins b set m ++ (sign_bins v ++
    all_remaining_bins (bases true (nat_lt 2 first) (greater1_values 8 m) (length m)) m 0)) ≡
    level_bins b set levels
unfolding level_bins
level_parts b set levels m v first em ev ef = rw (ef, em, ev) refl

-- ---- whether a greater1 flag was 1
any_case : (k m : ℕ) (ms : List ℕ) (t : Bool) → nat_lt 1 m ≡ t →
    any (greater1_values k ms) ≡ nat_lt 1 (first_above_1 k ms) →
    any (t ∷ greater1_values k ms) ≡ nat_lt 1 (cond t m (first_above_1 k ms))
any_case k m ms true e later = sym e
any_case k m ms false e later = later

pub any_is : (k : ℕ) (ms : List ℕ) → any (greater1_values k ms) ≡ nat_lt 1 (first_above_1 k ms)
any_is zero ms = refl
any_is (suc k) [] = refl
any_is (suc k) (m ∷ ms) = any_case k m ms (nat_lt 1 m) refl (any_is k ms)

had_case : (had : Bool) (k : ℕ) (ms : List ℕ) →
    (if nat_eq (length ms) 0 then had else nat_lt 1 (first_above_1 (suc k) ms)) ≡
    had_greater1_after had (greater1_values (suc k) ms)
had_case had k [] = refl
had_case had k (m ∷ ms) = rw (eqb-suc-zero (length ms)) (sym (any_is (suc k) (m ∷ ms)))

pub had_is : (had : Bool) (levels : List ℤ) (m : List ℕ) (count first : ℕ) → m ≡ magnitudes levels →
    count ≡ length (magnitudes levels) → first ≡ first_above_1 8 m →
    (if nat_eq count 0 then had else nat_lt 1 first) ≡ had_greater1_after had (greater1_of levels)
had_is had levels m count first em ec ef =
    let f : first ≡ first_above_1 8 (magnitudes levels) = ef ∙ ap (λ (xs : List ℕ). first_above_1 8 xs) em in
    rw (ec, f) (had_case had 7 (magnitudes levels))

-- ---- a sub-block
flag_bins_are : (b : TransformBlock) (s : ℕ) (e : Earlier) (levels : List ℤ) →
    coded_flag_bins b s (right_flag e (sub_block_at b s)) (below_flag e (sub_block_at b s))
    (any_significant levels) ≡ coded_sub_block_bins b s e levels
flag_bins_are b zero e levels = refl
flag_bins_are b (suc s) e levels = refl

flag_value_is : (s : ℕ) (levels : List ℤ) →
    flag_value s (any_significant levels) ≡ coded_sub_block_value s levels
flag_value_is zero levels = refl
flag_value_is (suc s) levels = refl

coded_bins_are : (b : TransformBlock) (s : ℕ) (e : Earlier) (flag : Bool) (levels : List ℤ) →
    coded_bins b s (sub_block_at b s) (right_flag e (sub_block_at b s))
    (below_flag e (sub_block_at b s)) e.had_greater1 flag levels ≡ sub_block_bins b s e flag levels
coded_bins_are b s e false levels = refl
coded_bins_are b s e true levels = refl

pub sub_block_parts : (b : TransformBlock) (s : ℕ) (e : Earlier) (these levels : List ℤ) (S : Position)
    (right below some flag had : Bool) → S ≡ sub_block_at b s →
    right ≡ e.coded_sub_block_flag (S.x + 1) S.y → below ≡ e.coded_sub_block_flag S.x (S.y + 1) →
    levels ≡ these → some ≡ any_significant levels → flag ≡ flag_value s some →
    had ≡ e.had_greater1 →
    coded_flag_bins b s right below some ++ coded_bins b s S right below had flag levels ≡
    coded_sub_block_bins b s e these ++ sub_block_bins b s e (coded_sub_block_value s these) these
sub_block_parts b s e these levels S right below some flag had eS er eb el ea ef eh =
    let r : right ≡ right_flag e (sub_block_at b s) = er ∙ ap (λ (P : Position). right_flag e P) eS in
    let d : below ≡ below_flag e (sub_block_at b s) = eb ∙ ap (λ (P : Position). below_flag e P) eS in
    let a : some ≡ any_significant these = ea ∙ ap any_significant el in
    let f : flag ≡ coded_sub_block_value s these =
    ef ∙ ap (λ (v : Bool). flag_value s v) a ∙ flag_value_is s these in
    let first : coded_flag_bins b s right below some ≡ coded_sub_block_bins b s e these =
    rw (r, d, a) (flag_bins_are b s e these) in
    let second : coded_bins b s S right below had flag levels ≡
    sub_block_bins b s e (coded_sub_block_value s these) these =
    rw (eS, r, d, f, el, eh) (coded_bins_are b s e (coded_sub_block_value s these) these) in
    rw (first, second) refl

-- ---- what is kept behind a sub-block
abbrev pub behind_at : Position → Earlier → Bool → Bool → Earlier
behind_at S e flag had = record {
  coded_sub_block_flag = λ x y.
      cond (nat_eq x S.x && nat_eq y S.y) flag (e.coded_sub_block_flag x y);
  had_greater1 = had;
}

behind_case : (b : TransformBlock) (s : ℕ) (e : Earlier) (flag : Bool) (levels : List ℤ) →
    behind_at (sub_block_at b s) e flag (had_behind flag e.had_greater1 levels) ≡
    behind_levels b s e flag levels
behind_case b s e false levels = refl
behind_case b s e true levels = refl

pub behind_is : (b : TransformBlock) (s : ℕ) (e : Earlier) (these levels : List ℤ) (S : Position)
    (flag value had now : Bool) → S ≡ sub_block_at b s → flag ≡ value → levels ≡ these →
    had ≡ e.had_greater1 → now ≡ had_behind flag had levels →
    behind_at S e flag now ≡ behind_levels b s e value these
behind_is b s e these levels S flag value had now eS ef el eh en =
    let n : now ≡ had_behind value e.had_greater1 these = rw (← ef, ← el, ← eh) en in
    ap (λ (P : Position). behind_at P e flag now) eS ∙
    ap (λ (v : Bool). behind_at (sub_block_at b s) e v now) ef ∙
    ap (λ (v : Bool). behind_at (sub_block_at b s) e value v) n ∙ behind_case b s e value these

pub value_is : (s : ℕ) (these levels : List ℤ) (some flag : Bool) → levels ≡ these →
    some ≡ any_significant levels → flag ≡ flag_value s some → flag ≡ coded_sub_block_value s these
value_is s these levels some flag el ea ef =
    ef ∙ ap (λ (v : Bool). flag_value s v) (ea ∙ ap any_significant el) ∙ flag_value_is s these

-- ---- the sub-blocks one after another
next_one : (b : TransformBlock) (levels : List ℤ) (s : ℕ) (e : Earlier) →
    (let these = levels_below b levels s positions in
    let flag = coded_sub_block_value s these in
    sub_blocks_bins b levels (suc s) e ≡
    (coded_sub_block_bins b s e these ++ sub_block_bins b s e flag these) ++
    sub_blocks_bins b levels s (behind_levels b s e flag these))
unfolding sub_blocks_bins
next_one b levels s e =
    let these : List ℤ = levels_below b levels s positions in
    let flag : Bool = coded_sub_block_value s these in
    sym (append_assoc (coded_sub_block_bins b s e these) (sub_block_bins b s e flag these)
    (sub_blocks_bins b levels s (behind_levels b s e flag these)))

pub next_sub_block : (b : TransformBlock) (levels : List ℤ) (s : ℕ) (e : Earlier) → 0 < s →
    (let these = levels_below b levels (s - 1) positions in
    let flag = coded_sub_block_value (s - 1) these in
    sub_blocks_bins b levels s e ≡
    (coded_sub_block_bins b (s - 1) e these ++ sub_block_bins b (s - 1) e flag these) ++
    sub_blocks_bins b levels (s - 1) (behind_levels b (s - 1) e flag these))
next_sub_block b levels zero e h = absurd (omega arith)
next_sub_block b levels (suc s) e h =
    let n : suc s - 1 ≡ s = omega arith in
    rw n (next_one b levels s e)

pub no_sub_block : (b : TransformBlock) (levels : List ℤ) (s : ℕ) (e : Earlier) → s ≤ 0 →
    sub_blocks_bins b levels s e ≡ []
unfolding sub_blocks_bins
no_sub_block b levels s e h = let z : s ≡ 0 = omega arith in rw z refl

pub positions_are : positions ≡ 16
unfolding positions
positions_are = refl

-- ---- the last sub-block
dropped : (f : ℕ → ℤ) (n k : ℕ) → k ≤ n → drop k (downwards n f) ≡ downwards (n - k) f
unfolding downwards
dropped f n zero h = let e : n - 0 ≡ n = omega arith in rw e refl
dropped f zero (suc k) h = absurd (omega arith)
dropped f (suc n) (suc k) h =
    let e : suc n - suc k ≡ n - k = omega arith in rw e (dropped f n k (omega arith))

-- those of a sub-block below position n
pub lower_levels : (b : TransformBlock) (levels : List ℤ) (s n : ℕ) (these : List ℤ) → n ≤ 16 →
    these ≡ levels_below b levels s 16 → drop (16 - n) these ≡ levels_below b levels s n
unfolding levels_below
lower_levels b levels s n these h e =
    let d : 16 - (16 - n) ≡ n = omega arith in
    ap (λ (xs : List ℤ). drop (16 - n) xs) e ∙
    dropped (λ i. level_at b levels (16 * s + i)) 16 (16 - n) (omega arith) ∙
    ap (λ (k : ℕ). downwards k (λ i. level_at b levels (16 * s + i))) d

pub last_parts : (b : TransformBlock) (levels : List ℤ) (s i set : ℕ) (lower all : List ℤ)
    (S : Position) → S ≡ sub_block_at b s → lower ≡ levels_below b levels s i →
    all ≡ levels_below b levels s (i + 1) → set ≡ ctxSet b s false →
    sig_coeff_bins (sig_question b false false S) lower false ++ level_bins b set all ≡
    last_sub_block_bins b s (levels_below b levels s (i + 1))
unfolding levels_below downwards
last_parts b levels s i set lower all S eS el ea es = rw (eS, el, ea, es, add-one) refl

pub length-downwards : (f : ℕ → ℤ) (n : ℕ) → length (downwards n f) ≡ n
unfolding downwards
length-downwards f zero = refl
length-downwards f (suc n) = ap suc (length-downwards f n)

-- the same as the code cuts them off
pub cut_levels : (b : TransformBlock) (levels : List ℤ) (s n k : ℕ) (these : List ℤ) → n + k ≡ 16 →
    these ≡ levels_below b levels s 16 → take (16 - k) (drop k these) ≡ levels_below b levels s n
cut_levels b levels s n k these h e =
    let ek : k ≡ 16 - n = omega arith in
    let d : drop k these ≡ levels_below b levels s n =
    rw ek (lower_levels b levels s n these (omega arith) e) in
    let m : 16 - k ≡ length (levels_below b levels s n) =
    sym (as_many b levels s n ∙ omega arith) in
    rw (d, m) (take-length (levels_below b levels s n))
