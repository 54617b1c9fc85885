-- The coding order as it is built: halves and blocks, one after another.
use Rattle.std.proofs.Common.{◌≡◌, ℕ, zero, suc, ◌+◌, ◌-◌, ◌*◌, ◌/◌, ◌^◌, ◌<◌, ◌≤◌, ◌∙◌, ◌%◌, sym, ap, subst, true, refl, List, [], ◌∷◌, ◌++◌, arith, cond, nat_lt}
use Rattle.std.proofs.lemmas.List.{append_assoc, append-nil}
use Rattle.std.proofs.lemmas.Bool.Decides.{nat_tests}
use Rattle.hv_lemmas.proofs.ComparisonLemmas.{lt_not_below}
use Rattle.hv_types.specs.Configuration.{most_levels}
use Rattle.hv_group_model.specs.Structure.{Coded, coded, halves, blocks, multiples, anchors}

abbrev pub between : ℕ → ℕ → ℕ → ℕ → List Coded
between levels low high depth =
    let middle = (low + high) / 2 in
    coded middle depth (low ∷ high ∷ []) ∷
    (halves levels low middle (depth + 1) ++ halves levels middle high (depth + 1))

halves_more : (levels low high depth : ℕ) → 2 ≤ high - low →
    halves (suc levels) low high depth ≡ between levels low high depth
halves_more levels low high depth wide =
    ap (λ t. cond t [] (between levels low high depth)) (lt_not_below (high - low) 2 wide)

pub halves_split : (levels low high depth : ℕ) → 0 < levels → 2 ≤ high - low →
    halves levels low high depth ≡ between (levels - 1) low high depth
halves_split zero low high depth some wide = absurd (omega arith)
halves_split (suc levels) low high depth some wide =
    let e : suc levels - 1 ≡ levels = omega arith in
    halves_more levels low high depth wide ∙ sym (ap (λ l. between l low high depth) e)

pub halves_none : (levels low high depth : ℕ) → high - low < 2 → halves levels low high depth ≡ []
halves_none zero low high depth narrow = refl
halves_none (suc levels) low high depth narrow =
    let yes : nat_lt (high - low) 2 ≡ true = grind (arith, nat_tests, narrow) in
    ap (λ t. cond t [] (between levels low high depth)) yes

-- ---- pieces put behind one another

pub put_two : (a b c : List Coded) (x : Coded) (h : List Coded) → b ≡ a ++ x ∷ [] → c ≡ b ++ h → c ≡ a ++ x ∷ h
put_two a b c x h first second = second ∙ ap (λ t. t ++ h) first ∙ append_assoc a (x ∷ []) h

pub put_three : (a b c d : List Coded) (x : Coded) (h k : List Coded) → b ≡ a ++ x ∷ [] → c ≡ b ++ h →
    d ≡ c ++ k → d ≡ a ++ x ∷ (h ++ k)
put_three a b c d x h k first second third =
    third ∙ ap (λ t. t ++ k) (put_two a b c x h first second) ∙ append_assoc a (x ∷ h) k

-- ---- anchors

-- the anchors behind so many whole blocks
abbrev pub anchors_from : ℕ → ℕ → ℕ → List ℕ
anchors_from count levels block =
    multiples ((count - 2) / 2 ^ levels - block) (block * 2 ^ levels + 2 ^ levels) (2 ^ levels)
    ++ (count - 1) ∷ []

abbrev pub block_at : ℕ → ℕ → ℕ → List Coded
block_at levels low high = coded high 1 (low ∷ []) ∷ halves levels low high 2

multiples_more : (n from step : ℕ) → 0 < n → multiples n from step ≡ from ∷ multiples (n - 1) (from + step) step
multiples_more zero from step some = absurd (omega arith)
multiples_more (suc n) from step some =
    let e : suc n - 1 ≡ n = omega arith in
    sym (ap (λ k. from ∷ multiples k (from + step) step) e)

next_multiple : (block step : ℕ) → block * step + step ≡ (block + 1) * step
next_multiple block step = omega arith

pub blocks_more : (count levels block : ℕ) → block < (count - 2) / 2 ^ levels →
    blocks levels (block * 2 ^ levels) (anchors_from count levels block) ≡
    block_at levels (block * 2 ^ levels) ((block + 1) * 2 ^ levels)
    ++ blocks levels ((block + 1) * 2 ^ levels) (anchors_from count levels (block + 1))
blocks_more count levels block below =
    let step : ℕ = 2 ^ levels in
    let whole : ℕ = (count - 2) / 2 ^ levels in
    let some : 0 < whole - block = omega arith in
    let less : whole - block - 1 ≡ whole - (block + 1) = omega arith in
    let next : block * step + step ≡ (block + 1) * step = next_multiple block step in
    let split : multiples (whole - block) (block * step + step) step ≡
    (block + 1) * step ∷ multiples (whole - (block + 1)) ((block + 1) * step + step) step =
    multiples_more (whole - block) (block * step + step) step some
    ∙ ap (λ n. (block * step + step) ∷ multiples n (block * step + step + step) step) less
    ∙ ap (λ at. at ∷ multiples (whole - (block + 1)) (at + step) step) next in
    ap (λ t. blocks levels (block * step) (t ++ (count - 1) ∷ [])) split

pub blocks_last : (count levels block : ℕ) → (count - 2) / 2 ^ levels ≤ block →
    blocks levels (block * 2 ^ levels) (anchors_from count levels block) ≡
    block_at levels (block * 2 ^ levels) (count - 1)
blocks_last count levels block all =
    let none : (count - 2) / 2 ^ levels - block ≡ 0 = omega arith in
    ap (λ n. blocks levels (block * 2 ^ levels)
    (multiples n (block * 2 ^ levels + 2 ^ levels) (2 ^ levels) ++ (count - 1) ∷ [])) none
    ∙ ap (λ t. coded (count - 1) 1 (block * 2 ^ levels ∷ []) ∷ t)
    (append-nil (halves levels (block * 2 ^ levels) (count - 1) 2))

pub anchors_first : (count levels : ℕ) → 2 ≤ count → anchors count levels ≡ anchors_from count levels 0
anchors_first count levels some =
    let step : ℕ = 2 ^ levels in
    let rest : List ℕ = multiples ((count - 2) / step) step step ++ (count - 1) ∷ [] in
    let from : 0 * step + step ≡ step = omega arith in
    let all : (count - 2) / step - 0 ≡ (count - 2) / step = omega arith in
    ap (λ t. cond t [] rest) (lt_not_below count 2 some)
    ∙ sym (ap (λ f. multiples ((count - 2) / step - 0) f step ++ (count - 1) ∷ []) from
    ∙ ap (λ n. multiples n step step ++ (count - 1) ∷ []) all)

-- ---- the walk over the blocks

pub step_is : (levels : ℕ) → levels ≤ most_levels → 1 * 2 ^ levels % 256 ≡ 2 ^ levels
step_is zero few = refl
step_is (suc zero) few = refl
step_is (suc (suc zero)) few = refl
step_is (suc (suc (suc zero))) few = refl
step_is (suc (suc (suc (suc levels)))) few = absurd (omega arith)

pub blocks_step : (count levels block step : ℕ) (old new whole : List Coded) → step ≡ 2 ^ levels →
    block < (count - 2) / step →
    old ++ blocks levels (block * 2 ^ levels) (anchors_from count levels block) ≡ whole →
    new ≡ old ++ block_at levels (block * step) ((block + 1) * step) →
    new ++ blocks levels ((block + 1) * 2 ^ levels) (anchors_from count levels (block + 1)) ≡ whole
blocks_step count levels block step old new whole is below e put =
    let rest : List Coded = blocks levels ((block + 1) * 2 ^ levels) (anchors_from count levels (block + 1)) in
    let put' : new ≡ old ++ block_at levels (block * 2 ^ levels) ((block + 1) * 2 ^ levels) =
    put ∙ ap (λ s. old ++ block_at levels (block * s) ((block + 1) * s)) is in
    let below' : block < (count - 2) / 2 ^ levels = subst (λ s. block < (count - 2) / s) is below in
    ap (λ t. t ++ rest) put'
    ∙ append_assoc old (block_at levels (block * 2 ^ levels) ((block + 1) * 2 ^ levels)) rest
    ∙ sym (ap (λ t. old ++ t) (blocks_more count levels block below'))
    ∙ e

pub blocks_end : (count levels block step : ℕ) (old new whole : List Coded) → step ≡ 2 ^ levels →
    block ≡ (count - 2) / step →
    old ++ blocks levels (block * 2 ^ levels) (anchors_from count levels block) ≡ whole →
    new ≡ old ++ block_at levels ((count - 2) / step * step) (count - 1) →
    new ≡ whole
blocks_end count levels block step old new whole is all e put =
    let all' : block ≡ (count - 2) / 2 ^ levels = subst (λ s. block ≡ (count - 2) / s) is all in
    put
    ∙ sym (ap (λ b. old ++ block_at levels (b * step) (count - 1)) all)
    ∙ ap (λ s. old ++ block_at levels (block * s) (count - 1)) is
    ∙ sym (ap (λ t. old ++ t) (blocks_last count levels block (omega arith)))
    ∙ e

pub blocks_first : (count levels : ℕ) (order : List Coded) → 2 ≤ count →
    order ++ blocks levels (0 * 2 ^ levels) (anchors_from count levels 0) ≡
    order ++ blocks levels 0 (anchors count levels)
blocks_first count levels order some =
    let none : 0 * 2 ^ levels ≡ 0 = omega arith in
    ap (λ from. order ++ blocks levels from (anchors_from count levels 0)) none
    ∙ sym (ap (λ t. order ++ blocks levels 0 t) (anchors_first count levels some))
