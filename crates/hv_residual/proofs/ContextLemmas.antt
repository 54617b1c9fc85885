-- Contexts of sig_coeff_flag (9.3.4.2.5): which of its cases holds, and what tables say of it.
use Rattle.std.proofs.Common.{◌≡◌, ◌≢◌, ℕ, zero, suc, ◌+◌, ◌<◌, Bool, true, cond, nat_lt, ◌||◌, List, map, get_or, refl, ap, ◌∙◌, arith}
use Rattle.std.proofs.lemmas.List.{get_or-map}
use Rattle.std.proofs.lemmas.Bool.Decides.{nat_tests}
use Rattle.std.proofs.lemmas.Bool.{ne_eqb}
use Rattle.hv_lemmas.specs.Lists.{tabulate}
use Rattle.hv_lemmas.proofs.ComputedLemmas.{all_below, holds_between}
use Rattle.hv_plan.specs.declared.prediction.Scan.{Scan}
use Rattle.hv_plan.specs.declared.prediction.Scan.TheVariants.{Diagonal, Horizontal, Vertical}
use Rattle.hv_residual_model.specs.ScanOrder.{Position, at, scan_order, position_at}
use Rattle.hv_residual_model.specs.ResidualContexts.{TransformBlock, sigCtx, by_neighbours, added_in_luma, added_in_chroma}
use Rattle.hv_residual.proofs.ScanLemmas.{length-scan_order}

-- ---- the first position, and the others
pub first_position : (scan : Scan) (i : ℕ) → i ≡ 0 → position_at scan 2 i ≡ at 0 0
unfolding scan_order tabulate
first_position Diagonal i e = rw e refl
first_position Horizontal i e = rw e refl
first_position Vertical i e = rw e refl

apart : Scan → ℕ → Bool
apart scan i = nat_lt 0 ((position_at scan 2 i).x + (position_at scan 2 i).y)

all_apart : (scan : Scan) → all_below 16 (λ i. nat_lt i 1 || apart scan i) ≡ true
unfolding apart scan_order tabulate
all_apart Diagonal = refl
all_apart Horizontal = refl
all_apart Vertical = refl

above_zero : (n : ℕ) → nat_lt 0 n ≡ true → 0 < n
above_zero n h = grind (arith, nat_tests, h)

pub not_first : (scan : Scan) (i : ℕ) → 0 < i → i < 16 →
    0 < (position_at scan 2 i).x + (position_at scan 2 i).y
unfolding apart
not_first scan i least most =
    above_zero _ (holds_between 1 16 (apart scan) (all_apart scan) i least most)

pub not_all_first : (scan : Scan) (x y i : ℕ) → i < 16 → x + y + i ≢ 0 →
    x + y + (position_at scan 2 i).x + (position_at scan 2 i).y ≢ 0
not_all_first scan x y zero h apart e = apart (omega (arith, e))
not_all_first scan x y (suc i) h apart e =
    let p = not_first scan (suc i) (omega arith) h in absurd (omega (arith, p, e))

-- ---- the cases of sigCtx
pub at_first : (b : TransformBlock) (right below : Bool) (S P : Position) → b.log2TrafoSize ≢ 2 →
    S.x + S.y + P.x + P.y ≡ 0 → sigCtx b right below S P ≡ 0
at_first b right below S P side e =
    rw (ne_eqb b.log2TrafoSize 2 side) (rw e refl)

pub not_at_first : (b : TransformBlock) (right below : Bool) (S P : Position) →
    b.log2TrafoSize ≢ 2 → S.x + S.y + P.x + P.y ≢ 0 → sigCtx b right below S P ≡
    by_neighbours right below P + cond b.is_luma (added_in_luma b S) (added_in_chroma b)
not_at_first b right below S P side e =
    rw (ne_eqb b.log2TrafoSize 2 side, ne_eqb (S.x + S.y + P.x + P.y) 0 e) refl

-- ---- an entry of a table along a scan
pub along_scan : (f : Position → ℕ) (scan : Scan) (table : List ℕ) (i : ℕ) → i < 16 →
    table ≡ map f (scan_order scan 2) → get_or table i 0 ≡ f (position_at scan 2 i)
along_scan f scan table i h e =
    let n = length-scan_order scan 2 (omega arith) in
    ap (λ (xs : List ℕ). get_or xs i 0) e ∙
    get_or-map f (scan_order scan 2) i (at 0 0) 0 (omega (arith, n, h))
