-- How a row is cut into segments: their number, and which one covers the column behind a segment.
use Rattle.std.proofs.Common.{◌≡◌, ℕ, zero, suc, ◌+◌, ◌-◌, ◌*◌, ◌/◌, ◌%◌, ◌<◌, ◌≤◌, ◌∙◌, sym, ap, min, arith, inl, inr}
use Rattle.std.specs.Prelude.{◌⊎◌}
use Rattle.std.specs.Int.{div_ceil}
use Rattle.std.proofs.lemmas.Bool.{cases_lt}
use Rattle.std.proofs.lemmas.Nat.{div-add-mod', div-mul-add, mod_below, mul-le}
use Rattle.hv_wave.specs.Segments.{covering, per_row}

-- the number of segments of a row is its length in segments, rounded up
up_case : (columns segment : ℕ) → 1 ≤ columns → 1 ≤ segment →
    (columns % segment < 1) ⊎ (1 ≤ columns % segment) → div_ceil columns segment ≡ per_row columns segment
up_case columns segment wide long (inl whole) =
    let q : ℕ = columns / segment in
    let split : q * segment + columns % segment ≡ columns = div-add-mod' columns segment in
    let some : 1 ≤ q = q_some q segment columns (omega arith) wide in
    let before : columns - 1 ≡ (q - 1) * segment + (segment - 1) = less_one q segment columns some long (omega arith) in
    let down : (columns - 1) / segment ≡ q - 1 =
    ap (λ n. n / segment) before ∙ div-mul-add (q - 1) segment (segment - 1) (omega arith) in
    omega arith
  where
    q_some : (q segment columns : ℕ) → q * segment ≡ columns → 1 ≤ columns → 1 ≤ q
    q_some zero segment columns e wide = absurd (omega arith)
    q_some (suc q) segment columns e wide = omega arith

    less_one : (q segment columns : ℕ) → 1 ≤ q → 1 ≤ segment → q * segment ≡ columns →
        columns - 1 ≡ (q - 1) * segment + (segment - 1)
    less_one zero segment columns some long e = absurd (omega arith)
    less_one (suc q) segment columns some long e =
        let back : suc q - 1 ≡ q = omega arith in
        let p : suc q * segment ≡ q * segment + segment = omega arith in
        omega arith ∙ sym (ap (λ n. n * segment + (segment - 1)) back)
up_case columns segment wide long (inr rest) =
    let q : ℕ = columns / segment in
    let split : q * segment + columns % segment ≡ columns = div-add-mod' columns segment in
    let below : columns % segment < segment = mod_below columns segment (omega arith) in
    let before : columns - 1 ≡ q * segment + (columns % segment - 1) = omega arith in
    let down : (columns - 1) / segment ≡ q =
    ap (λ n. n / segment) before ∙ div-mul-add q segment (columns % segment - 1) (omega arith) in
    omega arith

pub div_ceil-row : (columns segment : ℕ) → 1 ≤ columns → 1 ≤ segment →
    div_ceil columns segment ≡ per_row columns segment
div_ceil-row columns segment wide long = up_case columns segment wide long (cases_lt (columns % segment) 1)

-- the segment that covers the column behind one: the next one, or for the last one of the row that one itself
behind_case : (columns segment place : ℕ) → 1 ≤ columns → 1 ≤ segment → place < per_row columns segment →
    (place < (columns - 1) / segment) ⊎ ((columns - 1) / segment ≤ place) →
    covering segment (min (min (place * segment + segment - 1) (columns - 1) + 1) (columns - 1)) ≡
    min (place + 1) (per_row columns segment - 1)
behind_case columns segment place wide long there (inl more) =
    let q : ℕ = (columns - 1) / segment in
    let split : q * segment + (columns - 1) % segment ≡ columns - 1 = div-add-mod' (columns - 1) segment in
    let far : (place + 1) * segment ≤ q * segment = mul-le (place + 1) segment q segment (omega arith) (omega arith) in
    let far' : place * segment + segment ≤ q * segment = omega arith in
    let next : min (min (place * segment + segment - 1) (columns - 1) + 1) (columns - 1) ≡ (place + 1) * segment + 0 =
    omega arith in
    let at : ((place + 1) * segment + 0) / segment ≡ place + 1 = div-mul-add (place + 1) segment 0 (omega arith) in
    ap (λ n. n / segment) next ∙ at ∙ omega arith
behind_case columns segment place wide long there (inr last) =
    let q : ℕ = (columns - 1) / segment in
    let split : q * segment + (columns - 1) % segment ≡ columns - 1 = div-add-mod' (columns - 1) segment in
    let below : (columns - 1) % segment < segment = mod_below (columns - 1) segment (omega arith) in
    let is : place ≡ q = omega arith in
    let same : place * segment ≡ q * segment = ap (λ n. n * segment) is in
    let end : min (min (place * segment + segment - 1) (columns - 1) + 1) (columns - 1) ≡ columns - 1 = omega arith in
    ap (λ n. n / segment) end ∙ omega arith

pub covering_behind : (columns segment place : ℕ) → 1 ≤ columns → 1 ≤ segment → place < per_row columns segment →
    covering segment (min (min (place * segment + segment - 1) (columns - 1) + 1) (columns - 1)) ≡
    min (place + 1) (per_row columns segment - 1)
covering_behind columns segment place wide long there =
    behind_case columns segment place wide long there (cases_lt place ((columns - 1) / segment))
