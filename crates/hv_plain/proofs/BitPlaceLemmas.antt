-- The bits of bytes, one by one, and how they are read.
use Rattle.std.proofs.Common.{◌≡◌, ℕ, zero, suc, ◌+◌, ◌-◌, ◌*◌, ◌/◌, ◌%◌, ◌^◌, ◌<◌, ◌≤◌, List, [], ◌∷◌, ◌++◌, length, get_or, drop, refl, sym, ap, ⊎_elim, ◌∙◌, arith, mul-le-mul_right, pow-suc, drop-cons}
use Rattle.std.specs.Prelude.{Option, Some, None, IfSome, slice_get}
use Rattle.std.proofs.lemmas.Option.{slice_get-get_or, slice_get_past, slice_get_cases, slice_get_within}
use Rattle.std.proofs.lemmas.List.{drop_all}
use Rattle.std.proofs.lemmas.List.{get_or_append_left, get_or-append_right}
use Rattle.hv_stream_model.proofs.BitLemmas.{length-bits_of}
use Rattle.hv_stream_model.specs.Bits.{digits, bits_of}
use Rattle.hv_entropy_model.specs.Contexts.{ContextVariable}
use Rattle.hv_entropy_model.specs.Oracle.{read_bits}

pub get_or-digits : (k v i d : ℕ) → i < k → get_or (digits k v) i d ≡ v / 2 ^ (k - 1 - i) % 2
get_or-digits zero v i d h = absurd (omega arith)
get_or-digits (suc k) v zero d h = let e : suc k - 1 - 0 ≡ k = omega arith in rw e refl
get_or-digits (suc k) v (suc i) d h =
    let e : suc k - 1 - suc i ≡ k - 1 - i = omega arith in
    rw e (get_or-digits k v i d (omega arith))

bit_case : (b : ℕ) (bs : List ℕ) (i d : ℕ) →
    ((j : ℕ) → j / 8 < length bs →
    get_or (bits_of bs) j d ≡ get_or bs (j / 8) 0 / 2 ^ (7 - j % 8) % 2) →
    i / 8 < length (b ∷ bs) →
    get_or (bits_of (b ∷ bs)) i d ≡ get_or (b ∷ bs) (i / 8) 0 / 2 ^ (7 - i % 8) % 2
bit_case b bs i d ih h = go (i / 8) refl
  where
    go : (q : ℕ) → i / 8 ≡ q →
        get_or (bits_of (b ∷ bs)) i d ≡ get_or (b ∷ bs) (i / 8) 0 / 2 ^ (7 - i % 8) % 2
    go zero e =
        let first : get_or (digits 8 b ++ bits_of bs) i d ≡ get_or (digits 8 b) i d =
        get_or_append_left (digits 8 b) (bits_of bs) d i (omega arith) in
        let k : 8 - 1 - i ≡ 7 - i % 8 = omega arith in
        first ∙ get_or-digits 8 b i d (omega arith) ∙ rw (k, e) refl
    go (suc q) e =
        let more : get_or (digits 8 b ++ bits_of bs) i d ≡ get_or (bits_of bs) (i - 8) d =
        get_or-append_right (digits 8 b) (bits_of bs) 8 i d refl (omega arith) in
        let j : (i - 8) / 8 ≡ q = omega arith in
        let k : (i - 8) % 8 ≡ i % 8 = omega arith in
        more ∙ ih (i - 8) (omega arith) ∙ rw (e, j, k) refl

-- the bit at a place, from its byte
pub get_or-bits_of : (bytes : List ℕ) (i d : ℕ) → i / 8 < length bytes →
    get_or (bits_of bytes) i d ≡ get_or bytes (i / 8) 0 / 2 ^ (7 - i % 8) % 2
get_or-bits_of [] i d h = absurd (omega arith)
get_or-bits_of (b ∷ bs) i d h = bit_case b bs i d (λ j k. get_or-bits_of bs j d k) h

pub bit_there : (bytes : List ℕ) (i : ℕ) → i / 8 < length bytes →
    Some (get_or bytes (i / 8) 0 / 2 ^ (7 - i % 8) % 2) ≡ slice_get (bits_of bytes) i
bit_there bytes i h =
    let within : i < length (bits_of bytes) = omega (arith, length-bits_of bytes) in
    let e = get_or-bits_of bytes i 0 h in
    sym (slice_get-get_or (bits_of bytes) i 0 within ∙ ap (λ (x : ℕ). Some x) e)

pub bit_past : (bytes : List ℕ) (i : ℕ) → length bytes ≤ i / 8 → None ≡ slice_get (bits_of bytes) i
bit_past bytes i h = sym (slice_get_past (bits_of bytes) i (omega (arith, length-bits_of bytes)))

pub within_bits : (bytes : List ℕ) (i bit : ℕ) → Some bit ≡ slice_get (bits_of bytes) i →
    i < 8 * length bytes
within_bits bytes i bit e =
    omega (arith, slice_get_within (bits_of bytes) i bit (sym e), length-bits_of bytes)

-- ---- reading bits, one by one
pub doubled_less : (o b n : ℕ) → 0 < n → b < 2 → (2 * o + b + 1) * 2 ^ (n - 1) ≤ (o + 1) * 2 ^ n
doubled_less o b zero h k = absurd (omega arith)
doubled_less o b (suc n) h k =
    let e : suc n - 1 ≡ n = omega arith in
    let m : (2 * o + b + 1) * 2 ^ n ≤ 2 * (o + 1) * 2 ^ n =
    mul-le-mul_right (2 ^ n) (omega arith) in
    rw (e, pow-suc 2 n) (omega (arith, m))

pub if_some_more : {A : Type 0} (o : Option A) (P Q : A → Type 0) → ((x : A) → P x → Q x) →
    IfSome o P → IfSome o Q
if_some_more None P Q f h = h
if_some_more (Some x) P Q f h = f x h

pub read_none : (n : ℕ) (variables : List ContextVariable) (range offset : ℕ) (bits : List ℕ) →
    0 < n →
    bits ≡ [] → read_bits n variables range offset bits ≡ None
read_none zero variables range offset bits h e = absurd (omega arith)
read_none (suc n) variables range offset bits h e = rw e refl

past_end : (bits : List ℕ) (at : ℕ) → None ≡ slice_get bits at → drop at bits ≡ []
past_end bits at e =
    ⊎_elim (λ x. absurd (no_some x.0 (e ∙ x.2))) (λ p. drop_all at bits p.0)
    (slice_get_cases bits at).1
  where
    no_some : (x : ℕ) → None ≡ Some x → ⊥
    no_some x h = cc

pub read_past : (n : ℕ) (variables : List ContextVariable) (range offset : ℕ) (bits : List ℕ)
    (at : ℕ) →
    0 < n → None ≡ slice_get bits at → read_bits n variables range offset (drop at bits) ≡ None
read_past n variables range offset bits at h e =
    read_none n variables range offset (drop at bits) h (past_end bits at e)

pub read_more : (n : ℕ) (variables : List ContextVariable) (range offset : ℕ) (bits : List ℕ)
    (at bit : ℕ) →
    0 < n → at < length bits → bit ≡ get_or bits at 0 →
    read_bits n variables range offset (drop at bits) ≡
    read_bits (n - 1) variables range (2 * offset + bit) (drop (at + 1) bits)
read_more zero variables range offset bits at bit h k e = absurd (omega arith)
read_more (suc n) variables range offset bits at bit h k e =
    let a : suc n - 1 ≡ n = omega arith in
    let b : at + 1 ≡ suc at = omega arith in
    rw (a, b, e, drop-cons bits at 0) refl
