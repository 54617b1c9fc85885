-- The decoder begun on a code word answers each bin, and has then read the word alone.
use Rattle.std.proofs.Common.{◌≡◌, ℕ, zero, suc, ◌+◌, ◌-◌, ◌*◌, ◌/◌, ◌%◌, ◌^◌, ◌<◌, ◌≤◌, Bool, true, false, not, List, [], ◌∷◌, ◌++◌, refl, sym, ap, ◌∙◌, subst, arith, lt-ltb, le-ltb, pow_pos, shr-shr, div-lt_iff_lt-mul, append_assoc, add_comm, true≢false}
use Rattle.std.proofs.Math.Nat.{le-div_iff_mul-le}
use Rattle.std.proofs.lemmas.Nat.{shr_split}
use Rattle.std.specs.Prelude.{Option, Some}
use Rattle.hv_tables.specs.declared.bins.Ctx.{Ctx}
use Rattle.hv_tables.specs.Bins.{Question, Context, Bypass, Terminate, Bin}
use Rattle.hv_stream_model.specs.Bits.{digits}
use Rattle.hv_entropy_model.specs.Contexts.{ContextVariable, variable_at, with_variable, lps_width, next_variable}
use Rattle.hv_lemmas.specs.Booleans.{same}
use Rattle.hv_entropy_model.specs.CodeWord.{shift_of, Cut, part, cut_at, cut, next_variables, is_last, Interval, first_interval, advance, reach, word_from, IsSound, IsEnded}
use Rattle.hv_entropy_model.specs.Oracle.{Decoder, read_bits, begin_decoder, renormalize, with_value, decode_decision, decode, Oracle, Coded, coded, answer, bits_left}
use Rattle.hv_stream_model.proofs.DigitLemmas.{digits-add, with_digit}
use Rattle.hv_stream_model.proofs.ScriptLemmas.{Gives, none, more}
use Rattle.hv_entropy_model.specs.IntervalLaws.{IsWithin}
use Rattle.hv_entropy_model.proofs.IntervalLemmas.{cut_within, places, n-reach, number_at, odd_near, IsNested, nested}

-- ---- bits that the offset takes
abbrev decoder : List ContextVariable → ℕ → ℕ → List ℕ → Decoder
decoder variables range offset bits =
    record { bits = bits; ivlCurrRange = range; ivlOffset = offset; variables = variables }

read_digits : (k : ℕ) (variables : List ContextVariable) (range v w : ℕ) (rest : List ℕ) →
    read_bits k variables range v (digits k w ++ rest) ≡
    Some (decoder variables range (v * 2 ^ k + w % 2 ^ k) rest)
read_digits zero variables range v w rest =
    let e : v ≡ v * 2 ^ 0 + w % 2 ^ 0 = omega arith in
    ap (λ (x : ℕ). Some (decoder variables range x rest)) e
read_digits (suc k) variables range v w rest =
    rw (← with_digit k v w) (read_digits k variables range (2 * v + w / 2 ^ k % 2) w rest)

-- ---- the decoder's place: its offset is the number g of the digits read so far, less low
at : List ContextVariable → ℕ → ℕ → ℕ → List ℕ → Decoder
at variables range low g rest = decoder variables range (g - low) rest

top_within : (a b g s : ℕ) → a * 2 ^ s ≤ g → g < b * 2 ^ s → (a ≤ g / 2 ^ s) × (g / 2 ^ s < b)
top_within a b g s h k =
    ((le-div_iff_mul-le (pow_pos s)).1 h, (div-lt_iff_lt-mul (pow_pos s)).1 k)

offset_after : (low skip d g s : ℕ) → g / 2 ^ s ≡ low + skip + d →
    d * 2 ^ s + g % 2 ^ s ≡ g - (low * 2 ^ s + skip * 2 ^ s)
offset_after low skip d g s e =
    let h : (low + skip + d) * 2 ^ s + g % 2 ^ s ≡ g = rw (← e) (shr_split g s) in omega (arith, h)

renormalized : (variables : List ContextVariable) (low skip w g : ℕ) (rest : List ℕ) →
    low + skip ≤ g / 2 ^ shift_of w →
    renormalize variables w (g / 2 ^ shift_of w - low - skip) (digits (shift_of w) g ++ rest) ≡
    Some (at variables (w * 2 ^ shift_of w) (low * 2 ^ shift_of w + skip * 2 ^ shift_of w) g rest)
unfolding at
renormalized variables low skip w g rest h =
    let s : ℕ = shift_of w in
    rw (read_digits s variables (w * 2 ^ s) (g / 2 ^ s - low - skip) g rest)
    (ap (λ (x : ℕ). Some (decoder variables (w * 2 ^ s) x rest))
    (offset_after low skip (g / 2 ^ s - low - skip) g s (omega (arith, h))))

-- ---- one bin
-- g, the number of the digits up to this bin's end, lies in the interval that the bin leaves
record IsIn (low g : ℕ) (c : Cut) : Type 0 where
  from : low * 2 ^ c.times + c.skip ≤ g
  below : g < low * 2 ^ c.times + c.skip + c.width

-- the answer is this value, and the decoder after it has its place
abbrev Answers : Option (Bool × Decoder) → List ContextVariable → ℕ → ℕ → Cut → List ℕ → Bool →
    Type 0
Answers r variables low g c rest v =
    r ≡ Some (v, at variables c.width (low * 2 ^ c.times + c.skip) g rest)

-- the decoder before a bin
before : List ContextVariable → ℕ → ℕ → ℕ → Cut → List ℕ → Decoder
before variables range low g c rest =
    at variables range low (g / 2 ^ c.times) (digits c.times g ++ rest)

-- where a part of the interval is kept, which begins at `skip`
part_read : (variables : List ContextVariable) (low skip w g : ℕ) (rest : List ℕ) →
    IsIn low g (part skip w) →
    (renormalize variables w (g / 2 ^ shift_of w - low - skip) (digits (shift_of w) g ++ rest) ≡
    Some (at variables (w * 2 ^ shift_of w) (low * 2 ^ shift_of w + skip * 2 ^ shift_of w) g rest))
    × (low + skip ≤ g / 2 ^ shift_of w) × (g / 2 ^ shift_of w < low + skip + w)
part_read variables low skip w g rest i =
    let t = top_within (low + skip) (low + skip + w) g (shift_of w) (omega (arith, i.from))
    (omega (arith, i.below)) in
    (renormalized variables low skip w g rest t.0, t.0, t.1)

-- the part at the low end
low_read : (variables : List ContextVariable) (low w g : ℕ) (rest : List ℕ) →
    IsIn low g (part 0 w) →
    (renormalize variables w (g / 2 ^ shift_of w - low) (digits (shift_of w) g ++ rest) ≡
    Some (at variables (w * 2 ^ shift_of w) (low * 2 ^ shift_of w + 0 * 2 ^ shift_of w) g rest))
    × (g / 2 ^ shift_of w - low < w)
low_read variables low w g rest i =
    let s : ℕ = shift_of w in
    let r = part_read variables low 0 w g rest i in
    let e : g / 2 ^ s - low - 0 ≡ g / 2 ^ s - low = omega arith in
    let P : ℕ → Type 0 = λ x.
    renormalize variables w x (digits s g ++ rest) ≡
    Some (at variables (w * 2 ^ s) (low * 2 ^ s + 0 * 2 ^ s) g rest) in
    (subst P e r.0, omega (arith, r.1, r.2))

abbrev after : List ContextVariable → Ctx → Bool → List ContextVariable
after variables c v = with_variable variables c (next_variable (variable_at variables c) v)

more_probable : (variables : List ContextVariable) (range low g l : ℕ) (c : Ctx) (m : Bool)
    (rest : List ℕ) → IsIn low g (part 0 (range - l)) →
    Answers (decode_decision (before variables range low g (part 0 (range - l)) rest) c l m)
    (after variables c m) low g (part 0 (range - l)) rest m
unfolding at before
more_probable variables range low g l c m rest i =
    let r = low_read (after variables c m) low (range - l) g rest i in
    rw (lt-ltb (g / 2 ^ shift_of (range - l) - low) (range - l) r.1) (ap (with_value m) r.0)

less_probable : (variables : List ContextVariable) (range low g l : ℕ) (c : Ctx) (m : Bool)
    (rest : List ℕ) → IsIn low g (part (range - l) l) →
    Answers (decode_decision (before variables range low g (part (range - l) l) rest) c l m)
    (after variables c (not m)) low g (part (range - l) l) rest (not m)
unfolding at before
less_probable variables range low g l c m rest i =
    let r = part_read (after variables c (not m)) low (range - l) l g rest i in
    let le : range - l ≤ g / 2 ^ shift_of l - low = omega (arith, r.1, r.2) in
    rw (le-ltb (g / 2 ^ shift_of l - low) (range - l) le) (ap (with_value (not m)) r.0)

decision_read : (variables : List ContextVariable) (range low g l : ℕ) (c : Ctx) (v m : Bool)
    (rest : List ℕ) → IsIn low g (cut_at range l (same v m)) →
    Answers (decode_decision (before variables range low g (cut_at range l (same v m)) rest) c l m)
    (after variables c v) low g (cut_at range l (same v m)) rest v
decision_read variables range low g l c true true rest i =
    more_probable variables range low g l c true rest i
decision_read variables range low g l c false false rest i =
    more_probable variables range low g l c false rest i
decision_read variables range low g l c true false rest i =
    less_probable variables range low g l c false rest i
decision_read variables range low g l c false true rest i =
    less_probable variables range low g l c true rest i

bypass_read : (variables : List ContextVariable) (range low g : ℕ) (v : Bool) (rest : List ℕ) →
    IsIn low g (cut variables range Bypass v) →
    Answers (decode (before variables range low g (cut variables range Bypass v) rest) Bypass)
    variables low g (cut variables range Bypass v) rest v
unfolding at before
bypass_read variables range low g true rest i =
    let x : ℕ = 2 * (g / 2 - low) + g / 1 % 2 in
    let le : range ≤ x = omega (arith, i.from, i.below) in
    let e : x - range ≡ g - (low * 2 + range) = omega (arith, i.from, i.below) in
    rw (le-ltb x range le) (ap (λ (y : ℕ). Some (true, decoder variables range y rest)) e)
bypass_read variables range low g false rest i =
    let x : ℕ = 2 * (g / 2 - low) + g / 1 % 2 in
    let lt : x < range = omega (arith, i.from, i.below) in
    let e : x ≡ g - (low * 2 + 0) = omega (arith, i.from, i.below) in
    rw (lt-ltb x range lt) (ap (λ (y : ℕ). Some (false, decoder variables range y rest)) e)

going_on_read : (variables : List ContextVariable) (range low g : ℕ) (rest : List ℕ) →
    IsIn low g (part 0 (range - 2)) →
    Answers (decode (before variables range low g (part 0 (range - 2)) rest) Terminate)
    variables low g (part 0 (range - 2)) rest false
unfolding at before
going_on_read variables range low g rest i =
    let r = low_read variables low (range - 2) g rest i in
    rw (lt-ltb (g / 2 ^ shift_of (range - 2) - low) (range - 2) r.1) (ap (with_value false) r.0)

bin_read : (variables : List ContextVariable) (range low g : ℕ) (q : Question) (v : Bool)
    (rest : List ℕ) → is_last q v ≡ false → IsIn low g (cut variables range q v) →
    Answers (decode (before variables range low g (cut variables range q v) rest) q)
    (next_variables variables q v) low g (cut variables range q v) rest v
unfolding at before
bin_read variables range low g (Context c) v rest h i =
    let m = variable_at variables c in
    decision_read variables range low g (lps_width m range) c v m.valMps rest i
bin_read variables range low g Bypass v rest h i = bypass_read variables range low g v rest i
bin_read variables range low g Terminate true rest h i = absurd (true≢false h)
bin_read variables range low g Terminate false rest h i =
    going_on_read variables range low g rest i

-- ---- the whole list
-- the decoder at an interval, when f is the number of all digits, and k of these are not read yet
placed : Interval → ℕ → ℕ → List ℕ → Decoder
placed i k f rest = at i.variables i.range i.low (f / 2 ^ k) (digits k f ++ rest)

placed_before : (i : Interval) (k f : ℕ) (c : Cut) (rest : List ℕ) →
    placed i (c.times + k) f rest ≡
    before i.variables i.range i.low (f / 2 ^ k) c (digits k f ++ rest)
unfolding placed before
placed_before i k f c rest =
    rw (digits-add c.times k f, append_assoc, shr-shr f k c.times, add_comm c.times k) refl

-- The oracle answers each of these bins, and these bits are then left to it.
pub record IsLeft (oracle : Oracle) (bins : List Bin) (rest : List ℕ) : Type 0 where
  pub last : Oracle
  pub gives : Gives Question Bool Oracle answer oracle bins last
  pub bits : bits_left last ≡ rest

-- one bin, and then the others
step_read : (b : Bin) (bins : List Bin) (i : Interval) (k f : ℕ) (rest : List ℕ) →
    is_last b.question b.value ≡ false → IsNested (advance i b).low (advance i b).range k f →
    IsLeft (Coded (placed (advance i b) k f rest)) bins rest →
    IsLeft (Coded (placed i ((cut i.variables i.range b.question b.value).times + k) f rest))
    (b ∷ bins) rest
unfolding placed
step_read b bins i k f rest h n ih =
    let c = cut i.variables i.range b.question b.value in
    let j = advance i b in
    let t = top_within j.low (j.low + j.range) f k n.from n.below in
    let r = bin_read i.variables i.range i.low (f / 2 ^ k) b.question b.value
    (digits k f ++ rest) h
    (record { from = t.0; below = t.1 }) in
    let P : Decoder → Type 0 = λ d.
    answer (Coded d) b.question ≡ Some (b.value, Coded (placed j k f rest)) in
    let a : P (placed i (c.times + k) f rest) =
    subst P (sym (placed_before i k f c rest)) (ap coded r) in
    record { last = ih.last; gives = more a ih.gives; bits = ih.bits }

ending : Decoder → Decoder
ending d = record d { ivlCurrRange = d.ivlCurrRange - 2 }

last_read : (i : Interval) (f : ℕ) (rest : List ℕ) → i.low + i.range - 2 ≤ f →
    answer (Coded (placed i 0 f rest)) Terminate ≡ Some (true, Coded (ending (placed i 0 f rest)))
unfolding placed at ending
last_read i f rest h =
    let le : i.range - 2 ≤ f / 1 - i.low = omega arith in
    rw (le-ltb (f / 1 - i.low) (i.range - 2) le) refl

end_read : (q : Question) (v : Bool) (i : Interval) (f : ℕ) (rest : List ℕ) →
    i.low + i.range - 2 ≤ f → is_last q v ≡ true →
    IsLeft (Coded (placed i 0 f rest)) (record { question = q; value = v } ∷ []) rest
unfolding ending placed at
end_read (Context c) v i f rest p h = absurd (true≢false (sym h))
end_read Bypass v i f rest p h = absurd (true≢false (sym h))
end_read Terminate false i f rest p h = absurd (true≢false (sym h))
end_read Terminate true i f rest p h =
    let d = ending (placed i 0 f rest) in
    record { last = Coded d; gives = more (last_read i f rest p) none; bits = refl }

IsRead : Interval → List ℕ → List Bin → Type 0
IsRead i rest bins =
    IsLeft (Coded (placed i (places i bins) (number_at (reach i bins)) rest)) bins rest

read_case : (b : Bin) (bins : List Bin) (i : Interval) (rest : List ℕ) →
    256 ≤ i.range → i.range ≤ 510 →
    IsSound (b ∷ bins) →
    (IsWithin i.range (cut i.variables i.range b.question b.value) → IsSound bins →
    IsRead (advance i b) rest bins) →
    (t : Bool) → is_last b.question b.value ≡ t → IsRead i rest (b ∷ bins)
unfolding IsRead
read_case b bins i rest p q e ih true h =
    let o = odd_near (i.low + i.range - 2) in
    let only : bins ≡ [] = rw h at e in
    rw h (rw only (end_read b.question b.value i (number_at i) rest o.0 h))
read_case b bins i rest p q e ih false h =
    let w = cut_within i.variables i.range b.question b.value p q h in
    let n = nested bins (advance i b) w.wide w.narrow in
    rw h (step_read b bins i _ _ rest h n (ih w (rw h at e)))

reads : (bins : List Bin) (i : Interval) (rest : List ℕ) → 256 ≤ i.range → i.range ≤ 510 →
    IsSound bins → IsRead i rest bins
unfolding IsRead placed at
reads [] i rest p q e =
    record { last = Coded (placed i 0 (number_at i) rest); gives = none; bits = refl }
reads (b ∷ bins) i rest p q e =
    read_case b bins i rest p q e (λ w s. reads bins (advance i b) rest w.wide w.narrow s)
    (is_last b.question b.value) refl

-- ---- from the start
begun : (variables : List ContextVariable) (k f : ℕ) (rest : List ℕ) → f < 510 * 2 ^ k →
    begin_decoder variables (digits (9 + k) f ++ rest) ≡
    Some (placed (first_interval variables) k f rest)
unfolding placed at
begun variables k f rest h =
    let t = top_within 0 510 f k (omega arith) h in
    let w : digits 9 (f / 2 ^ k) ++ (digits k f ++ rest) ≡ digits (9 + k) f ++ rest =
    rw (digits-add 9 k f, append_assoc) refl in
    let o : 0 * 2 ^ 9 + f / 2 ^ k % 2 ^ 9 ≡ f / 2 ^ k - 0 = omega (arith, t.1) in
    let lt : f / 2 ^ k - 0 < 510 = omega (arith, t.1) in
    let P : List ℕ → Type 0 = λ xs.
    read_bits 9 variables 510 0 xs ≡ Some (placed (first_interval variables) k f rest) in
    let drawn : P (digits (9 + k) f ++ rest) =
    subst P w (read_digits 9 variables 510 0 (f / 2 ^ k) (digits k f ++ rest) ∙
    ap (λ (x : ℕ). Some (decoder variables 510 x (digits k f ++ rest))) o) in
    rw drawn (rw (lt-ltb (f / 2 ^ k - 0) 510 lt) refl)

-- The decoder begun on a code word that these bits follow.
pub record IsBegun (variables : List ContextVariable) (bits : List ℕ) (bins : List Bin)
    (rest : List ℕ) : Type 0 where
  pub first : Decoder
  pub begins : begin_decoder variables bits ≡ Some first
  pub reads : IsLeft (Coded first) bins rest

pub word_from_read : (variables : List ContextVariable) (bins : List Bin) (rest : List ℕ) →
    IsSound bins →
    IsBegun variables (word_from variables bins ++ rest) bins rest
unfolding IsRead
word_from_read variables bins rest e =
    let i = first_interval variables in
    let k : ℕ = places i bins in
    let f : ℕ = number_at (reach i bins) in
    let n : IsNested 0 510 k f = nested bins i (omega arith) (omega arith) in
    let c : (reach i bins).n + 9 ≡ 9 + k = omega (arith, n-reach bins i) in
    record {
      first = placed i k f rest;
      begins = rw c (begun variables k f rest (omega (arith, n.below)));
      reads = reads bins i rest (omega arith) (omega arith) e;
    }

sound_case : (b : Bin) (bins : List Bin) → IsEnded (b ∷ bins) → (IsEnded bins → IsSound bins) →
    (t : Bool) → is_last b.question b.value ≡ t → IsSound (b ∷ bins)
sound_case b bins e ih true h = rw h (rw h at e)
sound_case b bins e ih false h = rw h (ih (rw h at e))

-- a list that is ended has no other end before
pub ended_sound : (bins : List Bin) → IsEnded bins → IsSound bins
ended_sound [] e = tt
ended_sound (b ∷ bins) e =
    sound_case b bins e (λ k. ended_sound bins k) (is_last b.question b.value) refl
