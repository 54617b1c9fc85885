-- NAL units (7.3.1, Annex B): emulation prevention by a running number of zero bytes, and undone,
-- and byte streams read back.
use Rattle.std.proofs.Common.{◌≡◌, ◌≢◌, ℕ, zero, suc, ◌+◌, ◌-◌, ◌*◌, ◌/◌, ◌%◌, ◌<◌, ◌≤◌, Bool, true, false, cond, ◌&&◌, List, [], ◌∷◌, ◌++◌, length, take, drop, refl, sym, ap, ap₂, ◌∙◌, subst, arith, add-one, lt-ltb, ltb-false, length-append, eq-eqb}
use Rattle.std.specs.Prelude.{nat_lt, nat_eq, replicate, Some}
use Rattle.std.proofs.lemmas.Bool.{and_parts, and_left, and_right, ne_eqb, cond_both, cond-false, eqb-true}
use Rattle.std.specs.Cmp.Lexicographic.{pointwise}
use Rattle.std.specs.List.{list_all, starts_with}
use Rattle.std.proofs.lemmas.List.{take_at, drop_at}
use Rattle.hv_stream_model.specs.UnitLaws.{StreamsAreReadBack, UnitsMakeAStream}
use Rattle.hv_stream_model.specs.ZeroRuns.{run_after, needs_three, escape_after, is_emulation_byte, strip_after, EscapeByRuns, StripByRuns}
use Rattle.hv_stream_model.specs.Units.{end_in_zeros, escape_behind, escape, strip_behind, strip, last_of, is_zero, is_unit_end, unit_length, same_bytes, is_escaped_payload, NalUnit, nal_bytes, IsUnit, IsByteStream, end, more, unit_of, unit_then, leading_zero_bytes, units_within}

-- ---- a running number of zero bytes

is_zero-false : (byte : ℕ) → byte ≢ 0 → is_zero byte ≡ false
is_zero-false byte h = ne_eqb byte 0 h

end_in_zeros-runs : (before : List ℕ) → end_in_zeros before ≡ nat_lt 1 (leading_zero_bytes before)
end_in_zeros-runs [] = refl
end_in_zeros-runs (zero ∷ []) = refl
end_in_zeros-runs (suc last ∷ []) = rw (is_zero-false (suc last) (λ e. omega arith)) refl
end_in_zeros-runs (suc last ∷ byte ∷ others) = rw (is_zero-false (suc last) (λ e. omega arith)) refl
end_in_zeros-runs (zero ∷ suc byte ∷ others) =
    rw (is_zero-false (suc byte) (λ e. omega arith)) refl
end_in_zeros-runs (zero ∷ zero ∷ others) =
    sym (lt-ltb 1 (suc (suc (leading_zero_bytes others))) (omega arith))

-- the number after one byte more
run_after-zeros : (before : List ℕ) (byte : ℕ) →
    run_after (leading_zero_bytes before) byte ≡ leading_zero_bytes (byte ∷ before)
run_after-zeros before byte =
    ap (λ n. cond (is_zero byte) n 0) (add-one (leading_zero_bytes before))

escape_case : (result : List ℕ) (byte : ℕ) (bytes : List ℕ) →
    ((r : List ℕ) → escape_behind r bytes ≡ escape_after (leading_zero_bytes r) bytes) →
    (t : Bool) →
    cond t (3 ∷ []) [] ++
    byte ∷ escape_behind (byte ∷ (cond t (3 ∷ []) [] ++ result)) bytes ≡
    cond t (3 ∷ byte ∷ []) (byte ∷ []) ++
    escape_after (run_after (cond t 0 (leading_zero_bytes result)) byte) bytes
escape_case result byte bytes rest true =
    ap (λ w. 3 ∷ byte ∷ w) (rest (byte ∷ 3 ∷ result) ∙
    ap (λ n. escape_after n bytes) (sym (run_after-zeros (3 ∷ result) byte)))
escape_case result byte bytes rest false =
    ap (λ w. byte ∷ w) (rest (byte ∷ result) ∙
    ap (λ n. escape_after n bytes) (sym (run_after-zeros result byte)))

escape_behind-runs : (result bytes : List ℕ) →
    escape_behind result bytes ≡ escape_after (leading_zero_bytes result) bytes
escape_behind-runs result [] = refl
escape_behind-runs result (byte ∷ bytes) =
    ap (λ z. cond (z && nat_lt byte 4) (3 ∷ []) [] ++
    byte ∷ escape_behind (byte ∷ (cond (z && nat_lt byte 4) (3 ∷ []) [] ++ result)) bytes)
    (end_in_zeros-runs result) ∙
    escape_case result byte bytes (λ r. escape_behind-runs r bytes)
    (needs_three (leading_zero_bytes result) byte)

-- the last two bytes of the result are zeros where more than one zero byte stands at its end
pub escape-runs : EscapeByRuns
escape-runs bytes = escape_behind-runs [] bytes

strip_case : (before : List ℕ) (byte : ℕ) (bytes : List ℕ) →
    ((b : List ℕ) → strip_behind b bytes ≡ strip_after (leading_zero_bytes b) bytes) →
    (t : Bool) → (t ≡ true → byte ≡ 3) →
    cond t [] (byte ∷ []) ++ strip_behind (byte ∷ before) bytes ≡
    cond t [] (byte ∷ []) ++
    strip_after (cond t 0 (run_after (leading_zero_bytes before) byte)) bytes
strip_case before byte bytes rest true three =
    rest (byte ∷ before) ∙
    ap (λ b. strip_after (leading_zero_bytes (b ∷ before)) bytes) (three refl)
strip_case before byte bytes rest false three =
    ap (λ w. byte ∷ w) (rest (byte ∷ before) ∙
    ap (λ n. strip_after n bytes) (sym (run_after-zeros before byte)))

strip_behind-runs : (before bytes : List ℕ) →
    strip_behind before bytes ≡ strip_after (leading_zero_bytes before) bytes
strip_behind-runs before [] = refl
strip_behind-runs before (byte ∷ bytes) =
    let run : ℕ = leading_zero_bytes before in
    ap (λ z. cond (z && nat_eq byte 3) [] (byte ∷ []) ++ strip_behind (byte ∷ before) bytes)
    (end_in_zeros-runs before) ∙
    strip_case before byte bytes (λ b. strip_behind-runs b bytes) (is_emulation_byte run byte)
    (λ e. eqb-true byte 3 (and_parts (nat_lt 1 run) (nat_eq byte 3) e).1)

pub strip-runs : StripByRuns
strip-runs bytes = strip_behind-runs [] bytes

-- ---- emulation prevention

no_emulation : (t : Bool) (byte : ℕ) → (t && nat_lt byte 4) ≡ false → (t && nat_eq byte 3) ≡ false
no_emulation false byte h = refl
no_emulation true byte h = let large : 4 ≤ byte = ltb-false byte 4 h in grind (arith)

strip_escape_case : (run byte : ℕ) (bytes : List ℕ) → ((run' : ℕ) →
    strip_after run' (escape_after run' bytes) ≡ bytes) →
    (t : Bool) → needs_three run byte ≡ t →
    strip_after run (escape_after run (byte ∷ bytes)) ≡ byte ∷ bytes
strip_escape_case run byte bytes rest true h =
    let parts = and_parts (nat_lt 1 run) (nat_lt byte 4) h in
    rw (h, parts.0, rest (run_after 0 byte)) refl
strip_escape_case run byte bytes rest false h =
    rw (h, no_emulation (nat_lt 1 run) byte h, rest (run_after run byte)) refl

pub strip_after-escape_after : (run : ℕ) (bytes : List ℕ) →
    strip_after run (escape_after run bytes) ≡ bytes
strip_after-escape_after run [] = refl
strip_after-escape_after run (byte ∷ bytes) =
    strip_escape_case run byte bytes (λ run'. strip_after-escape_after run' bytes) (needs_three run
    byte) refl

pub strip-escape : (bytes : List ℕ) → strip (escape bytes) ≡ bytes
strip-escape bytes =
    ap strip (escape-runs bytes) ∙ strip-runs (escape_after 0 bytes) ∙
    strip_after-escape_after 0 bytes

-- ---- what an escaped payload looks like

-- no byte below 3 follows two zero bytes
abbrev Clean : ℕ → List ℕ → Type 0
Clean run [] = Unit {0}
Clean run (byte ∷ bytes) = (1 < run → 2 < byte) × Clean (run_after run byte) bytes

clean_case : (run byte : ℕ) (bytes : List ℕ) → ((run' : ℕ) → Clean run' (escape_after run' bytes)) →
    (t : Bool) → needs_three run byte ≡ t → Clean run (escape_after run (byte ∷ bytes))
clean_case run byte bytes rest true h =
    rw h ((λ l. omega arith), ((λ l. absurd (omega arith)), rest (run_after 0 byte)))
clean_case run byte bytes rest false h =
    let first : 1 < run → 2 < byte = λ l.
    let large : 4 ≤ byte = ltb-false byte 4 (subst (λ t. (t && nat_lt byte 4) ≡
    false) (lt-ltb 1 run l) h) in
    omega arith in
    rw h (first, rest (run_after run byte))

clean_escape : (run : ℕ) (bytes : List ℕ) → Clean run (escape_after run bytes)
clean_escape run [] = tt
clean_escape run (byte ∷ bytes) =
    clean_case run byte bytes (λ run'. clean_escape run' bytes) (needs_three run byte) refl

clean_payload : (payload : List ℕ) → Clean 0 (escape payload)
clean_payload payload = subst (Clean 0) (sym (escape-runs payload)) (clean_escape 0 payload)

-- the last of two bytes or more is the last behind the first
last_of-behind : (byte : ℕ) (bytes : List ℕ) → last_of bytes ≢ 0 → last_of (byte ∷ bytes) ≢ 0
last_of-behind byte [] h = absurd (h refl)
last_of-behind byte (next ∷ bytes) h = h

-- ---- where a unit ends

not_all_zero : (bytes next : List ℕ) → last_of bytes ≢ 0 → list_all is_zero (bytes ++ next) ≡ false
not_all_zero [] next h = absurd (h refl)
not_all_zero (byte ∷ []) next h = rw (is_zero-false byte h) refl
not_all_zero (byte ∷ second ∷ bytes) next h =
    and_right (is_zero byte) (list_all is_zero (second ∷ bytes ++ next)) (not_all_zero (second ∷
    bytes) next h)

end_false : (bytes : List ℕ) → list_all is_zero bytes ≡ false →
    starts_with nat_eq bytes (0 ∷ 0 ∷ 0 ∷ []) ≡ false →
    starts_with nat_eq bytes (0 ∷ 0 ∷ 1 ∷ []) ≡ false →
    is_unit_end bytes ≡ false
end_false bytes a b c = rw (a, b, c) refl

differs_first : (a : ℕ) (rest : List ℕ) (third : ℕ) → a ≢ 0 →
    starts_with nat_eq (a ∷ rest) (0 ∷ 0 ∷ third ∷ []) ≡ false
differs_first a rest third h =
    and_left (nat_eq 0 a) (pointwise nat_eq (0 ∷ third ∷ []) (take 2 rest)) (ne_eqb 0 a (λ e. h
    (sym e)))

differs_second : (a b : ℕ) (rest : List ℕ) (third : ℕ) → b ≢ 0 →
    starts_with nat_eq (a ∷ b ∷ rest) (0 ∷ 0 ∷ third ∷ []) ≡ false
differs_second a b rest third h =
    and_right (nat_eq 0 a) (nat_eq 0 b && pointwise nat_eq (third ∷ []) (take 1 rest))
    (and_left (nat_eq 0 b) (pointwise nat_eq (third ∷ []) (take 1 rest)) (ne_eqb 0 b (λ e. h (sym
    e))))

differs_third : (a b c : ℕ) (rest : List ℕ) (third : ℕ) → c ≢ third →
    starts_with nat_eq (a ∷ b ∷ c ∷ rest) (0 ∷ 0 ∷ third ∷ []) ≡ false
differs_third a b c rest third h =
    and_right (nat_eq 0 a) (nat_eq 0 b && (nat_eq third c && true))
    (and_right (nat_eq 0 b) (nat_eq third c && true)
    (and_left (nat_eq third c) true (ne_eqb third c (λ e. h (sym e)))))

-- no unit ends before a byte of one
not_end : (run a : ℕ) (bytes next : List ℕ) → Clean run (a ∷ bytes) → last_of (a ∷ bytes) ≢ 0 →
    is_unit_end (a ∷ bytes ++ next) ≡ false
not_end run a [] next clean h =
    end_false (a ∷ next) (not_all_zero (a ∷ []) next h) (differs_first a next 0 h) (differs_first a
    next 1 h)
not_end run a (b ∷ []) next clean h =
    end_false (a ∷ b ∷ next) (not_all_zero (a ∷ b ∷ []) next h) (differs_second a b next 0 h)
    (differs_second a b next 1 h)
not_end run (suc a) (b ∷ c ∷ bytes) next clean h =
    let some : suc a ≢ 0 = λ e. omega arith in
    end_false (suc a ∷ b ∷ c ∷ bytes ++ next) (not_all_zero (suc a ∷ b ∷ c ∷ bytes) next h)
    (differs_first (suc a) (b ∷ c ∷ bytes ++ next) 0 some) (differs_first (suc a) (b ∷ c ∷ bytes ++
    next) 1 some)
not_end run zero (suc b ∷ c ∷ bytes) next clean h =
    let some : suc b ≢ 0 = λ e. omega arith in
    end_false (0 ∷ suc b ∷ c ∷ bytes ++ next) (not_all_zero (0 ∷ suc b ∷ c ∷ bytes) next h)
    (differs_second 0 (suc b) (c ∷ bytes ++ next) 0 some) (differs_second 0 (suc b) (c ∷ bytes ++
    next) 1 some)
not_end run zero (zero ∷ c ∷ bytes) next clean h =
    let large : 2 < c = clean.1.1.0 (omega arith) in
    end_false (0 ∷ 0 ∷ c ∷ bytes ++ next) (not_all_zero (0 ∷ 0 ∷ c ∷ bytes) next h)
    (differs_third 0 0 c (bytes ++ next) 0 (λ e. omega arith)) (differs_third 0 0 c (bytes ++ next)
    1 (λ e. omega arith))

-- a unit is as long as it was written
unit_length-append : (run : ℕ) (bytes next : List ℕ) → Clean run bytes → last_of bytes ≢ 0 →
    unit_length next ≡ 0 →
    unit_length (bytes ++ next) ≡ length bytes
unit_length-append run [] next clean h e = e
unit_length-append run (a ∷ []) next clean h e = rw (not_end run a [] next clean h, e) refl
unit_length-append run (a ∷ b ∷ bytes) next clean h e =
    rw (
      not_end run a (b ∷ bytes) next clean h,
      unit_length-append (run_after run a) (b ∷ bytes) next clean.1 h e,
    ) refl

-- ---- one unit is read back

last_of-escape : (run : ℕ) (bytes : List ℕ) → last_of bytes ≢ 0 →
    last_of (escape_after run bytes) ≢ 0
last_of-escape run [] h = absurd (h refl)
last_of-escape run (byte ∷ []) h =
    cond_both (needs_three run byte) (3 ∷ byte ∷ []) (byte ∷ []) (λ x. last_of (x ++ []) ≢ 0) (λ e.
    h) (λ e. h)
last_of-escape run (byte ∷ second ∷ bytes) h =
    let rest : List ℕ = escape_after (run_after (cond (needs_three run byte) 0 run) byte) (second ∷
    bytes) in
    let ends : last_of rest ≢ 0 = last_of-escape (run_after (cond (needs_three run byte) 0 run)
    byte) (second ∷ bytes) h in
    cond_both (needs_three run byte) (3 ∷ byte ∷ []) (byte ∷ []) (λ x. last_of (x ++ rest) ≢ 0)
    (λ e. last_of-behind 3 (byte ∷ rest) (last_of-behind byte rest ends)) (λ e. last_of-behind byte
    rest ends)

last_of-payload : (payload : List ℕ) → last_of payload ≢ 0 → last_of (escape payload) ≢ 0
last_of-payload payload h =
    subst (λ bytes. last_of bytes ≢ 0) (sym (escape-runs payload)) (last_of-escape 0 payload h)

pub same_bytes_self : (bytes : List ℕ) → same_bytes bytes bytes ≡ true
same_bytes_self [] = refl
same_bytes_self (byte ∷ bytes) = rw (eq-eqb byte byte refl, same_bytes_self bytes) refl

escaped_payload : (payload : List ℕ) → last_of payload ≢ 0 →
    is_escaped_payload (escape payload) ≡ true
escaped_payload payload h =
    rw (strip-escape payload, same_bytes_self (escape payload), ne_eqb (last_of payload) 0 h) refl

unit_read : (unit : NalUnit) → IsUnit unit → unit_of (nal_bytes unit) ≡ Some unit
unit_read unit u =
    let first : ℕ = unit.nal_unit_type * 2 + unit.nuh_layer_id / 32 in
    let second : ℕ = unit.nuh_layer_id % 32 * 8 + unit.TemporalId + 1 in
    let kind = u.kind in
    let layer = u.layer in
    let temporal = u.temporal in
    let low : nat_lt first 128 ≡ true = lt-ltb first 128 (omega arith) in
    let set : nat_eq (second % 8) 0 ≡ false = ne_eqb (second % 8) 0 (λ e. omega arith) in
    let one : first / 2 ≡ unit.nal_unit_type = omega arith in
    let two : first % 2 * 32 + second / 8 ≡ unit.nuh_layer_id = omega arith in
    let three : second % 8 - 1 ≡ unit.TemporalId = omega arith in
    rw (
      low,
      set,
      escaped_payload unit.payload u.ends,
      one,
      two,
      three,
      strip-escape unit.payload,
    ) refl

unit_clean : (unit : NalUnit) → IsUnit unit → Clean 0 (nal_bytes unit)
unit_clean unit u =
    let first : ℕ = unit.nal_unit_type * 2 + unit.nuh_layer_id / 32 in
    let second : ℕ = unit.nuh_layer_id % 32 * 8 + unit.TemporalId + 1 in
    let some : second ≢ 0 = λ e. omega arith in
    let short : run_after 0 first ≤ 1 =
    cond_both (nat_eq first 0) (0 + 1) 0 (λ n. n ≤ 1) (λ e. omega arith) (λ e. omega arith) in
    let none : run_after (run_after 0 first) second ≡ 0 =
    cond-false (is_zero second) (run_after 0 first + 1) 0 (is_zero-false second some) in (
      (λ l. absurd (omega arith)),
      (
        (λ l. absurd (omega (arith, l, short))),
        subst (λ n. Clean n (escape unit.payload)) (sym none) (clean_payload unit.payload),
      ),
    )

unit_ends : (unit : NalUnit) → IsUnit unit → last_of (nal_bytes unit) ≢ 0
unit_ends unit u =
    let first : ℕ = unit.nal_unit_type * 2 + unit.nuh_layer_id / 32 in
    let second : ℕ = unit.nuh_layer_id % 32 * 8 + unit.TemporalId + 1 in
    last_of-behind first (second ∷ escape unit.payload)
    (last_of-behind second (escape unit.payload) (last_of-payload unit.payload u.ends))

-- ---- streams

zeros_all : (padding : ℕ) → list_all is_zero (replicate padding 0) ≡ true
zeros_all zero = refl
zeros_all (suc padding) = zeros_all padding

-- zero bytes, and a start code prefix behind them
abbrev prefixed : ℕ → List ℕ → List ℕ → List ℕ
prefixed padding unit next = replicate padding 0 ++ (0 ∷ 0 ∷ 1 ∷ unit) ++ next

prefixed_zeros : (padding : ℕ) (unit next : List ℕ) →
    leading_zero_bytes (prefixed padding unit next) ≡ padding + 2
prefixed_zeros zero unit next = refl
prefixed_zeros (suc padding) unit next = rw (prefixed_zeros padding unit next) (omega arith)

prefixed_rest : (padding : ℕ) (unit next : List ℕ) →
    drop (padding + 2) (prefixed padding unit next) ≡ 1 ∷ (unit ++ next)
prefixed_rest zero unit next = refl
prefixed_rest (suc padding) unit next = let count : suc padding + 2 ≡ suc (padding + 2) =
    omega arith in rw (count, prefixed_rest padding unit next) refl

prefixed_some : (padding : ℕ) (unit next : List ℕ) →
    list_all is_zero (prefixed padding unit next) ≡ false
prefixed_some zero unit next = refl
prefixed_some (suc padding) unit next = prefixed_some padding unit next

prefixed_end : (padding : ℕ) (unit next : List ℕ) → unit_length (prefixed padding unit next) ≡ 0
prefixed_end zero unit next = refl
prefixed_end (suc zero) unit next = refl
prefixed_end (suc (suc zero)) unit next = refl
prefixed_end (suc (suc (suc padding))) unit next = rw (prefixed_some padding unit next) refl

zeros_end : (padding : ℕ) → unit_length (replicate padding 0) ≡ 0
zeros_end zero = refl
zeros_end (suc padding) = rw (zeros_all padding) refl

stream_end : {bytes : List ℕ} {units : List NalUnit} → IsByteStream bytes units →
    unit_length bytes ≡ 0
stream_end (end padding) = zeros_end padding
stream_end (more padding unit {bytes} u s) = prefixed_end padding (nal_bytes unit) bytes

-- the first unit and those behind it
first_read : (most n m : ℕ) (bytes rest : List ℕ) → list_all is_zero bytes ≡ false →
    leading_zero_bytes bytes ≡ n →
    drop n bytes ≡ 1 ∷ rest → 1 < n → unit_length rest ≡ m →
    units_within (suc most) bytes ≡ unit_then (unit_of (take m rest)) (units_within most (drop m
    rest))
first_read most n m bytes rest some padding behind two count =
    rw (some, padding, behind, lt-ltb 1 n two, count) refl

units_read : (most : ℕ) {bytes : List ℕ} {units : List NalUnit} → IsByteStream bytes units →
    length units ≤ most →
    units_within most bytes ≡ Some units
units_read zero (end padding) h = rw (zeros_all padding) refl
units_read (suc most) (end padding) h = rw (zeros_all padding) refl
units_read zero (more padding unit u s) h = absurd (omega arith)
units_read (suc most) (more padding unit {bytes} u s) h =
    let written : List ℕ = nal_bytes unit in
    let count : unit_length (nal_bytes unit ++ bytes) ≡ length (nal_bytes unit) =
    unit_length-append 0 (nal_bytes unit) bytes (unit_clean unit u) (unit_ends unit u) (stream_end
    s) in
    let here : take (length written) (written ++ bytes) ≡ written =
    take_at written bytes (length written) refl in
    let behind : drop (length written) (written ++ bytes) ≡ bytes =
    drop_at written bytes (length written) refl in
    let rest = units_read most s (omega arith) in
    first_read most (padding + 2) (length written) (prefixed padding written bytes) (written ++
    bytes)
    (prefixed_some padding written bytes) (prefixed_zeros padding written bytes) (prefixed_rest
    padding written bytes) (omega arith) count ∙
    ap₂ unit_then (ap unit_of here ∙ unit_read unit u) (ap (units_within most) behind ∙ rest)

-- a stream has more bytes than units
units_fit : {bytes : List ℕ} {units : List NalUnit} → IsByteStream bytes units →
    length units ≤ length bytes
units_fit (end padding) = omega arith
units_fit (more padding unit {bytes} u s) =
    let rest = units_fit s in
    omega (
      arith,
      rest,
      length-append (replicate padding 0 ++ (0 ∷ 0 ∷ 1 ∷ nal_bytes unit)) bytes,
      length-append (replicate padding 0) (0 ∷ 0 ∷ 1 ∷ nal_bytes unit),
    )

pub streams_read : StreamsAreReadBack
streams_read bytes units s = units_read (length bytes) s (units_fit s)

pub stream_of_units : UnitsMakeAStream
stream_of_units [] p = end 0
stream_of_units (unit ∷ units) p = more 1 unit p.0 (stream_of_units units p.1)
