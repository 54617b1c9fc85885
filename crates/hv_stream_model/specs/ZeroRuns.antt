-- Emulation prevention (7.3.1.1, 7.4.2) with a running number of zero bytes, as code counts them.
use Rattle.std.specs.Prelude.{◌≡◌, ℕ, ◌+◌, Bool, cond, nat_eq, nat_lt, ◌&&◌, List, [], ◌∷◌, ◌++◌}
use Rattle.hv_stream_model.specs.Units.{escape, strip}

-- how many zero bytes stand at the end of what came, after one more byte
abbrev pub run_after : ℕ → ℕ → ℕ
run_after run byte = cond (nat_eq byte 0) (run + 1) 0

abbrev pub needs_three : ℕ → ℕ → Bool
needs_three run byte = nat_lt 1 run && nat_lt byte 4

abbrev pub escape_after : ℕ → List ℕ → List ℕ
escape_after run [] = []
escape_after run (byte ∷ bytes) =
    let three = needs_three run byte in
    cond three (3 ∷ byte ∷ []) (byte ∷ []) ++
    escape_after (run_after (cond three 0 run) byte) bytes

abbrev pub is_emulation_byte : ℕ → ℕ → Bool
is_emulation_byte run byte = nat_lt 1 run && nat_eq byte 3

abbrev pub strip_after : ℕ → List ℕ → List ℕ
strip_after run [] = []
strip_after run (byte ∷ bytes) =
    let three = is_emulation_byte run byte in
    cond three [] (byte ∷ []) ++ strip_after (cond three 0 (run_after run byte)) bytes

-- the last two bytes are zeros where more than one zero byte stands at the end
abbrev pub EscapeByRuns : Type 0
EscapeByRuns = (bytes : List ℕ) → escape bytes ≡ escape_after 0 bytes

abbrev pub StripByRuns : Type 0
StripByRuns = (bytes : List ℕ) → strip bytes ≡ strip_after 0 bytes
