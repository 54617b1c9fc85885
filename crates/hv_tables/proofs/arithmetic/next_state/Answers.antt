use Rattle.std.proofs.Common.{◌≡◌, ℕ, ◌+◌, ◌*◌, ◌%◌, Bool, true, false, cond, refl, ap, ◌∙◌, get_or, arith}
use mir.Val.{bool_byte}
use Rattle.hv_tables.proofs.arithmetic.next_state.Goals as goal

byte_of : (v : Bool) → bool_byte v ≡ cond v 1 0
byte_of true = refl
byte_of false = refl

pub returns : goal.returns
returns c =
    let e : c.from.result * 2 + c.from-2.result ≡ c.args.state % 128 * 2 + cond c.args.value 1 0 =
    rw (c.from.ensures, c.from-2.ensures, byte_of c.args.value) refl in
    ap (λ (i : ℕ). get_or c.next_states.result.now i 0) e ∙
    c.next_states.ensures.each (c.args.state % 128) c.args.value (omega arith)
