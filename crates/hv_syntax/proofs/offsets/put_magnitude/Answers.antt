use Rattle.std.proofs.Common.{◌≡◌, ℤ, min, ap, ◌∙◌, rules}
use Rattle.std.specs.Int.RustNames.{unsigned_abs}
use Rattle.std.proofs.lemmas.Int.{to_z-of_z}
use mir.Syntax.{w8}
use mir.Val.{SFits}
use Rattle.hv_residual.proofs.PuttingLemmas.{puts_same}
use Rattle.hv_syntax.proofs.OffsetLemmas.{magnitude_bins}
use Rattle.hv_syntax.proofs.offsets.put_magnitude.Goals as goal

pub returns : goal.returns
returns g c =
    let fits : SFits w8 c.args.offset = search rules in
    let same = to_z-of_z w8 c.args.offset fits in
    let e : c.magnitude.result ≡ min (unsigned_abs c.args.offset) 7 =
    c.magnitude.ensures ∙ ap (λ (z : ℤ). min (unsigned_abs z) 7) same in
    puts_same g.B.BinSink.stands_for _ _ _ _
    (magnitude_bins c.args.offset c.magnitude.result e) c.put_truncated_unary.ensures
