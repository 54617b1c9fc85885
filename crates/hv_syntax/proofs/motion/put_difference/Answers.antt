use Rattle.std.proofs.Common.{List, ℤ, rules}
use mir.Syntax.{w16}
use mir.Val.{SFits}
use Rattle.hv_residual_model.specs.UnitBins.{UnitBin}
use Rattle.hv_unit_model.specs.Bins.{greater0_bin, greater1_bins, rest_bins}
use Rattle.hv_syntax.proofs.PartLemmas.{puts_passed, puts_mvd, one_bin}
use Rattle.hv_syntax.proofs.motion.put_difference.Goals as goal

pub returns : goal.returns
returns g c =
    let s = g.B.BinSink.stands_for in
    let d = c.args.difference in
    let x : SFits w16 d.x = search rules in
    let y : SFits w16 d.y = search rules in
    let zero : ℤ → List UnitBin = λ z. one_bin (greater0_bin z) in
    puts_mvd s c.args.sink.now c.put_greater0.new.sink c.put_greater0-2.new.sink
    c.put_greater1.new.sink c.put_greater1-2.new.sink c.put_rest.new.sink c.put_rest-2.new.sink d
    (puts_passed s c.args.sink.now c.put_greater0.new.sink w16 d.x zero x c.put_greater0.ensures)
    (puts_passed s c.put_greater0.new.sink c.put_greater0-2.new.sink w16 d.y zero y c.put_greater0-2.ensures)
    (puts_passed s c.put_greater0-2.new.sink c.put_greater1.new.sink w16 d.x greater1_bins x c.put_greater1.ensures)
    (puts_passed s c.put_greater1.new.sink c.put_greater1-2.new.sink w16 d.y greater1_bins y c.put_greater1-2.ensures)
    (puts_passed s c.put_greater1-2.new.sink c.put_rest.new.sink w16 d.x rest_bins x c.put_rest.ensures)
    (puts_passed s c.put_rest.new.sink c.put_rest-2.new.sink w16 d.y rest_bins y c.put_rest-2.ensures)
