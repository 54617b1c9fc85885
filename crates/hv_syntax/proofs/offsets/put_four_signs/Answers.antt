use Rattle.std.proofs.Common.{rules}
use mir.Syntax.{w8}
use mir.Val.{SFits}
use Rattle.hv_syntax.specs.Parts.{offset_sign_bins}
use Rattle.hv_syntax.proofs.PartLemmas.{puts_passed}
use Rattle.hv_syntax.proofs.OffsetLemmas.{puts_signs}
use Rattle.hv_syntax.proofs.offsets.put_four_signs.Goals as goal

pub returns : goal.returns
returns g c =
    let s = g.B.BinSink.stands_for in
    let fits_first : SFits w8 c.args.first = search rules in
    let fits_second : SFits w8 c.args.second = search rules in
    let fits_third : SFits w8 c.args.third = search rules in
    let fits_fourth : SFits w8 c.args.fourth = search rules in
    puts_signs s c.args.sink.now c.put_sign.new.sink c.put_sign-2.new.sink
    c.put_sign-3.new.sink c.put_sign-4.new.sink c.args.first c.args.second c.args.third c.args.fourth
    (puts_passed s c.args.sink.now c.put_sign.new.sink w8 c.args.first offset_sign_bins fits_first c.put_sign.ensures)
    (puts_passed s c.put_sign.new.sink c.put_sign-2.new.sink w8 c.args.second offset_sign_bins fits_second c.put_sign-2.ensures)
    (puts_passed s c.put_sign-2.new.sink c.put_sign-3.new.sink w8 c.args.third offset_sign_bins fits_third c.put_sign-3.ensures)
    (puts_passed s c.put_sign-3.new.sink c.put_sign-4.new.sink w8 c.args.fourth offset_sign_bins fits_fourth c.put_sign-4.ensures)
