use Rattle.std.proofs.Common.{◌≡◌, List, ℤ, length, rules, subst}
use mir.Syntax.{w8}
use mir.Val.{SFits}
use Rattle.hv_residual_model.specs.UnitBins.{PutsUnit}
use Rattle.hv_residual_model.specs.ResidualBins.{signs, sign_bins}
use Rattle.hv_syntax.proofs.OffsetLemmas.{nth, four_passed}
use Rattle.hv_syntax.proofs.offsets.put_signs.Goals as goal

pub returns : goal.returns
returns g c =
    let xs = c.args.offsets in
    let four : length xs ≡ 4 = search rules in
    let first : SFits w8 (nth xs 0) = search rules in
    let second : SFits w8 (nth xs 1) = search rules in
    let third : SFits w8 (nth xs 2) = search rules in
    let fourth : SFits w8 (nth xs 3) = search rules in
    subst (λ (xs : List ℤ). PutsUnit g.B.BinSink.stands_for c.args.sink.now
    c.put_four_signs.new.sink (sign_bins (signs xs)))
    (four_passed xs four first second third fourth) c.put_four_signs.ensures
