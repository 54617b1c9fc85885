use Rattle.std.proofs.Common.{◌≤◌, ◌<◌, ◌+◌, ◌^◌, [], ◌∷◌, true, false, arith, sym, refl, append-nil}
use Rattle.hv_residual_model.specs.UnitBins.{InBypass, unit_bin}
use Rattle.hv_residual_model.specs.Binarization.{fixed_length_bins}
use Rattle.hv_residual.proofs.PuttingLemmas.{going_start, going_by, going_done}
use Rattle.hv_residual.proofs.BinLemmas.{start_small, all_fuel, a_one, a_zero, goes_on}
use Rattle.hv_residual.proofs.binarization.put_exp_golomb.Goals as goal

pub loop-rest-init : goal.loop-rest-init
loop-rest-init g c = record {
  least = omega arith;
  most = omega arith;
  small = start_small c.args.k c.args.value c.requires.most;
  going = rw (all_fuel c.args.k c.args.value) (going_start _ _ _);
}

pub loop-rest-preserved : goal.loop-rest-preserved
loop-rest-preserved g c =
    let le : 2 ^ c.loop-rest.order ≤ c.loop-rest.rest =
    omega (arith, c.power.ensures, c.loop-rest-test.true) in
    let n = goes_on (c.args.k + 20) c.loop-rest.order c.loop-rest.rest c.loop-rest.invariant.small le in
    rw c.power-rest.ensures (record {
      least = omega arith;
      most = n.0;
      small = n.1;
      going = going_by g.B.BinSink.stands_for _ _ _ (unit_bin InBypass true ∷ []) _ _ _
          c.loop-rest.invariant.going
          (a_one (c.args.k + 32) c.loop-rest.order c.loop-rest.rest (omega arith) le) c.bypass.ensures;
    })

pub returns : goal.returns
returns g c =
    let lt : c.loop-rest.rest < 2 ^ c.loop-rest.order =
    omega (arith, c.power.ensures, c.loop-rest-test.false) in
    let z = going_by g.B.BinSink.stands_for _ _ _ (unit_bin InBypass false ∷ []) _ _ _
    c.loop-rest.invariant.going
    (a_zero (c.args.k + 32) c.loop-rest.order c.loop-rest.rest (omega arith) lt) c.bypass-2.ensures in
    going_done g.B.BinSink.stands_for _ _ _ _
    (going_by g.B.BinSink.stands_for _ _ _ (fixed_length_bins c.loop-rest.order c.loop-rest.rest) _ [] _ z
    (sym (append-nil (fixed_length_bins c.loop-rest.order c.loop-rest.rest))) c.put_fixed_length.ensures)
    refl
