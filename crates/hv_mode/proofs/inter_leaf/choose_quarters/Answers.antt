use Rattle.std.proofs.Common.{refl, ◌∙◌, arith}
use Rattle.std.proofs.Math.Dec.{lit<, lit≤}
use Rattle.hv_recon.proofs.GreatLeafLemmas.{quarter_places}
use Rattle.hv_mode.proofs.InterLeafLemmas.{levels_stay}
use Rattle.hv_mode.proofs.inter_leaf.choose_quarters.Goals as goal

pub choose_unit-requires-2 : goal.choose_unit-requires-2
choose_unit-requires-2 c =
    let p = quarter_places c.args.task.now.place in
    record {
      node = record { size_at_most = lit≤ tt; inside = lit< tt; multiple = refl };
      small = lit≤ tt;
      right = omega (arith, p.right, c.requires.right);
      bottom = omega (arith, p.top, c.requires.bottom);
    }

pub choose_unit-requires-3 : goal.choose_unit-requires-3
choose_unit-requires-3 c =
    let p = quarter_places c.args.task.now.place in
    record {
      node = record { size_at_most = lit≤ tt; inside = lit< tt; multiple = refl };
      small = lit≤ tt;
      right = omega (arith, p.left, c.requires.right);
      bottom = omega (arith, p.below, c.requires.bottom);
    }

pub choose_unit-requires-4 : goal.choose_unit-requires-4
choose_unit-requires-4 c =
    let p = quarter_places c.args.task.now.place in
    record {
      node = record { size_at_most = lit≤ tt; inside = lit< tt; multiple = refl };
      small = lit≤ tt;
      right = omega (arith, p.last_right, c.requires.right);
      bottom = omega (arith, p.last_below, c.requires.bottom);
    }

pub returns : goal.returns
returns c =
    let t = c.args.task.now in
    let reference = c.args.reference.now in
    let mv = c.args.mv in
    let a = c.choose_unit.new.plan in
    let b = c.choose_unit-2.new.plan in
    let d = c.choose_unit-3.new.plan in
    let e = c.choose_unit-4.new.plan in
    let second = c.choose_unit-2.ensures in
    let third = c.choose_unit-3.ensures in
    let fourth = c.choose_unit-4.ensures in
    record {
      first = levels_stay t reference mv 0 48 d e (lit≤ tt) fourth.kept
          (levels_stay t reference mv 0 32 b d (lit≤ tt) third.kept
          (levels_stay t reference mv 0 16 a b (lit≤ tt) second.kept
          c.choose_unit.ensures.chosen));
      second = levels_stay t reference mv 16 48 d e (lit≤ tt) fourth.kept
          (levels_stay t reference mv 16 32 b d (lit≤ tt) third.kept second.chosen);
      third = levels_stay t reference mv 32 48 d e (lit≤ tt) fourth.kept third.chosen;
      fourth = fourth.chosen;
      units = fourth.kept.units ∙ third.kept.units ∙ second.kept.units ∙
          c.choose_unit.ensures.kept.units;
    }
