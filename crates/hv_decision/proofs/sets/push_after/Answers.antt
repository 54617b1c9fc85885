use Rattle.std.proofs.Common.{◌∙◌, sym, ap, map, ◌++◌, ◌+◌, ◌-◌, length, arith}
use Rattle.hv_group_model.specs.Structure.{rising}
use Rattle.hv_decision.specs.Sets.{entry_after}
use Rattle.hv_decision.proofs.SetLemmas.{length_lives, place_at, entry_step, rising_more, kept_of}
use Rattle.hv_decision.proofs.sets.push_after.Goals as goal

pub bounds-lives-from : goal.bounds-lives-from
bounds-lives-from c =
    omega (
      arith,
      length_lives c.args.order.now c.args.lives.now c.requires.lives,
      c.from.ensures,
      c.requires.picture,
    )

pub offset_bounds-order-from : goal.offset_bounds-order-from
offset_bounds-order-from c =
    omega (
      arith,
      c.requires.most,
      c.from-2.ensures,
      c.requires.coded,
      place_at c.args.order.now c.args.picture c.from.result c.args.lives.now c.requires.lives
          c.requires.picture c.from.ensures,
    )

pub bounds-order-from : goal.bounds-order-from
bounds-order-from c =
    omega (
      arith,
      c.from-2.ensures,
      c.requires.coded,
      place_at c.args.order.now c.args.picture c.from.result c.args.lives.now c.requires.lives
          c.requires.picture c.from.ensures,
    )

pub bounds-lives-from-in-loop-other : goal.bounds-lives-from-in-loop-other
bounds-lives-from-in-loop-other c =
    omega (
      arith,
      length_lives c.args.order.now c.args.lives.now c.requires.lives,
      c.from-in-loop-other.ensures,
      c.loop-other-test.true,
      c.loop-other.auto,
      c.requires.picture,
    )

pub loop-other-preserved : goal.loop-other-preserved
loop-other-preserved c =
    entry_step entry_after c.args.order.now c.args.picture c.loop-other.other c.from.result
    c.from-2.result c.from-in-loop-other.result
    (rising (length c.args.order.now - (c.loop-other.other + 1)) (c.loop-other.other + 1)) _
    c.args.lives.now c.entry.result c.loop-other.entries.items c.push_kept.new.entries.items _
    c.requires.lives c.requires.picture c.loop-other-test.true c.requires.coded
    c.from.ensures c.from-2.ensures c.from-in-loop-other.ensures
    (c.entry.ensures.after (omega (arith, c.loop-other.auto.other)))
    c.in_ok-push_kept.ensures
    (sym (ap (λ t. c.loop-other.entries.items ++
    map entry_after (kept_of c.args.order.now c.args.picture t))
    (rising_more (length c.args.order.now) c.loop-other.other c.loop-other-test.true))
    ∙ c.loop-other.invariant)
