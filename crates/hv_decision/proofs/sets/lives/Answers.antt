-- Nothing is coded behind the order; and each step back is one for each picture.
use Rattle.std.proofs.Common.{◌≡◌, ◌∙◌, ap, length, arith}
use Rattle.hv_decision.proofs.LifeLemmas.{the_life}
use Rattle.hv_decision.proofs.SetLemmas.{lives_begin, lives_go_back, lives_counted, lives_whole}
use Rattle.hv_decision.proofs.sets.lives.Goals as goal

pub loop-place-init : goal.loop-place-init
loop-place-init c = lives_begin c.args.order.now c.in_ok-lives.lives.items
    (c.in_ok-lives.ensures.items_if_clones_equal (λ y e. e))

pub step_back-requires-clause-most : goal.step_back-requires-clause-most
step_back-requires-clause-most c =
    let many : length c.loop-place.lives.items ≡ length c.args.order.now =
    ap length c.loop-place.invariant ∙ lives_counted _ (length c.args.order.now) 0 in
    omega (arith, many, c.requires.most)

pub loop-place-preserved : goal.loop-place-preserved
loop-place-preserved c =
    lives_go_back c.args.order.now c.loop-place.place c.from.result _ (the_life 0 0) c.loop-place.lives.items
    c.step_back.new.lives.items c.loop-place-test.true c.loop-place.auto.place c.from.ensures c.loop-place.invariant
    c.step_back.ensures.count (c.step_back.ensures.each (the_life 0 0))

pub returns : goal.returns
returns c =
    lives_whole c.args.order.now c.loop-place.place c.loop-place.lives.items c.loop-place-test.false
    c.loop-place.invariant
