use Rattle.std.proofs.Common.{◌∙◌, ap, map, ◌++◌, length, arith}
use Rattle.hv_decision.specs.Coding.{coded_as}
use Rattle.hv_decision.proofs.SetLemmas.{length_lives, place_at, row_is, first_fits, first_of}
use Rattle.hv_decision.proofs.sets.row.Goals as goal

pub bounds-lives-from : goal.bounds-lives-from
bounds-lives-from c =
    omega (
      arith,
      length_lives c.args.order.now c.args.lives.now c.requires.lives,
      c.from.ensures,
      c.requires.picture,
    )

pub offset_bounds-order-from : goal.offset_bounds-order-from
offset_bounds-order-from c =
    omega (
      arith,
      c.requires.most,
      c.from-2.ensures,
      c.requires.coded,
      place_at c.args.order.now c.args.picture c.from.result c.args.lives.now c.requires.lives
          c.requires.picture c.from.ensures,
    )

pub bounds-order-from : goal.bounds-order-from
bounds-order-from c =
    omega (
      arith,
      c.from-2.ensures,
      c.requires.coded,
      place_at c.args.order.now c.args.picture c.from.result c.args.lives.now c.requires.lives
          c.requires.picture c.from.ensures,
    )

pub overflow_cast-before : goal.overflow_cast-before
overflow_cast-before c =
    let first = c.in_ok-push_before.ensures ∙
    ap (λ t. t ++ first_of c.args.order.now c.args.picture) c.new-entries.ensures.items in
    omega (
      arith,
      c.len-before.ensures.value,
      ap (λ t. length t) first,
      c.requires.most,
      c.requires.picture,
      first_fits (map coded_as c.args.order.now) (length c.args.order.now) c.args.picture,
    )

pub returns : goal.returns
returns c =
    row_is c.args.order.now c.args.picture c.from-2.result c.len-before.result _
    c.push_before.new.entries.items c.push_after.new.entries.items c.requires.coded
    (c.from-2.ensures ∙ place_at c.args.order.now c.args.picture c.from.result c.args.lives.now
    c.requires.lives c.requires.picture c.from.ensures)
    (c.in_ok-push_before.ensures ∙
    ap (λ t. t ++ first_of c.args.order.now c.args.picture) c.new-entries.ensures.items)
    c.len-before.ensures.value c.in_ok-push_after.ensures
