use Rattle.std.proofs.Common.{◌∙◌, sym, ap, map, arith, ◌++◌}
use Rattle.std.proofs.lemmas.List.{map-append}
use Rattle.hv_decision.specs.Coding.{coded_as}
use Rattle.hv_decision.proofs.CodingLemmas.{halves_split, put_three}
use Rattle.hv_decision.proofs.coding.+push_halves.Goals as goal

pub returns : goal.returns
returns t c =
    put_three (map coded_as c.args.order.now.items) (map coded_as c.push.new.self.items)
    (map coded_as c.push_halves.new.order.items) (map coded_as c.push_halves-2.new.order.items)
    _ _ _
    (ap (map coded_as) c.in_ok-push.ensures.items ∙ map-append coded_as c.args.order.now.items _)
    (c.in_ok-push_halves.ensures) (c.in_ok-push_halves-2.ensures)
    ∙ ap (λ t. map coded_as c.args.order.now.items ++ t)
    (sym (halves_split c.args.levels c.args.low c.args.high c.args.depth (omega arith) (omega arith)))
