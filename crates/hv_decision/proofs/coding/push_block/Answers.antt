use Rattle.std.proofs.Common.{◌∙◌, ap, map}
use Rattle.std.proofs.lemmas.List.{map-append}
use Rattle.hv_decision.specs.Coding.{coded_as}
use Rattle.hv_decision.proofs.CodingLemmas.{put_two}
use Rattle.hv_decision.proofs.coding.push_block.Goals as goal

pub returns : goal.returns
returns c =
    put_two (map coded_as c.args.order.now.items) (map coded_as c.push.new.self.items)
    (map coded_as c.push_halves.new.order.items) _ _
    (ap (map coded_as) c.in_ok-push.ensures.items ∙ map-append coded_as c.args.order.now.items _)
    c.in_ok-push_halves.ensures
