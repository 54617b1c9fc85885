use Rattle.std.proofs.Common.{◌∙◌, ap, map, ◌++◌, ◌∷◌, [], length}
use Rattle.std.proofs.lemmas.List.{map-append}
use Rattle.hv_decision.specs.Coding.{coded_as}
use Rattle.hv_decision.specs.Sets.{row_as, row_in}
use Rattle.hv_decision.proofs.SetLemmas.{map_rising_push}
use Rattle.hv_decision.proofs.sets.rows.Goals as goal

pub loop-picture-preserved : goal.loop-picture-preserved
loop-picture-preserved c =
    ap (map row_as) c.in_ok-push.ensures.items
    ∙ map-append row_as c.loop-picture.rows.items _
    ∙ ap (λ r. map row_as c.loop-picture.rows.items ++ r ∷ []) c.in_ok-row.ensures
    ∙ map_rising_push (row_in (map coded_as c.args.order.now) (length c.args.order.now)) c.loop-picture.picture
    (map row_as c.loop-picture.rows.items) c.loop-picture.invariant
