use Rattle.std.proofs.Common.{◌∙◌, ap, ap₂, arith, map}
use Rattle.hv_group_model.specs.Structure.{rising}
use Rattle.hv_decision.specs.Coding.{coded_as}
use Rattle.hv_decision.specs.Sets.{row_in}
use Rattle.hv_decision.proofs.TableLemmas.{length_made, whole_made}
use Rattle.hv_decision.proofs.structure.Structure.of.Goals as goal

pub rows-requires-clause-most : goal.rows-requires-clause-most
rows-requires-clause-most c =
    omega (
      arith,
      c.requires.most,
      length_made c.deref.result.now c.args.count c.args.levels
          (ap (map coded_as) c.deref.ensures.value ∙ c.in_ok-coding.ensures)
          c.requires.some c.requires.most c.requires.levels_most,
    )

pub rows-requires-clause-whole : goal.rows-requires-clause-whole
rows-requires-clause-whole c =
    whole_made c.deref.result.now c.args.count c.args.levels
    (ap (map coded_as) c.deref.ensures.value ∙ c.in_ok-coding.ensures)
    c.requires.some c.requires.most c.requires.levels_most

pub invariant_of-result : goal.invariant_of-result
invariant_of-result c =
    let made = ap (map coded_as) c.deref.ensures.value ∙ c.in_ok-coding.ensures in
    record {
      ranges = record { some = c.requires.some; most = c.requires.most; few = c.requires.levels_most };
      pictures = c.in_ok-order.ensures
          ∙ ap (λ m. map (λ x. x.picture) (map coded_as m)) c.deref-2.ensures.value
          ∙ ap (map (λ x. x.picture)) c.in_ok-coding.ensures;
      by_picture = c.in_ok-rows.ensures
          ∙ ap₂ (λ m n. map (row_in m n) (rising n 0)) made
          (length_made c.deref.result.now c.args.count c.args.levels made
          c.requires.some c.requires.most c.requires.levels_most);
    }
