use Rattle.std.proofs.Common.{◌∙◌, ap, length}
use Rattle.hv_syntax.specs.Levels.{units_of, size_of}
use Rattle.hv_syntax.proofs.SeenLemmas.{candidates_seen, predicted_intra, predicted_inter}
use Rattle.hv_syntax.proofs.counting_tree.count_predicted.Goals as goal

pub returns-in-Intra-clause-value : goal.returns-in-Intra-clause-value
returns-in-Intra-clause-value c = λ s earlier r. rw c.in-Intra.is
    (c.count_intra.ensures.value ∙
    ap length (predicted_intra s c.args.size c.args.address earlier c.in-Intra.mode
    (units_of c.args.levels.now) c.candidates.result
    (c.candidates.ensures ∙
    candidates_seen c.args.block.now s c.args.address earlier c.requires.address r)))

pub returns-in-Inter-clause-value : goal.returns-in-Inter-clause-value
returns-in-Inter-clause-value c = λ s earlier r. rw c.in-Inter.is
    (c.count_inter.ensures.value ∙
    ap length (predicted_inter s c.args.size c.args.address earlier _ (units_of c.args.levels.now)
    c.args.block.now.references (size_of c.args.levels.now) r.sees.references c.requires.size))
