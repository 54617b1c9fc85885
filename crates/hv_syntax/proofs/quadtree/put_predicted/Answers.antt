use Rattle.std.proofs.Common.{◌∙◌}
use Rattle.hv_syntax.specs.Levels.{units_of, size_of}
use Rattle.hv_residual.proofs.PuttingLemmas.{puts_same}
use Rattle.hv_syntax.proofs.SeenLemmas.{candidates_seen, predicted_intra, predicted_inter}
use Rattle.hv_syntax.proofs.quadtree.put_predicted.Goals as goal

pub returns-in-Intra : goal.returns-in-Intra
returns-in-Intra g c = λ s earlier r. rw c.in-Intra.is
    (puts_same g.B.BinSink.stands_for _ _ _ _
    (predicted_intra s c.args.size c.args.address earlier c.in-Intra.mode
    (units_of c.args.levels.now) c.candidates.result
    (c.candidates.ensures ∙
    candidates_seen c.args.block.now s c.args.address earlier c.requires.address r))
    c.put_intra.ensures)

pub returns-in-Inter : goal.returns-in-Inter
returns-in-Inter g c = λ s earlier r. rw c.in-Inter.is
    (puts_same g.B.BinSink.stands_for _ _ _ _
    (predicted_inter s c.args.size c.args.address earlier _ (units_of c.args.levels.now)
    c.args.block.now.references (size_of c.args.levels.now) r.sees.references c.requires.size)
    c.put_inter.ensures)
