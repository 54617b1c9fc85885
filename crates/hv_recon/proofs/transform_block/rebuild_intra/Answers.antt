use Rattle.std.proofs.Common.{length}
use Rattle.hv_recon.proofs.LineLemmas.{line_of_block}
use Rattle.hv_recon.proofs.transform_block.rebuild_intra.Goals as goal

pub of-line-requires : goal.of-line-requires
of-line-requires c =
    line_of_block c.args.log2 (length c.args.known.now) c.requires.least c.requires.most
    c.requires.line
