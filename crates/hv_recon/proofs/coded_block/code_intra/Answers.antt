use Rattle.std.proofs.Common.{length}
use Rattle.hv_recon.proofs.LineLemmas.{line_of_block}
use Rattle.hv_recon.proofs.coded_block.code_intra.Goals as goal

pub of-line-requires : goal.of-line-requires
of-line-requires g c =
    line_of_block c.args.spot.log2 (length c.args.known.now) c.args.spot.least c.args.spot.most
    c.requires.line
