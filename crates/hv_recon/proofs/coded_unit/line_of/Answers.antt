use Rattle.std.proofs.Common.{length}
use Rattle.hv_recon.proofs.LineLemmas.{line_of_block}
use Rattle.hv_recon.proofs.coded_unit.line_of.Goals as goal

pub of-requires : goal.of-requires
of-requires c =
    line_of_block c.args.log2 (length c.args.known.now) c.requires.least c.requires.most
    c.requires.line
