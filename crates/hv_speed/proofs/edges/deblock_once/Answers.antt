-- A picture keeps its sides behind the filter.
use Rattle.std.proofs.Common.{subst, sym}
use Rattle.hv_types.specs.Video.{IsPicture}
use Rattle.hv_speed.proofs.SideLemmas.{sides_kept}
use Rattle.hv_speed.proofs.edges.deblock_once.Goals as goal

pub returns : goal.returns
returns c =
    subst (λ p. IsPicture 256 256 p) (sym c.deblock.ensures) (record {
      luma = sides_kept 256 256 _ c.args.picture.now.luma c.requires.luma;
      cb = sides_kept 128 128 _ c.args.picture.now.cb c.requires.cb;
      cr = sides_kept 128 128 _ c.args.picture.now.cr c.requires.cr;
    })
