-- A picture keeps its sides behind the offsets.
use Rattle.std.proofs.Common.{subst, sym}
use Rattle.hv_types.specs.Video.{IsPicture}
use Rattle.hv_speed.proofs.SideLemmas.{sides_kept}
use Rattle.hv_speed.proofs.offsets.apply_once.Goals as goal

pub invariant_of-shown-clause-shown_whole : goal.invariant_of-shown-clause-shown_whole
invariant_of-shown-clause-shown_whole c =
    let deblocked : IsPicture 128 128 c.args.shown.now.deblocked = c.args.shown.now.deblocked_whole in
    subst (λ p. IsPicture 128 128 p) (sym c.apply_sao.ensures) (record {
      luma = sides_kept 128 128 _ c.args.shown.now.deblocked.luma deblocked.luma;
      cb = sides_kept 64 64 _ c.args.shown.now.deblocked.cb deblocked.cb;
      cr = sides_kept 64 64 _ c.args.shown.now.deblocked.cr deblocked.cr;
    })
