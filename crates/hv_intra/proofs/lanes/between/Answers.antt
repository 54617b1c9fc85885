use Rattle.std.proofs.Common.{◌≡◌, List, ℕ, arith, map, subst, sym}
use Rattle.std.proofs.lemmas.Simd.{shifts_fit_splat}
use lib.Lanes.{zip2}
use Rattle.hv_intra.specs.Lanes.{stepped}
use Rattle.hv_intra.proofs.LaneLemmas.{between, between_is, between_fits, narrow}
use Rattle.hv_intra.proofs.lanes.between.Goals as goal

pub overflow_shr-result : goal.overflow_shr-result
overflow_shr-result g c = shifts_fit_splat 16 _ g.row.N 8 (omega arith)

pub overflow_cast-result : goal.overflow_cast-result
overflow_cast-result g c = between_fits g.row.N c.args.weights c.args.bases c.args.steps

pub returns : goal.returns
returns g c = λ w e.
    subst (λ (ws : List ℕ). map narrow (between g.row.N ws c.args.bases c.args.steps) ≡ zip2 (stepped w) c.args.bases c.args.steps) (sym e)
    (between_is g.row.N w c.args.bases c.args.steps c.fits-bases.0 c.fits-steps.0)
