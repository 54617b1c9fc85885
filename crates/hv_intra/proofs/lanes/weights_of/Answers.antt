use Rattle.std.proofs.Common.{◌∙◌, ap, List, ℕ, replicate}
use lib.Lanes.{zip2}
use Rattle.hv_intra.proofs.LaneLemmas.{same_lanes, down}
use Rattle.hv_intra.proofs.lanes.weights_of.Goals as goal

pub returns : goal.returns
returns c = λ a e.
    ap (λ (v : List ℕ). zip2 down v (replicate 16 8)) e ∙ same_lanes 16 a 8 down
