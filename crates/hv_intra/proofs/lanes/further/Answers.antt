use Rattle.std.proofs.Common.{◌∙◌, ap₂, List, ℕ}
use lib.Lanes.{zip2}
use Rattle.hv_intra.proofs.LaneLemmas.{same_lanes, plus}
use Rattle.hv_intra.proofs.lanes.further.Goals as goal

pub returns : goal.returns
returns c = λ a b e f.
    ap₂ (λ (v w : List ℕ). zip2 plus v w) e f ∙ same_lanes 16 a b plus
