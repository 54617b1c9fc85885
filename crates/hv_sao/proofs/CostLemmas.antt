-- Costs whose product is turned.
use Rattle.std.proofs.Common.{◌≡◌, ℕ, ◌+◌, ◌*◌, ap, mul_comm}
use Rattle.hv_filter_model.specs.Costs.{bin_weight, cost}

pub cost_turned : (qp s bins : ℕ) → cost qp s bins ≡ 16 * s + bins * bin_weight qp
cost_turned qp s bins = ap (λ k. 16 * s + k) (mul_comm (bin_weight qp) bins)
