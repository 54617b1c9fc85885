use Rattle.std.proofs.Common.{◌≡◌, length, cond, nat_lt}
use Rattle.hv_interp.specs.Filters.{HasFirst}
use Rattle.hv_search.proofs.coarse.mask_of.Given as goal

abbrev pub invariant-loop-i : goal.invariant-loop-i
invariant-loop-i l = (length l.mask ≡ 16) × HasFirst 0 l.i (λ i. cond (nat_lt i l.columns) 255 0) l.mask
