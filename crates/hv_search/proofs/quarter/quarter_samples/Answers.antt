use Rattle.std.proofs.Common.{◌≡◌, ℕ, ◌*◌, ◌/◌, List, length, drop, subst, sym, arith}
use Rattle.hv_types.specs.Samples.{plane_by_rows}
use Rattle.hv_search_model.specs.MotionSearch.{quarter_size}
use Rattle.hv_search.specs.Windows.{plane_of_grid}
use Rattle.hv_search.proofs.QuarterLemmas.{quarter_size_is}
use Rattle.hv_search.proofs.StoreLemmas.{front_of}
use Rattle.hv_search.proofs.quarter.quarter_samples.Goals as goal

pub returns-clause-value : goal.returns-clause-value
returns-clause-value c =
    let w : ℕ = c.args.luma.width / 4 in
    let h : ℕ = c.args.luma.height / 4 in
    let out : List ℕ = c.put_quarters.new.out in
    let long : length out ≡ w * h = omega (arith, c.put_quarters.ensures.count, c.deref_mut.ensures.len, c.in_ok-samples.ensures.len) in
    subst (λ l. plane_by_rows w h l ≡ quarter_size (plane_of_grid c.args.luma))
    (sym (front_of out (drop (length out) c.in_ok-samples.samples.items) c.in_ok-samples.samples.len (omega (arith, long, c.in_ok-samples.ensures.len))))
    (quarter_size_is (plane_of_grid c.args.luma) out (omega (arith, c.requires.wide, c.args.luma.wide)) long c.put_quarters.ensures.each)
