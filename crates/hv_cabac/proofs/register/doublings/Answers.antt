use Rattle.std.proofs.Common.{◌*◌, ◌^◌, ◌≤◌, ℕ, sym, subst}
use Rattle.hv_entropy_model.proofs.IntervalLemmas.{shift_fits}
use Rattle.hv_cabac.proofs.BoundLemmas.{leading_shift}
use Rattle.hv_cabac.proofs.register.doublings.Goals as goal

pub overflow_sub-result : goal.overflow_sub-result
overflow_sub-result c = (leading_shift c.args.width c.requires.least c.requires.most).0

pub returns-clause-shift : goal.returns-clause-shift
returns-clause-shift c = (leading_shift c.args.width c.requires.least c.requires.most).1

pub returns-clause-most : goal.returns-clause-most
returns-clause-most c = (leading_shift c.args.width c.requires.least c.requires.most).2

pub returns-clause-wide : goal.returns-clause-wide
returns-clause-wide c =
    let w = c.args.width in
    let shift = (leading_shift w c.requires.least c.requires.most).1 in
    let fits = shift_fits w c.requires.least c.requires.most in
    subst (λ (k : ℕ). 256 ≤ w * 2 ^ k) (sym shift) fits.0

pub returns-clause-result_most : goal.returns-clause-result_most
returns-clause-result_most c =
    let w = c.args.width in
    let shift = (leading_shift w c.requires.least c.requires.most).1 in
    let fits = shift_fits w c.requires.least c.requires.most in
    subst (λ (k : ℕ). w * 2 ^ k ≤ 510) (sym shift) fits.1
