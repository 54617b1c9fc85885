use Rattle.std.proofs.Common.{ℕ, ◌≡◌, ◌+◌, ◌-◌, length, replicate, arith}
use Rattle.std.proofs.lemmas.List.{length-take-le}
use Rattle.hv_filter_model.specs.SampleAdaptiveOffset.{sao_sample}
use Rattle.hv_sao.specs.Planes.{number_at}
use Rattle.hv_sao.proofs.PlaneLemmas.{run_written, written_as}
use Rattle.hv_sao.proofs.apply.apply_part.Goals as goal

pub returns-in_default : goal.returns-in_default
returns-in_default c =
    let n : ℕ = c.args.to - c.args.from in
    let size : length c.fill_row.new.out ≡ n =
    omega (arith, c.fill_row.auto.out, length-take-le {A = ℕ} n (replicate 64 0) (omega (arith, c.requires.most))) in
    written_as c.args.from c.args.y n (number_at c.fill_row.new.out) (λ i. sao_sample c.args.choice c.args.deblocked.now (c.args.from + i) c.args.y)
    c.args.shown.now c.set_run.new.self (λ i below. c.fill_row.ensures i (omega (arith, size, below)))
    (rw c.set_run.ensures
    (run_written c.args.from c.args.y n c.fill_row.new.out c.args.shown.now c.requires.shown.whole
    (omega (arith, c.requires.down, c.requires.shown.high)) size
    (omega (arith, c.requires.order, c.requires.across, c.requires.shown.wide))))
