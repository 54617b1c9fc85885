use Rattle.std.proofs.Common.{arith, rules, ◌∙◌, ap}
use Rattle.hv_transform.specs.Columns.{pass_mean}
use Rattle.hv_transform.proofs.CornerLemmas.{behind}
use Rattle.hv_lanes.proofs.PartLemmas.{none_yet}
use Rattle.hv_lanes.proofs.PartLemmas.{HasFirst-put}
use Rattle.hv_transform.proofs.inverse_lanes.first_columns_16.Goals as goal

pub pass_16-requires : goal.pass_16-requires
pass_16-requires c =
    (omega arith, (omega arith, (omega arith, (omega arith, (c.requires.numbers, ((λ _. c.requires.few), (c.first_weights_16.ensures, (omega arith, (omega arith, search rules)))))))))

pub returns-clause-first : goal.returns-clause-first
returns-clause-first c =
    HasFirst-put 0 128 128 (pass_mean 2 c.args.rows.now 7) c.args.out.now c.pass_16.new.out (omega arith) (omega arith) (none_yet (pass_mean 2 c.args.rows.now 7) c.args.out.now) (λ k below. c.pass_16.ensures k below ∙ ap (pass_mean 2 c.args.rows.now 7) (omega arith))

pub returns-clause-rest : goal.returns-clause-rest
returns-clause-rest c = λ k past. behind 128 k c.args.out.now c.pass_16.new.out (omega arith) (omega arith) past ∙ c.requires.clear k
