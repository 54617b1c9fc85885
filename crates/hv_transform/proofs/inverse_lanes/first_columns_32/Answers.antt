use Rattle.std.proofs.Common.{arith, rules, ◌∙◌, ap}
use Rattle.hv_transform.specs.Columns.{pass_mean}
use Rattle.hv_transform.proofs.CornerLemmas.{behind}
use Rattle.hv_lanes.proofs.PartLemmas.{none_yet}
use Rattle.hv_lanes.proofs.PartLemmas.{HasFirst-put}
use Rattle.hv_transform.proofs.inverse_lanes.first_columns_32.Goals as goal

pub pass_32-requires : goal.pass_32-requires
pass_32-requires c =
    (omega arith, (omega arith, (omega arith, (omega arith, (c.requires.numbers, ((λ _. c.requires.few), ((λ _. c.requires.few_others), (c.first_weights_32.ensures, (omega arith, (omega arith, search rules))))))))))

pub returns-clause-first : goal.returns-clause-first
returns-clause-first c =
    HasFirst-put 0 256 256 (pass_mean 3 c.args.rows.now 7) c.args.out.now c.pass_32.new.out (omega arith) (omega arith) (none_yet (pass_mean 3 c.args.rows.now 7) c.args.out.now) (λ k below. c.pass_32.ensures k below ∙ ap (pass_mean 3 c.args.rows.now 7) (omega arith))

pub returns-clause-rest : goal.returns-clause-rest
returns-clause-rest c = λ k past. behind 256 k c.args.out.now c.pass_32.new.out (omega arith) (omega arith) past ∙ c.requires.clear k
