use Rattle.std.proofs.Common.{◌≡◌, ℕ, ◌-◌, length, ap, arith}
use Rattle.hv_plan.specs.declared.prediction.Pred.TheVariants.{Inter}
use Rattle.hv_block.specs.Plans.{unit_of}
use Rattle.hv_block.specs.declared.block.Block.{Block}
use Rattle.hv_mode.specs.declared.task.Task.{Task}
use Rattle.hv_mode.proofs.InterChoiceLemmas.{entry_there, decides_inter, inter_kept}
use Rattle.hv_mode.proofs.inter_choice.decide_inter.Goals as goal

pub code_inter-requires-clause-there : goal.code_inter-requires-clause-there
code_inter-requires-clause-there c =
    entry_there c.args.task.now c.args.entry c.requires.named

pub returns : goal.returns
returns c =
    let task : Task = c.args.task.now in
    let size : ℕ = c.args.size in
    let address : ℕ = c.args.address in
    let old : Block = c.args.out.now in
    let new : Block = c.code_inter.new.out in
    let moved = c.choose_predictor-moved.result in
    let room : length old.plan.units ≡ 64 = omega (
      arith,
      ap length c.units-squares.ensures.value,
      c.units-squares.ensures.count,
    ) in
    decides_inter task size address c.args.entry moved.flag c.args.mv moved.mv moved.mvd
    c.candidates-both.result old new c.requires.node
    (record { across = c.requires.right; down = c.requires.bottom }) room
    c.code_inter.ensures.units
    (record {
      by_flag = c.choose_predictor-moved.ensures.flag;
      less = c.choose_predictor-moved.ensures.mvd;
      more = c.choose_predictor-moved.ensures.mv;
    })
    c.candidates-both.ensures c.code_inter.ensures.chosen
    (inter_kept size address
    (unit_of (3 - size) (Inter c.args.entry moved.mv moved.flag moved.mvd)) old new
    (omega (arith, c.requires.node.inside, room)) c.code_inter.ensures.units
    c.code_inter.ensures.luma c.code_inter.ensures.cb c.code_inter.ensures.cr
    c.code_inter.ensures.kept)
    c.code_inter.ensures.decoded
