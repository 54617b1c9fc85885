use Rattle.std.proofs.Common.{◌≡◌, ◌-◌, ◌*◌, ◌%◌, ◌^◌, arith}
use Rattle.std.proofs.Math.Nat.{pow-le-pow_right}
use Rattle.hv_forward.proofs.LevelLemmas.{levels_are}
use Rattle.hv_forward.proofs.level_lanes.rounded_levels.Goals as goal

pub returns : goal.returns
returns c =
    let small = pow-le-pow_right {n = 2} (omega arith) {i = c.args.shift} {j = 27} c.requires.greatest in
    let other : 1 * 2 ^ c.args.shift % 4294967296 - 1 - 2 * c.args.offset ≡ 2 ^ c.args.shift - 1 - 2 * c.args.offset = omega (arith, small) in
    levels_are 8 c.args.offset c.args.shift _ c.args.products c.requires.eight c.requires.greatest c.requires.part other c.requires.range
