use Rattle.std.proofs.Common.{sym, ◌∙◌, arith}
use Rattle.hv_mode.proofs.BestLemmas.{fits_across, fits_down}
use Rattle.hv_mode.proofs.DecidedLemmas.{outside_decides, forced_decides}
use Rattle.hv_mode.proofs.SplitLemmas.{split_decides, parts_of}
use Rattle.hv_mode.proofs.node.+deciding.Goals as goal

-- ---- a node

pub decide_node-returns-then-begins_outside : goal.decide_node-returns-then-begins_outside
decide_node-returns-then-begins_outside t c =
    outside_decides c.args.task.now c.args.size c.args.address c.args.out.now c.requires.node
    (sym c.begins_outside.ensures ∙ c.if-begins_outside.true)

pub decide_node-returns-then-must_split : goal.decide_node-returns-then-must_split
decide_node-returns-then-must_split t c =
    forced_decides c.args.task.now c.args.size c.args.address c.args.out.now c.decide_split.new.out
    (sym c.begins_outside.ensures ∙ c.if-begins_outside.false)
    (sym c.must_split.ensures ∙ c.if-must_split.true) c.decide_split.ensures

pub decide_node-decide_inside-requires : goal.decide_node-decide_inside-requires
decide_node-decide_inside-requires t c =
    let task = c.args.task.now in
    let inside = sym c.begins_outside.ensures ∙ c.if-begins_outside.false in
    let whole = sym c.must_split.ensures ∙ c.if-must_split.false in
    record {
      node = c.requires.node;
      right = fits_across task.place c.args.size c.args.address task.across inside whole;
      bottom = fits_down task.place c.args.size c.args.address task.down inside whole;
      room = c.requires.room;
    }

-- ---- a node that is split

pub decide_split-decide_node-requires : goal.decide_split-decide_node-requires
decide_split-decide_node-requires t c =
    let parts = parts_of c.args.size c.squares-step.result c.args.address c.requires.parts
    c.squares-step.ensures.value c.requires.node in (omega arith, (parts.first, omega arith))

pub decide_split-decide_node-requires-2 : goal.decide_split-decide_node-requires-2
decide_split-decide_node-requires-2 t c =
    let parts = parts_of c.args.size c.squares-step.result c.args.address c.requires.parts
    c.squares-step.ensures.value c.requires.node in (omega arith, (parts.second, omega arith))

pub decide_split-decide_node-requires-3 : goal.decide_split-decide_node-requires-3
decide_split-decide_node-requires-3 t c =
    let parts = parts_of c.args.size c.squares-step.result c.args.address c.requires.parts
    c.squares-step.ensures.value c.requires.node in (omega arith, (parts.third, omega arith))

pub decide_split-decide_node-requires-4 : goal.decide_split-decide_node-requires-4
decide_split-decide_node-requires-4 t c =
    let parts = parts_of c.args.size c.squares-step.result c.args.address c.requires.parts
    c.squares-step.ensures.value c.requires.node in (omega arith, (parts.fourth, omega arith))

pub decide_split-returns : goal.decide_split-returns
decide_split-returns t c =
    split_decides c.args.task.now c.args.size c.squares-step.result c.args.address c.args.out.now
    c.decide_node.new.out c.decide_node-2.new.out c.decide_node-3.new.out c.decide_node-4.new.out
    c.requires.parts c.squares-step.ensures.value c.requires.node c.requires.begins
    c.decide_node.ensures c.decide_node-2.ensures c.decide_node-3.ensures c.decide_node-4.ensures
