use Rattle.std.proofs.Common.{◌≡◌, ℕ, ◌+◌, ◌*◌, ◌/◌, true, false, take, ap, ◌∙◌, arith}
use Rattle.hv_tables.specs.Quantisers.{chroma_qp}
use Rattle.hv_tree_model.specs.Sites.{x0, y0}
use Rattle.hv_recon.proofs.UnitLemmas.{unit_ends}
use Rattle.hv_mode.proofs.InterUnitLemmas.{ends_so, block_chosen}
use Rattle.hv_mode.proofs.inter_unit.choose_unit.Goals as goal

pub choose_luma-requires-clause-room : goal.choose_luma-requires-clause-room
choose_luma-requires-clause-room c =
    let node = c.requires.node in
    let ends = unit_ends c.args.size c.args.address c.requires.small node.inside node.multiple in
    ends_so 64 c.from-at.result c.args.address c.block_of-of_luma.result.log2 (c.args.size + 3)
    4096 c.from-at.ensures (c.block_of-of_luma.ensures.log2 ∙ c.node_squares.ensures.luma.log2)
    ends.levels

pub choose_cb-requires-clause-room : goal.choose_cb-requires-clause-room
choose_cb-requires-clause-room c =
    let node = c.requires.node in
    let ends = unit_ends c.args.size c.args.address c.requires.small node.inside node.multiple in
    ends_so 16 c.from-at.result c.args.address c.block_of-of_chroma.result.log2 (c.args.size + 2)
    1024 c.from-at.ensures
    (omega (
      arith,
      c.block_of-of_chroma.ensures.log2,
      c.node_squares.ensures.chroma.log2,
      c.node_squares.ensures.luma.log2,
    ))
    ends.chroma_levels

pub choose_cr-requires-clause-room : goal.choose_cr-requires-clause-room
choose_cr-requires-clause-room c =
    let node = c.requires.node in
    let ends = unit_ends c.args.size c.args.address c.requires.small node.inside node.multiple in
    ends_so 16 c.from-at.result c.args.address c.block_of-of_chroma.result.log2 (c.args.size + 2)
    1024 c.from-at.ensures
    (omega (
      arith,
      c.block_of-of_chroma.ensures.log2,
      c.node_squares.ensures.chroma.log2,
      c.node_squares.ensures.luma.log2,
    ))
    ends.chroma_levels

pub returns : goal.returns
returns c =
    let task = c.args.task.now in
    let size : ℕ = c.args.size in
    let address : ℕ = c.args.address in
    let node = c.requires.node in
    let ends = unit_ends size address c.requires.small node.inside node.multiple in
    let of_luma = c.block_of-of_luma.ensures in
    let of_chroma = c.block_of-of_chroma.ensures in
    let squares = c.node_squares.ensures in
    let old = c.args.plan.now in
    let first = c.choose_luma.new.plan in
    let second = c.choose_cb.new.plan in
    let last = c.choose_cr.new.plan in
    let chroma_side : c.block_of-of_chroma.result.log2 ≡ size + 2 =
    omega (arith, of_chroma.log2, squares.chroma.log2, squares.luma.log2) in
    let across : c.block_of-of_chroma.result.column ≡ x0 task.place address / 2 =
    of_chroma.column ∙ squares.chroma.left ∙ ap (λ (x : ℕ). x / 2) squares.luma.left in
    let down : c.block_of-of_chroma.result.row ≡ y0 task.place address / 2 =
    of_chroma.row ∙ squares.chroma.top ∙ ap (λ (y : ℕ). y / 2) squares.luma.top in
    let luma =
    block_chosen task.input.now.luma c.args.reference.now.luma _ (size + 3) _ true _ task.qp _
    c.args.mv _ (x0 task.place address) _ (y0 task.place address)
    (of_luma.log2 ∙ squares.luma.log2) of_luma.luma of_luma.qp of_luma.mv
    (of_luma.column ∙ squares.luma.left) (of_luma.row ∙ squares.luma.top) old.luma last.luma 64
    c.from-at.result address 4096 c.from-at.ensures
    (ap (λ p. p.luma) c.choose_cr.ensures.plan ∙ ap (λ p. p.luma) c.choose_cb.ensures.plan ∙
    ap (λ p. p.luma) c.choose_luma.ensures.plan)
    c.choose_luma.ensures.count ends.levels c.choose_luma.ensures.room in
    let cb =
    block_chosen task.input.now.cb c.args.reference.now.cb _ (size + 2) _ false _
    (chroma_qp task.qp) _ c.args.mv _ (x0 task.place address / 2) _ (y0 task.place address / 2)
    chroma_side of_chroma.luma (of_chroma.qp ∙ c.chroma_qp.ensures.value) of_chroma.mv across down
    first.cb last.cb 16 c.from-at.result address 1024 c.from-at.ensures
    (ap (λ p. p.cb) c.choose_cr.ensures.plan ∙ ap (λ p. p.cb) c.choose_cb.ensures.plan)
    c.choose_cb.ensures.count ends.chroma_levels c.choose_cb.ensures.room in
    let cr =
    block_chosen task.input.now.cr c.args.reference.now.cr _ (size + 2) _ false _
    (chroma_qp task.qp) _ c.args.mv _ (x0 task.place address / 2) _ (y0 task.place address / 2)
    chroma_side of_chroma.luma (of_chroma.qp ∙ c.chroma_qp.ensures.value) of_chroma.mv across down
    second.cr last.cr 16 c.from-at.result address 1024 c.from-at.ensures
    (ap (λ p. p.cr) c.choose_cr.ensures.plan)
    c.choose_cr.ensures.count ends.chroma_levels c.choose_cr.ensures.room in
    record {
      chosen = record { luma = luma.0; cb = cb.0; cr = cr.0 };
      kept = record {
        units = ap (λ p. p.units) c.choose_cr.ensures.plan ∙
            ap (λ p. p.units) c.choose_cb.ensures.plan ∙
            ap (λ p. p.units) c.choose_luma.ensures.plan;
        luma = luma.1;
        cb = cb.1 ∙ ap (λ p. take (16 * address) p.cb) c.choose_luma.ensures.plan;
        cr = cr.1 ∙ ap (λ p. take (16 * address) p.cr) c.choose_cb.ensures.plan ∙
            ap (λ p. take (16 * address) p.cr) c.choose_luma.ensures.plan;
      };
    }
