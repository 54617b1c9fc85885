use Rattle.std.proofs.Common.{arith, ◌<◌, ◌+◌, ◌-◌, ◌*◌, ◌≡◌, ◌∙◌, ◌-ℤ◌, ap, ap₂, pos, subst, sym, ℕ, Some, get_or}
use Rattle.hv_types.specs.Samples.{sample_at}
use Rattle.hv_types.proofs.SampleLemmas.{byte_at}
use Rattle.hv_filter_model.specs.Blocks.{row_locations}
use Rattle.hv_filter_model.specs.SampleAdaptiveOffset.{edge_of, edgeIdx}
use Rattle.hv_filter_model.specs.OffsetDecision.{Block, difference}
use Rattle.hv_sao.specs.Tallies.{Adds}
use Rattle.hv_sao.specs.Decisions.{block_of, edge_key, edge_key_at}
use Rattle.hv_sao.proofs.AddLemmas.{adds_nothing, adds_rest, adds_edge, at_most_edge, at_most_more, uncounted, location_at}
use Rattle.hv_sao.proofs.tallies.add_row_of_edges.Goals as goal

pub loop-i-init : goal.loop-i-init
loop-i-init c =
    let b : Block = block_of c.args.block.deblocked.now c.args.block.input.now c.args.block.area in
    let lead : ℕ = c.edge_row-row.result.start - c.args.block.area.left in
    record {
      added = subst (λ n. Adds 32 (edge_key_at c.args.class b) (difference b) (row_locations b.area c.args.y n) c.args.tallies.now c.args.tallies.now)
          (omega arith)
          (adds_rest 32 (edge_key_at c.args.class b) (difference b) b.area c.args.y 0 lead c.args.tallies.now c.args.tallies.now
          (adds_nothing 32 (edge_key_at c.args.class b) (difference b) b.area c.args.y c.args.tallies.now)
          (λ x least most. uncounted c.args.class b (location_at b.area x c.args.y)
          (c.edge_row-row.ensures.before (c.args.block.area.left + x) (omega arith) (omega arith))));
      few = at_most_more 33 (64 * c.args.y) (64 * c.args.y + (lead + 0)) c.args.tallies.now c.requires.few (omega arith);
    }

pub loop-i-preserved : goal.loop-i-preserved
loop-i-preserved c =
    let b : Block = block_of c.args.block.deblocked.now c.args.block.input.now c.args.block.area in
    let lead : ℕ = c.edge_row-row.result.start - c.args.block.area.left in
    let i : ℕ = c.loop-i.i in
    let s : ℕ = get_or c.edge_row-row.result.samples.now i 0 in
    let row : ℕ = c.args.block.area.top + c.args.y in
    let place : c.edge_row-row.result.start + i ≡ c.args.block.area.left + (lead + i) = omega (arith, c.edge_row-row.ensures.begins) in
    let value : s ≡ sample_at b.deblocked (c.args.block.area.left + (lead + i)) row =
    c.edge_row-row.ensures.values i (omega arith) ∙ ap (λ x. sample_at b.deblocked x row) place in
    let input : get_or c.part_of_row-inputs.result.now i 0 ≡ sample_at b.input (c.args.block.area.left + (lead + i)) row =
    c.part_of_row-inputs.ensures.samples i (omega (arith, c.part_of_row-inputs.ensures.count)) ∙ ap (λ x. sample_at b.input x row) place in
    let k : ℕ = get_or c.put_row_of_keys.new.keys i 0 in
    let edge : edgeIdx c.args.class b.deblocked (c.args.block.area.left + (lead + i)) row ≡
    edge_of s (Some (get_or c.edge_row-row.result.first.now i 0)) (Some (get_or c.edge_row-row.result.second.now i 0)) =
    ap (λ x. edgeIdx c.args.class b.deblocked x row) (sym place) ∙ c.edge_row-row.ensures.edges i (omega arith) in
    let key : edge_key_at c.args.class b (location_at b.area (lead + i) c.args.y) ≡ k =
    ap₂ (λ e v. edge_key e v) edge (sym value) ∙ sym (c.put_row_of_keys.ensures.values i (omega arith)) in
    record {
      added = adds_edge (edge_key_at c.args.class b) (difference b) b.area c.args.y (lead + i) (lead + (i + 1))
          k (get_or c.part_of_row-inputs.result.now i 0) s c.args.tallies.now c.loop-i.tallies c.add_edge.new.tallies
          c.loop-i.invariant.added (omega arith) (omega arith) key
          (ap₂ (λ p q. pos p -ℤ pos q) (sym input) (sym value)) c.add_edge.ensures;
      few = at_most_edge (64 * c.args.y + (lead + i)) (64 * c.args.y + (lead + (i + 1))) k
          (get_or c.part_of_row-inputs.result.now i 0) s c.loop-i.tallies c.add_edge.new.tallies c.loop-i.invariant.few (omega arith) (omega arith)
          (c.put_row_of_keys.ensures.most i (omega arith)) (c.type_inv.inputs i).fits
          (subst (λ v. v < 256) (sym value) (byte_at b.deblocked.samples (row * b.deblocked.width + (c.args.block.area.left + (lead + i))) c.args.block.inside.bytes))
          c.add_edge.ensures;
    }

pub add_edge-requires-clause-key : goal.add_edge-requires-clause-key
add_edge-requires-clause-key c = c.put_row_of_keys.ensures.most c.loop-i.i (omega arith)

pub returns-clause-added : goal.returns-clause-added
returns-clause-added c =
    let b : Block = block_of c.args.block.deblocked.now c.args.block.input.now c.args.block.area in
    let lead : ℕ = c.edge_row-row.result.start - c.args.block.area.left in
    let m : ℕ = lead + c.loop-i.i in
    let end : m + (c.args.block.area.columns - m) ≡ c.args.block.area.columns = omega (arith, c.edge_row-row.ensures.ends, c.edge_row-row.ensures.begins) in
    subst (λ n. Adds 32 (edge_key_at c.args.class b) (difference b) (row_locations b.area c.args.y n) c.args.tallies.now c.loop-i.tallies) end
    (adds_rest 32 (edge_key_at c.args.class b) (difference b) b.area c.args.y m (c.args.block.area.columns - m) c.args.tallies.now c.loop-i.tallies
    c.loop-i.invariant.added
    (λ x least most. uncounted c.args.class b (location_at b.area x c.args.y)
    (c.edge_row-row.ensures.behind (c.args.block.area.left + x) (omega (arith, c.edge_row-row.ensures.begins)) (omega arith))))
