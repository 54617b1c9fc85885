use Rattle.std.proofs.Common.{replicate, ◌%◌, ap, ◌≡◌, ◌^◌, ◌<◌, ◌*◌, ◌+◌, ◌-◌, ℕ, List, arith, subst, ◌∙◌, length, take, drop}
use Rattle.hv_intra.specs.Blocks.{IsRow}
use Rattle.hv_intra.specs.References.{first, part, sample_between}
use Rattle.hv_intra.specs.Lanes.{stepped_at}
use Rattle.hv_intra.proofs.FactLemmas.{row_facts, weight_is}
use Rattle.hv_intra.proofs.SideLemmas.{side_few, side_in_lanes}
use Rattle.hv_intra.proofs.RowLemmas.{rows_written, length-row}
use Rattle.hv_intra.proofs.LaneLemmas.{stepped_between, further_on}
use Rattle.hv_intra.proofs.angular.fill_rows_in_lanes.Goals as goal

pub fill_row_in_lanes-requires-clause-bases : goal.fill_row_in_lanes-requires-clause-bases
fill_row_in_lanes-requires-clause-bases g c =
    let few = side_few g.row.LOG2 (omega (arith, c.requires.least)) c.requires.most in
    let below : c.loop-y.y < 2 ^ g.row.LOG2 = omega (arith, c.loop-y-test.true, c.count-n.ensures.value) in
    let f = row_facts g.row.LOG2 c.args.mode.number c.loop-y.y (omega (arith, c.requires.least)) c.requires.most c.args.mode.first c.args.mode.last below in
    let count = length-row (2 ^ g.row.LOG2) c.count-n.result c.loop-y.y c.loop-y.out c.count-n.ensures.value c.loop-y-test.true (omega arith) in
    omega (arith, few, f.most, count, c.first.ensures)

pub fill_row_in_lanes-requires-clause-steps : goal.fill_row_in_lanes-requires-clause-steps
fill_row_in_lanes-requires-clause-steps g c =
    let few = side_few g.row.LOG2 (omega (arith, c.requires.least)) c.requires.most in
    let below : c.loop-y.y < 2 ^ g.row.LOG2 = omega (arith, c.loop-y-test.true, c.count-n.ensures.value) in
    let f = row_facts g.row.LOG2 c.args.mode.number c.loop-y.y (omega (arith, c.requires.least)) c.requires.most c.args.mode.first c.args.mode.last below in
    let count = length-row (2 ^ g.row.LOG2) c.count-n.result c.loop-y.y c.loop-y.out c.count-n.ensures.value c.loop-y-test.true (omega arith) in
    omega (arith, few, f.most, count, c.first.ensures)

pub fill_row_in_lanes-requires-clause-lanes : goal.fill_row_in_lanes-requires-clause-lanes
fill_row_in_lanes-requires-clause-lanes g c =
    let count = length-row (2 ^ g.row.LOG2) c.count-n.result c.loop-y.y c.loop-y.out c.count-n.ensures.value c.loop-y-test.true (omega arith) in
    rw count (side_in_lanes g.row.LOG2 c.requires.least c.requires.most)

pub loop-y-preserved : goal.loop-y-preserved
loop-y-preserved g c =
    let log2 : ℕ = g.row.LOG2 in
    let n : ℕ = 2 ^ log2 in
    let mode : ℕ = c.args.mode.number in
    let y : ℕ = c.loop-y.y in
    let reference : List ℕ = c.args.reference.now in
    let bases : List ℕ = c.prepare.new.bases in
    let steps : List ℕ = c.prepare.new.steps in
    let turn : ℕ = 2048 * part mode 0 in
    let few = side_few log2 (omega (arith, c.requires.least)) c.requires.most in
    let below : y < n = omega (arith, c.loop-y-test.true, c.count-n.ensures.value) in
    let f = row_facts log2 mode y (omega (arith, c.requires.least)) c.requires.most c.args.mode.first c.args.mode.last below in
    let count : length (take (y * c.count-n.result + c.count-n.result - y * c.count-n.result)
    (drop (y * c.count-n.result) c.loop-y.out)) ≡ n =
    length-row n c.count-n.result y c.loop-y.out c.count-n.ensures.value c.loop-y-test.true (omega arith) in
    let first_turn : replicate 16 (2048 * c.from.result) ≡ replicate 16 turn =
    ap (λ (p : ℕ). replicate 16 (2048 * p)) (c.from.ensures ∙ c.part.ensures.value) in
    let ways : c.further-ways.result ≡ replicate 16 ((y + 1) * turn % 65536) =
    c.further-ways.ensures (y * turn % 65536) turn c.loop-y.invariant.ways first_turn ∙
    ap (λ (a : ℕ). replicate 16 a) (further_on y turn) in
    let weights : c.weights_of.result ≡ replicate 16 (8 * part mode y) =
    c.weights_of.ensures ((y + 1) * turn % 65536) ways ∙
    ap (λ (a : ℕ). replicate 16 a) (weight_is mode y c.args.mode.first c.args.mode.last (omega (arith, few, below))) in
    let long : IsRow n (λ x. stepped_at bases steps (8 * part mode y) (c.first.result + x)) c.fill_row_in_lanes.new.row =
    subst (λ (m : ℕ). IsRow m (λ x. stepped_at bases steps (8 * part mode y) (c.first.result + x)) c.fill_row_in_lanes.new.row)
    count (c.fill_row_in_lanes.ensures (8 * part mode y) weights) in
    let placed : IsRow n (λ x. stepped_at bases steps (8 * part mode y) (first log2 mode y + x)) c.fill_row_in_lanes.new.row =
    subst (λ (m : ℕ). IsRow n (λ x. stepped_at bases steps (8 * part mode y) (m + x)) c.fill_row_in_lanes.new.row)
    c.first.ensures long in
    let row : IsRow n (sample_between reference (first log2 mode y) (part mode y)) c.fill_row_in_lanes.new.row =
    λ x inside.
    placed x inside ∙
    stepped_between (part mode y) (first log2 mode y) x reference bases steps f.rest c.fits-reference
    (c.prepare.ensures.bases (first log2 mode y + x) (omega (arith, inside, f.most)))
    (c.prepare.ensures.steps (first log2 mode y + x) (omega (arith, inside, f.most))) in
    record {
      ways = ways;
      rows = rows_written n c.count-n.result y c.loop-y.out c.fill_row_in_lanes.new.row
          (λ x y. sample_between reference (first log2 mode y) (part mode y) x) c.count-n.ensures.value
          c.loop-y-test.true (omega arith) c.fill_row_in_lanes.auto.row c.loop-y.invariant.rows row;
    }
