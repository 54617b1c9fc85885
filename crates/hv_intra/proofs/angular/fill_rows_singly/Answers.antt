use Rattle.std.proofs.Common.{◌≡◌, ◌^◌, ◌<◌, ◌*◌, ◌+◌, ◌-◌, ℕ, List, arith, subst, length, take, drop}
use Rattle.hv_intra.specs.Blocks.{IsRow}
use Rattle.hv_intra.specs.References.{first, part, sample_between}
use Rattle.hv_intra.proofs.FactLemmas.{row_facts}
use Rattle.hv_intra.proofs.SideLemmas.{side_few}
use Rattle.hv_intra.proofs.RowLemmas.{rows_written, length-row}
use Rattle.hv_intra.proofs.angular.fill_rows_singly.Goals as goal

pub fill_row-requires-clause-inside : goal.fill_row-requires-clause-inside
fill_row-requires-clause-inside c =
    let few = side_few c.args.side.log2 c.args.side.least c.args.side.most in
    let below : c.loop-y.y < 2 ^ c.args.side.log2 = omega (arith, c.loop-y-test.true, c.count-n.ensures.value) in
    let f = row_facts c.args.side.log2 c.args.mode.number c.loop-y.y c.args.side.least c.args.side.most c.args.mode.first c.args.mode.last below in
    let count = length-row (2 ^ c.args.side.log2) c.count-n.result c.loop-y.y c.loop-y.out c.count-n.ensures.value
    c.loop-y-test.true (omega arith) in
    omega (arith, few, f.most, count, c.first.ensures, c.fits-reference)

pub loop-y-preserved : goal.loop-y-preserved
loop-y-preserved c =
    let log2 : ℕ = c.args.side.log2 in
    let mode : ℕ = c.args.mode.number in
    let y : ℕ = c.loop-y.y in
    let reference : List ℕ = c.args.reference.now in
    let count : length (take (y * c.count-n.result + c.count-n.result - y * c.count-n.result)
    (drop (y * c.count-n.result) c.loop-y.out)) ≡ 2 ^ log2 =
    length-row (2 ^ log2) c.count-n.result y c.loop-y.out c.count-n.ensures.value c.loop-y-test.true
    (omega arith) in
    let long : IsRow (2 ^ log2) (sample_between reference c.first.result c.part.result) c.fill_row.new.row =
    subst (λ (n : ℕ). IsRow n (sample_between reference c.first.result c.part.result) c.fill_row.new.row)
    count c.fill_row.ensures in
    let row : IsRow (2 ^ log2) (sample_between reference (first log2 mode y) (part mode y)) c.fill_row.new.row =
    subst (λ (p : ℕ). IsRow (2 ^ log2) (sample_between reference (first log2 mode y) p) c.fill_row.new.row)
    c.part.ensures.value
    (subst (λ (f : ℕ). IsRow (2 ^ log2) (sample_between reference f c.part.result) c.fill_row.new.row)
    c.first.ensures long) in
    rows_written (2 ^ log2) c.count-n.result y c.loop-y.out c.fill_row.new.row
    (λ x y. sample_between reference (first log2 mode y) (part mode y) x) c.count-n.ensures.value
    c.loop-y-test.true (omega arith) c.fill_row.auto.row c.loop-y.invariant row
