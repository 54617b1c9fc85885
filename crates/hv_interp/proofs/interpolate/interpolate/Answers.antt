use Rattle.std.proofs.Common.{◌∙◌, ◌*◌, arith, sym, ap, List, ℕ, ◌<◌}
use Rattle.hv_interp.specs.Windows.{sample_of}
use Rattle.hv_interp.specs.Filters.{filtered, predicted}
use Rattle.hv_interp.proofs.InterpolationLemmas.{rows_are_filtered, columns_are_filtered, both_are_filtered, rest_is, columns_inside}
use Rattle.hv_interp.proofs.interpolate.interpolate.Goals as goal

pub filter_columns-requires : goal.filter_columns-requires
filter_columns-requires g c =
    (omega arith, (omega (arith, c.requires.before), (c.requires.most, (omega (arith, c.requires.before), (c.requires.down_light, (c.requires.stride, (c.requires.size, (columns_inside c.args.before g.row.T c.args.stride c.args.size c.args.samples.now c.requires.before c.requires.inside, c.requires.room))))))))

pub returns-else-below-eq0 : goal.returns-else-below-eq0
returns-else-below-eq0 g c k inside =
    let n : ℕ = c.args.size in
    let stride : ℕ = c.args.stride in
    let samples : List ℕ = c.args.samples.now in
    let some : 0 < c.args.below = omega (arith, c.if-below-eq0.false) in
    c.filter_columns.ensures k inside ∙
    ap (λ s. filtered c.args.down.now s stride stride n k) (rest_is c.args.before samples) ∙
    columns_are_filtered c.args.before c.args.below n k stride c.args.across.now c.args.down.now samples some ∙
    ap (λ r. predicted c.args.before r c.args.below c.args.across.now c.args.down.now (sample_of samples stride) n k) (sym c.if-right-eq0.true)

pub returns-then-below-eq0-2 : goal.returns-then-below-eq0-2
returns-then-below-eq0-2 g c k inside =
    let n : ℕ = c.args.size in
    let stride : ℕ = c.args.stride in
    let samples : List ℕ = c.args.samples.now in
    let some : 0 < c.args.right = omega (arith, c.if-right-eq0.false) in
    c.filter_rows.ensures k inside ∙
    ap (λ s. filtered c.args.across.now s stride 1 n k) (rest_is (c.args.before * stride) samples) ∙
    rows_are_filtered c.args.before c.args.right n k stride c.args.across.now c.args.down.now samples some ∙
    ap (λ b. predicted c.args.before c.args.right b c.args.across.now c.args.down.now (sample_of samples stride) n k) (sym c.if-below-eq0-2.true)

pub returns-else-below-eq0-2 : goal.returns-else-below-eq0-2
returns-else-below-eq0-2 g c k inside =
    c.filter_twice.ensures k inside ∙
    both_are_filtered c.args.before c.args.right c.args.below c.args.size k c.args.stride c.args.across.now c.args.down.now c.args.samples.now
    (omega (arith, c.if-right-eq0.false)) (omega (arith, c.if-below-eq0-2.false))
