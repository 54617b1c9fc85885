use Rattle.std.proofs.Common.{◌≡◌, ℕ, ◌+◌, ◌*◌, ◌<◌, ◌≤◌, List, length, ap, ap₂, sym, subst, ◌∙◌, arith}
use Rattle.hv_recon.proofs.PutRowLemmas.{long_row, row_ends}
use Rattle.hv_recon.proofs.CodedBlockLemmas.{AreRead, row_ends_in_plane, row_of_plane, length-row_of_plane, sample_in_row, row_read, all_read}
use Rattle.hv_recon.proofs.coded_block.read_block.Goals as goal

pub loop-r-preserved : goal.loop-r-preserved
loop-r-preserved c =
    let value = c.side_of-n.ensures.value in
    let n : ℕ = c.side_of-n.result in
    let r : ℕ = c.loop-r.r in
    let samples : List ℕ = c.samples-samples.result.now in
    let from : ℕ = (c.args.y + r) * c.width-stride.result + c.args.x in
    let row : List ℕ = row_of_plane samples from n in
    let wide = c.width-stride.ensures.value in
    let count : length samples ≡ c.width-stride.result * c.args.plane.now.height =
    c.samples-samples.ensures.count ∙ ap (λ w. w * c.args.plane.now.height) (sym wide) in
    let down : c.args.y + r < c.args.plane.now.height = omega (arith, value, c.requires.down) in
    let inside : from + n ≤ length samples =
    row_ends_in_plane c.args.x c.args.y r n c.width-stride.result c.args.plane.now.height
    (length samples) (omega (arith, value, wide, c.requires.across)) down count in
    let long : length row ≡ n = length-row_of_plane samples from n inside in
    let whole : length c.loop-r.out ≡ n * n =
    c.loop-r.invariant.0 ∙ sym (ap₂ (λ a b. a * b) value value) in
    let room : r * n + n ≤ length c.loop-r.out =
    row_ends n r (length c.loop-r.out) (omega arith) whole in
    let put =
    row_read c.args.plane.now c.args.x c.args.y n r from samples c.loop-r.out row
    c.samples-samples.ensures.value (ap (λ w. (c.args.y + r) * w + c.args.x) wide) long
    (λ i small. sample_in_row samples from n i small) room
    (subst (λ m. AreRead c.args.plane.now c.args.x c.args.y m r c.loop-r.out) (sym value)
    c.loop-r.invariant.1) in (
      ap length c.put_row.ensures ∙
          long_row c.loop-r.out row (r * n) (omega (arith, long, room)) ∙ c.loop-r.invariant.0,
      subst (λ m. AreRead c.args.plane.now c.args.x c.args.y m (r + 1) c.put_row.new.samples) value
          (subst (λ new. AreRead c.args.plane.now c.args.x c.args.y n (r + 1) new)
          (sym c.put_row.ensures) put),
    )

pub returns : goal.returns
returns c =
    all_read c.args.plane.now c.args.x c.args.y c.args.log2 c.loop-r.r c.loop-r.out
    (omega (arith, c.side_of-n.ensures.value)) c.loop-r.invariant.0 c.loop-r.invariant.1
