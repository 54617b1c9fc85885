use Rattle.std.proofs.Common.{◌≡◌, ℕ, ◌+◌, ◌*◌, ◌^◌, ◌≤◌, List, length, arith, ap, sym, subst, ◌∙◌}
use Rattle.hv_recon.proofs.PutRowLemmas.{AreRowsPut, row_put, long_row, all_put, row_fits}
use Rattle.hv_mode.proofs.CopyLemmas.{gathered, gathered_at, row_at, length-row_at, sample_of_row, all_copied}
use Rattle.hv_mode.proofs.copy.copy_square.Goals as goal

pub loop-r-preserved : goal.loop-r-preserved
loop-r-preserved c =
    let value = c.side_of-n.ensures.value in
    let n : ℕ = c.side_of-n.result in
    let at : ℕ = (c.args.y + c.loop-r.r) * c.args.side + c.args.x in
    let row : List ℕ = row_at c.args.from.now at n in
    let block : List ℕ =
    gathered c.args.side c.args.x c.args.y (2 ^ c.args.log2) c.args.from.now in
    let fits =
    row_fits c.args.side c.args.x c.args.y c.loop-r.r (2 ^ c.args.log2) (length c.loop-r.samples)
    c.requires.across (omega (arith, value, c.requires.down)) c.loop-r.invariant.0 in
    let there : at + n ≤ length c.args.from.now =
    omega (arith, fits, value, c.requires.there, c.loop-r.invariant.0) in
    let long : length row ≡ n = length-row_at c.args.from.now at n there in
    let put =
    row_put c.args.side c.args.x c.args.y c.args.log2 c.loop-r.r block c.args.samples.now
    c.loop-r.samples row c.requires.across c.requires.down (omega (arith, value))
    c.loop-r.invariant.0 (long ∙ value)
    (λ j small. sample_of_row c.args.from.now at n j (omega (arith, small, value)) ∙
    sym (gathered_at c.args.side c.args.x c.args.y (2 ^ c.args.log2) c.loop-r.r j c.args.from.now
    (omega (arith, value)) small))
    c.loop-r.invariant.1 in (
      ap length c.put_row.ensures ∙
          long_row c.loop-r.samples row at (omega (arith, long, fits, value)) ∙
          c.loop-r.invariant.0,
      subst (λ new. AreRowsPut c.args.side c.args.x c.args.y c.args.log2 (c.loop-r.r + 1) block
          c.args.samples.now new) (sym c.put_row.ensures) put,
    )

pub returns-clause-copied : goal.returns-clause-copied
returns-clause-copied c =
    all_copied c.args.side c.args.x c.args.y c.args.log2 c.args.from.now c.args.samples.now
    c.loop-r.samples c.requires.there
    (all_put c.args.side c.args.x c.args.y c.args.log2 c.loop-r.r
    (gathered c.args.side c.args.x c.args.y (2 ^ c.args.log2) c.args.from.now)
    c.args.samples.now c.loop-r.samples (omega (arith, c.side_of-n.ensures.value))
    c.loop-r.invariant.1)
