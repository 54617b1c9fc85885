use Rattle.std.proofs.Common.{rules, ◌≡◌, ℕ, suc, ◌+◌, List, set, get_or, ap, ◌∙◌, arith, ℤ, pos, ◌+ℤ◌}
use Rattle.std.proofs.lemmas.Int.{to_z-of_z}
use Rattle.std.specs.Int.RustNames.{FitsSigned}
use mir.Syntax.{w16}
use Rattle.hv_lemmas.specs.Clipping.{clip1}
use Rattle.hv_recon.proofs.SumLemmas.{summed, read_next, write_next, all_summed}
use Rattle.hv_recon.proofs.transform_block.add.Goals as goal

pub loop-i-preserved : goal.loop-i-preserved
loop-i-preserved c =
    let samples : List ℕ = c.args.samples.now in
    let numbers : List ℤ = c.args.numbers.now in
    let i : ℕ = c.loop-i.i in
    let sample : get_or c.loop-i.samples i 0 ≡ get_or samples i 0 =
    ap (λ (l : List ℕ). get_or l i 0) c.loop-i.invariant ∙
    read_next samples numbers i (omega arith) c.requires in
    let number : ℤ = get_or numbers i (pos 0) in
    let narrow : FitsSigned w16 number = search rules in
    let value : c.clipped_sum.result ≡
    clip1 (pos (get_or samples i 0) +ℤ number) =
    c.clipped_sum.ensures ∙
    ap (λ n. clip1 (pos (get_or c.loop-i.samples i 0) +ℤ n)) (to_z-of_z w16 number narrow) ∙
    ap (λ n. clip1 (pos n +ℤ number)) sample in
    let next : suc i ≡ i + 1 = omega arith in
    ap (λ (l : List ℕ). set l i c.clipped_sum.result) c.loop-i.invariant ∙
    ap (λ v. set (summed samples numbers i) i v) value ∙
    write_next samples numbers i (omega arith) c.requires ∙
    ap (λ n. summed samples numbers n) next

pub returns : goal.returns
returns c =
    c.loop-i.invariant ∙
    all_summed c.args.samples.now c.args.numbers.now c.loop-i.i (omega arith) c.requires
