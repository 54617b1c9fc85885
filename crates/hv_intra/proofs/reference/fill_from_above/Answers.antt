use Rattle.std.proofs.Common.{◌≡◌, ◌-◌, ◌^◌, ◌<◌, ap, ◌∙◌, arith, ℕ}
use Rattle.hv_sample_model.specs.IntraPrediction.{left, above}
use Rattle.hv_intra.specs.References.{projected}
use Rattle.hv_intra.proofs.FactLemmas.{counted_first, counted_last, counted_side}
use Rattle.hv_intra.proofs.ReferenceListLemmas.{main_kept, before_more, reference_held}
use Rattle.hv_intra.proofs.reference.fill_from_above.Goals as goal

pub projected-requires-clause-first : goal.projected-requires-clause-first
projected-requires-clause-first c =
    counted_first c.args.neighbours.side.log2 c.args.mode.number c.loop-i-2.i (omega (arith, c.projected_count-i-end.ensures))

pub projected-requires-clause-last : goal.projected-requires-clause-last
projected-requires-clause-last c =
    counted_last c.args.neighbours.side.log2 c.args.mode.number c.loop-i-2.i (omega (arith, c.projected_count-i-end.ensures))

pub loop-i-2-preserved : goal.loop-i-2-preserved
loop-i-2-preserved c =
    let n : ℕ = 2 ^ c.args.neighbours.side.log2 in
    let i : ℕ = c.loop-i-2.i in
    let below : i < n =
    counted_side c.args.neighbours.side.log2 c.args.mode.number i c.args.neighbours.side.least c.args.neighbours.side.most
    (omega (arith, c.projected_count-i-end.ensures)) in
    let value : c.left.result ≡ left c.args.neighbours.side.log2 c.args.neighbours.line.now (projected c.args.mode.number i) =
    c.left.ensures ∙ ap (left c.args.neighbours.side.log2 c.args.neighbours.line.now) c.projected.ensures in
    record {
      main = main_kept n c.count-n.result i c.left.result c.loop-i-2.reference
          (λ k. above c.args.neighbours.side.log2 c.args.neighbours.line.now (k - n)) c.count-n.ensures.value below
          c.loop-i-2.invariant.main;
      before = before_more n c.count-n.result i c.left.result c.loop-i-2.reference
          (λ j. left c.args.neighbours.side.log2 c.args.neighbours.line.now (projected c.args.mode.number j)) c.count-n.ensures.value below
          (omega arith) value c.loop-i-2.invariant.before;
    }

pub returns : goal.returns
returns c =
    reference_held c.args.neighbours.side.log2 c.args.mode.number c.loop-i-2.i (above c.args.neighbours.side.log2 c.args.neighbours.line.now)
    (left c.args.neighbours.side.log2 c.args.neighbours.line.now) c.loop-i-2.reference (omega (arith, c.projected_count-i-end.ensures))
    c.loop-i-2.invariant.main c.loop-i-2.invariant.before
