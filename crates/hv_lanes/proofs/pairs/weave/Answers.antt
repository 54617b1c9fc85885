use Rattle.std.proofs.Common.{◌≡◌, ◌<◌, ◌≤◌, ◌+◌, ◌*◌, ℕ, List, ℤ, sym, subst, arith, length}
use Rattle.hv_lanes.specs.Passes.{table_row}
use Rattle.hv_lanes.specs.Lanes.{in_pairs, of_pairs}
use Rattle.hv_lanes.proofs.FourLaneLemmas.{is_set}
use Rattle.hv_lanes.proofs.WeaveLemmas.{weave_more, pairs_of_0}
use Rattle.hv_lanes.proofs.pairs.weave.Goals as goal
use Rattle.hv_lanes.proofs.pairs.weave.Goals.{then-not-this, then-not-this-via-then-not-this, then-not-this-via-else-not-this+then-first-lt8, else-not-this+else-first-lt8}

pub loop-p-preserved : goal.loop-p-preserved
loop-p-preserved g c =
    let n : ℕ = g.row.N in
    let p : ℕ = c.loop-p.p in
    let order : List (List ℕ) = c.args.order.now in
    let More : List (List ℤ) → Type 0 = λ rows.
    ((i r : ℕ) → i < c.args.columns → r < 2 * (p + 1) → in_pairs rows i r ≡ of_pairs n c.args.block.now order i r) ×
    ((q : ℕ) → p + 1 ≤ q → table_row rows q ≡ table_row c.args.out.now q) × (length rows ≡ g.row.P) in
    elim c.if-not-this.branch [
      | then-not-this w ↦
          subst More (sym w.out-is)
          (weave_more n c.args.columns g.row.P p c.args.block.now order c.loop-p.out c.args.out.now w.weave_into.new.out c.loop-p-test.true c.loop-p.invariant.2 c.requires.columns c.requires.whole c.requires.order c.loop-p.invariant w.weave_into.ensures)
      | else-not-this+else-first-lt8 w ↦
          let few = is_set g.row.FEW w.if-not-this.false in
          subst More (sym w.out-is) (
            pairs_of_0 n c.args.columns p c.args.block.now order c.loop-p.out c.args.out.now c.loop-p.invariant.0 (c.loop-p.invariant.1 p (omega arith)) (c.requires.clear few) (c.requires.short few) w.if-first-lt8.false (c.requires.order p c.loop-p-test.true).0,
            (λ q later. c.loop-p.invariant.1 q (omega (arith, later))),
            c.loop-p.invariant.2,
          )
    ]
