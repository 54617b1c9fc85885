use Rattle.std.proofs.Common.{◌≡◌, ◌∙◌, ◌++◌, arith, sym, ap₂, append-nil, get_or}
use Rattle.hv_stream_model.specs.ZeroRuns.{run_after}
use Rattle.hv_stream_model.proofs.UnitLemmas.{escape-runs}
use Rattle.hv_bits.proofs.EscapingLemmas.{run_zero, run_other, run_after-le, short_run, large_byte, escape_kept, escape_put, escape_three_kept}
use Rattle.hv_bits.proofs.unit.put_escaped.Goals as goal
use Rattle.hv_bits.proofs.unit.put_escaped.Goals.{then-zeros-gt1+then-payload-at-le-LARGEST_ESCAPED+in_ok-extend_from_slice+in_ok-push, else-zeros-gt1, else-zeros-gt1-via-then-zeros-gt1+else-payload-at-le-LARGEST_ESCAPED, else-zeros-gt1-via-else-zeros-gt1, then-payload-at-eq0, else-payload-at-eq0}

pub loop-at-2-init : goal.loop-at-2-init
loop-at-2-init c = (omega arith, omega arith, omega arith, omega arith, c.loop-at.invariant.3)

pub loop-at-2-preserved : goal.loop-at-2-preserved
loop-at-2-preserved c =
    let third = c.third_is_large.ensures c.if-third_is_large.true in (
      omega arith,
      omega arith,
      third.0,
      omega arith,
      escape_three_kept _ _ _ _ _ _ c.loop-at-2.invariant.1 third.0 c.loop-at-2-test.true third.1
          c.loop-at-2.invariant.4,
    )

pub loop-at-preserved : goal.loop-at-preserved
loop-at-preserved c =
    let run : c.if-payload-at-eq0.zeros ≡ run_after c.if-zeros-gt1.zeros (get_or c.args.payload.now
    c.loop-at-2.at 0) =
    elim c.if-payload-at-eq0.branch [
      | then-payload-at-eq0 w ↦ w.zeros-is ∙ sym (run_zero _ _ w.if-payload-at-eq0.true)
      | else-payload-at-eq0 w ↦ w.zeros-is ∙ sym (run_other _ _ w.if-payload-at-eq0.false)
    ] in
    let grows = run_after-le c.if-zeros-gt1.zeros (get_or c.args.payload.now c.loop-at-2.at 0) in
    rw run
    (elim c.if-zeros-gt1.branch [
      | then-zeros-gt1+then-payload-at-le-LARGEST_ESCAPED+in_ok-extend_from_slice+in_ok-push w ↦
          rw (
            w.bytes-is,
            w.from-is,
            w.zeros-is,
            w.in_ok-push.ensures.items,
            w.in_ok-extend_from_slice.ensures.items,
          ) (
            omega (arith, run_after-le 0 (get_or c.args.payload.now c.loop-at-2.at 0)),
            omega arith,
            omega arith,
            escape_put _ _ _ _ _ _ c.loop-at-2.invariant.2 w.if-zeros-gt1.true
                (omega (arith, w.if-payload-at-le-LARGEST_ESCAPED.true)) c.loop-at-2.invariant.4,
          )
      | else-zeros-gt1 w ↦
          rw (w.bytes-is, w.from-is, w.zeros-is) (
            omega (arith, run_after-le c.loop-at.zeros (get_or c.args.payload.now c.loop-at-2.at 0)),
            omega arith,
            omega arith,
            escape_kept _ _ _ _ _ _ c.loop-at-2.invariant.1 c.loop-at-2.invariant.2
                (elim w.else-zeros-gt1.branch [
                  | else-zeros-gt1-via-then-zeros-gt1+else-payload-at-le-LARGEST_ESCAPED v ↦
                      large_byte c.loop-at.zeros (get_or c.args.payload.now c.loop-at-2.at 0)
                      (omega (arith, v.if-payload-at-le-LARGEST_ESCAPED.false))
                  | else-zeros-gt1-via-else-zeros-gt1 v ↦ short_run _ _ v.if-zeros-gt1.false
                ])
                c.loop-at-2.invariant.4,
          )
    ])

pub loop-at-init : goal.loop-at-init
loop-at-init c =
    let same = ap₂ (λ out rest. out ++ rest) (append-nil c.args.bytes.now.items)
    (sym (escape-runs c.args.payload.now)) in
    (omega arith, omega arith, omega arith, same)
