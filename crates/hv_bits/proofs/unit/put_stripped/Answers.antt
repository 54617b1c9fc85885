use Rattle.std.proofs.Common.{◌≡◌, ◌++◌, arith, sym, ap₂, append-nil, get_or, false}
use Rattle.hv_stream_model.specs.ZeroRuns.{is_emulation_byte}
use Rattle.hv_stream_model.proofs.UnitLemmas.{strip-runs}
use Rattle.hv_bits.proofs.EscapingLemmas.{run_zero, run_other, short_run, other_byte, strip_kept, strip_left, strip_three_kept}
use Rattle.hv_bits.proofs.unit.put_stripped.Goals as goal
use Rattle.hv_bits.proofs.unit.put_stripped.Goals.{then-run-gt1+then-escaped-at-eq-THREE_BYTE+in_ok-extend_from_slice, else-run-gt1+then-escaped-at-eq0, else-run-gt1-via-then-run-gt1+else-escaped-at-eq-THREE_BYTE, else-run-gt1-via-else-run-gt1, else-run-gt1+else-escaped-at-eq0}

pub loop-at-2-init : goal.loop-at-2-init
loop-at-2-init c = (omega arith, omega arith, omega arith, omega arith, c.loop-at.invariant.3)

pub loop-at-2-preserved : goal.loop-at-2-preserved
loop-at-2-preserved c =
    let third = c.third_is_large.ensures c.if-third_is_large.true in (
      omega arith,
      omega arith,
      third.0,
      omega arith,
      strip_three_kept _ _ _ _ _ _ c.loop-at-2.invariant.1 third.0 c.loop-at-2-test.true third.1 c.loop-at-2.invariant.4,
    )

pub loop-at-preserved : goal.loop-at-preserved
loop-at-preserved c =
    elim c.if-run-gt1.branch [
      | then-run-gt1+then-escaped-at-eq-THREE_BYTE+in_ok-extend_from_slice w ↦
          rw (w.bytes-is, w.from-is, w.run-is, w.in_ok-extend_from_slice.ensures.items) (
            omega arith,
            omega arith,
            omega arith,
            strip_left _ _ _ _ _ _ c.loop-at-2.invariant.2 w.if-run-gt1.true w.if-escaped-at-eq-THREE_BYTE.true
                c.loop-at-2.invariant.4,
          )
      | else-run-gt1+then-escaped-at-eq0 w ↦
          let kept : is_emulation_byte c.loop-at.run (get_or c.args.escaped.now c.loop-at-2.at 0) ≡
          false =
          elim w.else-run-gt1.branch [
            | else-run-gt1-via-then-run-gt1+else-escaped-at-eq-THREE_BYTE v ↦ other_byte _ _ v.if-escaped-at-eq-THREE_BYTE.false
            | else-run-gt1-via-else-run-gt1 v ↦ short_run _ _ v.if-run-gt1.false
          ] in
          rw (w.bytes-is, w.from-is, w.run-is) (
            omega arith,
            omega arith,
            omega arith,
            strip_kept _ _ _ _ _ _ _ c.loop-at-2.invariant.1 c.loop-at-2.invariant.2 kept (sym (run_zero _
                _ w.if-escaped-at-eq0.true)) c.loop-at-2.invariant.4,
          )
      | else-run-gt1+else-escaped-at-eq0 w ↦
          let kept : is_emulation_byte c.loop-at.run (get_or c.args.escaped.now c.loop-at-2.at 0) ≡
          false =
          elim w.else-run-gt1.branch [
            | else-run-gt1-via-then-run-gt1+else-escaped-at-eq-THREE_BYTE v ↦ other_byte _ _ v.if-escaped-at-eq-THREE_BYTE.false
            | else-run-gt1-via-else-run-gt1 v ↦ short_run _ _ v.if-run-gt1.false
          ] in
          rw (w.bytes-is, w.from-is, w.run-is) (
            omega arith,
            omega arith,
            omega arith,
            strip_kept _ _ _ _ _ _ _ c.loop-at-2.invariant.1 c.loop-at-2.invariant.2 kept (sym (run_other _
                _ w.if-escaped-at-eq0.false)) c.loop-at-2.invariant.4,
          )
    ]

pub loop-at-init : goal.loop-at-init
loop-at-init c =
    let same = ap₂ (λ out rest. out ++ rest) (append-nil c.args.bytes.now.items)
    (sym (strip-runs c.args.escaped.now)) in
    (omega arith, omega arith, omega arith, same)
