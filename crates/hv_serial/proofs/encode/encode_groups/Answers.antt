-- Each group is one more of those that are read, encoded and written; what ends the encoding ends
-- it behind them.
use Rattle.std.proofs.Common.{◌+◌, ap, ◌∙◌, arith, sym, subst}
use Rattle.std.specs.Prelude.{Ok, Err}
use Rattle.hv_serial.proofs.ProgressLemmas.{at_next, at_none, at_last, groups_few}
use Rattle.hv_serial.proofs.EndLemmas.{at_read_error, at_write_error, writing_is}
use Rattle.hv_serial.proofs.StepLemmas.{group_is}
use Rattle.hv_serial.proofs.encode.encode_groups.Goals as goal
use Rattle.hv_serial.specs.Workspaces.{IsWorkspace}

pub returns-in-Err : goal.returns-in-Err
returns-in-Err g c =
    at_read_error _ c.requires.valid _ _ _ _ _ _ _ _ _ _ _ c.groups.invariant.0
    c.in-Err.error (group_is _ _ _ _ (Err c.in-Err.error) c.in-Err.is c.read_group.ensures)

pub returns-then-count-eq0 : goal.returns-then-count-eq0
returns-then-count-eq0 g c =
    let read = group_is _ _ _ _ (Ok c.in-Ok-read_group.input) c.in-Ok-read_group.is
    c.read_group.ensures in
    at_none _ c.requires.valid _ _ _ _ _ _ _ _ _ _ _ c.groups.invariant.0 _
    (omega (arith, c.if-count-eq0.true, c.count-count.ensures.value)) read.group

pub write_group-requires-clause-work : goal.write_group-requires-clause-work
write_group-requires-clause-work g c =
    let read = group_is _ _ _ _ (Ok c.in-Ok-read_group.input) c.in-Ok-read_group.is
    c.read_group.ensures in
    subst (λ s. IsWorkspace s c.groups.work) (sym read.config) c.groups.invariant.2

pub returns-in-Err-write_group : goal.returns-in-Err-write_group
returns-in-Err-write_group g c =
    let read = group_is _ _ _ _ (Ok c.in-Ok-read_group.input) c.in-Ok-read_group.is
    c.read_group.ensures in
    at_write_error _ c.requires.valid _ _ _ _ _ _ _ _ _ _ _ c.groups.invariant.0
    _ _ _ (omega (arith, c.if-count-eq0.false, c.count-count.ensures.value)) read.group
    c.in-Err-write_group.error
    (writing_is _ _ _ _ _ _ (Err c.in-Err-write_group.error) read.config c.in-Err-write_group.is
    c.write_group.ensures.ends)

pub one_more-totals-requires-clause-pictures : goal.one_more-totals-requires-clause-pictures
one_more-totals-requires-clause-pictures g c =
    let read = group_is _ _ _ _ (Ok c.in-Ok-read_group.input) c.in-Ok-read_group.is
    c.read_group.ensures in
    omega (arith, read.group.few, c.count-count.ensures.value)

pub one_more-totals-requires-clause-groups : goal.one_more-totals-requires-clause-groups
one_more-totals-requires-clause-groups g c =
    omega (arith, groups_few _ c.requires.valid _ _ _ c.groups.invariant.0)

pub one_more-totals-requires-clause-bytes : goal.one_more-totals-requires-clause-bytes
one_more-totals-requires-clause-bytes g c =
    let read = group_is _ _ _ _ (Ok c.in-Ok-read_group.input) c.in-Ok-read_group.is
    c.read_group.ensures in
    let puts = writing_is _ _ _ _ _ _ (Ok c.in-Ok-write_group.bytes) read.config
    c.in-Ok-write_group.is c.write_group.ensures.ends in
    omega (
      arith,
      c.groups.invariant.0.fits,
      puts.fits,
      groups_few _ c.requires.valid _ _ _ c.groups.invariant.0,
    )

pub returns-then-count-settings : goal.returns-then-count-settings
returns-then-count-settings g c =
    let read = group_is _ _ _ _ (Ok c.in-Ok-read_group.input) c.in-Ok-read_group.is
    c.read_group.ensures in
    let puts = writing_is _ _ _ _ _ _ (Ok c.in-Ok-write_group.bytes) read.config
    c.in-Ok-write_group.is c.write_group.ensures.ends in
    at_last _ c.requires.valid _ _ _ _ _ _ _ _ _ _ _ c.groups.invariant.0 _ _ _
    c.in-Ok-write_group.bytes _
    (omega (arith, c.if-count-eq0.false, c.count-count.ensures.value))
    (omega (
      arith,
      c.if-count-settings.true,
      c.count-count.ensures.value,
      ap (λ s. s.group) c.settings.ensures.value,
    ))
    read.group puts
    (c.one_more-totals.ensures.pictures ∙
    ap (λ m. c.groups.totals.pictures + m) c.count-count.ensures.value)
    c.one_more-totals.ensures.groups c.one_more-totals.ensures.bytes

pub groups-preserved : goal.groups-preserved
groups-preserved g c =
    let read = group_is _ _ _ _ (Ok c.in-Ok-read_group.input) c.in-Ok-read_group.is
    c.read_group.ensures in
    let puts = writing_is _ _ _ _ _ _ (Ok c.in-Ok-write_group.bytes) read.config
    c.in-Ok-write_group.is c.write_group.ensures.ends in (
      at_next _ c.requires.valid _ _ _ _ _ _ _ _ _ _ _ c.groups.invariant.0 _ _ _
          c.in-Ok-write_group.bytes _
          (omega (arith, c.if-count-eq0.false, c.count-count.ensures.value))
          (omega (
            arith,
            c.if-count-settings.false,
            c.count-count.ensures.value,
            ap (λ s. s.group) c.settings.ensures.value,
          ))
          read.group puts
          (c.one_more-totals.ensures.pictures ∙
          ap (λ m. c.groups.totals.pictures + m) c.count-count.ensures.value)
          c.one_more-totals.ensures.groups c.one_more-totals.ensures.bytes,
      c.groups.invariant.1,
      subst (λ s. IsWorkspace s c.write_group.new.work) read.config c.write_group.ensures.work,
    )
