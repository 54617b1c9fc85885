-- The clauses of a call that concluded, for the settings that the words ask for.
use Rattle.std.proofs.Common.{refl, sym, ap, ◌∙◌}
use Rattle.hv_run.specs.declared.status.Status.TheVariants.{Ok, ReadFault, ShortPicture, WriteFault, NoMemory, TooLong, ReportFault}
use Rattle.hv_serial.specs.Transfers.{drawn, put}
use Rattle.hv_serial.proofs.EndLemmas.{start_no_memory}
use Rattle.hv_words.proofs.AcceptanceLemmas.{accepted_valid}
use Rattle.hv_run.proofs.ConclusionLemmas.{concluded, asked_generator, refused_so, not_refused, refusal_told, no_memory_told, words_never, whole_case, source_well, sink_well, groups_case, line_case, ok_line, part_of_line, complete_case}
use Rattle.hv_run.specs.Input.{input_drawn}
use Rattle.hv_run.proofs.InputLemmas.{source_rises, source_kept}
use Rattle.hv_run.proofs.run.run_encode.Goals as goal

pub encode_input-requires : goal.encode_input-requires
encode_input-requires g c = record {
  valid = accepted_valid c.args.words.now c.in-Ok.config c.in-Ok.ensures.ok;
}

pub returns-in-Ok-clause-ok_read : goal.returns-in-Ok-clause-ok_read
returns-in-Ok-clause-ok_read g c cfg bytes a told whole =
    (whole_case cfg _ _ _ _ (concluded _ cfg _ _ _ _ _ c.encode_input.result a c.in-Ok.ensures.ok c.encode_input.ensures.concludes refl) whole).encoded.read bytes told

pub returns-in-Ok-clause-ok_written : goal.returns-in-Ok-clause-ok_written
returns-in-Ok-clause-ok_written g c cfg bytes a told whole =
    (whole_case cfg _ _ _ _ (concluded _ cfg _ _ _ _ _ c.encode_input.result a c.in-Ok.ensures.ok c.encode_input.ensures.concludes refl) whole).encoded.wrote bytes told

pub returns-in-Ok-clause-source_faults : goal.returns-in-Ok-clause-source_faults
returns-in-Ok-clause-source_faults g c other =
    source_kept c.in-Ok.config _ _ (λ named. ap g.S.Source.faults (c.encode_input.ensures.untouched named))
    (source_well c.in-Ok.config _ _ _ c.encode_input.result c.encode_input.ensures.concludes other)

pub returns-in-Ok-clause-out_faults : goal.returns-in-Ok-clause-out_faults
returns-in-Ok-clause-out_faults g c other =
    sink_well c.in-Ok.config _ _ _ c.encode_input.result c.encode_input.ensures.concludes other

pub returns-in-Ok-clause-ok_report : goal.returns-in-Ok-clause-ok_report
returns-in-Ok-clause-ok_report g c cfg bytes a told is =
    ok_line cfg _ _ _ (concluded _ cfg _ _ _ _ _ Ok a c.in-Ok.ensures.ok c.encode_input.ensures.concludes is) bytes told

pub returns-in-Ok-clause-ok_report_faults : goal.returns-in-Ok-clause-ok_report_faults
returns-in-Ok-clause-ok_report_faults g c is =
    (concluded _ c.in-Ok.config c.in-Ok.config _ _ _ _ Ok c.in-Ok.ensures.ok c.in-Ok.ensures.ok c.encode_input.ensures.concludes is).reported.no_fault

pub returns-in-Ok-clause-generator_source : goal.returns-in-Ok-clause-generator_source
returns-in-Ok-clause-generator_source g c cfg a named =
    c.encode_input.ensures.untouched (asked_generator _ cfg c.in-Ok.config a c.in-Ok.ensures.ok named)

pub returns-in-Ok-clause-generator_pictures : goal.returns-in-Ok-clause-generator_pictures
returns-in-Ok-clause-generator_pictures g c cfg a =
    (c.generated_is_video.ensures cfg (accepted_valid _ cfg a)).pictures_again

pub returns-in-Ok-clause-generator_statuses : goal.returns-in-Ok-clause-generator_statuses
returns-in-Ok-clause-generator_statuses g c cfg a named =
    c.encode_input.ensures.never_of_input (asked_generator _ cfg c.in-Ok.config a c.in-Ok.ensures.ok named)

pub returns-in-Ok-clause-words_only : goal.returns-in-Ok-clause-words_only
returns-in-Ok-clause-words_only g c is =
    absurd (words_never c.in-Ok.config _ _ _ c.encode_input.result c.encode_input.ensures.concludes is)

pub returns-in-Ok-clause-decoded : goal.returns-in-Ok-clause-decoded
returns-in-Ok-clause-decoded g c cfg v a =
    c.inter_streams_are_decoded.ensures cfg v (accepted_valid _ cfg a)

pub returns-in-Ok-clause-read_fault : goal.returns-in-Ok-clause-read_fault
returns-in-Ok-clause-read_fault g c is =
    source_rises c.in-Ok.config _ _
    (concluded _ c.in-Ok.config c.in-Ok.config _ _ _ _ ReadFault c.in-Ok.ensures.ok c.in-Ok.ensures.ok c.encode_input.ensures.concludes is).encoded.rises

pub returns-in-Ok-clause-short_picture : goal.returns-in-Ok-clause-short_picture
returns-in-Ok-clause-short_picture g c cfg bytes have a told is =
    (concluded _ cfg _ _ _ _ _ (ShortPicture have) a c.in-Ok.ensures.ok c.encode_input.ensures.concludes is).encoded.read bytes told

pub returns-in-Ok-clause-write_fault : goal.returns-in-Ok-clause-write_fault
returns-in-Ok-clause-write_fault g c is =
    (concluded _ c.in-Ok.config c.in-Ok.config _ _ _ _ WriteFault c.in-Ok.ensures.ok c.in-Ok.ensures.ok c.encode_input.ensures.concludes is).encoded.rises

pub returns-in-Ok-clause-too_long : goal.returns-in-Ok-clause-too_long
returns-in-Ok-clause-too_long g c cfg bytes a told is =
    (concluded _ cfg _ _ _ _ _ TooLong a c.in-Ok.ensures.ok c.encode_input.ensures.concludes is).encoded.read bytes told

pub returns-in-Ok-clause-groups_written : goal.returns-in-Ok-clause-groups_written
returns-in-Ok-clause-groups_written g c cfg bytes left a told told_left of_input =
    groups_case cfg _ _ _ _ (concluded _ cfg _ _ _ _ _ c.encode_input.result a c.in-Ok.ensures.ok c.encode_input.ensures.concludes refl) of_input
    bytes left told told_left

pub returns-in-Ok-clause-part_written : goal.returns-in-Ok-clause-part_written
returns-in-Ok-clause-part_written g c cfg bytes left a told told_left is =
    (concluded _ cfg _ _ _ _ _ WriteFault a c.in-Ok.ensures.ok c.encode_input.ensures.concludes is).encoded.wrote bytes left told told_left

pub returns-in-Ok-clause-some_written : goal.returns-in-Ok-clause-some_written
returns-in-Ok-clause-some_written g c cfg bytes left a told told_left is =
    (concluded _ cfg _ _ _ _ _ NoMemory a c.in-Ok.ensures.ok c.encode_input.ensures.concludes is).encoded.wrote bytes left told told_left

pub returns-in-Ok-clause-report_fault : goal.returns-in-Ok-clause-report_fault
returns-in-Ok-clause-report_fault g c is =
    (concluded _ c.in-Ok.config c.in-Ok.config _ _ _ _ ReportFault c.in-Ok.ensures.ok c.in-Ok.ensures.ok c.encode_input.ensures.concludes is).reported.rises

pub returns-in-Ok-clause-report_part : goal.returns-in-Ok-clause-report_part
returns-in-Ok-clause-report_part g c cfg bytes a told is =
    part_of_line cfg _ _ _ (concluded _ cfg _ _ _ _ _ ReportFault a c.in-Ok.ensures.ok c.encode_input.ensures.concludes is) bytes told

pub returns-in-Ok-clause-words_report : goal.returns-in-Ok-clause-words_report
returns-in-Ok-clause-words_report g c error refused is =
    absurd (words_never c.in-Ok.config _ _ _ c.encode_input.result c.encode_input.ensures.concludes is)

pub returns-in-Ok-clause-short_report : goal.returns-in-Ok-clause-short_report
returns-in-Ok-clause-short_report g c cfg have a is =
    (concluded _ cfg _ _ _ _ _ (ShortPicture have) a c.in-Ok.ensures.ok c.encode_input.ensures.concludes is).reported

pub returns-in-Ok-clause-other_report : goal.returns-in-Ok-clause-other_report
returns-in-Ok-clause-other_report g c line is =
    line_case c.in-Ok.config _ _ _ c.encode_input.result line c.encode_input.ensures.concludes is

pub returns-in-Ok-clause-concludes : goal.returns-in-Ok-clause-concludes
returns-in-Ok-clause-concludes g c cfg a =
    concluded _ cfg _ _ _ _ _ c.encode_input.result a c.in-Ok.ensures.ok c.encode_input.ensures.concludes refl

pub returns-in-Ok-clause-complete : goal.returns-in-Ok-clause-complete
returns-in-Ok-clause-complete g c cfg bytes a told no_read no_write no_report =
    complete_case cfg (accepted_valid _ cfg a) _ _ _ _
    (concluded _ cfg _ _ _ _ _ c.encode_input.result a c.in-Ok.ensures.ok c.encode_input.ensures.concludes refl)
    bytes told (λ rises. no_read (source_rises cfg _ _ rises)) no_write no_report

-- ---- words that give no settings

pub returns-then-is_want_of_memory-clause-decoded : goal.returns-then-is_want_of_memory-clause-decoded
returns-then-is_want_of_memory-clause-decoded g c cfg v a =
    c.inter_streams_are_decoded.ensures cfg v (accepted_valid _ cfg a)

pub returns-then-is_want_of_memory-clause-generator_pictures : goal.returns-then-is_want_of_memory-clause-generator_pictures
returns-then-is_want_of_memory-clause-generator_pictures g c cfg a =
    (c.generated_is_video.ensures cfg (accepted_valid _ cfg a)).pictures_again

pub returns-then-is_want_of_memory-clause-some_written : goal.returns-then-is_want_of_memory-clause-some_written
returns-then-is_want_of_memory-clause-some_written g c cfg bytes left a told told_left is =
    (start_no_memory cfg (accepted_valid _ cfg a)
    (input_drawn cfg (drawn g.S.Source.left g.S.Source.faults c.args.source.now c.args.source.now)) (put g.K.Sink.written g.K.Sink.faults c.args.out.now c.args.out.now) refl
    (record { reading = refl; writing = refl })).wrote
    bytes left told told_left

pub returns-then-is_want_of_memory-clause-concludes : goal.returns-then-is_want_of_memory-clause-concludes
returns-then-is_want_of_memory-clause-concludes g c cfg a = record {
  encoded =
      start_no_memory cfg (accepted_valid _ cfg a)
      (input_drawn cfg (drawn g.S.Source.left g.S.Source.faults c.args.source.now c.args.source.now))
      (put g.K.Sink.written g.K.Sink.faults c.args.out.now c.args.out.now) refl
      (record { reading = refl; writing = refl });
  reported =
      no_memory_told _ c.in-Err.error _ (sym c.is_want_of_memory.ensures ∙ c.if-is_want_of_memory.true) refl
      c.report_words.ensures;
}

pub returns-then-is_want_of_memory-clause-other_report : goal.returns-then-is_want_of_memory-clause-other_report
returns-then-is_want_of_memory-clause-other_report g c line is =
    no_memory_told _ c.in-Err.error line (sym c.is_want_of_memory.ensures ∙ c.if-is_want_of_memory.true) is c.report_words.ensures

pub returns-clause-decoded : goal.returns-clause-decoded
returns-clause-decoded g c cfg v a =
    c.inter_streams_are_decoded.ensures cfg v (accepted_valid _ cfg a)

pub returns-clause-generator_pictures : goal.returns-clause-generator_pictures
returns-clause-generator_pictures g c cfg a =
    (c.generated_is_video.ensures cfg (accepted_valid _ cfg a)).pictures_again

pub returns-clause-words_only : goal.returns-clause-words_only
returns-clause-words_only g c is =
    refused_so _ c.in-Err.error c.in-Err.ensures.err (sym c.is_want_of_memory.ensures ∙ c.if-is_want_of_memory.false)

pub returns-clause-words_report : goal.returns-clause-words_report
returns-clause-words_report g c why found is =
    refusal_told _ why _ c.in-Err.error found c.in-Err.ensures.err c.in-Err.ensures.text (sym c.is_want_of_memory.ensures ∙ c.if-is_want_of_memory.false)
    c.report_words.ensures

pub returns-clause-concludes : goal.returns-clause-concludes
returns-clause-concludes g c cfg a =
    absurd (not_refused _ cfg c.in-Err.error a c.in-Err.ensures.err (sym c.is_want_of_memory.ensures ∙ c.if-is_want_of_memory.false))

pub returns-clause-complete : goal.returns-clause-complete
returns-clause-complete g c cfg bytes a told no_read no_write no_report =
    absurd (not_refused _ cfg c.in-Err.error a c.in-Err.ensures.err (sym c.is_want_of_memory.ensures ∙ c.if-is_want_of_memory.false))
