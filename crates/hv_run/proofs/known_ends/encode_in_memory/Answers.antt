-- What the source tells is what it has.
use Rattle.std.specs.Prelude.{ℕ, List, ◌++◌}
use Rattle.std.proofs.Common.{Some, refl, sym, ap, ◌∙◌}
use Rattle.hv_types.specs.declared.settings.Emit.{Emit}
use Rattle.hv_types.specs.declared.picture.Picture.{Picture}
use Rattle.hv_lemmas.proofs.OptionLemmas.{some_same}
use Rattle.hv_model.specs.Decoding.{decode_of}
use Rattle.hv_model.specs.InterPictures.{output, output_as}
use Rattle.hv_serial.specs.Outcomes.{pictures_in}
use Rattle.hv_run.specs.Statuses.{is_whole}
use Rattle.hv_run.specs.Input.{input_bytes}
use Rattle.hv_run.proofs.InputLemmas.{input_told, left_told}
use Rattle.hv_run.proofs.known_ends.encode_in_memory.Goals as goal

pub returns-clause-read : goal.returns-clause-read
returns-clause-read g c cfg a none is =
    some_same _ _
    (sym (left_told cfg (Some c.run_encode.new.source.left) none)
    ∙ (c.run_encode.ensures.ok_read cfg (input_bytes cfg c.args.source.now.left) a (input_told cfg c.args.source.now.left) (ap is_whole is)).left)

pub returns-clause-written : goal.returns-clause-written
returns-clause-written g c cfg a is =
    some_same _ _
    (c.run_encode.ensures.ok_written cfg (input_bytes cfg c.args.source.now.left) a (input_told cfg c.args.source.now.left) (ap is_whole is) c.args.out.now.written refl)

pub returns-clause-decoded : goal.returns-clause-decoded
returns-clause-decoded g c cfg a is stream none =
    let v : List Picture = pictures_in cfg (input_bytes cfg c.args.source.now.left) in
    ap decode_of
    (returns-clause-written g c cfg a is
    ∙ ap (λ (x : List ℕ). x ++ output cfg v) none
    ∙ ap (λ (e : Emit). output_as e cfg v) stream)
    ∙ c.run_encode.ensures.decoded cfg v a

pub returns-clause-reported : goal.returns-clause-reported
returns-clause-reported g c cfg a is =
    some_same _ _
    (c.run_encode.ensures.ok_report cfg (input_bytes cfg c.args.source.now.left) a (input_told cfg c.args.source.now.left) is c.args.report.now.written refl)

pub returns-clause-concludes : goal.returns-clause-concludes
returns-clause-concludes g c cfg a = c.run_encode.ensures.concludes cfg a

pub returns-clause-complete : goal.returns-clause-complete
returns-clause-complete g c cfg a no_read no_write no_report =
    c.run_encode.ensures.complete cfg (input_bytes cfg c.args.source.now.left) a
    (input_told cfg c.args.source.now.left) no_read no_write no_report
