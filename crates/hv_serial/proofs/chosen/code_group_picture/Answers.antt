-- The blocks are those that are chosen for the picture, and its own frame alone is written.
use Rattle.std.proofs.Common.{List, ◌<◌, length, subst, sym, ◌∙◌, arith}
use Rattle.hv_block.specs.declared.frame.Frame.{Frame}
use Rattle.hv_serial.specs.GroupPictures.{ShowReferences, source_in}
use Rattle.hv_serial.specs.Workspaces.{IsFrame}
use Rattle.hv_serial.proofs.GroupPictureLemmas.{slot_inside, frame_is, rewritten, frames_again, always}
use Rattle.hv_serial.proofs.chosen.code_group_picture.Goals as goal

pub decide_picture-requires-clause-references : goal.decide_picture-requires-clause-references
decide_picture-requires-clause-references c =
    subst (λ (list : List Frame). ShowReferences c.args.group.now.input c.args.picture list)
    (sym c.deref.ensures.value) c.requires.references

pub index_mut-frame-requires : goal.index_mut-frame-requires
index_mut-frame-requires c =
    let group = c.args.group.now in
    let inside : c.from.result < length c.args.space.now.frames.items =
    slot_inside group.input group.structure.count group.structure.levels c.args.picture
    c.from.result c.args.space.now.frames.items c.frames_serve.ensures group.count group.levels
    (omega (arith, c.count.ensures.value, c.count.ensures.most)) c.requires.valid.levels
    (omega (arith, c.count.ensures.value, c.count.ensures.group_most)) c.requires.picture
    (c.from.ensures ∙ c.slot_of-slot.ensures) c.requires.space.frames in
    omega (arith, inside, c.args.space.now.frames.ok.0)

pub code_blocks-requires-clause-shown : goal.code_blocks-requires-clause-shown
code_blocks-requires-clause-shown c =
    let group = c.args.group.now in
    let frame : IsFrame group.input.config c.index_mut-frame.result.now =
    frame_is group.input group.structure.count group.structure.levels c.args.picture
    c.from.result c.args.space.now.frames.items c.frames_serve.ensures group.count group.levels
    (omega (arith, c.count.ensures.value, c.count.ensures.most)) c.requires.valid.levels
    (omega (arith, c.count.ensures.value, c.count.ensures.group_most)) c.requires.picture
    (c.from.ensures ∙ c.slot_of-slot.ensures) c.requires.space.frames
    c.index_mut-frame.result.now c.index_mut-frame.ensures.value in
    frame.shown

pub code_blocks-requires-clause-working : goal.code_blocks-requires-clause-working
code_blocks-requires-clause-working c =
    let group = c.args.group.now in
    let frame : IsFrame group.input.config c.index_mut-frame.result.now =
    frame_is group.input group.structure.count group.structure.levels c.args.picture
    c.from.result c.args.space.now.frames.items c.frames_serve.ensures group.count group.levels
    (omega (arith, c.count.ensures.value, c.count.ensures.most)) c.requires.valid.levels
    (omega (arith, c.count.ensures.value, c.count.ensures.group_most)) c.requires.picture
    (c.from.ensures ∙ c.slot_of-slot.ensures) c.requires.space.frames
    c.index_mut-frame.result.now c.index_mut-frame.ensures.value in
    frame.working

pub code_blocks-requires-clause-sao : goal.code_blocks-requires-clause-sao
code_blocks-requires-clause-sao c =
    let group = c.args.group.now in
    let frame : IsFrame group.input.config c.index_mut-frame.result.now =
    frame_is group.input group.structure.count group.structure.levels c.args.picture
    c.from.result c.args.space.now.frames.items c.frames_serve.ensures group.count group.levels
    (omega (arith, c.count.ensures.value, c.count.ensures.most)) c.requires.valid.levels
    (omega (arith, c.count.ensures.value, c.count.ensures.group_most)) c.requires.picture
    (c.from.ensures ∙ c.slot_of-slot.ensures) c.requires.space.frames
    c.index_mut-frame.result.now c.index_mut-frame.ensures.value in
    frame.sao

pub returns-clause-unit : goal.returns-clause-unit
returns-clause-unit c =
    c.code_blocks.ensures.unit (source_in c.args.group.now.input c.args.picture)
    c.decide_picture.ensures

pub returns-clause-shown : goal.returns-clause-shown
returns-clause-shown c =
    let group = c.args.group.now in
    always c.code_blocks.result
    (rewritten group.input group.structure.count group.structure.levels c.args.picture
    c.from.result c.args.space.now.frames.items c.frames_serve.ensures group.count group.levels
    (omega (arith, c.count.ensures.value, c.count.ensures.most)) c.requires.valid.levels
    (omega (arith, c.count.ensures.value, c.count.ensures.group_most)) c.requires.picture
    (c.from.ensures ∙ c.slot_of-slot.ensures) c.requires.space.frames c.code_blocks.new.frame
    (c.code_blocks.ensures.shown (source_in group.input c.args.picture) c.decide_picture.ensures
    ∙ sym (c.pictures_follow_their_references.ensures group.input.config group.input.pictures
    c.args.picture)))

pub returns-clause-space : goal.returns-clause-space
returns-clause-space c =
    let group = c.args.group.now in record {
      blocks = c.decide_picture.ensures.count;
      frames =
          frames_again group.input group.structure.count group.structure.levels c.args.picture
          c.from.result c.args.space.now.frames.items c.frames_serve.ensures group.count
          group.levels
          (omega (arith, c.count.ensures.value, c.count.ensures.most)) c.requires.valid.levels
          (omega (arith, c.count.ensures.value, c.count.ensures.group_most)) c.requires.picture
          (c.from.ensures ∙ c.slot_of-slot.ensures) c.requires.space.frames
          c.code_blocks.new.frame
          (record {
            shown = c.code_blocks.ensures.shown_padded;
            working = c.code_blocks.ensures.working_padded;
            sao = c.code_blocks.ensures.sao_count;
          });
    }
