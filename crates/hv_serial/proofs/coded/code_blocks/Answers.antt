-- The unit and the picture that is shown are those of the definitions.
use Rattle.std.proofs.Common.{length, refl, sym, ap, ◌∙◌}
use Rattle.std.proofs.lemmas.Result.{IfOk-weaker}
use Rattle.hv_types.specs.Configuration.{padded_width, padded_height}
use Rattle.hv_packet.proofs.HeaderLemmas.{length-blocks}
use Rattle.hv_serial.proofs.CodedBlockLemmas.{shown_is, may_be_coded, unit_is}
use Rattle.hv_serial.proofs.coded.code_blocks.Goals as goal

pub filter_picture-requires-clause-blocks : goal.filter_picture-requires-clause-blocks
filter_picture-requires-clause-blocks c = c.requires.chosen.1.count

pub code_picture-requires-clause-blocks : goal.code_picture-requires-clause-blocks
code_picture-requires-clause-blocks c =
    let cfg = c.args.group.now.input.config in
    c.requires.chosen.1.count ∙
    sym (length-blocks cfg (padded_width cfg) (padded_height cfg) refl refl)

pub code_picture-requires-clause-offsets : goal.code_picture-requires-clause-offsets
code_picture-requires-clause-offsets c =
    let cfg = c.args.group.now.input.config in
    ap (λ offsets. length offsets) c.deref.ensures.value ∙ c.filter_picture.ensures.count ∙
    sym (length-blocks cfg (padded_width cfg) (padded_height cfg) refl refl)

pub code_picture-requires-clause-names : goal.code_picture-requires-clause-names
code_picture-requires-clause-names c = c.requires.chosen.1.best.names

pub code_picture-requires-clause-valid : goal.code_picture-requires-clause-valid
code_picture-requires-clause-valid c =
    may_be_coded c.args.group.now.input c.args.picture c.requires.chosen.0 c.args.blocks.now.items
    c.requires.chosen.1 c.args.frame.now.working c.requires.working _
    (c.deref.ensures.value ∙ c.filter_picture.ensures.sao)

pub returns-clause-unit : goal.returns-clause-unit
returns-clause-unit c source chosen =
    IfOk-weaker c.code_picture.result _ _
    (λ unit is. unit_is c.args.group.now.input c.args.picture source c.args.blocks.now.items
    chosen c.args.frame.now.working c.requires.working _
    (c.deref.ensures.value ∙ c.filter_picture.ensures.sao) unit.items is)
    c.code_picture.ensures

pub returns-clause-shown : goal.returns-clause-shown
returns-clause-shown c source chosen =
    shown_is c.args.group.now.input c.args.picture source c.args.blocks.now.items chosen
    c.args.frame.now.working c.requires.working _ c.filter_picture.ensures.shown
