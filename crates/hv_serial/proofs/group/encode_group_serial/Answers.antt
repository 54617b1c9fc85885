-- At effort 0 nothing is chosen, and else padding keeps the pictures of the group.
use Rattle.std.proofs.Common.{◌≡◌, length, subst, ap, ◌∙◌}
use Rattle.std.proofs.lemmas.Result.{IfOk-weaker}
use Rattle.hv_decision.specs.Groups.{GroupOutput}
use Rattle.hv_model.specs.Encoding.{EncodedGroup}
use Rattle.hv_model.specs.InterPictures.{encode_group}
use Rattle.hv_serial.specs.BlankGroups.{blank_units_of, grey_pictures}
use Rattle.hv_serial.specs.Steps.{OfPadded, emitted}
use Rattle.hv_serial.specs.Workspaces.{IsWorkspace}
use Rattle.hv_serial.proofs.BlankGroupLemmas.{units_are, shown_are}
use Rattle.hv_serial.proofs.PaddedPictureLemmas.{group_same}
use Rattle.hv_serial.proofs.group.encode_group_serial.Goals as goal

pub returns-in-Blank-clause-slices : goal.returns-in-Blank-clause-slices
returns-in-Blank-clause-slices c =
    let group = c.args.group.now.input in
    let effort : group.config.effort ≡ 0 =
    subst (IsWorkspace group.config) c.in-Blank.is c.requires.work in
    IfOk-weaker c.encode_blank_group.result
    (λ (o : GroupOutput). o.slices ≡ blank_units_of group.config (length group.pictures))
    (λ (o : GroupOutput). OfPadded group.pictures (λ pictures.
    o.slices ≡ (encode_group group.config pictures).units))
    (λ output is pictures are.
    is ∙
    units_are group.config pictures group.pictures are
    (c.groups_are_blank_at_effort_zero.ensures group.config pictures c.requires.valid effort))
    c.encode_blank_group.ensures.slices

pub returns-in-Blank-clause-shown : goal.returns-in-Blank-clause-shown
returns-in-Blank-clause-shown c =
    let group = c.args.group.now.input in
    let effort : group.config.effort ≡ 0 =
    subst (IsWorkspace group.config) c.in-Blank.is c.requires.work in
    IfOk-weaker c.encode_blank_group.result
    (λ (o : GroupOutput). o.shown ≡
    grey_pictures group.config.emit group.config (length group.pictures))
    (λ (o : GroupOutput). OfPadded group.pictures (λ pictures.
    o.shown ≡ emitted group.config.emit (encode_group group.config pictures).shown))
    (λ output is pictures are.
    is ∙
    shown_are group.config pictures group.pictures are
    (c.groups_are_blank_at_effort_zero.ensures group.config pictures c.requires.valid effort)
    c.requires.valid group.config.emit)
    c.encode_blank_group.ensures.shown

pub returns-in-Chosen-clause-slices : goal.returns-in-Chosen-clause-slices
returns-in-Chosen-clause-slices c =
    let group = c.args.group.now.input in
    IfOk-weaker c.encode_chosen_group.result
    (λ (o : GroupOutput). o.slices ≡ (encode_group group.config group.pictures).units)
    (λ (o : GroupOutput). OfPadded group.pictures (λ pictures.
    o.slices ≡ (encode_group group.config pictures).units))
    (λ output is pictures are.
    is ∙
    ap (λ (g : EncodedGroup). g.units)
    (group_same group.config pictures group.pictures are c.pictures_are_padded.ensures))
    c.encode_chosen_group.ensures.slices

pub returns-in-Chosen-clause-shown : goal.returns-in-Chosen-clause-shown
returns-in-Chosen-clause-shown c =
    let group = c.args.group.now.input in
    IfOk-weaker c.encode_chosen_group.result
    (λ (o : GroupOutput). o.shown ≡
    emitted group.config.emit (encode_group group.config group.pictures).shown)
    (λ (o : GroupOutput). OfPadded group.pictures (λ pictures.
    o.shown ≡ emitted group.config.emit (encode_group group.config pictures).shown))
    (λ output is pictures are.
    is ∙
    ap (λ (g : EncodedGroup). emitted group.config.emit g.shown)
    (group_same group.config pictures group.pictures are c.pictures_are_padded.ensures))
    c.encode_chosen_group.ensures.shown
