-- One picture more is coded: its frame holds it, and its unit and its bytes are there.
use Rattle.std.proofs.Common.{◌≡◌, ℕ, ◌+◌, ◌<◌, ◌≤◌, List, [], ◌∷◌, ◌++◌, length, subst, sym, ap, ◌∙◌, arith}
use Rattle.std.proofs.lemmas.Result.{on_ok_weaker}
use Rattle.hv_types.specs.Video.{raw, crop}
use Rattle.hv_block.specs.declared.frame.Frame.{Frame}
use Rattle.hv_group_model.specs.Structure.{picture_at}
use Rattle.hv_decision.specs.Groups.{GroupOutput}
use Rattle.hv_decision.proofs.EachStructureLemmas.{length-coding}
use Rattle.hv_model.specs.InterPictures.{picture_unit}
use Rattle.hv_serial.specs.GroupPictures.{recon_in, ShowReferences, EmittedTo}
use Rattle.hv_serial.specs.ShownPictures.{put_in}
use Rattle.hv_serial.specs.Slots.{slot_of}
use Rattle.hv_serial.specs.Workspaces.{IsFrame, Rewrites}
use Rattle.hv_serial.proofs.GroupPictureLemmas.{show_references, hold_more, emitted_more, slot_inside, frame_is, frame_there, always}
use Rattle.hv_serial.proofs.UnitLemmas.{coded_more}
use Rattle.hv_serial.proofs.pictures.code_next.Goals as goal

pub code_group_picture-requires-clause-references :
    goal.code_group_picture-requires-clause-references
code_group_picture-requires-clause-references c =
    let group = c.args.group.now in
    let n = length group.input.pictures in
    let levels = group.input.config.levels in
    let most : n ≤ 64 = omega (arith, c.count.ensures.value, c.count.ensures.most) in
    let order =
    c.orders_are_sound.ensures n levels (omega (arith, group.some)) most c.requires.valid.levels in
    let served =
    c.frames_serve.ensures n levels (omega (arith, group.some)) most c.requires.valid.levels in
    let is : picture_at n levels c.args.place ≡ c.order-picture.result =
    sym (c.order-picture.ensures.value ∙
    ap (λ m. picture_at m group.structure.levels c.args.place) group.count ∙
    ap (λ l. picture_at n l c.args.place) group.levels) in
    subst (λ k. ShowReferences group.input k c.args.space.now.frames.items) is
    (show_references group.input c.args.place c.requires.place order served
    c.args.space.now.frames.items c.requires.held)

pub index-requires : goal.index-requires
index-requires c =
    let group = c.args.group.now in
    let frames = c.code_group_picture.new.space.frames in
    let inside : c.from.result < length frames.items =
    slot_inside group.input group.structure.count group.structure.levels c.order-picture.result
    c.from.result frames.items c.frames_serve.ensures group.count
    group.levels (omega (arith, c.count.ensures.value, c.count.ensures.most))
    c.requires.valid.levels (omega (arith, c.count.ensures.value, c.count.ensures.group_most))
    (omega (arith, c.order-picture.ensures.below, group.count))
    (c.from.ensures ∙ c.slot_of-slot.ensures) c.code_group_picture.ensures.space.frames in
    omega (arith, inside, frames.ok.0)

pub put_shown-requires-clause-padded : goal.put_shown-requires-clause-padded
put_shown-requires-clause-padded c =
    let group = c.args.group.now in
    let frame : IsFrame group.input.config c.index.result.now =
    frame_is group.input group.structure.count group.structure.levels c.order-picture.result
    c.from.result c.code_group_picture.new.space.frames.items c.frames_serve.ensures group.count
    group.levels (omega (arith, c.count.ensures.value, c.count.ensures.most))
    c.requires.valid.levels (omega (arith, c.count.ensures.value, c.count.ensures.group_most))
    (omega (arith, c.order-picture.ensures.below, group.count))
    (c.from.ensures ∙ c.slot_of-slot.ensures) c.code_group_picture.ensures.space.frames
    c.index.result.now c.index.ensures in
    frame.shown

pub returns-clause-held : goal.returns-clause-held
returns-clause-held c =
    let group = c.args.group.now in
    let n = length group.input.pictures in
    let levels = group.input.config.levels in
    let most : n ≤ 64 = omega (arith, c.count.ensures.value, c.count.ensures.most) in
    let order =
    c.orders_are_sound.ensures n levels (omega (arith, group.some)) most c.requires.valid.levels in
    let is : c.order-picture.result ≡ picture_at n levels c.args.place =
    c.order-picture.ensures.value ∙
    ap (λ m. picture_at m group.structure.levels c.args.place) group.count ∙
    ap (λ l. picture_at n l c.args.place) group.levels in
    always c.put_shown.result
    (hold_more group.input c.args.place c.requires.place order c.args.space.now.frames.items
    c.code_group_picture.new.space.frames.items c.requires.held
    (subst (λ k. Rewrites c.args.space.now.frames.items (slot_of n levels k)
    (recon_in group.input k) c.code_group_picture.new.space.frames.items) is
    c.in_ok-unit.ensures.shown))

pub returns-clause-output : goal.returns-clause-output
returns-clause-output c =
    let group = c.args.group.now in
    let cfg = group.input.config in
    let n = length group.input.pictures in
    let levels = cfg.levels in
    let most : n ≤ 64 = omega (arith, c.count.ensures.value, c.count.ensures.most) in
    let order =
    c.orders_are_sound.ensures n levels (omega (arith, group.some)) most c.requires.valid.levels in
    let is : c.order-picture.result ≡ picture_at n levels c.args.place =
    c.order-picture.ensures.value ∙
    ap (λ m. picture_at m group.structure.levels c.args.place) group.count ∙
    ap (λ l. picture_at n l c.args.place) group.levels in
    let long = length-coding n levels (omega (arith, group.some)) most c.requires.valid.levels in
    let unit = c.in_ok-unit.unit.items in
    let frames = c.code_group_picture.new.space.frames.items in
    let rewrites : Rewrites c.args.space.now.frames.items (slot_of n levels c.order-picture.result)
    (recon_in group.input c.order-picture.result) frames = c.in_ok-unit.ensures.shown in
    let same : c.index.result.now ≡ rewrites.shows.frame =
    frame_there group.input group.structure.count group.structure.levels c.order-picture.result
    c.from.result frames c.frames_serve.ensures group.count
    group.levels (omega (arith, c.count.ensures.value, c.count.ensures.most))
    c.requires.valid.levels (omega (arith, c.count.ensures.value, c.count.ensures.group_most))
    (omega (arith, c.order-picture.ensures.below, group.count))
    (c.from.ensures ∙ c.slot_of-slot.ensures) c.code_group_picture.ensures.space.frames
    c.index.result.now rewrites.shows.frame c.index.ensures rewrites.shows.there in
    let shows : c.index.result.now.shown ≡ recon_in group.input (picture_at n levels c.args.place) =
    ap (λ (f : Frame). f.shown) same ∙ rewrites.shows.shown ∙ ap (recon_in group.input) is in
    on_ok_weaker c.put_shown.result
    (λ puts. record {
      slices =
          puts.slices ∙ ap (λ (o : GroupOutput). o.slices) c.in_ok-push_slice.ensures.ok ∙
          ap (λ (units : List (List ℕ)). units ++ unit ∷ []) c.requires.output.slices ∙
          coded_more cfg (picture_unit cfg group.input.pictures) n group.structure.count
          group.structure.levels c.args.place unit (omega (arith, long, c.requires.place))
          group.count group.levels
          (c.in_ok-unit.ensures.unit ∙
          ap (picture_unit cfg group.input.pictures) c.order-picture.ensures.value);
      shown =
          subst (EmittedTo cfg.emit group.input (c.args.place + 1))
          (sym (puts.shown ∙
          ap (λ (list : List (List ℕ)). put_in cfg.emit list c.order-picture.result
          (raw (crop c.index.result.now.shown cfg.width cfg.height)))
          (ap (λ (o : GroupOutput). o.shown) c.in_ok-push_slice.ensures.ok) ∙
          ap (λ k. put_in cfg.emit c.args.output.now.shown k
          (raw (crop c.index.result.now.shown cfg.width cfg.height))) is))
          (emitted_more group.input c.args.place c.requires.place order cfg.emit
          c.args.output.now.shown c.index.result.now.shown shows c.requires.output.shown);
    })
    c.put_shown.ensures
