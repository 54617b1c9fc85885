-- A picture of a group as it goes through the filters.
use Rattle.std.proofs.Common.{◌≡◌, ℕ, ◌*◌, ◌/◌, ◌%◌, ◌<◌, ◌≤◌, List, ◌++◌, length, take, drop, ◌∙◌, sym, ap, ap₂, subst, take_at, arith}
use Rattle.std.specs.Prelude.{slice_get, Some}
use Rattle.std.proofs.lemmas.Option.{get_or_from_slice_get}
use Rattle.hv_types.specs.declared.picture.Picture.{Picture}
use Rattle.hv_types.specs.Samples.{Plane, IsPlane, plane_of}
use Rattle.hv_types.specs.Video.{IsPicture, IsPadded}
use Rattle.hv_types.specs.Configuration.{padded_width, padded_height, columns, rows}
use Rattle.hv_types.specs.GroupInput.{GroupInput}
use Rattle.hv_lemmas.proofs.ListLemmas.{length-tabulate}
use Rattle.hv_types.proofs.SampleLemmas.{IsPlane-plane_of}
use Rattle.hv_plan.specs.declared.offsets.SaoParam.{SaoParam}
use Rattle.hv_block.specs.declared.block.Block.{Block}
use Rattle.hv_group_model.specs.Structure.{qp_at, coded_of}
use Rattle.hv_filter_model.specs.FlatPictures.{flat_picture}
use Rattle.hv_filter_model.specs.SampleAdaptiveOffset.{sao_picture}
use Rattle.hv_filter_model.specs.OffsetDecision.{block_offsets, picture_offsets}
use Rattle.hv_deblock_model.specs.EdgeStrength.{Squares}
use Rattle.hv_deblock_model.specs.Deblocking.{deblocked_picture}
use Rattle.hv_filter.specs.JoinedPicture.{joined_picture, squares_of_blocks}
use Rattle.hv_filter.specs.FilteredPicture.{input_picture, picture_qp, unfiltered, picture_squares, working_picture, picture_sao, shown_of_blocks}

-- ---- sides

pub joined_has_sides : (width height : ℕ) (blocks : List Block) → 2 ≤ width → 2 ≤ height →
    IsPicture width height (joined_picture width height blocks)
joined_has_sides width height blocks wide high =
    let across : 0 < width / 2 = omega (arith, wide) in
    let down : 0 < height / 2 = omega (arith, high) in
    record {
      luma = IsPlane-plane_of width height _ (omega (arith, wide)) (omega (arith, high));
      cb = IsPlane-plane_of (width / 2) (height / 2) _ across down;
      cr = IsPlane-plane_of (width / 2) (height / 2) _ across down;
    }

plane_keeps_sides : (width height : ℕ) (f : ℕ → ℕ → ℕ) (plane : Plane) →
    IsPlane width height plane → IsPlane width height (plane_of plane.width plane.height f)
plane_keeps_sides width height f plane it =
    let made : IsPlane plane.width plane.height (plane_of plane.width plane.height f) =
    IsPlane-plane_of plane.width plane.height f it.whole.wide it.whole.high in
    record { wide = it.wide; high = it.high; whole = made.whole }

deblocked_keeps_sides : (qp width height : ℕ) (squares : Squares) (picture : Picture) →
    IsPicture width height picture → IsPicture width height (deblocked_picture qp squares picture)
deblocked_keeps_sides qp width height squares picture it = record {
  luma = plane_keeps_sides width height _ picture.luma it.luma;
  cb = plane_keeps_sides (width / 2) (height / 2) _ picture.cb it.cb;
  cr = plane_keeps_sides (width / 2) (height / 2) _ picture.cr it.cr;
}

sao_keeps_sides : (width height : ℕ) (picture : Picture) (choices : List SaoParam) →
    IsPicture width height picture → IsPicture width height (sao_picture picture choices)
sao_keeps_sides width height picture choices it = record {
  luma = plane_keeps_sides width height _ picture.luma it.luma;
  cb = plane_keeps_sides (width / 2) (height / 2) _ picture.cb it.cb;
  cr = plane_keeps_sides (width / 2) (height / 2) _ picture.cr it.cr;
}

own_sides : (width height : ℕ) (picture : Picture) → IsPicture width height picture →
    IsPicture picture.luma.width picture.luma.height picture
own_sides width height picture it =
    subst (λ w. IsPicture w picture.luma.height picture) (sym it.luma.wide)
    (subst (λ h. IsPicture width h picture) (sym it.luma.high) it)

-- in squares of 8x8 samples
pub joined_in_squares : (w h width height : ℕ) (blocks : List Block) (joined : Picture) →
    joined ≡ joined_picture w h blocks → w ≡ width → h ≡ height → 8 ≤ width → 8 ≤ height →
    width % 8 ≡ 0 → height % 8 ≡ 0 →
    IsPicture (8 * (width / 8)) (8 * (height / 8)) joined
joined_in_squares w h width height blocks joined is same_w same_h wide high whole whole_down =
    let across : width ≡ 8 * (width / 8) = omega (arith, whole) in
    let down : height ≡ 8 * (height / 8) = omega (arith, whole_down) in
    let made : IsPicture width height joined =
    subst (IsPicture width height)
    (sym (is ∙ ap₂ (λ a b. joined_picture a b blocks) same_w same_h))
    (joined_has_sides width height blocks (omega (arith, wide)) (omega (arith, high))) in
    subst (λ n. IsPicture n (8 * (height / 8)) joined) across
    (subst (λ n. IsPicture width n joined) down made)

pub deblocked_own_sides : (qp width height : ℕ) (squares : Squares) (picture new : Picture) →
    new ≡ deblocked_picture qp squares picture → IsPicture width height picture →
    IsPicture new.luma.width new.luma.height new
deblocked_own_sides qp width height squares picture new is it =
    own_sides width height new
    (subst (IsPicture width height) (sym is)
    (deblocked_keeps_sides qp width height squares picture it))

-- ---- the definitions

-- the quantiser of a picture of a group
pub qp_is : (base count levels qp number : ℕ) (group : GroupInput) →
    qp ≡ qp_at base (coded_of count levels number).depth → base ≡ group.config.qp →
    count ≡ length group.pictures → levels ≡ group.config.levels → qp ≡ picture_qp group number
qp_is base count levels qp number group is e₁ e₂ e₃ =
    is ∙ ap (λ b. qp_at b (coded_of count levels number).depth) e₁
    ∙ ap₂ (λ c l. qp_at group.config.qp (coded_of c l number).depth) e₂ e₃

pub working_is : (group : GroupInput) (number qp w h width : ℕ) (blocks : List Block)
    (joined deblocked : Picture) → qp ≡ picture_qp group number →
    joined ≡ joined_picture w h blocks → w ≡ padded_width group.config →
    h ≡ padded_height group.config → width ≡ padded_width group.config →
    deblocked ≡ deblocked_picture qp (squares_of_blocks width blocks) joined →
    deblocked ≡ working_picture group number blocks
working_is group number qp w h width blocks joined deblocked qp_same joined_same w_same h_same
    width_same is =
    is ∙ ap (λ q. deblocked_picture q (squares_of_blocks width blocks) joined) qp_same
    ∙ ap (λ n. deblocked_picture (picture_qp group number) (squares_of_blocks n blocks) joined)
    width_same
    ∙ ap (deblocked_picture (picture_qp group number)
    (squares_of_blocks (padded_width group.config) blocks))
    (joined_same ∙ ap₂ (λ a b. joined_picture a b blocks) w_same h_same)

pub sao_is : (group : GroupInput) (number effort qp : ℕ) (blocks : List Block)
    (input deblocked : Picture) (sao : List SaoParam) → effort ≡ group.config.effort →
    qp ≡ picture_qp group number → slice_get group.pictures number ≡ Some input →
    deblocked ≡ working_picture group number blocks →
    sao ≡ picture_offsets effort qp deblocked input → sao ≡ picture_sao group number blocks
sao_is group number effort qp blocks input deblocked sao effort_same qp_same there working is =
    let same_input : input ≡ input_picture group number =
    sym (get_or_from_slice_get group.pictures number input (flat_picture 0 0 0 0 0) there) in
    is ∙ ap₂ (λ e q. picture_offsets e q deblocked input) effort_same qp_same
    ∙ ap₂ (picture_offsets group.config.effort (picture_qp group number)) working same_input

pub shown_is : (group : GroupInput) (number : ℕ) (blocks : List Block)
    (deblocked shown : Picture) (sao : List SaoParam) → shown ≡ sao_picture deblocked sao →
    deblocked ≡ working_picture group number blocks → sao ≡ picture_sao group number blocks →
    shown ≡ shown_of_blocks group number blocks
shown_is group number blocks deblocked shown sao is working choices =
    is ∙ ap₂ sao_picture working choices

-- what is written over a whole list stands there
pub all_written : (old new : List SaoParam) (n : ℕ) → length new ≡ n →
    take n (new ++ drop (length new) old) ≡ new
all_written old new n long = take_at new (drop (length new) old) n (omega (arith, long))

-- ---- what is padded stays padded

module _ (group : GroupInput) (number : ℕ) (blocks : List Block) (old : Picture)
    (padded : IsPadded group.config old) where
  working_padded : IsPadded group.config (working_picture group number blocks)
  working_padded =
      deblocked_keeps_sides (picture_qp group number) (padded_width group.config)
      (padded_height group.config) (picture_squares group blocks) (unfiltered group blocks)
      (joined_has_sides (padded_width group.config) (padded_height group.config) blocks
      (omega (arith, padded.cb.wide, padded.cb.whole.wide))
      (omega (arith, padded.cb.high, padded.cb.whole.high)))

  pub working_stays : (new : Picture) → new ≡ working_picture group number blocks →
      IsPadded group.config new
  working_stays new is = subst (IsPadded group.config) (sym is) working_padded

  pub shown_stays : (new : Picture) → new ≡ shown_of_blocks group number blocks →
      IsPadded group.config new
  shown_stays new is =
      subst (IsPadded group.config) (sym is)
      (sao_keeps_sides (padded_width group.config) (padded_height group.config)
      (working_picture group number blocks) (picture_sao group number blocks) working_padded)

-- there are as many offsets as blocks
pub count_stays : (group : GroupInput) (number : ℕ) (blocks : List Block) (new : List SaoParam) →
    new ≡ picture_sao group number blocks →
    length new ≡ columns group.config * rows group.config
count_stays group number blocks new is =
    ap (λ list. length list) is ∙
    length-tabulate (columns group.config * rows group.config)
    (block_offsets group.config.effort (picture_qp group number)
    (working_picture group number blocks) (input_picture group number))
