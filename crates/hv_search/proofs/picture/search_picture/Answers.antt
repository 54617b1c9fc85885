use Rattle.std.proofs.Common.{◌≡◌, ◌≤◌, ◌∙◌, ap, ap₂, sym, arith}
use Rattle.std.specs.Prelude.{Some, option_map, slice_get}
use Rattle.hv_types.specs.GroupInput.{GroupInput}
use Rattle.hv_types.specs.Samples.{Plane}
use Rattle.hv_group_model.specs.Structure.{coded_of}
use Rattle.hv_search_model.specs.MotionSearch.{luma_of}
use Rattle.hv_search.proofs.MotionLemmas.{motion_is, no_motion_is, no_third, searched_as}
use Rattle.hv_search.proofs.picture.search_picture.Goals as goal

pub returns-then-effort-eq0 : goal.returns-then-effort-eq0
returns-then-effort-eq0 c =
    let group : GroupInput = c.args.group.now.input in
    let luma : Plane = c.picture.result.now.luma in
    let there : luma_of group c.args.picture ≡ Some luma = ap (option_map (λ picture. picture.luma)) c.picture.ensures.value in
    let effort_is : c.settings-effort.result.effort ≡ group.config.effort = ap (λ s. s.effort) (c.settings-effort.ensures.value ∙ c.config.ensures) in
    let few : group.config.levels ≤ 3 = omega (arith, c.settings-effort.ensures.ranges.levels, ap (λ s. s.levels) c.config.ensures) in
    record {
      wide = c.width-width.ensures.value ∙ c.picture.ensures.padded.luma.wide;
      high = c.height-height.ensures.value ∙ c.picture.ensures.padded.luma.high;
      each = no_motion_is group c.args.picture luma _ there
          (no_third group c.args.picture (omega (arith, c.requires)) (omega (arith, c.count-pictures.ensures.value, c.count-pictures.ensures.most)) few c.requires)
          c.width-width.ensures.value c.height-height.ensures.value (sym effort_is ∙ c.if-effort-eq0.true) c.new.ensures.items c.new-then-effort-eq0.ensures.items;
    }

pub returns : goal.returns
returns c =
    let group : GroupInput = c.args.group.now.input in
    let luma : Plane = c.picture.result.now.luma in
    let there : luma_of group c.args.picture ≡ Some luma = ap (option_map (λ picture. picture.luma)) c.picture.ensures.value in
    let effort_is : c.settings-effort.result.effort ≡ group.config.effort = ap (λ s. s.effort) (c.settings-effort.ensures.value ∙ c.config.ensures) in
    let few : group.config.levels ≤ 3 = omega (arith, c.settings-effort.ensures.ranges.levels, ap (λ s. s.levels) c.config.ensures) in
    record {
      wide = c.width-width.ensures.value ∙ c.picture.ensures.padded.luma.wide;
      high = c.height-height.ensures.value ∙ c.picture.ensures.padded.luma.high;
      each = motion_is group c.args.picture luma _ there
          (no_third group c.args.picture (omega (arith, c.requires)) (omega (arith, c.count-pictures.ensures.value, c.count-pictures.ensures.most)) few c.requires)
          c.width-width.ensures.value c.height-height.ensures.value (omega (arith, effort_is, c.if-effort-eq0.false))
          (searched_as group luma _ _ _ _ _ effort_is (c.first-first.ensures ∙ ap₂ (λ n l. slice_get (coded_of n l c.args.picture).references 0) c.args.group.now.count c.args.group.now.levels) c.in_ok-searched.ensures.is)
          (searched_as group luma _ _ _ _ _ effort_is (c.second-second.ensures ∙ ap₂ (λ n l. slice_get (coded_of n l c.args.picture).references 1) c.args.group.now.count c.args.group.now.levels) c.in_ok-searched-2.ensures.is);
    }
