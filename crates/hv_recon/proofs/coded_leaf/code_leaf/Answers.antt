use Rattle.std.proofs.Common.{◌≡◌, ◌+◌, ◌-◌, ◌*◌, ◌%◌, ◌≤◌, List, take, length, refl, sym, ap, subst, ◌∙◌, arith}
use Rattle.std.specs.Prelude.{slice_get}
use Rattle.hv_types.specs.declared.picture.Picture.{Picture}
use Rattle.hv_tree_model.specs.Trees.{side}
use Rattle.hv_tree_model.specs.Sites.{squares, x0, y0}
use Rattle.hv_recon.specs.Leaves.{lists_of_plan, DecodesLeaf, KeepsOtherSamples}
use Rattle.hv_recon.proofs.UnitLemmas.{UnitInPicture}
use Rattle.hv_recon.proofs.LeafLemmas.{intra_unit, unit_keeps}
use Rattle.hv_recon.proofs.GreatLeafLemmas.{small_intra_leaf, great_intra_leaf, intra_quarters_keep}
use Rattle.hv_recon.proofs.CodedLeafLemmas.{node_fits, leaf_unit, quarters_put}
use Rattle.hv_recon.proofs.coded_leaf.code_leaf.Goals as goal

pub set_leaf-requires-clause-fits : goal.set_leaf-requires-clause-fits
set_leaf-requires-clause-fits c =
    node_fits c.args.size c.args.address c.requires.size c.requires.address c.requires.node

pub returns-then-size-lt3 : goal.returns-then-size-lt3
returns-then-size-lt3 c =
    let few : c.args.size ≤ 2 = omega (arith, c.if-size-lt3.true) in
    let coded = c.code_unit.ensures.coded in
    let kept = c.code_unit.ensures.kept in
    let units =
    kept.units ∙ ap (λ p. p.units) c.set_leaf.ensures in
    let unit =
    leaf_unit c.args.plan.now.units c.code_unit.new.plan.units c.args.size c.args.address
    (intra_unit (3 - c.args.size) c.args.mode) c.requires.size
    (omega (arith, c.requires.address, ap length c.units-squares.ensures.value, c.units-squares.ensures.count)) units in
    record {
      coded = record {
        one = λ _. coded;
        four = λ three. absurd (omega (arith, three, few));
      };
      set = record {
        units = units;
        luma = kept.luma ∙ ap (λ p. take (64 * c.args.address) p.luma) c.set_leaf.ensures;
        cb = kept.cb ∙ ap (λ p. take (16 * c.args.address) p.cb) c.set_leaf.ensures;
        cr = kept.cr ∙ ap (λ p. take (16 * c.args.address) p.cr) c.set_leaf.ensures;
      };
      decoded = λ references.
          small_intra_leaf c.code_unit.new.plan c.args.place references c.args.near.now c.args.size
          c.args.address (3 - c.args.size) c.args.mode c.args.qp c.args.out.now c.code_unit.new.out few
          c.requires.address c.requires.node
          (record { across = c.requires.right; down = c.requires.bottom }) unit coded.put;
      kept = unit_keeps _ _ _ c.args.size c.args.address c.args.out.now c.code_unit.new.out few
          c.requires.address c.requires.node coded.put;
    }

pub code_quarters-requires-clause-right : goal.code_quarters-requires-clause-right
code_quarters-requires-clause-right c =
    let three : c.args.size ≡ 3 = omega (arith, c.if-size-lt3.false, c.requires.size) in
    let node : c.args.address % 64 ≡ 0 =
    subst (λ n. c.args.address % squares n ≡ 0) three c.requires.node in
    let first : c.args.address ≡ 0 = omega (arith, node, c.requires.address) in
    subst (λ n. x0 c.args.place 0 + side n ≤ c.args.place.width) three
    (subst (λ a. x0 c.args.place a + side c.args.size ≤ c.args.place.width) first c.requires.right)

pub code_quarters-requires-clause-bottom : goal.code_quarters-requires-clause-bottom
code_quarters-requires-clause-bottom c =
    let three : c.args.size ≡ 3 = omega (arith, c.if-size-lt3.false, c.requires.size) in
    let node : c.args.address % 64 ≡ 0 =
    subst (λ n. c.args.address % squares n ≡ 0) three c.requires.node in
    let first : c.args.address ≡ 0 = omega (arith, node, c.requires.address) in
    subst (λ n. y0 c.args.place 0 + side n ≤ c.args.place.height) three
    (subst (λ a. y0 c.args.place a + side c.args.size ≤ c.args.place.height) first
    c.requires.bottom)

pub returns-else-size-lt3 : goal.returns-else-size-lt3
returns-else-size-lt3 c =
    let three : 3 ≡ c.args.size = omega (arith, c.if-size-lt3.false, c.requires.size) in
    let node : c.args.address % 64 ≡ 0 =
    subst (λ n. c.args.address % squares n ≡ 0) (sym three) c.requires.node in
    let first : 0 ≡ c.args.address = omega (arith, node, c.requires.address) in
    let coded = c.code_quarters.ensures.coded in
    let units = c.code_quarters.ensures.units ∙ ap (λ p. p.units) c.set_leaf.ensures in
    let unit =
    leaf_unit c.args.plan.now.units c.code_quarters.new.plan.units c.args.size c.args.address
    (intra_unit (3 - c.args.size) c.args.mode) c.requires.size
    (omega (arith, c.requires.address, ap length c.units-squares.ensures.value, c.units-squares.ensures.count)) units in
    let inside : UnitInPicture c.args.place c.args.size c.args.address =
    record { across = c.requires.right; down = c.requires.bottom } in
    let put =
    quarters_put c.args.input.now c.code_quarters.new.plan c.args.place c.args.near.now c.args.mode
    c.args.qp c.args.out.now c.code_quarters.new.out coded in
    let great : (references : List Picture) →
    DecodesLeaf (lists_of_plan c.code_quarters.new.plan) 3 0 c.args.place c.args.qp references
    c.args.near.now c.args.out.now c.code_quarters.new.out =
    λ references.
    great_intra_leaf c.code_quarters.new.plan c.args.place references c.args.near.now _ c.args.mode
    c.args.qp c.args.out.now c.code_quarters.new.out
    (subst (λ n. UnitInPicture c.args.place n 0) (sym three)
    (subst (λ a. UnitInPicture c.args.place c.args.size a) (sym first) inside))
    (ap (slice_get c.code_quarters.new.plan.units) first ∙ unit) put in
    let keep =
    intra_quarters_keep c.code_quarters.new.plan c.args.place c.args.near.now c.args.mode c.args.qp
    c.args.out.now c.code_quarters.new.out put in
    record {
      coded = record {
        one = λ few. absurd (omega (arith, three, few));
        four = λ _. coded;
      };
      set = record {
        units = units;
        luma = subst (λ a. take (64 * a) c.code_quarters.new.plan.luma ≡
            take (64 * a) c.args.plan.now.luma) first refl;
        cb = subst (λ a. take (16 * a) c.code_quarters.new.plan.cb ≡
            take (16 * a) c.args.plan.now.cb) first refl;
        cr = subst (λ a. take (16 * a) c.code_quarters.new.plan.cr ≡
            take (16 * a) c.args.plan.now.cr) first refl;
      };
      decoded = λ references.
          subst (λ n. DecodesLeaf (lists_of_plan c.code_quarters.new.plan) n c.args.address
          c.args.place c.args.qp references c.args.near.now c.args.out.now
          c.code_quarters.new.out) three
          (subst (λ a. DecodesLeaf (lists_of_plan c.code_quarters.new.plan) 3 a c.args.place
          c.args.qp references c.args.near.now c.args.out.now c.code_quarters.new.out) first
          (great references));
      kept = subst (λ n. KeepsOtherSamples n c.args.address c.args.out.now c.code_quarters.new.out)
          three
          (subst (λ a. KeepsOtherSamples 3 a c.args.out.now c.code_quarters.new.out) first keep);
    }
