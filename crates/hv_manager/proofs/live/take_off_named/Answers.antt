use Rattle.std.proofs.Common.{◌≡◌, ◌<◌, ap, subst, refl, arith}
use Rattle.std.specs.Prelude.{slice_get}
use Rattle.hv_manager.specs.Progress.{coded_at, one_at}
use Rattle.hv_manager.proofs.StructureLemmas.{first_below, second_below, named_sum, one_at-same}
use Rattle.hv_manager.proofs.live.take_off_named.Goals as goal

pub returns-clause-each : goal.returns-clause-each
returns-clause-each c k below =
    omega (
      arith,
      c.take_off.ensures.each k (omega (arith, c.requires.count)),
      c.take_off-2.ensures.each k (omega (arith, c.take_off.ensures.count, c.requires.count)),
      c.take_off-3.ensures.each k
          (omega (arith, c.take_off-2.ensures.count, c.take_off.ensures.count, c.requires.count)),
      named_sum c.args.structure.now c.args.picture c.first.result c.second.result k c.requires.structure
          c.requires.picture c.first.ensures c.second.ensures,
    )

pub take_off-requires-clause-held : goal.take_off-requires-clause-held
take_off-requires-clause-held c x e =
    let s = c.args.structure.now in
    let is : c.args.picture ≡ x = cc in
    omega (
      arith,
      c.requires.held x (subst (λ n. n < s.count) is c.requires.picture),
      named_sum s c.args.picture (slice_get (coded_at s.count s.levels c.args.picture).references 0)
          (slice_get (coded_at s.count s.levels c.args.picture).references 1) x c.requires.structure
          c.requires.picture refl refl,
      ap (λ o. one_at o x) e,
      one_at-same x,
    )

pub take_off-requires-2-clause-below : goal.take_off-requires-2-clause-below
take_off-requires-2-clause-below c x e =
    omega (
      arith,
      first_below c.args.structure.now c.args.picture c.first.result c.requires.structure c.requires.picture
          c.first.ensures x e,
      c.take_off.ensures.count,
      c.requires.count,
    )

pub take_off-requires-2-clause-held : goal.take_off-requires-2-clause-held
take_off-requires-2-clause-held c x e =
    let s = c.args.structure.now in
    let below : x < s.count =
    first_below s c.args.picture c.first.result c.requires.structure c.requires.picture
    c.first.ensures x e in
    omega (
      arith,
      c.take_off.ensures.each x (omega (arith, c.requires.count)),
      c.requires.held x below,
      named_sum s c.args.picture c.first.result
          (slice_get (coded_at s.count s.levels c.args.picture).references 1) x c.requires.structure
          c.requires.picture c.first.ensures refl,
      ap (λ o. one_at o x) e,
      one_at-same x,
    )

pub take_off-requires-3-clause-below : goal.take_off-requires-3-clause-below
take_off-requires-3-clause-below c x e =
    omega (
      arith,
      second_below c.args.structure.now c.args.picture c.second.result c.requires.structure c.requires.picture
          c.second.ensures x e,
      c.take_off-2.ensures.count,
      c.take_off.ensures.count,
      c.requires.count,
    )

pub take_off-requires-3-clause-held : goal.take_off-requires-3-clause-held
take_off-requires-3-clause-held c x e =
    let below : x < c.args.structure.now.count =
    second_below c.args.structure.now c.args.picture c.second.result c.requires.structure c.requires.picture
    c.second.ensures x e in
    omega (
      arith,
      c.take_off.ensures.each x (omega (arith, c.requires.count)),
      c.take_off-2.ensures.each x (omega (arith, c.take_off.ensures.count, c.requires.count)),
      c.requires.held x below,
      named_sum c.args.structure.now c.args.picture c.first.result c.second.result x c.requires.structure
          c.requires.picture c.first.ensures c.second.ensures,
      ap (λ o. one_at o x) e,
      one_at-same x,
    )
