use Rattle.std.proofs.Common.{◌<◌, List, length, sym, ap, subst, ◌∙◌, arith}
use Rattle.std.specs.Prelude.{slice_get, is_some}
use Rattle.std.specs.Option.{option_copied}
use Rattle.std.proofs.lemmas.Bool.{true≢false}
use Rattle.hv_lemmas.proofs.ListLemmas.{there_is}
use Rattle.hv_plan.specs.declared.prediction.Pred.TheVariants.{Intra, Inter}
use Rattle.hv_types.specs.declared.picture.Picture.{Picture}
use Rattle.hv_recon.specs.Leaves.{pictures_of, IsKnown}
use Rattle.hv_recon.proofs.LeafLemmas.{unit_there}
use Rattle.hv_recon.proofs.RebuiltLeafLemmas.{intra_leaf_decodes, intra_leaf_keeps, inter_leaf_decodes, inter_leaf_keeps}
use Rattle.hv_recon.proofs.leaf.rebuild_leaf.Goals as goal

pub returns-in-Intra-clause-decoded : goal.returns-in-Intra-clause-decoded
returns-in-Intra-clause-decoded c =
    let there =
    unit_there c.units.result.now c.from.result (Intra c.in-Intra.mode) _
    (omega (arith, c.units.ensures.count, c.from.ensures, c.requires.address)) c.in-Intra.is in
    intra_leaf_decodes c.args.plan.now c.args.place
    (pictures_of (option_copied c.args.first) (option_copied c.args.second)) c.args.near.now
    c.args.size c.args.address c.args.qp c.args.out.now c.rebuild_intra_leaf.new.out
    c.requires.size c.requires.address c.requires.node c.in-Intra.mode
    c.rebuild_intra_leaf.ensures.one c.rebuild_intra_leaf.ensures.four _
    (record { across = c.requires.right; down = c.requires.bottom })
    (sym (λ i. slice_get (c.units.ensures.value i) (c.from.ensures i)) ∙ there)

pub returns-in-Intra-clause-kept : goal.returns-in-Intra-clause-kept
returns-in-Intra-clause-kept c =
    intra_leaf_keeps c.args.plan.now c.args.place
    (pictures_of (option_copied c.args.first) (option_copied c.args.second)) c.args.near.now
    c.args.size c.args.address c.args.qp c.args.out.now c.rebuild_intra_leaf.new.out
    c.requires.size c.requires.address c.requires.node c.in-Intra.mode
    c.rebuild_intra_leaf.ensures.one c.rebuild_intra_leaf.ensures.four

pub returns-in-Some-clause-decoded : goal.returns-in-Some-clause-decoded
returns-in-Some-clause-decoded c =
    let there =
    unit_there c.units.result.now c.from.result
    (Inter c.in-Inter.reference c.in-Inter.mv c.in-Inter.flag c.in-Inter.mvd) _
    (omega (arith, c.units.ensures.count, c.from.ensures, c.requires.address)) c.in-Inter.is in
    inter_leaf_decodes c.args.plan.now c.args.place
    (pictures_of (option_copied c.args.first) (option_copied c.args.second)) c.args.near.now
    c.args.size c.args.address c.args.qp c.args.out.now c.rebuild_inter_leaf.new.out
    c.requires.size c.requires.address c.requires.node c.in-Some.picture.now c.in-Inter.mv
    c.rebuild_inter_leaf.ensures.one c.rebuild_inter_leaf.ensures.four _ c.in-Inter.reference
    c.in-Inter.flag c.in-Inter.mvd (sym c.entry.ensures ∙ ap option_copied c.in-Some.is)
    (record { across = c.requires.right; down = c.requires.bottom })
    (sym (λ i. slice_get (c.units.ensures.value i) (c.from.ensures i)) ∙ there)

pub returns-in-Some-clause-kept : goal.returns-in-Some-clause-kept
returns-in-Some-clause-kept c =
    inter_leaf_keeps c.args.plan.now c.args.place
    (pictures_of (option_copied c.args.first) (option_copied c.args.second)) c.args.near.now
    c.args.size c.args.address c.args.qp c.args.out.now c.rebuild_inter_leaf.new.out
    c.requires.size c.requires.address c.requires.node c.in-Some.picture.now c.in-Inter.mv
    c.rebuild_inter_leaf.ensures.one c.rebuild_inter_leaf.ensures.four

pub returns-in_default-clause-decoded : goal.returns-in_default-clause-decoded
returns-in_default-clause-decoded c =
    let references : List Picture =
    pictures_of (option_copied c.args.first) (option_copied c.args.second) in
    let there =
    unit_there c.units.result.now c.from.result
    (Inter c.in-Inter.reference c.in-Inter.mv c.in-Inter.flag c.in-Inter.mvd) _
    (omega (arith, c.units.ensures.count, c.from.ensures, c.requires.address)) c.in-Inter.is in
    let known : c.in-Inter.reference < length references =
    subst (IsKnown references)
    (sym (λ i. slice_get (c.units.ensures.value i) (c.from.ensures i)) ∙ there) c.requires.known in
    let picture = there_is references c.in-Inter.reference known in
    absurd (true≢false (sym (ap is_some
    (sym (ap option_copied c.in_default.is) ∙ c.entry.ensures ∙ picture.1))))
