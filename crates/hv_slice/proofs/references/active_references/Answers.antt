-- The entries before the picture and those after it are the set's two sides.
use Rattle.std.proofs.Common.{◌∙◌, refl, ap, ap₂}
use Rattle.std.specs.Prelude.{◌+◌}
use Rattle.hv_group_model.specs.Structure.{qp_at, coded_of}
use Rattle.hv_stream_model.specs.Headers.{SliceHeader, used_count}
use Rattle.hv_slice.proofs.SetEntryLemmas.{same_header}
use Rattle.hv_slice.proofs.references.active_references.Goals as goal

pub returns : goal.returns
returns c =
    let count = c.args.structure.now.count in
    let levels = c.args.structure.now.levels in
    let same = same_header count levels 0 c.args.picture
    (qp_at 0 (coded_of count levels c.args.picture).depth) c.from-before.result c.from-all.result
    c.entries-entries.result c.entries-entries.ensures
    (c.from-all.ensures ∙ c.set_len.ensures.value)
    (c.from-before.ensures ∙ c.before_len.ensures.value) refl in
    ap₂ (λ n m. n + m) c.used_count.ensures.value c.used_count-2.ensures.value ∙
    ap (λ (header : SliceHeader). used_count header.references) same
