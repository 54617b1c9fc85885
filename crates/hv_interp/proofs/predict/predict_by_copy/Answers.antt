use Rattle.std.proofs.Common.{◌∙◌, ap₂, w64}
use Rattle.std.proofs.lemmas.Int.{to_z-of_z}
use Rattle.hv_interp.specs.Windows.{reference_from}
use Rattle.hv_interp.specs.Filters.{predicted}
use Rattle.hv_interp.proofs.predict.predict_by_copy.Goals as goal

pub returns-then-size-le8 : goal.returns-then-size-le8
returns-then-size-le8 g c k inside =
    c.predict_by_copy_in.ensures k inside ∙
    ap₂ (λ x y. predicted c.args.before c.args.right c.args.below c.args.across.now c.args.down.now (reference_from c.args.reference.now x y) c.args.size k)
    (to_z-of_z w64 c.args.x c.ranges.x) (to_z-of_z w64 c.args.y c.ranges.y)

pub returns-then-size-le16 : goal.returns-then-size-le16
returns-then-size-le16 g c k inside =
    c.predict_by_copy_in-then-size-le16.ensures k inside ∙
    ap₂ (λ x y. predicted c.args.before c.args.right c.args.below c.args.across.now c.args.down.now (reference_from c.args.reference.now x y) c.args.size k)
    (to_z-of_z w64 c.args.x c.ranges.x) (to_z-of_z w64 c.args.y c.ranges.y)

pub returns-then-size-le32 : goal.returns-then-size-le32
returns-then-size-le32 g c k inside =
    c.predict_by_copy_in-then-size-le32.ensures k inside ∙
    ap₂ (λ x y. predicted c.args.before c.args.right c.args.below c.args.across.now c.args.down.now (reference_from c.args.reference.now x y) c.args.size k)
    (to_z-of_z w64 c.args.x c.ranges.x) (to_z-of_z w64 c.args.y c.ranges.y)

pub returns-else-size-le32 : goal.returns-else-size-le32
returns-else-size-le32 g c k inside =
    c.predict_by_copy_in-else-size-le32.ensures k inside ∙
    ap₂ (λ x y. predicted c.args.before c.args.right c.args.below c.args.across.now c.args.down.now (reference_from c.args.reference.now x y) c.args.size k)
    (to_z-of_z w64 c.args.x c.ranges.x) (to_z-of_z w64 c.args.y c.ranges.y)
