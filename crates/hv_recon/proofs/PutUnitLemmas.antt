-- A block that was put, by what it was made of, and so a transform unit.
use Rattle.std.proofs.Common.{◌≡◌, ℕ, Bool, List, subst}
use Rattle.std.specs.Prelude.{ℤ}
use Rattle.hv_types.specs.declared.picture.Picture.{Picture}
use Rattle.hv_types.specs.Samples.{Plane}
use Rattle.hv_block.specs.declared.edges.Neighbours.{Neighbours}
use Rattle.hv_block.specs.Plans.{CtbPlan}
use Rattle.hv_block.specs.Samples.{Samples}
use Rattle.hv_plan.specs.declared.prediction.Mv.{Mv}
use Rattle.hv_tree_model.specs.Sites.{Site}
use Rattle.hv_recon_model.specs.SeenSamples.{Spot, SamplesAround, IsPut, seen_line, seen_block}
use Rattle.hv_recon.specs.Units.{inter_block, IsUnitPut, IsInterUnitPut}

abbrev pub IsSeenPut :
    ℕ → ℕ → ℕ → ℕ → ℕ → Bool → ℕ → List ℤ → Spot → SamplesAround → ℕ → List ℕ → List ℕ → Type 0
IsSeenPut side x y log2 mode is_luma qp levels s around address old new =
    IsPut side x y log2
    (seen_block log2 mode is_luma qp levels (seen_line s around old address x y log2)) old new

pub same_put : (side log2 mode : ℕ) (is_luma : Bool) (x x2 y y2 qp qp2 : ℕ)
    (levels levels2 : List ℤ) (s s2 : Spot) (around around2 : SamplesAround)
    (address address2 : ℕ) (old old2 new new2 : List ℕ) → x ≡ x2 → y ≡ y2 → qp ≡ qp2 →
    levels ≡ levels2 → s ≡ s2 → around ≡ around2 → address ≡ address2 → old ≡ old2 →
    new ≡ new2 →
    IsSeenPut side x y log2 mode is_luma qp levels s around address old new →
    IsSeenPut side x2 y2 log2 mode is_luma qp2 levels2 s2 around2 address2 old2 new2
same_put side log2 mode is_luma x x2 y y2 qp qp2 levels levels2 s s2 around around2 address address2
    old old2 new new2 a b c d e f g h i put =
    let p1 = subst (λ v. IsSeenPut side v y log2 mode is_luma qp levels s around address old
    new) a put in
    let p2 = subst (λ v. IsSeenPut side x2 v log2 mode is_luma qp levels s around address old
    new) b p1 in
    let p3 = subst (λ v. IsSeenPut side x2 y2 log2 mode is_luma v levels s around address old
    new) c p2 in
    let p4 = subst (λ v. IsSeenPut side x2 y2 log2 mode is_luma qp2 v s around address old new)
    d p3 in
    let p5 = subst (λ v. IsSeenPut side x2 y2 log2 mode is_luma qp2 levels2 v around address
    old new) e p4 in
    let p6 = subst (λ v. IsSeenPut side x2 y2 log2 mode is_luma qp2 levels2 s2 v address old
    new) f p5 in
    let p7 = subst (λ v. IsSeenPut side x2 y2 log2 mode is_luma qp2 levels2 s2 around2 v old
    new) g p6 in
    let p8 = subst (λ v. IsSeenPut side x2 y2 log2 mode is_luma qp2 levels2 s2 around2 address2
    v new) h p7 in
    subst (λ v. IsSeenPut side x2 y2 log2 mode is_luma qp2 levels2 s2 around2 address2 old2 v) i p8

abbrev pub IsInterPut :
    ℕ → ℕ → ℕ → ℕ → Bool → ℕ → List ℤ → Plane → Mv → ℕ → ℕ → List ℕ → List ℕ → Type 0
IsInterPut side x y log2 is_luma qp levels plane mv column row old new =
    IsPut side x y log2 (inter_block log2 is_luma qp levels plane mv column row) old new

pub same_inter_put : (side log2 : ℕ) (is_luma : Bool) (x x2 y y2 qp qp2 : ℕ)
    (levels levels2 : List ℤ) (plane : Plane) (mv : Mv) (column column2 row row2 : ℕ)
    (old old2 new new2 : List ℕ) → x ≡ x2 → y ≡ y2 → qp ≡ qp2 → levels ≡ levels2 →
    column ≡ column2 → row ≡ row2 → old ≡ old2 → new ≡ new2 →
    IsInterPut side x y log2 is_luma qp levels plane mv column row old new →
    IsInterPut side x2 y2 log2 is_luma qp2 levels2 plane mv column2 row2 old2 new2
same_inter_put side log2 is_luma x x2 y y2 qp qp2 levels levels2 plane mv column column2 row row2
    old old2 new new2 a b c d e f g h put =
    let p1 = subst (λ v. IsInterPut side v y log2 is_luma qp levels plane mv column row old new) a
    put in
    let p2 = subst (λ v. IsInterPut side x2 v log2 is_luma qp levels plane mv column row old new) b
    p1 in
    let p3 = subst (λ v. IsInterPut side x2 y2 log2 is_luma v levels plane mv column row old new) c
    p2 in
    let p4 = subst (λ v. IsInterPut side x2 y2 log2 is_luma qp2 v plane mv column row old new) d p3
    in
    let p5 = subst (λ v. IsInterPut side x2 y2 log2 is_luma qp2 levels2 plane mv v row old new) e p4
    in
    let p6 = subst (λ v. IsInterPut side x2 y2 log2 is_luma qp2 levels2 plane mv column2 v old new)
    f p5 in
    let p7 = subst (λ v. IsInterPut side x2 y2 log2 is_luma qp2 levels2 plane mv column2 row2 v new)
    g p6 in
    subst (λ v. IsInterPut side x2 y2 log2 is_luma qp2 levels2 plane mv column2 row2 old2 v) h p7

-- ---- units

pub same_unit_put : (plan : CtbPlan) (place : Site) (near : Neighbours)
    (size size2 address address2 mode mode2 qp qp2 : ℕ) (old new : Samples) → size ≡ size2 →
    address ≡ address2 → mode ≡ mode2 → qp ≡ qp2 →
    IsUnitPut plan place near size address mode qp old new →
    IsUnitPut plan place near size2 address2 mode2 qp2 old new
same_unit_put plan place near size size2 address address2 mode mode2 qp qp2 old new s a m q put =
    subst (λ v. IsUnitPut plan place near size2 address2 mode2 v old new) q
    (subst (λ v. IsUnitPut plan place near size2 address2 v qp old new) m
    (subst (λ v. IsUnitPut plan place near size2 v mode qp old new) a
    (subst (λ v. IsUnitPut plan place near v address mode qp old new) s put)))

pub same_inter_unit_put : (plan : CtbPlan) (place : Site) (reference : Picture)
    (size size2 address address2 : ℕ) (mv mv2 : Mv) (qp qp2 : ℕ) (old new : Samples) →
    size ≡ size2 → address ≡ address2 → mv ≡ mv2 → qp ≡ qp2 →
    IsInterUnitPut plan place size address reference mv qp old new →
    IsInterUnitPut plan place size2 address2 reference mv2 qp2 old new
same_inter_unit_put plan place reference size size2 address address2 mv mv2 qp qp2 old new s a m q
    put =
    subst (λ v. IsInterUnitPut plan place size2 address2 reference mv2 v old new) q
    (subst (λ v. IsInterUnitPut plan place size2 address2 reference v qp old new) m
    (subst (λ v. IsInterUnitPut plan place size2 v reference mv qp old new) a
    (subst (λ v. IsInterUnitPut plan place v address reference mv qp old new) s put)))
