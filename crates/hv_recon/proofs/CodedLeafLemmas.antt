-- A leaf that is coded: where it lies, its first unit in the plan, and its four transform units
-- where it is of 64x64.
use Rattle.std.proofs.Common.{◌≡◌, ℕ, zero, suc, ◌+◌, ◌-◌, ◌%◌, ◌^◌, ◌<◌, ◌≤◌, List, ◌∷◌, ◌++◌, length, take, drop, replicate, get_or, sym, ap, subst, ◌∙◌, arith, length-append}
use Rattle.std.specs.Prelude.{Some, slice_get}
use Rattle.std.proofs.Math.Dec.{lit≤}
use Rattle.std.proofs.lemmas.List.{length-take-le, get_or-append_right}
use Rattle.std.proofs.lemmas.Option.{slice_get-get_or}
use Rattle.hv_types.specs.declared.picture.Picture.{Picture}
use Rattle.hv_block.specs.declared.edges.Neighbours.{Neighbours}
use Rattle.hv_block.specs.Plans.{CtbPlan, with_units}
use Rattle.hv_block.specs.Samples.{Samples}
use Rattle.hv_plan.specs.declared.prediction.Unit.{Unit}
use Rattle.hv_tree_model.specs.Trees.{side}
use Rattle.hv_tree_model.specs.Sites.{Site, column_of, row_of, x0, y0, squares}
use Rattle.hv_recon.specs.CodedUnits.{IsUnitCoded, AreQuartersCoded, KeepsEarlier}
use Rattle.hv_recon.specs.Units.{AreQuartersPut}
use Rattle.hv_recon.proofs.CodedUnitLemmas.{unit_kept}

-- a node lies in its block
pub node_fits : (size address : ℕ) → size ≤ 3 → address < 64 → address % squares size ≡ 0 →
    address + 4 ^ size ≤ 64
node_fits zero address few below even = omega (arith, below)
node_fits (suc zero) address few below even =
    let node : address % 4 ≡ 0 = even in omega (arith, below, node)
node_fits (suc (suc zero)) address few below even =
    let node : address % 16 ≡ 0 = even in omega (arith, below, node)
node_fits (suc (suc (suc zero))) address few below even =
    let node : address % 64 ≡ 0 = even in omega (arith, below, node)
node_fits (suc (suc (suc (suc size)))) address few below even = absurd (omega (arith, few))

pub some_squares : (size : ℕ) → size ≤ 3 → 1 ≤ 4 ^ size
some_squares zero few = lit≤ tt
some_squares (suc zero) few = lit≤ tt
some_squares (suc (suc zero)) few = lit≤ tt
some_squares (suc (suc (suc zero))) few = lit≤ tt
some_squares (suc (suc (suc (suc size)))) few = absurd (omega (arith, few))

-- the first of units that are written
first_written : (units : List Unit) (from count : ℕ) (unit : Unit) → from ≤ length units →
    1 ≤ count → slice_get (with_units units from count unit) from ≡ Some unit
first_written units from zero unit room some = absurd (omega (arith, some))
first_written units from (suc count) unit room some =
    let start : length (take from units) ≡ from = length-take-le from units room in
    let rest : List Unit = unit ∷ (replicate count unit ++ drop (from + suc count) units) in
    let none : from - from ≡ 0 = omega arith in
    slice_get-get_or (take from units ++ rest) from unit
    (omega (arith, start, length-append (take from units) rest)) ∙
    ap Some
    (get_or-append_right (take from units) rest from from unit start (omega arith) ∙
    ap (λ i. get_or rest i unit) none)

pub leaf_unit : (units new : List Unit) (size address : ℕ) (unit : Unit) → size ≤ 3 →
    address ≤ length units → new ≡ with_units units address (4 ^ size) unit →
    slice_get new address ≡ Some unit
leaf_unit units new size address unit few room is =
    ap (λ l. slice_get l address) is ∙
    first_written units address (4 ^ size) unit room (some_squares size few)

-- ---- the four transform units of a leaf of 64x64

-- by the numbers that name a unit
pub same_unit : (input : Picture) (plan : CtbPlan) (place : Site) (near : Neighbours)
    (size size2 address address2 mode mode2 qp qp2 : ℕ) (old new : Samples) → size ≡ size2 →
    address ≡ address2 → mode ≡ mode2 → qp ≡ qp2 →
    IsUnitCoded input plan place near size address mode qp old new →
    IsUnitCoded input plan place near size2 address2 mode2 qp2 old new
same_unit input plan place near size size2 address address2 mode mode2 qp qp2 old new s a m q
    coded =
    subst (λ v. IsUnitCoded input plan place near size2 address2 mode2 v old new) q
    (subst (λ v. IsUnitCoded input plan place near size2 address2 v qp old new) m
    (subst (λ v. IsUnitCoded input plan place near size2 v mode qp old new) a
    (subst (λ v. IsUnitCoded input plan place near v address mode qp old new) s coded)))

-- where they end in the picture
pub record QuarterEnds (place : Site) (address : ℕ) : Type 0 where
  pub right : x0 place address + 32 ≤ x0 place 0 + 64
  pub bottom : y0 place address + 32 ≤ y0 place 0 + 64

pub second_ends : (place : Site) → QuarterEnds place 16
unfolding column_of row_of
second_ends place = record { right = omega arith; bottom = omega arith }

pub third_ends : (place : Site) → QuarterEnds place 32
unfolding column_of row_of
third_ends place = record { right = omega arith; bottom = omega arith }

pub fourth_ends : (place : Site) → QuarterEnds place 48
unfolding column_of row_of
fourth_ends place = record { right = omega arith; bottom = omega arith }

pub quarter_inside : (place : Site) (address address2 size : ℕ) → QuarterEnds place address2 →
    address ≡ address2 → size ≡ 2 → x0 place 0 + side 3 ≤ place.width →
    y0 place 0 + side 3 ≤ place.height →
    (x0 place address + side size ≤ place.width) × (y0 place address + side size ≤ place.height)
quarter_inside place address address2 size ends here two right bottom = (
  subst (λ n. x0 place address + side n ≤ place.width) (sym two)
      (subst (λ a. x0 place a + 32 ≤ place.width) (sym here) (omega (arith, ends.right, right))),
  subst (λ n. y0 place address + side n ≤ place.height) (sym two)
      (subst (λ a. y0 place a + 32 ≤ place.height) (sym here) (omega (arith, ends.bottom, bottom))),
)

pub quarters_coded : (input : Picture) (place : Site) (near : Neighbours) (mode qp : ℕ)
    (p1 p2 p3 p4 : CtbPlan) (s0 s1 s2 s3 s4 : Samples) →
    IsUnitCoded input p1 place near 2 0 mode qp s0 s1 →
    KeepsEarlier 16 p1 p2 → IsUnitCoded input p2 place near 2 16 mode qp s1 s2 →
    KeepsEarlier 32 p2 p3 → IsUnitCoded input p3 place near 2 32 mode qp s2 s3 →
    KeepsEarlier 48 p3 p4 → IsUnitCoded input p4 place near 2 48 mode qp s3 s4 →
    AreQuartersCoded input p4 place near mode qp s0 s4
quarters_coded input place near mode qp p1 p2 p3 p4 s0 s1 s2 s3 s4 a k b l c m d = record {
  first = s1;
  second = s2;
  third = s3;
  first_coded = unit_kept input place near mode qp 0 48 p3 p4 s0 s1 (lit≤ tt) m
      (unit_kept input place near mode qp 0 32 p2 p3 s0 s1 (lit≤ tt) l
      (unit_kept input place near mode qp 0 16 p1 p2 s0 s1 (lit≤ tt) k a));
  second_coded = unit_kept input place near mode qp 16 48 p3 p4 s1 s2 (lit≤ tt) m
      (unit_kept input place near mode qp 16 32 p2 p3 s1 s2 (lit≤ tt) l b);
  third_coded = unit_kept input place near mode qp 32 48 p3 p4 s2 s3 (lit≤ tt) m c;
  fourth_coded = d;
}

pub quarters_put : (input : Picture) (plan : CtbPlan) (place : Site) (near : Neighbours)
    (mode qp : ℕ) (old new : Samples) →
    AreQuartersCoded input plan place near mode qp old new →
    AreQuartersPut plan place near mode qp old new
quarters_put input plan place near mode qp old new coded = record {
  first = coded.first;
  second = coded.second;
  third = coded.third;
  first_put = coded.first_coded.put;
  second_put = coded.second_coded.put;
  third_put = coded.third_coded.put;
  fourth_put = coded.fourth_coded.put;
}
