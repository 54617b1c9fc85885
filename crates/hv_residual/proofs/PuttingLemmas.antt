-- Laws of what is put: nothing, one part after another, and the rest of a whole.
use Rattle.std.proofs.Common.{◌≡◌, ℕ, Bool, List, [], ◌∷◌, ◌++◌, map, refl, sym, ap, ◌∙◌, subst, append_assoc, append-nil}
use Rattle.std.proofs.lemmas.List.{map-append}
use Rattle.hv_tables.specs.declared.bins.Ctx.{Ctx}
use Rattle.hv_tables.specs.declared.bins.SliceKind.{SliceKind}
use Rattle.hv_tables.specs.Bins.{Bin}
use Rattle.hv_residual_model.specs.UnitBins.{UnitQuestion, ByContext, unit_bin, UnitBin, PutsUnit, slice_bin}
use Rattle.hv_residual.specs.Putting.{Going}

abbrev pub Stands : Type 0 → Type 1
Stands S = S → SliceKind → ℕ → List Bin → Type 0

pub puts_nothing : {S : Type 0} (stands : Stands S) (a : S) → PutsUnit stands a a []
puts_nothing stands a kind qp before h =
    subst (λ (xs : List Bin). stands a kind qp xs) (sym (append-nil before)) h

pub puts_both : {S : Type 0} (stands : Stands S) (a b c : S) (xs ys : List UnitBin) →
    PutsUnit stands a b xs → PutsUnit stands b c ys → PutsUnit stands a c (xs ++ ys)
puts_both stands a b c xs ys f g kind qp before h =
    let joined : (before ++ map slice_bin xs) ++ map slice_bin ys ≡ before ++ map slice_bin (xs ++ ys) =
    append_assoc before (map slice_bin xs) (map slice_bin ys) ∙
    ap (λ (zs : List Bin). before ++ zs) (sym (map-append slice_bin xs ys)) in
    subst (λ (zs : List Bin). stands c kind qp zs) joined
    (g kind qp (before ++ map slice_bin xs) (f kind qp before h))

-- the same bins
pub puts_same : {S : Type 0} (stands : Stands S) (a b : S) (xs ys : List UnitBin) →
    xs ≡ ys → PutsUnit stands a b xs → PutsUnit stands a b ys
puts_same stands a b xs ys e p = subst (λ (zs : List UnitBin). PutsUnit stands a b zs) e p

-- a bin whose context is known
pub puts_bin : {S : Type 0} (stands : Stands S) (a b : S) (c : Ctx) (q : UnitQuestion) (v : Bool) →
    ByContext c ≡ q → PutsUnit stands a b (unit_bin (ByContext c) v ∷ []) →
    PutsUnit stands a b (unit_bin q v ∷ [])
puts_bin stands a b c q v e p =
    puts_same stands a b (unit_bin (ByContext c) v ∷ []) (unit_bin q v ∷ [])
    (ap (λ (r : UnitQuestion). unit_bin r v ∷ []) e) p

-- no bins, and the sink as it was
pub puts_none : {S : Type 0} (stands : Stands S) (a : S) (xs : List UnitBin) →
    xs ≡ [] → PutsUnit stands a a xs
puts_none stands a xs e = puts_same stands a a [] xs (sym e) (puts_nothing stands a)

pub going_start : {S : Type 0} (stands : Stands S) (a : S) (all : List UnitBin) →
    Going stands a a all all
going_start stands a all = record { done = []; puts = puts_nothing stands a; left = refl }

going_on : {S : Type 0} (stands : Stands S) (a b c : S) (xs rest all : List UnitBin) →
    Going stands a b (xs ++ rest) all → PutsUnit stands b c xs → Going stands a c rest all
going_on stands a b c xs rest all g p = record {
  done = g.done ++ xs;
  puts = puts_both stands a b c g.done xs g.puts p;
  left = append_assoc g.done xs rest ∙ g.left;
}

going_end : {S : Type 0} (stands : Stands S) (a b : S) (all : List UnitBin) →
    Going stands a b [] all → PutsUnit stands a b all
going_end stands a b all g = puts_same stands a b g.done all (sym (append-nil g.done) ∙ g.left) g.puts

-- one part more, where the rest begins with it
pub going_by : {S : Type 0} (stands : Stands S) (a b c : S) (xs from rest all : List UnitBin) →
    Going stands a b from all → from ≡ xs ++ rest → PutsUnit stands b c xs → Going stands a c rest all
going_by stands a b c xs from rest all g e p =
    going_on stands a b c xs rest all
    (subst (λ (r : List UnitBin). Going stands a b r all) e g) p

-- nothing is left
pub going_done : {S : Type 0} (stands : Stands S) (a b : S) (from all : List UnitBin) →
    Going stands a b from all → from ≡ [] → PutsUnit stands a b all
going_done stands a b from all g e =
    going_end stands a b all (subst (λ (r : List UnitBin). Going stands a b r all) e g)
