-- The units that are found in bytes are those of which the bytes are the stream (Annex B).
use Rattle.std.proofs.Common.{◌≡◌, ◌≢◌, ℕ, zero, suc, ◌+◌, ◌-◌, ◌*◌, ◌/◌, ◌%◌, ◌<◌, ◌≤◌, Bool, true, false, cond, List, [], ◌∷◌, ◌++◌, length, take, drop, refl, sym, ap, ap₂, ◌∙◌, subst, arith, append_assoc, take-append-drop}
use Rattle.std.specs.Prelude.{not, nat_eq, nat_lt, ◌&&◌, Option, Some, None}
use Rattle.std.specs.List.{list_all, starts_with}
use Rattle.std.proofs.lemmas.Bool.{and_parts, eqb-true, eqb-false, ltb-true, not-true}
use Rattle.hv_lemmas.proofs.OptionLemmas.{some_same}
use Rattle.hv_stream_model.specs.BitLaws.{AreBytes}
use Rattle.hv_stream_model.specs.Units.{NalUnit, escape, strip, nal_bytes, last_of, IsUnit, IsByteStream, end, more, is_zero, leading_zero_bytes, unit_length, same_bytes, is_escaped_payload, unit_of, unit_then, is_start_code, units_within}
use Rattle.hv_stream_model.specs.StreamLaws.{StreamsHaveOneList, FoundUnitsMakeTheStream}
use Rattle.hv_stream_model.proofs.UnitLemmas.{streams_read}
use Rattle.hv_stream_model.proofs.ZeroLemmas.{zeros, zeros_zeros}

pub one_list : StreamsHaveOneList
one_list bytes units others s t =
    let these = streams_read bytes units s in
    let those = streams_read bytes others t in
    cc

-- ---- parts of bytes

AreBytes-take : (n : ℕ) (bytes : List ℕ) → AreBytes bytes → AreBytes (take n bytes)
AreBytes-take zero bytes p = tt
AreBytes-take (suc n) [] p = tt
AreBytes-take (suc n) (x ∷ bytes) p = (p.0, AreBytes-take n bytes p.1)

AreBytes-drop : (n : ℕ) (bytes : List ℕ) → AreBytes bytes → AreBytes (drop n bytes)
AreBytes-drop zero bytes p = p
AreBytes-drop (suc n) [] p = tt
AreBytes-drop (suc n) (x ∷ bytes) p = AreBytes-drop n bytes p.1

pub same_bytes-true : (a b : List ℕ) → same_bytes a b ≡ true → a ≡ b
same_bytes-true [] [] e = refl
same_bytes-true [] (y ∷ b) e = absurd cc
same_bytes-true (x ∷ a) [] e = absurd cc
same_bytes-true (x ∷ a) (y ∷ b) e =
    let both = and_parts (nat_eq x y) (same_bytes a b) e in
    ap₂ (λ h t. h ∷ t) (eqb-true x y both.0) (same_bytes-true a b both.1)

only_zeros : (bytes : List ℕ) → list_all is_zero bytes ≡ true → bytes ≡ zeros (length bytes)
only_zeros [] e = refl
only_zeros (x ∷ bytes) e =
    let both = and_parts (is_zero x) (list_all is_zero bytes) e in
    ap₂ (λ h t. h ∷ t) (eqb-true x 0 both.0) (only_zeros bytes both.1)

split_case : (x : ℕ) (bytes : List ℕ) (t : Bool) → is_zero x ≡ t →
    bytes ≡ zeros (leading_zero_bytes bytes) ++ drop (leading_zero_bytes bytes) bytes →
    x ∷ bytes ≡
    zeros (cond t (suc (leading_zero_bytes bytes)) 0) ++
    drop (cond t (suc (leading_zero_bytes bytes)) 0) (x ∷ bytes)
split_case x bytes true e h = ap₂ (λ y ys. y ∷ ys) (eqb-true x 0 e) h
split_case x bytes false e h = refl

-- zero bytes, and what is left
split : (bytes : List ℕ) →
    bytes ≡ zeros (leading_zero_bytes bytes) ++ drop (leading_zero_bytes bytes) bytes
split [] = refl
split (x ∷ bytes) = split_case x bytes (is_zero x) refl (split bytes)

-- ---- one unit

pub record IsUnitOf (bytes : List ℕ) (unit : NalUnit) : Type 0 where
  pub is_unit : IsUnit unit
  pub same : bytes ≡ nal_bytes unit

unit_of_parts : (first second : ℕ) (bytes : List ℕ) → second < 256 → nat_lt first 128 ≡ true →
    not (nat_eq (second % 8) 0) ≡ true → is_escaped_payload bytes ≡ true →
    IsUnitOf (first ∷ second ∷ bytes) (record {
      nal_unit_type = first / 2;
      nuh_layer_id = first % 2 * 32 + second / 8;
      TemporalId = second % 8 - 1;
      payload = strip bytes;
    })
unit_of_parts first second bytes small low some escaped =
    let below : first < 128 = ltb-true first 128 low in
    let tid : second % 8 ≢ 0 = eqb-false (second % 8) 0 (not-true (nat_eq (second % 8) 0) some) in
    let both = and_parts (same_bytes (escape (strip bytes)) bytes)
    (not (nat_eq (last_of (strip bytes)) 0)) escaped in
    let layer : ℕ = first % 2 * 32 + second / 8 in
    let one : first ≡ first / 2 * 2 + layer / 32 = omega arith in
    let two : second ≡ layer % 32 * 8 + (second % 8 - 1) + 1 = omega (arith, tid) in
    record {
      is_unit = record {
        kind = omega arith;
        layer = omega arith;
        temporal = omega arith;
        ends = eqb-false (last_of (strip bytes)) 0
            (not-true (nat_eq (last_of (strip bytes)) 0) both.1);
      };
      same =
          ap₂ (λ x y. x ∷ y ∷ bytes) one two ∙
          ap (λ b. (first / 2 * 2 + layer / 32) ∷ (layer % 32 * 8 + (second % 8 - 1) + 1) ∷ b)
          (sym (same_bytes-true (escape (strip bytes)) bytes both.0));
    }

unit_of_case : (first second : ℕ) (bytes : List ℕ) (unit : NalUnit) (t : Bool) →
    (nat_lt first 128 && not (nat_eq (second % 8) 0) && is_escaped_payload bytes) ≡ t →
    second < 256 →
    cond t (Some (record {
      nal_unit_type = first / 2;
      nuh_layer_id = first % 2 * 32 + second / 8;
      TemporalId = second % 8 - 1;
      payload = strip bytes;
    })) None ≡ Some unit →
    IsUnitOf (first ∷ second ∷ bytes) unit
unit_of_case first second bytes unit true tests small e =
    let all = and_parts (nat_lt first 128 && not (nat_eq (second % 8) 0)) (is_escaped_payload bytes)
    tests in
    let two = and_parts (nat_lt first 128) (not (nat_eq (second % 8) 0)) all.0 in
    subst (λ u. IsUnitOf (first ∷ second ∷ bytes) u) (some_same _ unit e)
    (unit_of_parts first second bytes small two.0 two.1 all.1)
unit_of_case first second bytes unit false tests small e = absurd cc

unit_of_back : (bytes : List ℕ) (unit : NalUnit) → AreBytes bytes → unit_of bytes ≡ Some unit →
    IsUnitOf bytes unit
unit_of_back [] unit p e = absurd cc
unit_of_back (first ∷ []) unit p e = absurd cc
unit_of_back (first ∷ second ∷ bytes) unit p e = unit_of_case first second bytes unit _ refl p.1.0 e

-- ---- the stream

pub record IsJoined (one : Option NalUnit) (rest : Option (List NalUnit))
    (units : List NalUnit) : Type 0 where
  pub first : NalUnit
  pub others : List NalUnit
  pub one_is : one ≡ Some first
  pub rest_is : rest ≡ Some others
  pub all : first ∷ others ≡ units

joined_parts : (one : Option NalUnit) (rest : Option (List NalUnit)) (units : List NalUnit) →
    unit_then one rest ≡ Some units →
    IsJoined one rest units
joined_parts None rest units e = absurd cc
joined_parts (Some unit) None units e = absurd cc
joined_parts (Some unit) (Some others) units e =
    record {
      first = unit;
      others = others;
      one_is = refl;
      rest_is = refl;
      all = some_same (unit ∷ others) units e;
    }

zeros_case : (bytes : List ℕ) (units : List NalUnit) (other : Option (List NalUnit)) (t : Bool) →
    list_all is_zero bytes ≡ t → (other ≡ Some units → IsByteStream bytes units) →
    cond t (Some []) other ≡ Some units → IsByteStream bytes units
zeros_case bytes units other true all h e =
    let none : [] ≡ units = some_same [] units e in
    subst (λ us. IsByteStream bytes us) none
    (subst (λ bs. IsByteStream bs []) (sym (only_zeros bytes all)) (end (length bytes)))
zeros_case bytes units other false all h e = h e

starts_with_one : (bytes : List ℕ) → starts_with nat_eq bytes (1 ∷ []) ≡ true →
    bytes ≡ 1 ∷ drop 1 bytes
starts_with_one [] e = absurd cc
starts_with_one (x ∷ bytes) e =
    ap (λ y. y ∷ bytes) (sym (eqb-true 1 x (and_parts (nat_eq 1 x) true e).0))

code_case : (P : Type 0) (test : Bool) (o : Option (List NalUnit)) (units : List NalUnit)
    (t : Bool) → test ≡ t →
    (test ≡ true → o ≡ Some units → P) → cond t o None ≡ Some units → P
code_case P test o units true e h s = h e s
code_case P test o units false e h s = absurd cc

regroup : (a nal rest : List ℕ) →
    (a ++ 0 ∷ 0 ∷ []) ++ 1 ∷ (nal ++ rest) ≡ a ++ (0 ∷ 0 ∷ 1 ∷ nal) ++ rest
regroup a nal rest = simp append_assoc

-- zero bytes, a start code prefix, a unit and a stream
joined_stream : (bytes after : List ℕ) (zero_bytes n : ℕ) (units others : List NalUnit)
    (unit : NalUnit) →
    bytes ≡ zeros zero_bytes ++ 1 ∷ after → 2 ≤ zero_bytes → IsUnitOf (take n after) unit →
    IsByteStream (drop n after) others → unit ∷ others ≡ units → IsByteStream bytes units
joined_stream bytes after zero_bytes n units others unit shape two u s all =
    let count : (zero_bytes - 2) + 2 ≡ zero_bytes = omega arith in
    let front : zeros zero_bytes ≡ zeros (zero_bytes - 2) ++ 0 ∷ 0 ∷ [] =
    ap zeros (sym count) ∙ sym (zeros_zeros (zero_bytes - 2) 2) in
    let behind : after ≡ nal_bytes unit ++ drop n after =
    sym (take-append-drop n after) ∙ ap (λ b. b ++ drop n after) u.same in
    let given : bytes ≡ zeros (zero_bytes - 2) ++ (0 ∷ 0 ∷ 1 ∷ nal_bytes unit) ++ drop n after =
    shape ∙ ap₂ (λ z b. z ++ 1 ∷ b) front behind ∙
    regroup (zeros (zero_bytes - 2)) (nal_bytes unit) (drop n after) in
    subst (λ us. IsByteStream bytes us) all
    (subst (λ bs. IsByteStream bs (unit ∷ others)) (sym given)
    (more (zero_bytes - 2) unit u.is_unit s))

found : (most : ℕ) (bytes : List ℕ) (units : List NalUnit) → AreBytes bytes →
    units_within most bytes ≡ Some units →
    IsByteStream bytes units
found zero bytes units p e =
    zeros_case bytes units None (list_all is_zero bytes) refl (λ h. absurd cc) e
found (suc most) bytes units p e =
    let zero_bytes : ℕ = leading_zero_bytes bytes in
    let rest : List ℕ = drop zero_bytes bytes in
    let after : List ℕ = drop 1 rest in
    let n : ℕ = unit_length after in
    let these : AreBytes after = AreBytes-drop 1 rest (AreBytes-drop zero_bytes bytes p) in
    let joined : Option (List NalUnit) =
    unit_then (unit_of (take n after)) (units_within most (drop n after)) in
    let code : Bool = is_start_code zero_bytes rest in
    zeros_case bytes units (cond code joined None) (list_all is_zero bytes) refl
    (λ h. code_case (IsByteStream bytes units) code joined units code refl
    (λ c k.
    let both = and_parts (nat_lt 1 zero_bytes) (starts_with nat_eq rest (1 ∷ [])) c in
    let j = joined_parts (unit_of (take n after)) (units_within most (drop n after)) units k in
    let two : 1 < zero_bytes = ltb-true 1 zero_bytes both.0 in
    joined_stream bytes after zero_bytes n units j.others j.first
    (split bytes ∙ ap (λ b. zeros zero_bytes ++ b) (starts_with_one rest both.1)) (omega arith)
    (unit_of_back (take n after) j.first (AreBytes-take n after these) j.one_is)
    (found most (drop n after) j.others (AreBytes-drop n after these) j.rest_is) j.all) h) e

pub found_stream : FoundUnitsMakeTheStream
found_stream bytes units p e = found (length bytes) bytes units p e
