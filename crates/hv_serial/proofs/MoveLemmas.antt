-- What loops over a source and a sink have moved so far.
use Rattle.std.proofs.Common.{◌≡◌, ℕ, ◌+◌, ◌-◌, ◌≤◌, List, ◌++◌, length, take, drop, arith, length-append, length-drop, subst, sym, ap, ◌∙◌, refl}
use Rattle.std.specs.Prelude.{Option, Some}
use Rattle.std.proofs.lemmas.List.{take-take, length-take-le}
use Rattle.std.proofs.Math.Seq.{take-append-add, take-length}
use Rattle.std.proofs.lemmas.Slice.{take-put_mid}
use borrow.Rule.Slice.PartMut.{put_mid, post_of}
use Rattle.hv_types.specs.Outside.{Fills, Reads, Writes}
use Rattle.hv_types.proofs.OutsideLemmas.{reads_joined, writes_joined}

-- a buffer that is filled up to a place
pub record IsFilled (before now : Option (List ℕ)) (buffer : List ℕ) (filled : ℕ) : Type 0 where
  pub inside : filled ≤ length buffer
  pub read : (bytes : List ℕ) → before ≡ Some bytes → Fills bytes now buffer filled

-- bytes that are written up to a place
pub record IsWritten (old new : Option (List ℕ)) (bytes : List ℕ) (done : ℕ) : Type 0 where
  pub inside : done ≤ length bytes
  pub wrote : (had : List ℕ) → old ≡ Some had → new ≡ Some (had ++ take done bytes)

inside_lent : (at k n : ℕ) (into part : List ℕ) → at ≤ length into → n ≤ length part →
    at + n ≤ length (put_mid at k into part)
inside_lent at k n into part inside there =
    omega (
      arith,
      length-append (take at into) (part ++ post_of at k into),
      length-append part (post_of at k into),
      length-take-le at into inside,
    )

-- A part of a buffer from `at` on was lent, and holds `part` now: the front of the whole.
take_lent : (into part : List ℕ) (at k n : ℕ) → at ≤ length into → n ≤ length part →
    take (at + n) (put_mid at k into part) ≡ take at into ++ take n part
take_lent into part at k n inside there =
    let whole = take-put_mid at k into part (at + length part) refl inside in
    let len : length (take at into) ≡ at = length-take-le at into inside in
    sym (take-take (at + n) (at + length part) (put_mid at k into part) (omega arith)) ∙
    ap (take (at + n)) whole ∙ ap (λ m. take (m + n) (take at into ++ part)) (sym len) ∙
    take-append-add (take at into) part n

-- one more read into the part of the buffer that is left
pub one_read : (before mid now : Option (List ℕ)) (into part : List ℕ) (at k n : ℕ) →
    IsFilled before mid into at → Reads mid now part n → IsFilled before now (put_mid at k into part) (at + n)
one_read before mid now into part at k n f r = record {
  inside = inside_lent at k n into part f.inside r.room;
  read = λ bytes e. reads_joined bytes mid now into part (put_mid at k into part) at n (f.read bytes e) r
      (take_lent into part at k n f.inside r.room);
}

-- one more write of the part of the bytes that is left
pub one_write : (old mid new : Option (List ℕ)) (bytes part : List ℕ) (at n : ℕ) → part ≡ drop at bytes →
    IsWritten old mid bytes at → Writes mid new part n → IsWritten old new bytes (at + n)
one_write old mid new bytes part at n e f w =
    let w' : Writes mid new (drop at bytes) n = subst (λ (p : List ℕ). Writes mid new p n) e w in
    record {
      inside = omega (arith, w'.there, length-drop at bytes, f.inside);
      wrote = λ had h. writes_joined had bytes mid new at n (f.wrote had h) w';
    }

-- the part of the bytes from a place on, as a slice takes it
pub rest_of_bytes : (bytes : List ℕ) (at : ℕ) → take (length bytes - at) (drop at bytes) ≡ drop at bytes
rest_of_bytes bytes at =
    let e : length bytes - at ≡ length (drop at bytes) = omega (arith, length-drop at bytes) in
    subst (λ (n : ℕ). take n (drop at bytes) ≡ drop at bytes) (sym e) (take-length (drop at bytes))
