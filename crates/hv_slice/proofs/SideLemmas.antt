-- One side of a reference set (7.3.7), an entry at a time, for `put_side` and `put_set`.
use Rattle.std.proofs.Common.{◌≡◌, ℕ, ◌+◌, ◌-◌, ◌<◌, ◌≤◌, List, [], ◌∷◌, ◌++◌, length, drop, get_or, refl, sym, ap, ap₂, ◌∙◌, subst, append_assoc, append-nil, Bool, true, false}
use Rattle.std.specs.Int.RustNames.{unsigned_abs}
use Rattle.std.proofs.lemmas.List.{drop_more, drop_all, length-map}
use mir.Val.{bool_byte}
use Rattle.hv_bits.specs.Writing.{Written, Appends}
use Rattle.hv_bits.specs.FieldTables.{TablesJoin}
use Rattle.hv_stream_model.specs.Fields.{Field, bits_of_fields, ue, u}
use Rattle.hv_stream_model.specs.Headers.{side_fields, set_fields, bit_of}
use Rattle.hv_stream_model.specs.HeaderLaws.{Rise}
use Rattle.hv_decision.specs.declared.row.SetEntry.{SetEntry}
use Rattle.hv_slice.specs.Entries.{kept_of, side_of, set_of}

-- the entries before the place i were put, the last of them at this distance
pub record IsPutTo (old new : Written) (side : List SetEntry) (i last : ℕ) : Type 0 where
  pub done : List Field
  pub put : Appends old new (bits_of_fields done)
  pub rest : done ++ side_fields last (side_of (drop i side)) ≡ side_fields 0 (side_of side)
  pub rise : Rise last (side_of (drop i side))

pub none_put : (w : Written) (side : List SetEntry) → Rise 0 (side_of side) → IsPutTo w w side 0 0
none_put w side h = record {
  done = [];
  put = record { unfailed = λ e. e; bits = λ e. sym (append-nil w.bits) };
  rest = refl;
  rise = h;
}

rise_here : (side : List SetEntry) (i last : ℕ) (d : SetEntry) → i < length side →
    Rise last (side_of (drop i side)) → Rise last (side_of (get_or side i d ∷ drop (i + 1) side))
rise_here side i last d h r = subst (λ s. Rise last (side_of s)) (drop_more side i d h) r

pub one_put : TablesJoin → (side : List SetEntry) (i last distance gap flag : ℕ) (d : SetEntry)
    (old middle new : Written) → i < length side → IsPutTo old middle side i last →
    distance ≡ unsigned_abs (get_or side i d).delta → gap ≡ distance - last - 1 →
    flag ≡ bit_of (get_or side i d).used →
    Appends middle new (bits_of_fields (ue gap ∷ u 1 flag ∷ [])) →
    IsPutTo old new side (i + 1) distance
one_put join side i last distance gap flag d old middle new h p ed eg ef a =
    let entry : SetEntry = get_or side i d in
    let far : ℕ = unsigned_abs entry.delta in
    let two : List Field = ue (far - last - 1) ∷ u 1 (bit_of entry.used) ∷ [] in
    let others : List Field = side_fields far (side_of (drop (i + 1) side)) in
    let here : side_fields last (side_of (drop i side)) ≡ two ++ others =
    ap (λ s. side_fields last (side_of s)) (drop_more side i d h) in
    let same : ue gap ∷ u 1 flag ∷ [] ≡ two =
    ap₂ (λ g f. ue g ∷ u 1 f ∷ []) (eg ∙ ap (λ x. x - last - 1) ed) ef in
    subst (λ x. IsPutTo old new side (i + 1) x) (sym ed) (record {
      done = p.done ++ two;
      put = join old middle new p.done two p.put
          (subst (λ f. Appends middle new (bits_of_fields f)) same a);
      rest = append_assoc p.done two others ∙ ap (λ f. p.done ++ f) (sym here) ∙ p.rest;
      rise = (rise_here side i last d h p.rise).1;
    })

pub flag_is : (b : Bool) (n : ℕ) → n ≡ bool_byte b → n ≡ bit_of b
flag_is true n e = e
flag_is false n e = e

pub all_put : (side : List SetEntry) (i last : ℕ) (old new : Written) → length side ≤ i →
    IsPutTo old new side i last → Appends old new (bits_of_fields (side_fields 0 (side_of side)))
all_put side i last old new h p =
    let none : side_fields last (side_of (drop i side)) ≡ [] =
    ap (λ s. side_fields last (side_of s)) (drop_all i side h) in
    subst (λ f. Appends old new (bits_of_fields f))
    (sym (append-nil p.done) ∙ ap (λ f. p.done ++ f) (sym none) ∙ p.rest) p.put

-- ---- how many are used

-- the counts, and both sides
pub both_put : TablesJoin → (before after : List SetEntry) (n m : ℕ)
    (old first second new : Written) →
    n ≡ length before → m ≡ length after →
    Appends old first (bits_of_fields (ue n ∷ ue m ∷ [])) →
    Appends first second (bits_of_fields (side_fields 0 (side_of before))) →
    Appends second new (bits_of_fields (side_fields 0 (side_of after))) →
    Appends old new (bits_of_fields (set_fields (set_of before after)))
both_put join before after n m old first second new en em a b c =
    let counts : List Field = ue n ∷ ue m ∷ [] in
    let left : List Field = side_fields 0 (side_of before) in
    let right : List Field = side_fields 0 (side_of after) in
    let same : ue n ∷ ue m ∷ (left ++ right) ≡ set_fields (set_of before after) =
    ap₂ (λ x y. ue x ∷ ue y ∷ (left ++ right)) (en ∙ sym (length-map before kept_of))
    (em ∙ sym (length-map after kept_of)) in
    subst (λ f. Appends old new (bits_of_fields f)) same
    (join old second new (counts ++ left) right (join old first second counts left a b) c)
