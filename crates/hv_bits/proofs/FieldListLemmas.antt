-- Lists of fields (7.2), put one after another, for `put_fields` and `tables_join`.
use Rattle.std.proofs.Common.{◌≡◌, ℕ, ◌+◌, ◌<◌, List, [], ◌∷◌, ◌++◌, length, take, map, get_or, refl, ap, sym, ◌∙◌, add-one, append-nil}
use Rattle.std.proofs.Math.Seq.{take-suc}
use Rattle.hv_stream_model.specs.Fields.{Field, field_bits, bits_of_fields}
use Rattle.hv_stream_model.specs.FieldLaws.{JoinedFieldsHaveJoinedBits}
use Rattle.hv_bits.specs.Writing.{Written, Appends}
use Rattle.hv_bits.specs.FieldTables.{TablesJoin}
use Rattle.hv_bits.proofs.WritingLemmas.{Appends-then, Appends-same}

map-snoc : {A B : Type 0} (f : A → B) (xs : List A) (x : A) →
    map f (xs ++ x ∷ []) ≡ map f xs ++ f x ∷ []
map-snoc f [] x = refl
map-snoc f (y ∷ ys) x = ap (λ l. f y ∷ l) (map-snoc f ys x)

pub tables_joined : JoinedFieldsHaveJoinedBits → TablesJoin
tables_joined law old middle new fields others a b =
    Appends-same (sym (law fields others)) (Appends-then a b)

-- one field more
pub one_field : JoinedFieldsHaveJoinedBits →
    {A : Type 0} (f : A → Field) (xs : List A) (i : ℕ) (d : A) (old middle new : Written) →
    i < length xs →
    Appends old middle (bits_of_fields (map f (take i xs))) →
    Appends middle new (field_bits (f (get_or xs i d))) →
    Appends old new (bits_of_fields (map f (take (i + 1) xs)))
one_field law f xs i d old middle new h a b =
    let x = get_or xs i d in
    let more : map f (take (i + 1) xs) ≡ map f (take i xs) ++ f x ∷ [] =
    ap (map f) (rw add-one (take-suc xs i d h)) ∙ map-snoc f (take i xs) x in
    let last : Appends middle new (bits_of_fields (f x ∷ [])) =
    Appends-same (sym (append-nil (field_bits (f x)))) b in
    Appends-same (ap bits_of_fields (sym more))
    (tables_joined law old middle new (map f (take i xs)) (f x ∷ []) a last)
