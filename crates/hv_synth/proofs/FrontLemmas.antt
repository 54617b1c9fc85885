-- Which pictures stand in the first bytes of whole pictures.
use Rattle.std.proofs.Common.{◌≡◌, ℕ, ◌+◌, ◌*◌, ◌/◌, ◌%◌, ◌<◌, ◌≤◌, List, [], ◌++◌, length, take, drop, sym, ◌∙◌, ap, arith, append-nil, length-drop}
use Rattle.std.specs.Prelude.{All}
use Rattle.std.specs.List.{flat_map}
use Rattle.std.proofs.Math.Nat.{le_of_mul-le-mul_right}
use Rattle.std.proofs.Math.Seq.{take-append-add}
use Rattle.std.proofs.lemmas.Grind.{flat_map-append}
use Rattle.std.proofs.lemmas.List.{length-take, length-take-le, take-append-drop}
use Rattle.std.proofs.lemmas.List.Elements.{All-take}
use Rattle.std.proofs.lemmas.Nat.{div-add-mod', mod_below}
use Rattle.hv_lemmas.proofs.ListLemmas.{length-tabulate}
use Rattle.hv_types.specs.Configuration.{picture_bytes_of}
use Rattle.hv_types.specs.Video.{IsPicture, raw, pictures}
use Rattle.hv_types.specs.VideoLaws.{ReadAs}
use Rattle.hv_types.specs.declared.picture.Picture.{Picture}
use Rattle.hv_types.proofs.VideoLemmas.{pictures_read_back}

-- their bytes read back are they, so there is no other number of bytes
pub length-whole : (w h : ℕ) (ps : List Picture) → All (IsPicture w h) ps →
    0 < picture_bytes_of w h → length (flat_map raw ps) ≡ length ps * picture_bytes_of w h
length-whole w h ps all some =
    let p : ℕ = picture_bytes_of w h in
    let bytes : List ℕ = flat_map raw ps ++ [] in
    let back : ReadAs w h ps [] bytes = pictures_read_back w h ps [] all some in
    let count : length bytes / p ≡ length ps =
    sym (length-tabulate _ _) ∙ ap (λ x. length x) back.pictures_again in
    let none : length (drop (length bytes / p * p) bytes) ≡ 0 =
    ap (λ x. length x) back.rest_again in
    let total : length (flat_map raw ps) ≡ length bytes =
    ap (λ x. length x) (sym (append-nil (flat_map raw ps))) in
    let whole : length bytes ≡ length bytes / p * p =
    omega (arith, none, length-drop (length bytes / p * p) bytes, div-add-mod' (length bytes) p) in
    total ∙ whole ∙ ap (λ k. k * p) count

pub front_pictures : (w h n : ℕ) (ps : List Picture) → All (IsPicture w h) ps →
    0 < picture_bytes_of w h → n ≤ length (flat_map raw ps) →
    pictures w h (take n (flat_map raw ps)) ≡ take (n / picture_bytes_of w h) ps
front_pictures w h n ps all some there =
    let p : ℕ = picture_bytes_of w h in
    let k : ℕ = n / p in
    let r : ℕ = n % p in
    let front : List ℕ = flat_map raw (take k ps) in
    let behind : List ℕ = flat_map raw (drop k ps) in
    let short : r < p = mod_below n p some in
    let few : k ≤ length ps =
    le_of_mul-le-mul_right {m = k} {n = length ps} {k = p}
    (omega (arith, div-add-mod' n p, there, length-whole w h ps all some)) some in
    let size : length front ≡ k * p =
    length-whole w h (take k ps) (All-take (IsPicture w h) k ps all) some ∙
    ap (λ m. m * p) (length-take-le k ps few) in
    let parts : flat_map raw ps ≡ front ++ behind =
    ap (flat_map raw) (sym (take-append-drop k ps)) ∙
    flat_map-append raw (take k ps) (drop k ps) in
    let at : n ≡ length front + r = omega (arith, size, div-add-mod' n p) in
    let cut : take n (flat_map raw ps) ≡ front ++ take r behind =
    ap (λ m. take m (flat_map raw ps)) at ∙ ap (take (length front + r)) parts ∙
    take-append-add front behind r in
    ap (pictures w h) cut ∙
    (pictures_read_back w h (take k ps) (take r behind) (All-take (IsPicture w h) k ps all)
    (omega (arith, short, length-take r behind))).pictures_again
