-- Worked structures of groups: orders, depths, a reference set and a quantiser.
use Rattle.std.proofs.Common.{◌≡◌, refl, ℕ, Bool, true, false, [], ◌∷◌, map}
use Rattle.hv_group_model.specs.Structure.{coding, Kept, reference_set, qp_at, coded_of}

-- ten pictures at three levels
ten_in_order : map (λ c. c.picture) (coding 10 3) ≡ 0 ∷ 8 ∷ 4 ∷ 2 ∷ 1 ∷ 3 ∷ 6 ∷ 5 ∷ 7 ∷ 9 ∷ []
ten_in_order = refl

ten_depths : map (λ c. c.depth) (coding 10 3) ≡ 0 ∷ 1 ∷ 2 ∷ 3 ∷ 4 ∷ 4 ∷ 3 ∷ 4 ∷ 4 ∷ 1 ∷ []
ten_depths = refl

abbrev pub kept : ℕ → Bool → Kept
kept distance is_used = record { distance = distance; is_used = is_used }

fourth_of_ten :
    reference_set 10 3 3 ≡
    record { before = kept 1 true ∷ []; after = kept 1 true ∷ kept 5 false ∷ [] }
fourth_of_ten = refl

fourth_quantiser : qp_at 32 (coded_of 10 3 3).depth ≡ 36
fourth_quantiser = refl

one_picture : map (λ c. c.picture) (coding 1 3) ≡ 0 ∷ []
one_picture = refl

-- the last block of 64 pictures
last_block :
    map (λ c. c.picture) (coding 64 3) ≡
    0 ∷ 8 ∷ 4 ∷ 2 ∷ 1 ∷ 3 ∷ 6 ∷ 5 ∷ 7 ∷ 16 ∷ 12 ∷ 10 ∷ 9 ∷ 11 ∷ 14 ∷ 13 ∷ 15 ∷
    24 ∷ 20 ∷ 18 ∷ 17 ∷ 19 ∷ 22 ∷ 21 ∷ 23 ∷ 32 ∷ 28 ∷ 26 ∷ 25 ∷ 27 ∷ 30 ∷ 29 ∷ 31 ∷
    40 ∷ 36 ∷ 34 ∷ 33 ∷ 35 ∷ 38 ∷ 37 ∷ 39 ∷ 48 ∷ 44 ∷ 42 ∷ 41 ∷ 43 ∷ 46 ∷ 45 ∷ 47 ∷
    56 ∷ 52 ∷ 50 ∷ 49 ∷ 51 ∷ 54 ∷ 53 ∷ 55 ∷ 63 ∷ 59 ∷ 57 ∷ 58 ∷ 61 ∷ 60 ∷ 62 ∷ []
last_block = refl
