-- Samples and small pictures worked out by hand, against which the generator is compared.
use Rattle.std.proofs.Common.{◌≡◌, [], ◌∷◌, Some, None, refl}
use Rattle.std.specs.List.{flat_map}
use Rattle.hv_lemmas.specs.Lists.{tabulate}
use Rattle.hv_types.specs.Video.{raw}
use Rattle.hv_synth.specs.Generator.{luma, cb, cr, generated_pictures}

-- a is 12 and b is 7: 60 + 21 + 1
moved_once : luma 7 1 10 6 ≡ 82
moved_once = refl

-- the slope along a row: 3 and what is left of the seed by 5
along_a_row : luma 0 0 1 0 ∷ luma 1 0 1 0 ∷ luma 4 0 1 0 ∷ luma 5 0 1 0 ∷ luma 9 0 1
    0 ∷ [] ≡ 3 ∷ 4 ∷ 7 ∷ 3 ∷ 7 ∷ []
along_a_row = refl

-- the slope down a column: 2 and what is left of the seed by 3
down_a_column : luma 0 0 0 1 ∷ luma 1 0 0 1 ∷ luma 2 0 0 1 ∷ luma 3 0 0 1 ∷ luma 5 0 0
    1 ∷ [] ≡ 2 ∷ 3 ∷ 4 ∷ 2 ∷ 4 ∷ []
down_a_column = refl

-- column 8 is 8 slopes, and a step of 1 and what is left of the seed by 7: 24 + 1, 32 + 7, 40 + 1
-- and 48 + 7
first_step : luma 0 0 8 0 ∷ luma 6 0 8 0 ∷ luma 7 0 8 0 ∷ luma 13 0 8 0 ∷ [] ≡ 25 ∷ 39 ∷ 41 ∷ 55 ∷ []
first_step = refl

-- column 7 and row 7 are before it, row 8 is behind it: 35, 21 and 24 + 1
before_the_step : luma 7 0 7 0 ∷ luma 7 0 0 7 ∷ luma 7 0 0 8 ∷ [] ≡ 35 ∷ 21 ∷ 25 ∷ []
before_the_step = refl

-- steps 3 and 1 make 2, and 3 and 3 make 0: 96 + 16 + 2 * 7 and 96 + 48
steps_by_xor : luma 6 0 24 8 ∷ luma 6 0 24 24 ∷ [] ≡ 126 ∷ 144 ∷ []
steps_by_xor = refl

-- a picture on, a is two more and b one more: 6 + 2 and 12 + 4; 168 + 96 + 7 * 5 is 299
later_picture : luma 0 0 0 0 ∷ luma 0 1 0 0 ∷ luma 0 2 0 0 ∷ luma 4 2 20 30 ∷ [] ≡ 0 ∷ 8 ∷ 16 ∷ 43 ∷ []
later_picture = refl

-- 243 + 2 + 10 is the greatest sample, 246 + 10 and 249 + 10 are past it
luma_wraps : luma 0 0 81 1 ∷ luma 0 0 82 0 ∷ luma 0 0 83 0 ∷ [] ≡ 255 ∷ 0 ∷ 3 ∷ []
luma_wraps = refl

cb_by_hand : cb 2 1 3 4 ∷ cb 0 0 255 0 ∷ cb 0 1 255 0 ∷ cb 4294967295 0 0 1 ∷ cb 4294967295 0 0
    0 ∷ [] ≡ 10 ∷ 255 ∷ 0 ∷ 0 ∷ 255 ∷ []
cb_by_hand = refl

cr_by_hand : cr 1 3 4 ∷ cr 0 127 1 ∷ cr 0 127 2 ∷ cr 100 0 0 ∷ [] ≡ 13 ∷ 255 ∷ 0 ∷ 44 ∷ []
cr_by_hand = refl

-- two pictures of four columns and two rows: luma, Cb and Cr of each, by rows
two_pictures : flat_map raw (generated_pictures 4 2 (Some record { seed = 7; pictures = 2 })) ≡
    0 ∷ 5 ∷ 10 ∷ 15 ∷ 3 ∷ 8 ∷ 13 ∷ 18 ∷ 7 ∷ 8 ∷ 0 ∷ 2
    ∷ 13 ∷ 18 ∷ 23 ∷ 28 ∷ 16 ∷ 21 ∷ 26 ∷ 31 ∷ 8 ∷ 9 ∷ 3 ∷ 5 ∷ []
unfolding tabulate
two_pictures = refl

no_generator : generated_pictures 8 8 None ≡ []
no_generator = refl
