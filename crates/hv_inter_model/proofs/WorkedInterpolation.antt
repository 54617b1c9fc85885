-- Worked samples of interpolation (8.5.3.3.3, 8.5.3.3.4.2).
use Rattle.std.proofs.Common.{◌≡◌, refl, ℕ, Bool, true, false, List, [], ◌∷◌, ◌++◌, map, replicate, pos, ℤ}
use Rattle.hv_lemmas.specs.Lists.{tabulate}
use Rattle.hv_types.specs.Samples.{Plane, plane_by_rows}
use Rattle.hv_plan.specs.declared.prediction.Mv.{Mv}
use Rattle.hv_inter_model.specs.Interpolation.{inter_sample, inter_predicted, minus}

abbrev vector : ℤ → ℤ → Mv
vector x y = record { x = x; y = y }

-- a row of samples, and a column
abbrev row : List ℕ → Plane
row samples = plane_by_rows 16 1 samples

abbrev column : List ℕ → Plane
column samples = plane_by_rows 1 16 samples

-- the samples 4 to 11 of a row, predicted by a vector to the right, and of a column by one
-- downwards
abbrev along : Bool → ℤ → List ℕ → List ℕ
along is_luma mv samples =
    map (λ x. inter_sample is_luma (row samples) (vector mv (pos 0)) x 0)
    (4 ∷ 5 ∷ 6 ∷ 7 ∷ 8 ∷ 9 ∷ 10 ∷ 11 ∷ [])

abbrev down : Bool → ℤ → List ℕ → List ℕ
down is_luma mv samples =
    map (λ y. inter_sample is_luma (column samples) (vector (pos 0) mv) 0 y)
    (4 ∷ 5 ∷ 6 ∷ 7 ∷ 8 ∷ 9 ∷ 10 ∷ 11 ∷ [])

-- one sample in place 8 among fifteen others
abbrev one : ℕ → ℕ → List ℕ
one others v = replicate 8 others ++ v ∷ replicate 7 others

-- ---- taps. The sample 192 stands among others of 128, so each predicted sample is 128 and the tap
-- for place 8. Of the samples 4 to 11 it is the tap of the place 4, 3, .. -3 behind the whole one.

abbrev spike : List ℕ
spike = one 128 192

luma_whole : along true (pos 0) spike ≡ 128 ∷ 128 ∷ 128 ∷ 128 ∷ 192 ∷ 128 ∷ 128 ∷ 128 ∷ []
luma_whole = refl

-- 0, 1, -5, 17, 58, -10, 4, -1
luma_quarter : along true (pos 1) spike ≡ 128 ∷ 129 ∷ 123 ∷ 145 ∷ 186 ∷ 118 ∷ 132 ∷ 127 ∷ []
luma_quarter = refl

luma_quarter_down : down true (pos 1) spike ≡ 128 ∷ 129 ∷ 123 ∷ 145 ∷ 186 ∷ 118 ∷ 132 ∷ 127 ∷ []
luma_quarter_down = refl

-- -1, 4, -11, 40, 40, -11, 4, -1
luma_half : along true (pos 2) spike ≡ 127 ∷ 132 ∷ 117 ∷ 168 ∷ 168 ∷ 117 ∷ 132 ∷ 127 ∷ []
luma_half = refl

luma_half_down : down true (pos 2) spike ≡ 127 ∷ 132 ∷ 117 ∷ 168 ∷ 168 ∷ 117 ∷ 132 ∷ 127 ∷ []
luma_half_down = refl

-- -1, 4, -10, 58, 17, -5, 1, 0
luma_three_quarters : along true (pos 3) spike ≡ 127 ∷ 132 ∷ 118 ∷ 186 ∷ 145 ∷ 123 ∷ 129 ∷ 128 ∷ []
luma_three_quarters = refl

luma_three_quarters_down :
    down true (pos 3) spike ≡ 127 ∷ 132 ∷ 118 ∷ 186 ∷ 145 ∷ 123 ∷ 129 ∷ 128 ∷ []
luma_three_quarters_down = refl

-- of chroma the samples 6 to 9 have one: that of the place 2, 1, 0 and -1 behind the whole one
abbrev four : ℕ → ℕ → ℕ → ℕ → List ℕ
four a b c d = 128 ∷ 128 ∷ a ∷ b ∷ c ∷ d ∷ 128 ∷ 128 ∷ []

-- -2, 10, 58, -2
chroma_1 : along false (pos 1) spike ≡ four 126 138 186 126
chroma_1 = refl

-- -2, 16, 54, -4
chroma_2 : along false (pos 2) spike ≡ four 126 144 182 124
chroma_2 = refl

-- -4, 28, 46, -6
chroma_3 : along false (pos 3) spike ≡ four 124 156 174 122
chroma_3 = refl

-- -4, 36, 36, -4
chroma_4 : along false (pos 4) spike ≡ four 124 164 164 124
chroma_4 = refl

-- -6, 46, 28, -4
chroma_5 : along false (pos 5) spike ≡ four 122 174 156 124
chroma_5 = refl

-- -4, 54, 16, -2
chroma_6 : along false (pos 6) spike ≡ four 124 182 144 126
chroma_6 = refl

-- -2, 58, 10, -2
chroma_7 : along false (pos 7) spike ≡ four 126 186 138 126
chroma_7 = refl

chroma_3_down : down false (pos 3) spike ≡ four 124 156 174 122
chroma_3_down = refl

-- ---- whole parts. A quarter before place x is three quarters behind x - 1.

before_by_one : along true (minus 1) spike ≡ 128 ∷ 127 ∷ 132 ∷ 118 ∷ 186 ∷ 145 ∷ 123 ∷ 129 ∷ []
before_by_one = refl

before_by_five : along true (minus 5) spike ≡ 128 ∷ 128 ∷ 127 ∷ 132 ∷ 118 ∷ 186 ∷ 145 ∷ 123 ∷ []
before_by_five = refl

above_by_one : down true (minus 1) spike ≡ 128 ∷ 127 ∷ 132 ∷ 118 ∷ 186 ∷ 145 ∷ 123 ∷ 129 ∷ []
above_by_one = refl

behind_by_five : along true (pos 5) spike ≡ 129 ∷ 123 ∷ 145 ∷ 186 ∷ 118 ∷ 132 ∷ 127 ∷ 128 ∷ []
behind_by_five = refl

chroma_before_by_one :
    along false (minus 1) spike ≡ 128 ∷ 128 ∷ 128 ∷ 126 ∷ 186 ∷ 138 ∷ 126 ∷ 128 ∷ []
chroma_before_by_one = refl

chroma_before_by_nine :
    along false (minus 9) spike ≡ 128 ∷ 128 ∷ 128 ∷ 128 ∷ 126 ∷ 186 ∷ 138 ∷ 126 ∷ []
chroma_before_by_nine = refl

chroma_behind_by_nine :
    along false (pos 9) spike ≡ 128 ∷ 126 ∷ 138 ∷ 186 ∷ 126 ∷ 128 ∷ 128 ∷ 128 ∷ []
chroma_behind_by_nine = refl

-- ---- rounding and clipping

-- one sample by the tap 1, among others of 0: 31, 32, 95 and 96 64ths
rounded_at_half :
    map (λ v. inter_sample true (row (one 0 v)) (vector (pos 1) (pos 0)) 5 0)
    (31 ∷ 32 ∷ 95 ∷ 96 ∷ []) ≡
    0 ∷ 1 ∷ 1 ∷ 2 ∷ []
rounded_at_half = refl

abbrev two : ℕ → List ℕ
two v = replicate 8 0 ++ 2 ∷ v ∷ replicate 6 0

-- 16 * 2 - 2 and 16 * 2 64ths
chroma_rounded_at_half :
    map (λ v. inter_sample false (row (two v)) (vector (pos 2) (pos 0)) 7 0)
    (1 ∷ 0 ∷ []) ≡
    0 ∷ 1 ∷ []
chroma_rounded_at_half = refl

-- one sample by the tap -1, among others of 0: rounded these are 0, -1 and -4
clipped_at_0 :
    map (λ v. inter_sample true (row (one 0 v)) (vector (pos 1) (pos 0)) 11 0)
    (32 ∷ 33 ∷ 255 ∷ []) ≡
    0 ∷ 0 ∷ 0 ∷ []
clipped_at_0 = refl

-- The same among others of 255, where each that it lacks of 255 adds a 64th: 31, 32 and 255 of
-- them.
clipped_at_255 :
    map (λ v. inter_sample true (row (one 255 v)) (vector (pos 1) (pos 0)) 11 0)
    (224 ∷ 223 ∷ 0 ∷ []) ≡
    255 ∷ 255 ∷ 255 ∷ []
clipped_at_255 = refl

-- By the tap 1 it takes a 64th: 32 and 33 of them.
below_255 :
    map (λ v. inter_sample true (row (one 255 v)) (vector (pos 1) (pos 0)) 5 0) (223 ∷ 222 ∷ []) ≡
    255 ∷ 254 ∷ []
below_255 = refl

-- ---- two fractions

-- one sample in column 8 of row 8, among others of 0
abbrev point : ℕ → Plane
point v = plane_by_rows 16 16 (replicate 136 0 ++ v ∷ replicate 119 0)

-- 58 in the row by 1 in the column: 2030 / 64 and 2088 / 64 are 31 and 32 64ths, without rounding
quarters :
    map (λ v. inter_sample true (point v) (vector (pos 1) (pos 1)) 8 5) (35 ∷ 36 ∷ []) ≡ 0 ∷ 1 ∷ []
quarters = refl

-- 1 in the row by 40 in the column: 2040 / 64 and 2080 / 64
quarter_and_half :
    map (λ v. inter_sample true (point v) (vector (pos 1) (pos 2)) 5 8) (51 ∷ 52 ∷ []) ≡ 0 ∷ 1 ∷ []
quarter_and_half = refl

-- -1 by -1 and by 40: 255 / 64 is 3 64ths, and -10200 / 64 is clipped
negative_taps :
    map (λ y. inter_sample true (point 255) (vector (pos 2) (pos 2)) 11 y) (11 ∷ 8 ∷ []) ≡
    0 ∷ 0 ∷ []
negative_taps = refl

-- -11 by -11: 121 * 255 / 64 is 482, which is seven whole ones and more than a half
negative_by_negative : inter_sample true (point 255) (vector (pos 2) (pos 2)) 9 9 ≡ 8
negative_by_negative = refl

-- 16 in the row by 36 in the column: 576 * 3 / 64 is 27, and 576 * 4 / 64 is 36
chroma_both :
    map (λ v. inter_sample false (point v) (vector (pos 2) (pos 4)) 7 8) (3 ∷ 4 ∷ []) ≡ 0 ∷ 1 ∷ []
chroma_both = refl

-- ---- coordinates outside

abbrev six : Plane
six = plane_by_rows 3 2 (10 ∷ 20 ∷ 30 ∷ 40 ∷ 50 ∷ 60 ∷ [])

left_and_above :
    inter_predicted true six (vector (minus 4) (minus 4)) 0 0 4 ≡
    10 ∷ 10 ∷ 20 ∷ 30 ∷ 10 ∷ 10 ∷ 20 ∷ 30 ∷ 40 ∷ 40 ∷ 50 ∷ 60 ∷ 40 ∷ 40 ∷ 50 ∷ 60 ∷ []
unfolding inter_predicted tabulate
left_and_above = refl

right_and_below :
    inter_predicted true six (vector (pos 4) (pos 0)) 0 0 4 ≡
    20 ∷ 30 ∷ 30 ∷ 30 ∷ 50 ∷ 60 ∷ 60 ∷ 60 ∷ 50 ∷ 60 ∷ 60 ∷ 60 ∷ 50 ∷ 60 ∷ 60 ∷ 60 ∷ []
unfolding inter_predicted tabulate
right_and_below = refl

-- a block that begins in column 1 of row 1; of chroma a whole sample is 8
from_place :
    inter_predicted false six (vector (minus 8) (minus 8)) 1 1 4 ≡
    10 ∷ 20 ∷ 30 ∷ 30 ∷ 40 ∷ 50 ∷ 60 ∷ 60 ∷ 40 ∷ 50 ∷ 60 ∷ 60 ∷ 40 ∷ 50 ∷ 60 ∷ 60 ∷ []
unfolding inter_predicted tabulate
from_place = refl

-- The greatest vectors: one corner everywhere.
wholly_outside :
    map (λ mv. inter_predicted true six mv 0 0 4)
    (vector (minus 32768) (minus 32768) ∷ vector (pos 32767) (minus 32768) ∷
    vector (minus 32768) (pos 32767) ∷ vector (pos 32767) (pos 32767) ∷ []) ≡
    replicate 16 10 ∷ replicate 16 30 ∷ replicate 16 40 ∷ replicate 16 60 ∷ []
unfolding inter_predicted tabulate
wholly_outside = refl

-- Three samples, of which an outer one is 64: the sum of the taps that meet it, at a quarter.
left_edge :
    inter_sample true (plane_by_rows 3 1 (64 ∷ 0 ∷ 0 ∷ [])) (vector (pos 1) (pos 0)) 0 0 ≡ 51
left_edge = refl

right_edge :
    map (λ x. inter_sample true (plane_by_rows 3 1 (0 ∷ 0 ∷ 64 ∷ [])) (vector (pos 1) (pos 0)) x 0)
    (1 ∷ 2 ∷ []) ≡
    13 ∷ 71 ∷ []
right_edge = refl
