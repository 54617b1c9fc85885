-- Worked choices of sample adaptive offsets.
use Rattle.std.proofs.Common.{◌≡◌, ℕ, refl, cond, nat_lt, List, [], ◌∷◌, ◌++◌, pos, negsuc}
use Rattle.hv_lemmas.specs.Lists.{tabulate}
use Rattle.hv_types.specs.declared.picture.Picture.{Picture}
use Rattle.hv_types.specs.Samples.{plane_by_rows, filled_plane}
use Rattle.hv_plan.specs.declared.place.Place.{Place}
use Rattle.hv_plan.specs.declared.offsets.SaoKind.TheVariants.{Band, Edge}
use Rattle.hv_filter_model.specs.SampleAdaptiveOffset.{off}
use Rattle.hv_filter_model.specs.OffsetDecision.{mean, candidate, squared_errors, Block, block_of, luma_choice, chroma_choice, chosen_offsets}
use Rattle.hv_filter_model.proofs.WorkedOffsets.{with_offsets}

-- ---- means

-- 5 over 2 is 2.5, 4 over 3 is 1.33, 5 over 3 is 1.67, 7 over 5 is 1.4, 8 over 5 is 1.6
rounded_means :
    mean (pos 5) 2 ∷ mean (pos 4) 3 ∷ mean (pos 5) 3 ∷ mean (pos 7) 5 ∷ mean (pos 8) 5 ∷ mean (pos 0) 7 ∷ mean (pos 1) 3 ∷ [] ≡
    pos 3 ∷ pos 1 ∷ pos 2 ∷ pos 1 ∷ pos 2 ∷ pos 0 ∷ pos 0 ∷ []
rounded_means = refl

-- of -5 over 2 and 3, -4 over 3, -1 over 2 and 3
negative_means :
    mean (negsuc 4) 2 ∷ mean (negsuc 4) 3 ∷ mean (negsuc 3) 3 ∷ mean (negsuc 0) 2 ∷ mean (negsuc 0) 3 ∷ [] ≡
    negsuc 2 ∷ negsuc 1 ∷ negsuc 0 ∷ negsuc 0 ∷ pos 0 ∷ []
negative_means = refl

of_none : mean (pos 9) 0 ≡ pos 0
of_none = refl

-- ---- candidates

-- a block that is all of two planes, by rows
abbrev whole : ℕ → ℕ → List ℕ → List ℕ → Block
whole w h deblocked input = block_of 64 1 0 (plane_by_rows w h deblocked) (plane_by_rows w h input)

-- differences of 3 and 2 in band 0, and of 20 in band 3, which is cut
by_bands : candidate (whole 4 1 (0 ∷ 7 ∷ 30 ∷ 25 ∷ []) (3 ∷ 9 ∷ 50 ∷ 45 ∷ [])) (Band 0) ≡
    with_offsets (Band 0) (pos 3) (pos 0) (pos 0) (pos 7)
unfolding tabulate
by_bands = refl

-- of -3 and -2 in band 1, which is the third from band 31 on
lowered_bands : candidate (whole 4 1 (8 ∷ 15 ∷ 30 ∷ 25 ∷ []) (5 ∷ 13 ∷ 10 ∷ 5 ∷ [])) (Band 31) ≡
    with_offsets (Band 31) (pos 0) (pos 0) (negsuc 2) (pos 0)
unfolding tabulate
lowered_bands = refl

-- 10 has category 1 and 30 category 4; the input lies 20 above the one and 20 below the other
ends_are_cut : candidate (whole 6 1 (20 ∷ 10 ∷ 20 ∷ 20 ∷ 30 ∷ 10 ∷ []) (20 ∷ 30 ∷ 20 ∷ 20 ∷ 10 ∷ 10 ∷ [])) (Edge 0) ≡
    with_offsets (Edge 0) (pos 7) (pos 0) (pos 0) (negsuc 6)
unfolding tabulate
ends_are_cut = refl

-- 10 of category 1 and 30 of category 4, whose input lies on the wrong side
wrong_sides : candidate (whole 6 1 (20 ∷ 10 ∷ 20 ∷ 20 ∷ 30 ∷ 10 ∷ []) (20 ∷ 5 ∷ 20 ∷ 20 ∷ 35 ∷ 10 ∷ [])) (Edge 0) ≡
    with_offsets (Edge 0) (pos 0) (pos 0) (pos 0) (pos 0)
unfolding tabulate
wrong_sides = refl

-- 10 has category 2 beside 10 and 20, and 20 category 3 beside 20 and 10
categories_2_and_3 : candidate (whole 6 1 (10 ∷ 10 ∷ 20 ∷ 20 ∷ 20 ∷ 20 ∷ []) (10 ∷ 13 ∷ 16 ∷ 20 ∷ 20 ∷ 20 ∷ [])) (Edge 0) ≡
    with_offsets (Edge 0) (pos 0) (pos 3) (negsuc 3) (pos 0)
unfolding tabulate
categories_2_and_3 = refl

-- 248 and 254, of which the input is 255: the mean of 7 and 1 is 4. 252 is 3 short, and 258 is cut to 255.
cut_samples : squared_errors (whole 2 1 (248 ∷ 254 ∷ []) (255 ∷ 255 ∷ []))
    (candidate (whole 2 1 (248 ∷ 254 ∷ []) (255 ∷ 255 ∷ [])) (Band 28)) ≡ 9
unfolding tabulate
cut_samples = refl

-- ---- choices of luma

nothing_to_change : luma_choice 32 (whole 4 1 (10 ∷ 10 ∷ 12 ∷ 10 ∷ []) (10 ∷ 10 ∷ 12 ∷ 10 ∷ [])) ≡ off
unfolding tabulate
nothing_to_change = refl

-- Four samples of 20, 3 below the input: off costs 16 * 36 and a bin of 9. The bands at 0, 1 and 2 take 15 bins and nothing else.
first_band_of_equals : luma_choice 12 (whole 4 1 (20 ∷ 20 ∷ 20 ∷ 20 ∷ []) (23 ∷ 23 ∷ 23 ∷ 23 ∷ [])) ≡
    with_offsets (Band 0) (pos 0) (pos 0) (pos 3) (pos 0)
unfolding tabulate
first_band_of_equals = refl

-- band 31 is reached from position 28 alone
last_band : luma_choice 12 (whole 4 1 (250 ∷ 250 ∷ 250 ∷ 250 ∷ []) (255 ∷ 255 ∷ 255 ∷ 255 ∷ [])) ≡
    with_offsets (Band 28) (pos 0) (pos 0) (pos 0) (pos 5)
unfolding tabulate
last_band = refl

-- A spike of 2 in two rows: off costs 16 * 8 and a bin of 9, the edge 10 bins.
spike : List ℕ
spike = 10 ∷ 10 ∷ 12 ∷ 10 ∷ 10 ∷ []

level : List ℕ
level = 10 ∷ 10 ∷ 10 ∷ 10 ∷ 10 ∷ []

edge_of_spike : luma_choice 12 (whole 5 2 (spike ++ spike) (level ++ level)) ≡
    with_offsets (Edge 0) (pos 0) (pos 0) (pos 0) (negsuc 1)
unfolding tabulate spike level
edge_of_spike = refl

-- A column of 16 between columns of 15, and a 16 in the first column; the input is 15 everywhere. A band of -1 takes 13 bins,
-- the edge of -1 takes 9 bins and leaves a difference of 1.
abbrev uneven : Block
uneven = whole 4 3 (16 ∷ 15 ∷ 16 ∷ 15 ∷ 15 ∷ 15 ∷ 16 ∷ 15 ∷ 15 ∷ 15 ∷ 16 ∷ 15 ∷ []) (tabulate 12 (λ i. 15))

-- at a weight of 4 both cost 52, and off 16 * 4 + 4
band_before_an_equal_edge : luma_choice 9 uneven ≡ with_offsets (Band 0) (pos 0) (pos 0) (negsuc 0) (pos 0)
unfolding tabulate
band_before_an_equal_edge = refl

-- at a weight of 5 off costs 69, the band 65 and the edge 16 + 45
edge_where_bins_weigh_more : luma_choice 10 uneven ≡ with_offsets (Edge 0) (pos 0) (pos 0) (pos 0) (negsuc 0)
unfolding tabulate
edge_where_bins_weigh_more = refl

-- of two rows off costs 16 * 3 + 4, as the other two
off_before_equals : luma_choice 9 (whole 4 2 (16 ∷ 15 ∷ 16 ∷ 15 ∷ 15 ∷ 15 ∷ 16 ∷ 15 ∷ []) (tabulate 8 (λ i. 15))) ≡ off
unfolding tabulate
off_before_equals = refl

-- ---- choices of Cb and Cr

-- Cb has a spike, Cr lies 3 too low: Cb would take the edge, both together take bands.
edge_and_band : chroma_choice 12 (whole 5 1 spike level)
    (whole 5 1 (20 ∷ 20 ∷ 20 ∷ 20 ∷ 20 ∷ []) (23 ∷ 23 ∷ 23 ∷ 23 ∷ 23 ∷ [])) ≡
    record {
      cb = with_offsets (Band 0) (pos 0) (pos 0) (pos 0) (pos 0);
      cr = with_offsets (Band 0) (pos 0) (pos 0) (pos 3) (pos 0);
    }
unfolding tabulate spike level
edge_and_band = refl

-- band 12 is first reached from position 9
positions_of_their_own : chroma_choice 12
    (whole 4 1 (100 ∷ 100 ∷ 100 ∷ 100 ∷ []) (104 ∷ 104 ∷ 104 ∷ 104 ∷ []))
    (whole 4 1 (20 ∷ 20 ∷ 20 ∷ 20 ∷ []) (17 ∷ 17 ∷ 17 ∷ 17 ∷ [])) ≡
    record {
      cb = with_offsets (Band 9) (pos 0) (pos 0) (pos 0) (pos 4);
      cr = with_offsets (Band 0) (pos 0) (pos 0) (negsuc 2) (pos 0);
    }
unfolding tabulate
positions_of_their_own = refl

-- ---- a block of a picture

-- two blocks in a row: the second has 8 columns of luma, and 4 of Cb and Cr
abbrev picture : ℕ → ℕ → ℕ → Picture
picture luma cb cr = record {
  luma = plane_by_rows 72 1 (tabulate 72 (λ x. cond (nat_lt x 64) 50 luma));
  cb = plane_by_rows 36 1 (tabulate 36 (λ x. cond (nat_lt x 32) 50 cb));
  cr = filled_plane 36 1 cr;
}

abbrev block : ℕ → Place
block index = record { width = 72; height = 1; index = index }

-- Cr lies 2 too high in both blocks; band 16 is first reached from position 13
first_block : chosen_offsets (picture 20 100 128) (picture 23 104 126) (block 0) 12 ≡
    record {
      luma = off;
      cb = with_offsets (Band 0) (pos 0) (pos 0) (pos 0) (pos 0);
      cr = with_offsets (Band 13) (pos 0) (pos 0) (pos 0) (negsuc 1);
    }
unfolding tabulate
first_block = refl

second_block : chosen_offsets (picture 20 100 128) (picture 23 104 126) (block 1) 12 ≡
    record {
      luma = with_offsets (Band 0) (pos 0) (pos 0) (pos 3) (pos 0);
      cb = with_offsets (Band 9) (pos 0) (pos 0) (pos 0) (pos 4);
      cr = with_offsets (Band 13) (pos 0) (pos 0) (pos 0) (negsuc 1);
    }
unfolding tabulate
second_block = refl
