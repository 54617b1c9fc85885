-- Worked sample adaptive offsets (8.7.3), and the bins of choices (7.3.8.3).
use Rattle.std.proofs.Common.{◌≡◌, ℕ, ◌+◌, refl, List, [], ◌∷◌, ◌++◌, map, replicate, slice_set, ℤ, pos, negsuc}
use Rattle.hv_lemmas.specs.Lists.{tabulate}
use Rattle.hv_types.specs.Samples.{Plane, plane_by_rows, filled_plane, sample_at}
use Rattle.hv_plan.specs.declared.offsets.SaoKind.{SaoKind}
use Rattle.hv_plan.specs.declared.offsets.SaoKind.TheVariants.{Off, Band, Edge}
use Rattle.hv_plan.specs.declared.offsets.SaoComponent.{SaoComponent}
use Rattle.hv_plan.specs.declared.offsets.SaoParam.{SaoParam}
use Rattle.hv_filter_model.specs.SampleAdaptiveOffset.{least_offset, most_offset, bandTable, edgeIdx, sao_sample, off, sao_plane, sao_picture}
use Rattle.hv_filter_model.specs.OffsetBins.{own_bins, luma_bins, chroma_bins, sao_bins}

abbrev pub with_offsets : SaoKind → ℤ → ℤ → ℤ → ℤ → SaoComponent
with_offsets kind a b c d = record { kind = kind; offsets = a ∷ b ∷ c ∷ d ∷ [] }

-- ---- ranges of offsets

abbrev ranges : SaoKind → List (List ℤ)
ranges kind = tabulate 4 (λ i. least_offset kind i ∷ most_offset kind i ∷ [])

none_of_off : ranges Off ≡ replicate 4 (pos 0 ∷ pos 0 ∷ [])
unfolding tabulate
none_of_off = refl

both_signs_of_a_band : ranges (Band 3) ≡ replicate 4 (negsuc 6 ∷ pos 7 ∷ [])
unfolding tabulate
both_signs_of_a_band = refl

one_sign_of_an_edge : ranges (Edge 0) ≡
    (pos 0 ∷ pos 7 ∷ []) ∷ (pos 0 ∷ pos 7 ∷ []) ∷
    (negsuc 6 ∷ pos 0 ∷ []) ∷ (negsuc 6 ∷ pos 0 ∷ []) ∷ []
unfolding tabulate
one_sign_of_an_edge = refl

-- ---- bands

first_bands : tabulate 32 (bandTable 0) ≡ 1 ∷ 2 ∷ 3 ∷ 4 ∷ replicate 28 0
unfolding tabulate
first_bands = refl

last_bands : tabulate 32 (bandTable 28) ≡ replicate 28 0 ++ 1 ∷ 2 ∷ 3 ∷ 4 ∷ []
unfolding tabulate
last_bands = refl

-- behind band 31 comes band 0
wrapped_bands : tabulate 32 (bandTable 30) ≡ 3 ∷ 4 ∷ replicate 28 0 ++ 1 ∷ 2 ∷ []
unfolding tabulate
wrapped_bands = refl

abbrev shown_row : SaoComponent → List ℕ → List ℕ
shown_row component row =
    (sao_plane 64 1 (component ∷ []) (plane_by_rows 8 1 row)).samples

-- the bands 31, 0, 1 and 2 get 1, 2, -3 and -4; 24 is of band 3, and 247 of band 30
by_band : shown_row (with_offsets (Band 31) (pos 1) (pos 2) (negsuc 2) (negsuc 3))
    (247 ∷ 248 ∷ 255 ∷ 0 ∷ 7 ∷ 8 ∷ 23 ∷ 24 ∷ []) ≡
    247 ∷ 249 ∷ 255 ∷ 2 ∷ 9 ∷ 5 ∷ 19 ∷ 24 ∷ []
unfolding tabulate
by_band = refl

-- 2 - 7 and 252 + 7 are cut
cut_to_a_byte : shown_row (with_offsets (Band 31) (pos 7) (negsuc 6) (pos 0) (pos 0))
    (2 ∷ 7 ∷ 6 ∷ 248 ∷ 249 ∷ 252 ∷ 100 ∷ 9 ∷ []) ≡
    0 ∷ 0 ∷ 0 ∷ 255 ∷ 255 ∷ 255 ∷ 100 ∷ 9 ∷ []
unfolding tabulate
cut_to_a_byte = refl

-- ---- edges

-- the middle of 3x3 equal samples, where one of the nine is greater: only the class whose neighbour
-- it is has an edge there
abbrev edges_of_spike : ℕ → List ℕ
edges_of_spike k =
    tabulate 4 (λ class. edgeIdx class (plane_by_rows 3 3 (slice_set (replicate 9 10) k 12)) 1 1)

neighbours_by_class : tabulate 9 edges_of_spike ≡
    (0 ∷ 0 ∷ 2 ∷ 0 ∷ []) ∷ (0 ∷ 2 ∷ 0 ∷ 0 ∷ []) ∷ (0 ∷ 0 ∷ 0 ∷ 2 ∷ []) ∷
    (2 ∷ 0 ∷ 0 ∷ 0 ∷ []) ∷ (4 ∷ 4 ∷ 4 ∷ 4 ∷ []) ∷ (2 ∷ 0 ∷ 0 ∷ 0 ∷ []) ∷
    (0 ∷ 0 ∷ 0 ∷ 2 ∷ []) ∷ (0 ∷ 2 ∷ 0 ∷ 0 ∷ []) ∷ (0 ∷ 0 ∷ 2 ∷ 0 ∷ []) ∷ []
unfolding tabulate
neighbours_by_class = refl

abbrev small : Plane
small = plane_by_rows 3 3 (
    8 ∷ 12 ∷ 8 ∷
    12 ∷ 10 ∷ 12 ∷
    8 ∷ 10 ∷ 10 ∷ [])

-- a missing neighbour leaves a sample without a category
abbrev edges : ℕ → List (List ℕ)
edges class = tabulate 3 (λ y. tabulate 3 (λ x. edgeIdx class small x y))

beside : edges 0 ≡ (0 ∷ 4 ∷ 0 ∷ []) ∷ (0 ∷ 1 ∷ 0 ∷ []) ∷ (0 ∷ 3 ∷ 0 ∷ []) ∷ []
unfolding tabulate
beside = refl

above_and_below : edges 1 ≡ (0 ∷ 0 ∷ 0 ∷ []) ∷ (4 ∷ 2 ∷ 4 ∷ []) ∷ (0 ∷ 0 ∷ 0 ∷ []) ∷ []
unfolding tabulate
above_and_below = refl

falling : edges 2 ≡ (0 ∷ 0 ∷ 0 ∷ []) ∷ (0 ∷ 3 ∷ 0 ∷ []) ∷ (0 ∷ 0 ∷ 0 ∷ []) ∷ []
unfolding tabulate
falling = refl

rising : edges 3 ≡ (0 ∷ 0 ∷ 0 ∷ []) ∷ (0 ∷ 4 ∷ 0 ∷ []) ∷ (0 ∷ 0 ∷ 0 ∷ []) ∷ []
unfolding tabulate
rising = refl

-- a sample between a smaller and a greater one has none
slope : edgeIdx 0 (plane_by_rows 3 1 (8 ∷ 10 ∷ 12 ∷ [])) 1 0 ≡ 0
slope = refl

-- 10 in the categories 1 to 4
by_category : tabulate 4 (λ class. sao_sample (with_offsets (Edge class) (pos 1) (pos 2) (negsuc 2) (negsuc 3)) small 1 1) ≡
    11 ∷ 12 ∷ 7 ∷ 6 ∷ []
unfolding tabulate
by_category = refl

-- A column of 12 between columns of 10. It has category 4 and becomes 10; those beside it have category 2 and stay.
spiked_row : List ℕ
spiked_row = 10 ∷ 10 ∷ 12 ∷ 10 ∷ 10 ∷ 10 ∷ 10 ∷ 10 ∷ []

abbrev spiked : Plane
spiked = plane_by_rows 8 8 (
    spiked_row ++ spiked_row ++ spiked_row ++ spiked_row ++
    spiked_row ++ spiked_row ++ spiked_row ++ spiked_row)

spike_is_levelled :
    sao_plane 64 1 (with_offsets (Edge 0) (pos 1) (pos 0) (pos 0) (negsuc 1) ∷ []) spiked ≡
    filled_plane 8 8 10
unfolding spiked_row tabulate
spike_is_levelled = refl

beside_the_spike : tabulate 8 (λ x. edgeIdx 0 spiked x 5) ≡ 0 ∷ 2 ∷ 4 ∷ 2 ∷ 0 ∷ 0 ∷ 0 ∷ 0 ∷ []
unfolding spiked_row tabulate
beside_the_spike = refl

-- ---- blocks and components

abbrev raised : ℤ → SaoComponent
raised z = with_offsets (Band 2) z (pos 0) (pos 0) (pos 0)

-- two columns and two rows of blocks of 2x2, the last ones cut
each_block_its_own : sao_plane 2 2 (raised (pos 1) ∷ raised (pos 2) ∷ raised (pos 3) ∷ raised (pos 4) ∷ []) (filled_plane 3 3 16) ≡
    plane_by_rows 3 3 (
    17 ∷ 17 ∷ 18 ∷
    17 ∷ 17 ∷ 18 ∷
    19 ∷ 19 ∷ 20 ∷ [])
unfolding tabulate
each_block_its_own = refl

abbrev raising : ℤ → ℤ → ℤ → SaoParam
raising luma cb cr = record { luma = raised luma; cb = raised cb; cr = raised cr }

-- two blocks: the second begins in column 64 of luma, and in column 32 of Cb and Cr
abbrev two_blocks : List (List ℕ)
two_blocks =
    let shown = sao_picture
    (record { luma = filled_plane 72 2 16; cb = filled_plane 36 1 17; cr = filled_plane 36 1 18 })
    (raising (pos 1) (pos 2) (pos 3) ∷ raising (negsuc 0) (negsuc 1) (negsuc 2) ∷ []) in
    (sample_at shown.luma 63 1 ∷ sample_at shown.luma 64 1 ∷ []) ∷
    (sample_at shown.cb 31 0 ∷ sample_at shown.cb 32 0 ∷ []) ∷
    (sample_at shown.cr 31 0 ∷ sample_at shown.cr 32 0 ∷ []) ∷ []

each_component_its_own : two_blocks ≡ (17 ∷ 15 ∷ []) ∷ (19 ∷ 15 ∷ []) ∷ (21 ∷ 15 ∷ []) ∷ []
unfolding tabulate
each_component_its_own = refl

-- ---- bins

-- 0, 1, -7 and 6 take 1, 2 and a sign, 7 and a sign, 7 and a sign, and the position 5
abbrev band_of_signs : SaoComponent
band_of_signs = with_offsets (Band 5) (pos 0) (pos 1) (negsuc 6) (pos 6)

-- 7, 0, -1 and -6 take 7, 1, 2 and 7
abbrev edge_of_signs : SaoComponent
edge_of_signs = with_offsets (Edge 1) (pos 7) (pos 0) (negsuc 0) (negsuc 5)

own : map own_bins (off ∷ band_of_signs ∷ edge_of_signs ∷ []) ≡ 0 ∷ 25 ∷ 17 ∷ []
unfolding tabulate
own = refl

-- 1 for the type, or 2, and 2 for the class
of_luma : map luma_bins (off ∷ band_of_signs ∷ edge_of_signs ∷ []) ≡ 1 ∷ 27 ∷ 21 ∷ []
unfolding tabulate
of_luma = refl

of_chroma_off : chroma_bins off off ≡ 1
unfolding tabulate
of_chroma_off = refl

-- a band of four offsets 0 takes 4 and the position
of_chroma_bands : chroma_bins band_of_signs (with_offsets (Band 9) (pos 0) (pos 0) (pos 0) (pos 0)) ≡ 2 + 25 + 9
unfolding tabulate
of_chroma_bands = refl

of_chroma_edges : chroma_bins edge_of_signs (with_offsets (Edge 1) (pos 0) (pos 0) (pos 0) (pos 0)) ≡ 2 + 2 + 17 + 4
unfolding tabulate
of_chroma_edges = refl

of_a_block : sao_bins (record { luma = edge_of_signs; cb = off; cr = off }) ≡ 22
of_a_block = refl
