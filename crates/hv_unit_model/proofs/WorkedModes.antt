-- Worked values of the most probable modes (8.4.2), and of the remaining ones.
use Rattle.std.proofs.Common.{◌≡◌, ℕ, Bool, true, false, List, [], ◌∷◌, refl, map}
use Rattle.hv_tables.specs.declared.bins.CtxTable.TheVariants.{PrevIntra}
use Rattle.hv_residual_model.specs.UnitBins.{UnitBin, InBypass, unit_bin}
use Rattle.hv_residual_model.specs.Binarization.{truncated_unary_bins}
use Rattle.hv_tree_model.specs.MostProbableModes.{candModeList, remaining_of, mode_of_remaining}
use Rattle.hv_unit_model.specs.Bins.{bin, luma_mode_bins}

bypass_of : List Bool → List UnitBin
bypass_of values = map (unit_bin InBypass) values

three : ℕ → ℕ → ℕ → List ℕ
three a b c = a ∷ b ∷ c ∷ []

-- ---- both neighbours alike

both_planar : candModeList 0 0 ≡ three 0 1 26
unfolding candModeList three
both_planar = refl

both_dc : candModeList 1 1 ≡ three 0 1 26
unfolding candModeList three
both_dc = refl

-- the modes beside an angle, around the ends
both_2 : candModeList 2 2 ≡ three 2 33 3
unfolding candModeList three
both_2 = refl

both_3 : candModeList 3 3 ≡ three 3 2 4
unfolding candModeList three
both_3 = refl

both_10 : candModeList 10 10 ≡ three 10 9 11
unfolding candModeList three
both_10 = refl

both_26 : candModeList 26 26 ≡ three 26 25 27
unfolding candModeList three
both_26 = refl

both_33 : candModeList 33 33 ≡ three 33 32 2
unfolding candModeList three
both_33 = refl

both_34 : candModeList 34 34 ≡ three 34 33 3
unfolding candModeList three
both_34 = refl

-- ---- different neighbours: planar, else DC, else vertical

neither_planar : candModeList 5 9 ≡ three 5 9 0
unfolding candModeList three
neither_planar = refl

dc_and_angle : candModeList 1 9 ≡ three 1 9 0
unfolding candModeList three
dc_and_angle = refl

planar_and_angle : candModeList 0 9 ≡ three 0 9 1
unfolding candModeList three
planar_and_angle = refl

angle_and_planar : candModeList 26 0 ≡ three 26 0 1
unfolding candModeList three
angle_and_planar = refl

planar_and_dc : candModeList 0 1 ≡ three 0 1 26
unfolding candModeList three
planar_and_dc = refl

dc_and_planar : candModeList 1 0 ≡ three 1 0 26
unfolding candModeList three
dc_and_planar = refl

-- ---- bins: each of the most probable, and the ends of those that remain

first_mode : luma_mode_bins (three 0 1 26) 0 ≡ bin PrevIntra 0 true ∷ bypass_of (false ∷ [])
unfolding three bypass_of luma_mode_bins truncated_unary_bins
first_mode = refl

second_mode :
    luma_mode_bins (three 0 1 26) 1 ≡ bin PrevIntra 0 true ∷ bypass_of (true ∷ false ∷ [])
unfolding three bypass_of luma_mode_bins truncated_unary_bins
second_mode = refl

third_mode :
    luma_mode_bins (three 0 1 26) 26 ≡ bin PrevIntra 0 true ∷ bypass_of (true ∷ true ∷ [])
unfolding three bypass_of luma_mode_bins truncated_unary_bins
third_mode = refl

mode_0_remains :
    luma_mode_bins (three 10 9 11) 0 ≡
    bin PrevIntra 0 false ∷ bypass_of (false ∷ false ∷ false ∷ false ∷ false ∷ [])
unfolding three bypass_of luma_mode_bins remaining_of truncated_unary_bins
mode_0_remains = refl

mode_34_remains :
    luma_mode_bins (three 10 9 11) 34 ≡
    bin PrevIntra 0 false ∷ bypass_of (true ∷ true ∷ true ∷ true ∷ true ∷ [])
unfolding three bypass_of luma_mode_bins remaining_of truncated_unary_bins
mode_34_remains = refl

-- 25 is 23 with planar and DC left out, and 27 is 24
mode_25_remains :
    luma_mode_bins (three 0 1 26) 25 ≡
    bin PrevIntra 0 false ∷ bypass_of (true ∷ false ∷ true ∷ true ∷ true ∷ [])
unfolding three bypass_of luma_mode_bins remaining_of truncated_unary_bins
mode_25_remains = refl

remaining_24_is_27 : mode_of_remaining (three 26 0 1) 24 ≡ 27
unfolding three mode_of_remaining
remaining_24_is_27 = refl

remaining_1_is_4 : mode_of_remaining (three 3 0 2) 1 ≡ 4
unfolding three mode_of_remaining
remaining_1_is_4 = refl

remaining_8_is_8 : mode_of_remaining (three 10 9 11) 8 ≡ 8
unfolding three mode_of_remaining
remaining_8_is_8 = refl

remaining_9_is_12 : mode_of_remaining (three 10 9 11) 9 ≡ 12
unfolding three mode_of_remaining
remaining_9_is_12 = refl
