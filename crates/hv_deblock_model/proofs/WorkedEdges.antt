-- Worked edges: the thresholds, and the new samples of a line (8.7.2.5).
use Rattle.std.proofs.Common.{◌≡◌, ℕ, refl, true, false, [], ◌∷◌}
use Rattle.hv_lemmas.specs.Lists.{tabulate}
use Rattle.hv_deblock_model.specs.declared.line.Line.{Line}
use Rattle.hv_deblock_model.specs.EdgeFilters.{beta, tc, is_filtered, luma_edge, chroma_edge}

-- ---- thresholds (Table 8-12)

betas : tabulate 52 beta ≡
    -- 0 to 18
    0 ∷ 0 ∷ 0 ∷ 0 ∷ 0 ∷ 0 ∷ 0 ∷ 0 ∷ 0 ∷ 0 ∷ 0 ∷ 0 ∷ 0 ∷ 0 ∷ 0 ∷ 0 ∷ 6 ∷ 7 ∷ 8 ∷
    -- 19 to 37
    9 ∷ 10 ∷ 11 ∷ 12 ∷ 13 ∷ 14 ∷ 15 ∷ 16 ∷ 17 ∷ 18 ∷ 20 ∷ 22 ∷ 24 ∷ 26 ∷ 28 ∷ 30 ∷ 32 ∷ 34 ∷ 36 ∷
    -- 38 to 51
    38 ∷ 40 ∷ 42 ∷ 44 ∷ 46 ∷ 48 ∷ 50 ∷ 52 ∷ 54 ∷ 56 ∷ 58 ∷ 60 ∷ 62 ∷ 64 ∷ []
unfolding tabulate
betas = refl

-- of bS 1 the index is the quantiser
tcs : tabulate 54 (λ Q. tc Q 1) ≡
    -- 0 to 18
    0 ∷ 0 ∷ 0 ∷ 0 ∷ 0 ∷ 0 ∷ 0 ∷ 0 ∷ 0 ∷ 0 ∷ 0 ∷ 0 ∷ 0 ∷ 0 ∷ 0 ∷ 0 ∷ 0 ∷ 0 ∷ 1 ∷
    -- 19 to 37
    1 ∷ 1 ∷ 1 ∷ 1 ∷ 1 ∷ 1 ∷ 1 ∷ 1 ∷ 2 ∷ 2 ∷ 2 ∷ 2 ∷ 3 ∷ 3 ∷ 3 ∷ 3 ∷ 4 ∷ 4 ∷ 4 ∷
    -- 38 to 53
    5 ∷ 5 ∷ 6 ∷ 6 ∷ 7 ∷ 8 ∷ 9 ∷ 10 ∷ 11 ∷ 13 ∷ 14 ∷ 16 ∷ 18 ∷ 20 ∷ 22 ∷ 24 ∷ []
unfolding tabulate
tcs = refl

-- of bS 2 it is 2 more, and 53 at most
tcs_of_2 : tc 16 2 ∷ tc 33 2 ∷ tc 51 2 ∷ tc 52 2 ∷ [] ≡ 1 ∷ 4 ∷ 24 ∷ 24 ∷ []
tcs_of_2 = refl

-- ---- lines: the samples p3, p2, p1, p0, q0, q1, q2 and q3

abbrev pub line : ℕ → ℕ → ℕ → ℕ → ℕ → ℕ → ℕ → ℕ → Line
line p3 p2 p1 p0 q0 q1 q2 q3 = record {
  p = record { s0 = p0; s1 = p1; s2 = p2; s3 = p3 };
  q = record { s0 = q0; s1 = q1; s2 = q2; s3 = q3 };
}

abbrev level : ℕ → ℕ → Line
level p q = line p p p p q q q q

-- all four lines alike, at quantiser 32 and bS 2: beta is 26 and tC 3
abbrev alike : Line → Line
alike l = luma_edge 32 2 l l l

-- ---- the normal filter

step_of_10 : alike (level 100 110) ≡ line 100 100 101 103 107 109 110 110
step_of_10 = refl

no_strength : luma_edge 32 0 (level 100 110) (level 100 110) (level 100 110) ≡ level 100 110
no_strength = refl

-- tC is 3 at strength 1, and 4 at strength 2
less_strength : luma_edge 33 1 (level 100 110) (level 100 110) (level 100 110) ≡
    line 100 100 101 103 107 109 110 110
less_strength = refl

more_strength : luma_edge 33 2 (level 100 110) (level 100 110) (level 100 110) ≡
    line 100 100 102 104 106 108 110 110
more_strength = refl

-- a step of 29 is filtered, and of 30 isn't: 10 tC is 30
greatest_step : alike (level 100 178) ≡ line 100 100 101 103 175 177 178 178
greatest_step = refl

step_of_an_edge : alike (level 100 179) ≡ level 100 179
step_of_an_edge = refl

greatest_step_down : alike (level 178 100) ≡ line 178 178 177 175 103 101 100 100
greatest_step_down = refl

step_of_an_edge_down : alike (level 179 100) ≡ level 179 100
step_of_an_edge_down = refl

-- cut to a byte: 1 - 2 and 254 + 2
cut_to_0 : luma_edge 51 2 (line 3 3 3 1 1 12 12 12) (line 3 3 3 1 1 12 12 12) (line 3 3 3 1 1 12 12 12) ≡
    line 3 3 1 0 3 12 12 12
cut_to_0 = refl

cut_to_255 : luma_edge 51 2 (line 252 252 252 254 255 243 225 207) (line 252 252 252 254 255 243 225 207) (line 252 252 252 254 255 243 225 207) ≡
    line 252 252 253 255 253 243 225 207
cut_to_255 = refl

-- dE: the curvatures are 6, 6, 6 and 7, and then 6, 6, 7 and 7, which is beta
below_beta : is_filtered 26 (line 100 100 100 106 106 100 100 100) (line 100 100 100 106 107 100 100 100) ≡ true
below_beta = refl

at_beta : is_filtered 26 (line 100 100 100 106 106 100 100 100) (line 100 100 100 107 107 100 100 100) ≡ false
at_beta = refl

-- dEp and dEq: a curvature of 3 in the first line, and of 4, which is (26 + 13) >> 3
second_of_both : luma_edge 32 2 (line 100 100 100 103 112 112 112 112) (level 100 112) (level 100 112) ≡
    line 100 100 101 103 109 111 112 112
second_of_both = refl

second_of_q : luma_edge 32 2 (line 100 100 100 104 112 112 112 112) (level 100 112) (level 100 112) ≡
    line 100 100 100 103 109 111 112 112
second_of_q = refl

second_of_p : luma_edge 32 2 (level 100 112) (line 100 100 100 100 108 112 112 112) (level 100 112) ≡
    line 100 100 101 103 109 112 112 112
second_of_p = refl

-- ---- the strong filter, and its three thresholds

-- p0 and q0 are 7 apart, and then 8, which is (5 * 3 + 1) >> 1
near : alike (level 100 107) ≡ line 100 101 102 103 104 105 106 107
near = refl

not_near : alike (level 100 108) ≡ line 100 100 101 103 105 107 108 108
not_near = refl

-- in both lines that decide
first_not_near : luma_edge 32 2 (level 100 108) (level 100 107) (level 100 107) ≡
    line 100 100 101 103 104 106 107 107
first_not_near = refl

last_not_near : luma_edge 32 2 (level 100 107) (level 100 108) (level 100 107) ≡
    line 100 100 101 103 104 106 107 107
last_not_near = refl

-- a curvature of 2, and then of 3, twice which is 26 >> 2
hardly_curved : alike (line 101 101 100 101 101 101 101 101) ≡ level 101 101
hardly_curved = refl

curved : alike (line 101 101 100 102 102 102 102 102) ≡ line 101 101 100 102 102 102 102 102
curved = refl

-- p3 and p0 are 2 apart, and then 3, which is 26 >> 3; and so q0 and q3
hardly_sloping : alike (line 98 98 99 100 100 100 100 100) ≡ line 98 99 99 100 100 100 100 100
hardly_sloping = refl

sloping : alike (line 97 98 99 100 100 100 100 100) ≡ line 97 98 99 100 100 100 100 100
sloping = refl

sloping_across : alike (line 100 100 100 100 100 99 98 97) ≡ line 100 100 100 100 100 99 98 97
sloping_across = refl

-- a line between two that are level: each sample moves by 2 tC at most
cut_to_6 : luma_edge 32 2 (level 100 100) (level 100 100) (line 110 100 100 100 140 140 140 140) ≡
    line 110 106 106 106 134 134 135 140
cut_to_6 = refl

-- ---- chroma: at quantiser 32 that of chroma is 31, and tC 3

of_chroma : chroma_edge 32 2 (level 100 110) ≡ line 100 100 100 103 107 110 110 110
of_chroma = refl

of_chroma_at_strength_1 : chroma_edge 32 1 (level 100 110) ≡ level 100 110
of_chroma_at_strength_1 = refl

-- at quantiser 36 that of chroma is 34, which has tC 4 of index 36, where luma has 5 of 38
tc_of_chroma : chroma_edge 36 2 (level 100 140) ≡ line 100 100 100 104 136 140 140 140
tc_of_chroma = refl

-- (12 + 104 - 103 + 4) >> 3 and (-12 + 100 - 100 + 4) >> 3
beside_others : chroma_edge 32 2 (line 100 100 104 100 103 103 103 103) ≡ line 100 100 104 102 101 103 103 103
beside_others = refl

downwards : chroma_edge 32 2 (line 100 100 100 103 100 100 100 100) ≡ line 100 100 100 102 101 100 100 100
downwards = refl

-- cut to a byte: 254 + 3
chroma_cut : chroma_edge 32 2 (line 255 255 255 254 255 220 220 220) ≡ line 255 255 255 255 252 220 220 220
chroma_cut = refl
