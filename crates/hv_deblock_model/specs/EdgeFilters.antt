-- The filters of an edge: its thresholds, its decisions, and the new samples of its lines
-- (8.7.2.5). Samples have 8 bits, and slice_beta_offset_div2 and slice_tc_offset_div2 are 0.
use Rattle.std.specs.Prelude.{ℕ, ◌+◌, ◌-◌, ◌*◌, ◌/◌, min, max, Bool, cond, nat_eq, nat_lt, ◌&&◌, List, [], ◌∷◌, ◌++◌, replicate, slice_index_or, unsigned_abs, ℤ, pos, neg_ℤ, ◌+ℤ◌, ◌-ℤ◌, ◌*ℤ◌}
use Rattle.std.specs.Int.{abs_diff, int_shr}
use Rattle.hv_lemmas.specs.Clipping.{clip1, clip3}
use Rattle.hv_tables.specs.Quantisers.{chroma_qp}
use Rattle.hv_deblock_model.specs.declared.line.Side.{Side}
use Rattle.hv_deblock_model.specs.declared.line.Line.{Line}

-- ---- thresholds (Table 8-12)

-- the greatest index of tC
abbrev pub greatest_index : ℕ
greatest_index = 53

abbrev pub beta : ℕ → ℕ
beta Q = cond (nat_lt Q 16) 0 (cond (nat_lt Q 29) (Q - 10) (2 * Q - 38))

abbrev pub tc_row : List ℕ
tc_row =
    replicate 18 0 ++ replicate 9 1 ++ replicate 4 2 ++ replicate 4 3 ++ replicate 3 4 ++
    5 ∷ 5 ∷ 6 ∷ 6 ∷ 7 ∷ 8 ∷ 9 ∷ 10 ∷ 11 ∷ 13 ∷ 14 ∷ 16 ∷ 18 ∷ 20 ∷ 22 ∷ 24 ∷ []

-- of a quantiser and bS, which is 1 or 2
abbrev pub tc : ℕ → ℕ → ℕ
tc qp bS = slice_index_or tc_row (min greatest_index (qp + 2 * (bS - 1))) 0

-- ---- decisions of a luma edge of four lines, by its first and its last one (8.7.2.5.3)

-- dp or dq
abbrev pub curvature : Side → ℕ
curvature s = abs_diff (s.s2 + s.s0) (2 * s.s1)

-- dp + dq
abbrev pub line_curvature : Line → ℕ
line_curvature line = curvature line.p + curvature line.q

-- dE isn't 0
abbrev pub is_filtered : ℕ → Line → Line → Bool
is_filtered beta first last = nat_lt (line_curvature first + line_curvature last) beta

-- dSam (8.7.2.5.6)
abbrev pub is_flat : ℕ → ℕ → Line → Bool
is_flat beta tc line =
    nat_lt (2 * line_curvature line) (beta / 4) &&
    nat_lt (abs_diff line.p.s3 line.p.s0 + abs_diff line.q.s0 line.q.s3) (beta / 8) &&
    nat_lt (abs_diff line.p.s0 line.q.s0) ((5 * tc + 1) / 2)

-- dE is 2
abbrev pub is_strong : ℕ → ℕ → Line → Line → Bool
is_strong beta tc first last = is_flat beta tc first && is_flat beta tc last

-- dEp or dEq: a second sample of this side changes
abbrev pub is_smooth : ℕ → Side → Side → Bool
is_smooth beta first last = nat_lt (curvature first + curvature last) ((beta + beta / 2) / 8)

-- ---- the strong filter (8.7.2.5.7)

-- cut to 2 tC from the old sample
abbrev pub cut : ℕ → ℕ → ℕ → ℕ
cut tc old new = max (old - 2 * tc) (min (old + 2 * tc) new)

-- the new samples of a side, from the old ones of it and of the side across the edge
abbrev pub strong_side : ℕ → Side → Side → Side
strong_side tc s across = record {
  s0 = cut tc s.s0 ((s.s2 + 2 * s.s1 + 2 * s.s0 + 2 * across.s0 + across.s1 + 4) / 8);
  s1 = cut tc s.s1 ((s.s2 + s.s1 + s.s0 + across.s0 + 2) / 4);
  s2 = cut tc s.s2 ((2 * s.s3 + 3 * s.s2 + s.s1 + s.s0 + across.s0 + 4) / 8);
  s3 = s.s3;
}

abbrev pub strong_line : ℕ → Line → Line
strong_line tc line =
    record { p = strong_side tc line.p line.q; q = strong_side tc line.q line.p }

-- ---- the normal filter (8.7.2.5.7)

-- to -tC .. tC
abbrev pub clip_to : ℕ → ℤ → ℤ
clip_to tc z = clip3 (neg_ℤ (pos tc)) (pos tc) z

-- the step from q0 to p0, before it is clipped
abbrev pub luma_step : Line → ℤ
luma_step line =
    int_shr
    (pos 9 *ℤ (pos line.q.s0 -ℤ pos line.p.s0) -ℤ pos 3 *ℤ (pos line.q.s1 -ℤ pos line.p.s1) +ℤ
    pos 8)
    4

-- what is added to the second sample of a side, where `step` is added to the first
abbrev pub second_step : ℕ → Side → ℤ → ℤ
second_step tc s step =
    clip_to (tc / 2) (int_shr (pos ((s.s2 + s.s0 + 1) / 2) -ℤ pos s.s1 +ℤ step) 1)

abbrev pub normal_side : ℕ → Bool → Side → ℤ → Side
normal_side tc smooth s step = record {
  s0 = clip1 (pos s.s0 +ℤ step);
  s1 = cond smooth (clip1 (pos s.s1 +ℤ second_step tc s step)) s.s1;
  s2 = s.s2;
  s3 = s.s3;
}

-- both sides, by a step that is clipped
abbrev pub stepped_line : ℕ → Bool → Bool → Line → ℤ → Line
stepped_line tc dEp dEq line step = record {
  p = normal_side tc dEp line.p step;
  q = normal_side tc dEq line.q (neg_ℤ step);
}

abbrev pub normal_line : ℕ → Bool → Bool → Line → Line
normal_line tc dEp dEq line =
    cond (nat_lt (unsigned_abs (luma_step line)) (10 * tc))
    (stepped_line tc dEp dEq line (clip_to tc (luma_step line)))
    line

-- ---- a line of a luma edge, by the thresholds, and the first and the last of its four lines
abbrev pub luma_line : ℕ → ℕ → Line → Line → Line → Line
luma_line beta tc first last line =
    cond (is_filtered beta first last)
    (cond (is_strong beta tc first last)
    (strong_line tc line)
    (normal_line tc (is_smooth beta first.p last.p) (is_smooth beta first.q last.q) line))
    line

-- by quantiser and bS
abbrev pub luma_edge : ℕ → ℕ → Line → Line → Line → Line
luma_edge qp bS first last line =
    cond (nat_eq bS 0) line (luma_line (beta qp) (tc qp bS) first last line)

-- ---- a line of a chroma edge (8.7.2.5.8)

abbrev pub chroma_step : Line → ℤ
chroma_step line =
    int_shr
    (pos 4 *ℤ (pos line.q.s0 -ℤ pos line.p.s0) +ℤ (pos line.p.s1 -ℤ pos line.q.s1) +ℤ pos 4)
    3

-- with another first sample
abbrev pub moved_side : Side → ℤ → Side
moved_side s step =
    record { s0 = clip1 (pos s.s0 +ℤ step); s1 = s.s1; s2 = s.s2; s3 = s.s3 }

abbrev pub chroma_line : ℕ → Line → Line
chroma_line tc line =
    let step = clip_to tc (chroma_step line) in
    record { p = moved_side line.p step; q = moved_side line.q (neg_ℤ step) }

-- by the quantiser of luma and bS: only where bS is 2. cQpPicOffset is 0.
abbrev pub chroma_edge : ℕ → ℕ → Line → Line
chroma_edge qp bS line =
    cond (nat_eq bS 2) (chroma_line (tc (chroma_qp qp) bS) line) line
