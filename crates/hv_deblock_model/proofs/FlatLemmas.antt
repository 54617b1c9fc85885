-- Every filter leaves a line of equal samples as it is, and so both passes leave a plane of equal
-- samples (8.7.2).
use Rattle.std.proofs.Common.{◌≡◌, ℕ, zero, suc, ◌+◌, ◌-◌, ◌*◌, ◌/◌, ◌%◌, ◌<◌, Bool, true, false, cond, nat_lt, nat_eq, ◌&&◌, refl, ◌∙◌, ap, ap₂, arith, ℤ, pos, ◌+ℤ◌, ◌-ℤ◌, ◌*ℤ◌}
use Rattle.std.specs.Prelude.{neg_ℤ}
use Rattle.std.specs.Int.{int_shr}
use Rattle.std.proofs.lemmas.Int.{ints, clamps}
use Rattle.std.proofs.lemmas.Bool.Decides.{nat_tests}
use Rattle.hv_lemmas.specs.Clipping.{clip1}
use Rattle.hv_tables.specs.Quantisers.{chroma_qp}
use Rattle.hv_types.specs.Samples.{Plane, filled_plane, sample_at, IsWhole, HasByteSamples}
use Rattle.hv_types.proofs.SampleLemmas.{sample_at-filled_plane, IsPlane-plane_of, All-rows, plane_same}
use Rattle.hv_filter_model.specs.SampleAdaptiveOffset.{sao_picture}
use Rattle.hv_filter_model.proofs.OffLemmas.{clip1_same, picture_same, off_changes_nothing}
use Rattle.hv_deblock_model.specs.declared.line.Side.{Side}
use Rattle.hv_deblock_model.specs.declared.line.Line.{Line}
use Rattle.hv_deblock_model.specs.EdgeStrength.{Squares, edge_strength}
use Rattle.hv_deblock_model.specs.EdgeFilters.{beta, tc, cut, strong_side, clip_to, luma_step, second_step, normal_side, stepped_line, normal_line, luma_line, luma_edge, chroma_step, moved_side, chroma_edge, is_strong}
use Rattle.hv_deblock_model.specs.Deblocking.{Samples, EdgeFilter, line_at, side_sample, line_sample, pass, turned, nearest_edge, first_of_four, filtered_line, luma_filter, chroma_filter, deblocked_plane}
use Rattle.hv_filter_model.specs.FlatPictures.{flat_picture}
use Rattle.hv_deblock_model.specs.FlatPictures.{FlatPicturesAreKept, FlatPicturesAreShown}
use Rattle.hv_deblock_model.proofs.LineLemmas.{line_of, line_same}

-- ---- lines of equal samples

abbrev flat_side : ℕ → Side
flat_side v = record { s0 = v; s1 = v; s2 = v; s3 = v }

abbrev flat_line : ℕ → Line
flat_line v = line_of (flat_side v) (flat_side v)

-- ---- both sides the same

either : {A : Type 0} {z : A} (b : Bool) (x y : A) → x ≡ z → y ≡ z → cond b x y ≡ z
either true x y e f = e
either false x y e f = f

one_way : {A : Type 0} (b : Bool) (x y : A) → x ≡ y → cond b x y ≡ y
one_way true x y e = e
one_way false x y e = refl

no_difference : (z : ℤ) → z -ℤ z ≡ pos 0
no_difference z = omega (arith, ints)

no_step : (limit : ℕ) → clip_to limit (pos 0) ≡ pos 0
no_step limit = omega (arith, ints, clamps)

-- ---- the strong filter

cut_own : (tc v n : ℕ) → n ≡ v → cut tc v n ≡ v
cut_own tc v n e = omega (arith, e)

strong_flat : (tc v : ℕ) → strong_side tc (flat_side v) (flat_side v) ≡ flat_side v
strong_flat tc v =
    let s0 : cut tc v ((v + 2 * v + 2 * v + 2 * v + v + 4) / 8) ≡ v =
    cut_own tc v _ (omega arith) in
    let s1 : cut tc v ((v + v + v + v + 2) / 4) ≡ v = cut_own tc v _ (omega arith) in
    let s2 : cut tc v ((2 * v + 3 * v + v + v + v + 4) / 8) ≡ v =
    cut_own tc v _ (omega arith) in
    λ i. record { s0 = s0 i; s1 = s1 i; s2 = s2 i; s3 = v }

-- ---- the normal filter

luma_step_flat : (v : ℕ) → luma_step (flat_line v) ≡ pos 0
luma_step_flat v =
    ap₂ (λ a b. int_shr (pos 9 *ℤ a -ℤ pos 3 *ℤ b +ℤ pos 8) 4) (no_difference (pos v))
    (no_difference (pos v))

half_own : (v : ℕ) → (v + v + 1) / 2 ≡ v
half_own v = omega arith

second_step_flat : (tc v : ℕ) → second_step tc (flat_side v) (pos 0) ≡ pos 0
second_step_flat tc v =
    ap (λ n. clip_to (tc / 2) (int_shr (pos n -ℤ pos v +ℤ pos 0) 1)) (half_own v)
    ∙ ap (λ z. clip_to (tc / 2) (int_shr (z +ℤ pos 0) 1)) (no_difference (pos v))
    ∙ no_step (tc / 2)

normal_flat : (tc v : ℕ) (smooth : Bool) → v < 256 →
    normal_side tc smooth (flat_side v) (pos 0) ≡ flat_side v
normal_flat tc v smooth byte =
    let s0 : clip1 (pos v +ℤ pos 0) ≡ v = clip1_same v byte in
    let s1 : cond smooth (clip1 (pos v +ℤ second_step tc (flat_side v) (pos 0))) v ≡ v =
    one_way smooth _ v
    (ap (λ z. clip1 (pos v +ℤ z)) (second_step_flat tc v) ∙ clip1_same v byte) in
    λ i. record { s0 = s0 i; s1 = s1 i; s2 = v; s3 = v }

normal_line_flat : (tc v : ℕ) (dEp dEq : Bool) → v < 256 →
    normal_line tc dEp dEq (flat_line v) ≡ flat_line v
normal_line_flat tc v dEp dEq byte =
    one_way _ _ (flat_line v)
    (ap (stepped_line tc dEp dEq (flat_line v))
    (ap (clip_to tc) (luma_step_flat v) ∙ no_step tc)
    ∙ ap₂ line_of (normal_flat tc v dEp byte) (normal_flat tc v dEq byte))

-- ---- lines of edges

luma_flat : (qp bS v : ℕ) (first last : Line) → v < 256 →
    luma_edge qp bS first last (flat_line v) ≡ flat_line v
luma_flat qp bS v first last byte =
    let other : luma_line (beta qp) (tc qp bS) first last (flat_line v) ≡ flat_line v =
    one_way _ _ (flat_line v)
    (either (is_strong (beta qp) (tc qp bS) first last) _ _
    (ap₂ line_of (strong_flat (tc qp bS) v) (strong_flat (tc qp bS) v))
    (normal_line_flat (tc qp bS) v _ _ byte)) in
    either (nat_eq bS 0) _ _ refl other

chroma_step_flat : (v : ℕ) → chroma_step (flat_line v) ≡ pos 0
chroma_step_flat v =
    ap₂ (λ a b. int_shr (pos 4 *ℤ a +ℤ b +ℤ pos 4) 3) (no_difference (pos v))
    (no_difference (pos v))

moved_flat : (v : ℕ) → v < 256 → moved_side (flat_side v) (pos 0) ≡ flat_side v
moved_flat v byte =
    let s0 : clip1 (pos v +ℤ pos 0) ≡ v = clip1_same v byte in
    λ i. record { s0 = s0 i; s1 = v; s2 = v; s3 = v }

chroma_flat : (qp bS v : ℕ) → v < 256 → chroma_edge qp bS (flat_line v) ≡ flat_line v
chroma_flat qp bS v byte =
    one_way (nat_eq bS 2) _ (flat_line v)
    (ap (λ z. line_of (moved_side (flat_side v) z) (moved_side (flat_side v) (neg_ℤ z)))
    (ap (clip_to (tc (chroma_qp qp) bS)) (chroma_step_flat v) ∙ no_step (tc (chroma_qp qp) bS))
    ∙ ap₂ line_of (moved_flat v byte) (moved_flat v byte))

-- ---- a pass

-- an edge's filter leaves lines of this value
abbrev Keeps : ℕ → EdgeFilter → Type 0
Keeps v edge = (k y : ℕ) → edge k y (flat_line v) (flat_line v) (flat_line v) ≡ flat_line v

-- all samples of these sides have this value
abbrev AreFlat : ℕ → ℕ → ℕ → Samples → Type 0
AreFlat columns rows v samples =
    (x y : ℕ) → x < columns → y < rows → samples x y ≡ v

flat_sample : (v i : ℕ) → side_sample (flat_side v) i ≡ v
flat_sample v zero = refl
flat_sample v (suc zero) = refl
flat_sample v (suc (suc zero)) = refl
flat_sample v (suc (suc (suc i))) = refl

flat_line_sample : (v i : ℕ) → line_sample (flat_line v) i ≡ v
flat_line_sample v i =
    either (nat_lt i 4) _ _ (flat_sample v (3 - i)) (flat_sample v (i - 4))

line_flat : (columns rows v : ℕ) (samples : Samples) (k y : ℕ) → 0 < k → 8 * k + 3 < columns →
    y < rows → AreFlat columns rows v samples → line_at samples k y ≡ flat_line v
line_flat columns rows v samples k y some across down flat =
    line_same samples (λ a b. v) k y some
    (λ x from to. flat x y (omega (arith, to, across)) down)

filtered_flat : (columns rows v : ℕ) (edge : EdgeFilter) (samples : Samples) (k y : ℕ) →
    0 < k → 8 * k + 3 < columns → y < rows → rows % 4 ≡ 0 → Keeps v edge →
    AreFlat columns rows v samples → filtered_line edge samples k y ≡ flat_line v
filtered_flat columns rows v edge samples k y some across down fours keeps flat =
    let line : (b : ℕ) → b < rows → line_at samples k b ≡ flat_line v =
    λ b below. line_flat columns rows v samples k b some across below flat in
    let last : Line = line_at samples k (first_of_four y + 3) in
    ap (λ l. edge k y l last (line_at samples k y))
    (line (first_of_four y) (omega (arith, down)))
    ∙ ap (λ l. edge k y (flat_line v) l (line_at samples k y))
    (line (first_of_four y + 3) (omega (arith, down, fours)))
    ∙ ap (λ l. edge k y (flat_line v) (flat_line v) l) (line y down)
    ∙ keeps k y

-- where a test says that the edge is there
edge_inside : (k columns : ℕ) → (nat_lt 0 k && nat_lt (8 * k) columns) ≡ true → 8 * k < columns
edge_inside k columns e = grind (arith, nat_tests, e)

edge_some : (k columns : ℕ) → (nat_lt 0 k && nat_lt (8 * k) columns) ≡ true → 0 < k
edge_some k columns e = grind (arith, nat_tests, e)

tested : {A : Type 0} {z : A} (b : Bool) (x y : A) → (b ≡ true → x ≡ z) → y ≡ z → cond b x y ≡ z
tested true x y first second = first refl
tested false x y first second = second

pass_flat : (columns rows v : ℕ) (edge : EdgeFilter) (samples : Samples) → columns % 4 ≡ 0 →
    rows % 4 ≡ 0 → Keeps v edge → AreFlat columns rows v samples →
    AreFlat columns rows v (pass columns edge samples)
pass_flat columns rows v edge samples fours fours_down keeps flat x y across down =
    tested (nat_lt 0 (nearest_edge x) && nat_lt (8 * nearest_edge x) columns) _ (samples x y)
    (λ there.
    ap (λ l. line_sample l ((x + 4) % 8))
    (filtered_flat columns rows v edge samples (nearest_edge x) y
    (edge_some (nearest_edge x) columns there)
    (omega (arith, edge_inside (nearest_edge x) columns there, fours)) down fours_down keeps flat)
    ∙ flat_line_sample v ((x + 4) % 8))
    (flat x y across down)

-- ---- planes and pictures

plane_flat : (filter : Squares → EdgeFilter) (squares : Squares) (width height v : ℕ) →
    width % 4 ≡ 0 → height % 4 ≡ 0 → ((s : Squares) → Keeps v (filter s)) →
    deblocked_plane filter squares (filled_plane width height v) ≡ filled_plane width height v
plane_flat filter squares width height v fours fours_down keeps =
    let plane : Plane = filled_plane width height v in
    let first : AreFlat width height v (pass width (filter squares) (sample_at plane)) =
    pass_flat width height v (filter squares) (sample_at plane) fours fours_down (keeps squares)
    (λ x y across down. sample_at-filled_plane width height x y v across down) in
    let second : AreFlat height width v
    (pass height (filter (turned squares))
    (turned (pass width (filter squares) (sample_at plane)))) =
    pass_flat height width v (filter (turned squares))
    (turned (pass width (filter squares) (sample_at plane))) fours_down fours
    (keeps (turned squares)) (λ y x down across. first x y across down) in
    plane_same width height _ (λ x y. v) (λ x y across down. second y x down across)

pub flat_kept : FlatPicturesAreKept
flat_kept qp squares width height luma cb cr wide high luma_byte cb_byte cr_byte =
    let chroma : (v : ℕ) → v < 256 →
    deblocked_plane (chroma_filter qp) squares (filled_plane (width / 2) (height / 2) v) ≡
    filled_plane (width / 2) (height / 2) v =
    λ v byte. plane_flat (chroma_filter qp) squares (width / 2) (height / 2) v
    (omega (arith, wide)) (omega (arith, high))
    (λ s k y. chroma_flat qp (edge_strength s (2 * k) (y / 4)) v byte) in
    picture_same _ _ _ _ _ _
    (plane_flat (luma_filter qp) squares width height luma (omega (arith, wide))
    (omega (arith, high))
    (λ s k y. luma_flat qp (edge_strength s k (y / 8)) luma _ _ luma_byte))
    (chroma cb cb_byte) (chroma cr cr_byte)

-- ---- both filters

plane_whole : (width height v : ℕ) → 0 < width → 0 < height → IsWhole (filled_plane width height v)
plane_whole width height v wide high = (IsPlane-plane_of width height (λ _ _. v) wide high).whole

plane_bytes : (width height v : ℕ) → v < 256 → HasByteSamples (filled_plane width height v)
plane_bytes width height v byte =
    All-rows (λ s. s < 256) width height (λ _ _. v) (λ _ _. byte)

pub flat_shown : FlatPicturesAreShown
flat_shown qp squares choices width height luma cb cr some some_down wide high luma_byte cb_byte
    cr_byte off =
    let across : 0 < width / 2 = omega (arith, some, wide) in
    let down : 0 < height / 2 = omega (arith, some_down, high) in
    ap (λ p. sao_picture p choices)
    (flat_kept qp squares width height luma cb cr wide high luma_byte cb_byte cr_byte)
    ∙ off_changes_nothing (flat_picture width height luma cb cr) choices
    (record {
      luma = plane_whole width height luma some some_down;
      cb = plane_whole (width / 2) (height / 2) cb across down;
      cr = plane_whole (width / 2) (height / 2) cr across down;
    })
    (record {
      luma = plane_bytes width height luma luma_byte;
      cb = plane_bytes (width / 2) (height / 2) cb cb_byte;
      cr = plane_bytes (width / 2) (height / 2) cr cr_byte;
    })
    off
