-- A plane behind both passes of the code is that of the formulas (8.7.2).
use Rattle.std.proofs.Common.{◌≡◌, ℕ, ◌*◌, ◌%◌, ◌<◌, ⊎_elim, sym, ◌∙◌, ap, subst, arith}
use Rattle.std.proofs.lemmas.Bool.{cases_lt}
use Rattle.hv_types.specs.Samples.{Plane, IsWhole, sample_at}
use Rattle.hv_types.proofs.SampleLemmas.{plane_is}
use Rattle.hv_deblock_model.specs.EdgeStrength.{Squares}
use Rattle.hv_deblock_model.specs.Deblocking.{Samples, EdgeFilter, nearest_edge, pass, turned, both_passes, deblocked_plane}
use Rattle.hv_deblock.specs.declared.component.Component.{Component}
use Rattle.hv_deblock.specs.Filled.{Vertical, Horizontal}
use Rattle.hv_deblock.specs.Filled.{IsTurnedInto}
use Rattle.hv_deblock.specs.Passes.{filter_of, scale}
use Rattle.hv_deblock.proofs.PassLemmas.{pass_alike, outside_edges, behind_edges, side_by_fours}

-- a pass over two components that are alike inside the picture
pass_same : (columns rows : ℕ) (edge : EdgeFilter) (s t : Samples) (x y : ℕ) → x < columns → y < rows → columns % 4 ≡ 0 → rows % 4 ≡ 0 →
    ((a b : ℕ) → a < columns → b < rows → s a b ≡ t a b) → pass columns edge s x y ≡ pass columns edge t x y
pass_same columns rows edge s t x y across down across_fours fours same =
    ⊎_elim
    (λ less.
    let none : nearest_edge x ≡ 0 = omega (arith, less) in
    outside_edges columns edge s x y none ∙ same x y across down ∙ sym (outside_edges columns edge t x y none))
    (λ more.
    ⊎_elim
    (λ inside.
    pass_alike columns rows edge s t (nearest_edge x) x y (omega (arith, more)) inside (omega (arith, more)) (omega (arith, more)) down fours
    (λ a b low high below. same a b (omega (arith, high, inside, across_fours)) below))
    (λ behind. behind_edges columns edge s x y behind ∙ same x y across down ∙ sym (behind_edges columns edge t x y behind))
    (cases_lt (8 * nearest_edge x) columns))
    (cases_lt x 4)

pub plane_deblocked : (component : Component) (qp : ℕ) (squares : Squares) (columns rows : ℕ) (old mid new : Plane) → IsWhole old →
    old.width ≡ scale component * columns → old.height ≡ scale component * rows →
    IsTurnedInto Vertical (pass old.width (filter_of component qp squares) (sample_at old)) old mid →
    IsTurnedInto Horizontal (pass mid.height (filter_of component qp (turned squares)) (turned (sample_at mid))) mid new →
    new ≡ deblocked_plane (filter_of component qp) squares old
plane_deblocked component qp squares columns rows old mid new whole wide high h k =
    let first : Samples = pass old.width (filter_of component qp squares) (sample_at old) in
    let edge : EdgeFilter = filter_of component qp (turned squares) in
    plane_is old.width old.height (both_passes old.width old.height (filter_of component qp) squares (sample_at old)) new
    (record { wide = k.wide ∙ h.wide; high = k.high ∙ h.high; whole = k.whole })
    (λ x y across down.
    k.samples y x (subst (λ n. y < n) (sym h.high) down) (subst (λ n. x < n) (sym h.wide) across)
    ∙ ap (λ n. pass n edge (turned (sample_at mid)) y x) h.high
    ∙ pass_same old.height old.width edge (turned (sample_at mid)) (turned first) y x down across
    (side_by_fours component old.height rows high) (side_by_fours component old.width columns wide)
    (λ a b below inside. h.samples b a inside below))
