-- Worked strengths of edges (8.7.2).
use Rattle.std.proofs.Common.{◌≡◌, ℕ, refl, Bool, true, false, cond, nat_lt, List, [], ◌∷◌, ℤ, pos, negsuc}
use Rattle.hv_lemmas.specs.Lists.{tabulate}
use Rattle.hv_plan.specs.declared.prediction.Pred.{Pred}
use Rattle.hv_plan.specs.declared.prediction.Pred.TheVariants.{Intra, Inter}
use Rattle.hv_deblock_model.specs.declared.coding.SquareCoding.{SquareCoding}
use Rattle.hv_deblock_model.specs.EdgeStrength.{is_transform_edge, strength, Squares, edge_strength}

abbrev pub coded : ℕ → Pred → Bool → SquareCoding
coded depth pred has_levels =
    record { unit = record { depth = depth; pred = pred }; has_levels = has_levels }

abbrev pub moved : ℕ → ℤ → ℤ → Pred
moved reference x y =
    Inter reference (record { x = x; y = y }) 0 (record { x = pos 0; y = pos 0 })

abbrev still : SquareCoding
still = coded 3 (moved 0 (pos 0) (pos 0)) false

-- ---- causes

of_intra : strength still (coded 3 (Intra 1) false) ∷ strength (coded 3 (Intra 1) false) still ∷ strength (coded 3 (Intra 1) true) (coded 3 (Intra 1) true) ∷ [] ≡
    2 ∷ 2 ∷ 2 ∷ []
of_intra = refl

of_nothing : strength still still ≡ 0
of_nothing = refl

of_levels : strength still (coded 3 (moved 0 (pos 0) (pos 0)) true) ∷ strength (coded 3 (moved 0 (pos 0) (pos 0)) true) still ∷ [] ≡ 1 ∷ 1 ∷ []
of_levels = refl

of_reference : strength still (coded 3 (moved 1 (pos 0) (pos 0)) false) ≡ 1
of_reference = refl

-- vectors that differ by 3, and by 4, in each component and to each side
abbrev to_still : ℤ → ℤ → ℕ
to_still x y = strength still (coded 3 (moved 0 x y) false)

by_3 : to_still (pos 3) (pos 0) ∷ to_still (negsuc 2) (pos 0) ∷ to_still (pos 0) (pos 3) ∷ to_still (pos 3) (negsuc 2) ∷ [] ≡
    0 ∷ 0 ∷ 0 ∷ 0 ∷ []
by_3 = refl

by_4 : to_still (pos 4) (pos 0) ∷ to_still (negsuc 3) (pos 0) ∷ to_still (pos 0) (pos 4) ∷ to_still (pos 0) (negsuc 3) ∷ [] ≡
    1 ∷ 1 ∷ 1 ∷ 1 ∷ []
by_4 = refl

-- ---- where edges are

-- in units of 64, 32, 16 and 8: those of 64 have transform blocks of 32
abbrev edges : ℕ → List Bool
edges depth = tabulate 8 (λ place. is_transform_edge place depth)

by_depth : edges 0 ∷ edges 1 ∷ edges 2 ∷ edges 3 ∷ [] ≡
    (true ∷ false ∷ false ∷ false ∷ true ∷ false ∷ false ∷ false ∷ []) ∷
    (true ∷ false ∷ false ∷ false ∷ true ∷ false ∷ false ∷ false ∷ []) ∷
    (true ∷ false ∷ true ∷ false ∷ true ∷ false ∷ true ∷ false ∷ []) ∷
    (true ∷ true ∷ true ∷ true ∷ true ∷ true ∷ true ∷ true ∷ []) ∷ []
unfolding tabulate
by_depth = refl

-- an intra unit of 16x16 at the left of units of 8x8 without motion
abbrev beside : Squares
beside column row = cond (nat_lt column 2) (coded 2 (Intra 1) false) still

-- none at the picture's border, nor inside the unit
in_a_row : tabulate 5 (λ column. edge_strength beside column 0) ≡ 0 ∷ 0 ∷ 2 ∷ 0 ∷ 0 ∷ []
unfolding tabulate
in_a_row = refl

-- inside a unit of 64x64 with levels in its right half
abbrev halves : Squares
halves column row = coded 0 (moved 0 (pos 0) (pos 0)) (nat_lt 3 column)

inside_64 : tabulate 8 (λ column. edge_strength halves column 0) ≡ 0 ∷ 0 ∷ 0 ∷ 0 ∷ 1 ∷ 0 ∷ 0 ∷ 0 ∷ []
unfolding tabulate
inside_64 = refl
