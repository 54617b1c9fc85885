-- The luma mode of intra prediction, from the modes at the left and above (8.4.2).
use Rattle.std.specs.Prelude.{ℕ, suc, ◌+◌, ◌-◌, ◌%◌, Bool, false, cond, not, nat_eq, nat_lt, nat_le, ◌||◌, List, [], ◌∷◌}
use Rattle.hv_tree_model.specs.Trees.{Intra, Inter}
use Rattle.hv_tree_model.specs.Sites.{row_of}
use Rattle.hv_tree_model.specs.EarlierUnits.{Square, Unavailable, Coded, Surroundings, left_of, above_of}

-- INTRA_PLANAR, INTRA_DC, and INTRA_ANGULAR26, which is vertical
abbrev pub planar : ℕ
planar = 0

abbrev pub dc : ℕ
dc = 1

abbrev pub vertical : ℕ
vertical = 26

-- ---- candModeList

-- candIntraPredModeX of a neighbour: DC where it isn't available, or isn't predicted so
abbrev pub candIntraPredMode : Square → ℕ
candIntraPredMode Unavailable = dc
candIntraPredMode (Coded CtDepth (Intra mode)) = mode
candIntraPredMode (Coded CtDepth (Inter motion)) = dc

-- the first of planar, DC and vertical that is neither
abbrev pub third_mode : ℕ → ℕ → ℕ
third_mode a b =
    cond (not (nat_eq a planar || nat_eq b planar)) planar
    (cond (not (nat_eq a dc || nat_eq b dc)) dc vertical)

-- from candIntraPredModeA and candIntraPredModeB
unfoldable pub candModeList : ℕ → ℕ → List ℕ
candModeList a b =
    cond (nat_eq a b)
    (cond (nat_lt a 2) (planar ∷ dc ∷ vertical ∷ [])
    (a ∷ (2 + (a + 29) % 32) ∷ (2 + (a - 2 + 1) % 32) ∷ []))
    (a ∷ b ∷ third_mode a b ∷ [])

-- that of a unit at this address. What lies above the coding tree block stands for DC.
abbrev pub candidates : Surroundings → ℕ → List Square → List ℕ
candidates s address earlier =
    candModeList (candIntraPredMode (left_of s address earlier))
    (cond (nat_eq (row_of address) 0) dc (candIntraPredMode (above_of s address earlier)))

-- ---- mpm_idx

abbrev pub is_candidate : ℕ → List ℕ → Bool
is_candidate mode [] = false
is_candidate mode (candidate ∷ list) = nat_eq mode candidate || is_candidate mode list

-- the place of a mode in the list
abbrev pub mpm_idx_of : ℕ → List ℕ → ℕ
mpm_idx_of mode [] = 0
mpm_idx_of mode (candidate ∷ list) = cond (nat_eq mode candidate) 0 (suc (mpm_idx_of mode list))

-- ---- rem_intra_luma_pred_mode

abbrev pub inserted : ℕ → List ℕ → List ℕ
inserted n [] = n ∷ []
inserted n (m ∷ list) = cond (nat_le n m) (n ∷ m ∷ list) (m ∷ inserted n list)

-- from the least on
abbrev pub ascending : List ℕ → List ℕ
ascending [] = []
ascending (n ∷ list) = inserted n (ascending list)

-- raised by one at each candidate that it reaches
abbrev pub raised : List ℕ → ℕ → ℕ
raised [] mode = mode
raised (candidate ∷ list) mode = raised list (cond (nat_le candidate mode) (mode + 1) mode)

unfoldable pub mode_of_remaining : List ℕ → ℕ → ℕ
mode_of_remaining list rem_intra_luma_pred_mode =
    raised (ascending list) rem_intra_luma_pred_mode

abbrev pub candidates_below : ℕ → List ℕ → ℕ
candidates_below mode [] = 0
candidates_below mode (candidate ∷ list) =
    cond (nat_lt candidate mode) 1 0 + candidates_below mode list

-- of a mode that isn't a candidate
unfoldable pub remaining_of : List ℕ → ℕ → ℕ
remaining_of list mode = mode - candidates_below mode list
