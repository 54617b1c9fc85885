-- The bins of a node that is split are its flag's and those of its parts, each behind the earlier
-- ones (7.3.8.4): what is coded of a part stands for its vectors, and no bin reads these.
use Rattle.std.proofs.Common.{◌≡◌, ℕ, zero, suc, ◌+◌, ◌*◌, true, false, List, ◌∷◌, ◌++◌, length, refl, sym, ap, ap₂, ◌∙◌, arith, length-append}
use Rattle.std.specs.Prelude.{replicate}
use Rattle.std.proofs.lemmas.List.{map-append}
use Rattle.hv_tree_model.specs.Trees.{Prediction, Intra, Inter, Tree, Leaf, Split, Outside, depth_of}
use Rattle.hv_tree_model.specs.Sites.{squares, crosses}
use Rattle.hv_tree_model.specs.EarlierUnits.{Square, Coded, Look, Surroundings, squares_of, after}
use Rattle.hv_unit_model.specs.Bins.{bins_of_node, split_bins}
use Rattle.hv_vector_model.specs.VectorPrediction.{Distances}
use Rattle.hv_vector_model.specs.Vectors.{neighbourhood_of}
use Rattle.hv_vector_model.specs.declared.motion.Neighbourhood.{Neighbourhood}
use Rattle.hv_mode_model.specs.Differences.{prediction_with_difference, tree_with_differences}
use Rattle.hv_mode_model.specs.ModeDecision.{Given, Before, behind, coded_node, node_bins}
use Rattle.hv_mode.proofs.StillLemmas.{still, Alike, LooksAlike, bins_alike}

-- ---- the squares of what is coded differ in their vectors alone

coded_alike : (depth : ℕ) (distances : Distances) (n : Neighbourhood) (p : Prediction) →
    still (Coded depth (prediction_with_difference distances n p)) ≡ still (Coded depth p)
coded_alike depth distances n (Intra mode) = refl
coded_alike depth distances n (Inter motion) = refl

all_alike : (n : ℕ) (p q : Square) → still p ≡ still q → Alike (replicate n p) (replicate n q)
all_alike zero p q same = refl
all_alike (suc n) p q same = ap₂ (λ x xs. x ∷ xs) same (all_alike n p q same)

both_alike : (xs ys us vs : List Square) → Alike xs ys → Alike us vs → Alike (xs ++ us) (ys ++ vs)
both_alike xs ys us vs first second =
    map-append still xs us ∙ ap₂ (λ l r. l ++ r) first second ∙ sym (map-append still ys vs)

module _ (distances : Distances) (look : Look) where
  unit_alike : (size : ℕ) (n : Neighbourhood) (p : Prediction) →
      Alike
      (replicate (squares size)
      (Coded (depth_of size) (prediction_with_difference distances n p)))
      (replicate (squares size) (Coded (depth_of size) p))
  unit_alike size n p =
      all_alike (squares size) (Coded (depth_of size) (prediction_with_difference distances n p))
      (Coded (depth_of size) p) (coded_alike (depth_of size) distances n p)

  squares_alike : (size address : ℕ) (earlier : List Square) (tree : Tree) →
      Alike (squares_of size (tree_with_differences distances look size address earlier tree))
      (squares_of size tree)
  unfolding tree_with_differences
  squares_alike zero address earlier Outside = refl
  squares_alike (suc size) address earlier Outside = refl
  squares_alike zero address earlier (Leaf prediction units) =
      unit_alike zero (neighbourhood_of look zero address earlier) prediction
  squares_alike (suc size) address earlier (Leaf prediction units) =
      unit_alike (suc size) (neighbourhood_of look (suc size) address earlier) prediction
  squares_alike zero address earlier (Split a b c d) = refl
  squares_alike (suc size) address earlier (Split a b c d) =
      let n : ℕ = squares size in
      let behind_a : List Square = after size earlier a in
      let behind_b : List Square = after size behind_a b in
      let behind_c : List Square = after size behind_b c in
      let one : ℕ → List Square → Tree → List Square =
      λ at before tree.
      squares_of size (tree_with_differences distances look size at before tree) in
      let first : List Square = one address earlier a in
      let second : List Square = one (address + n) behind_a b in
      let third : List Square = one (address + 2 * n) behind_b c in
      let fourth : List Square = one (address + 3 * n) behind_c d in
      both_alike first (squares_of size a) (second ++ (third ++ fourth))
      (squares_of size b ++ (squares_of size c ++ squares_of size d))
      (squares_alike size address earlier a)
      (both_alike second (squares_of size b) (third ++ fourth)
      (squares_of size c ++ squares_of size d) (squares_alike size (address + n) behind_a b)
      (both_alike third (squares_of size c) fourth (squares_of size d)
      (squares_alike size (address + 2 * n) behind_b c)
      (squares_alike size (address + 3 * n) behind_c d)))

-- ---- bins

module _ (g : Given) (alike : LooksAlike g.surroundings.look g.surroundings.look)
    (size address : ℕ) (before : Before) where
  abbrev n : ℕ
  n = squares size

  abbrev s : Surroundings
  s = g.surroundings

  -- behind the squares of a part, and behind those of what is coded of it
  after_coded : (xs ys : List Square) (at : ℕ) (part : Before) (tree : Tree) → Alike xs ys →
      Alike (after size xs (coded_node g size at part tree)) (after size ys tree)
  after_coded xs ys at part tree same =
      both_alike xs ys (squares_of size (coded_node g size at part tree)) (squares_of size tree)
      same (squares_alike g.distances s.look size at part.earlier tree)

  same_bins : (at : ℕ) (xs ys : List Square) (tree : Tree) → Alike xs ys →
      length (bins_of_node s size at xs tree) ≡ length (bins_of_node s size at ys tree)
  same_bins at xs ys tree same =
      ap length (bins_alike s.slice_type s.references s.site s.look s.look alike size at xs ys tree
      same)

  flag_bin : crosses s.site (suc size) address ≡ false →
      length (split_bins s (suc size) address before.earlier true) ≡ 1
  flag_bin whole = rw whole refl

  module _ (whole : crosses s.site (suc size) address ≡ false) (a b c d : Tree) where
    abbrev behind_a : Before
    behind_a = behind g size address a before

    abbrev behind_b : Before
    behind_b = behind g size (address + n) b behind_a

    abbrev behind_c : Before
    behind_c = behind g size (address + 2 * n) c behind_b

    pub bins_of_parts : node_bins g (suc size) address before (Split a b c d) ≡
        1 +
        (node_bins g size address before a +
        (node_bins g size (address + n) behind_a b +
        (node_bins g size (address + 2 * n) behind_b c +
        node_bins g size (address + 3 * n) behind_c d)))
    unfolding bins_of_node tree_with_differences
    bins_of_parts =
        let coded_a : Tree = coded_node g size address before a in
        let coded_b : Tree = coded_node g size (address + n) behind_a b in
        let coded_c : Tree = coded_node g size (address + 2 * n) behind_b c in
        let coded_d : Tree = coded_node g size (address + 3 * n) behind_c d in
        let xa : List Square = after size before.earlier coded_a in
        let xb : List Square = after size xa coded_b in
        let xc : List Square = after size xb coded_c in
        let after_a : Alike xa behind_a.earlier =
        after_coded before.earlier before.earlier address before a refl in
        let after_b : Alike xb behind_b.earlier =
        after_coded xa behind_a.earlier (address + n) behind_a b after_a in
        let after_c : Alike xc behind_c.earlier =
        after_coded xb behind_b.earlier (address + 2 * n) behind_b c after_b in
        let bins_a = bins_of_node s size address before.earlier coded_a in
        let bins_b = bins_of_node s size (address + n) xa coded_b in
        let bins_c = bins_of_node s size (address + 2 * n) xb coded_c in
        let bins_d = bins_of_node s size (address + 3 * n) xc coded_d in
        omega (
          arith,
          length-append (split_bins s (suc size) address before.earlier true)
              (bins_a ++ (bins_b ++ (bins_c ++ bins_d))),
          length-append bins_a (bins_b ++ (bins_c ++ bins_d)),
          length-append bins_b (bins_c ++ bins_d),
          length-append bins_c bins_d,
          flag_bin whole,
          same_bins (address + n) xa behind_a.earlier coded_b after_a,
          same_bins (address + 2 * n) xb behind_b.earlier coded_c after_b,
          same_bins (address + 3 * n) xc behind_c.earlier coded_d after_c,
        )
