-- What is chosen for a node costs least of all that is tried there, and is the first such tree.
use Rattle.std.specs.Prelude.{◌≡◌, ℕ, zero, suc, ◌<◌, ◌≤◌, false, List, [], ◌∷◌, ◌++◌, map, slice_get, Some}
use Rattle.hv_tree_model.specs.Trees.{Tree}
use Rattle.hv_tree_model.specs.Sites.{is_outside, must_split}
use Rattle.hv_mode_model.specs.ModeDecision.{Given, Before, leaf, predictions, cost_of, split_of, best}

-- one of these, which costs at most what each of them costs, and less than each before it
pub record IsFirstLeast {A : Type 0} (cost : A → ℕ) (tried : List A) (least : A) : Type 0 where
  pub number : ℕ
  pub there : slice_get tried number ≡ Some least
  pub least_of_all :
      (i : ℕ) (other : A) → slice_get tried i ≡ Some other → cost least ≤ cost other
  pub first :
      (i : ℕ) (other : A) → i < number → slice_get tried i ≡ Some other → cost least < cost other

-- as one coding unit, by each prediction in turn
abbrev pub units_tried : Given → ℕ → ℕ → Before → List Tree
units_tried g size address before =
    map (leaf g size address before) (predictions g size address before)

-- and then split, where it isn't of the least size
abbrev pub splits_tried : Given → ℕ → ℕ → Before → List Tree
splits_tried g zero address before = []
splits_tried g (suc size) address before = split_of g size address before (best g size) ∷ []

abbrev pub trees_tried : Given → ℕ → ℕ → Before → List Tree
trees_tried g size address before =
    units_tried g size address before ++ splits_tried g size address before

-- of a node inside the picture that may be a coding unit, above effort 0
abbrev pub FirstLeastIsChosen : Type 0
FirstLeastIsChosen =
    (g : Given) (size address : ℕ) (before : Before) → 0 < g.effort →
    is_outside g.surroundings.site address ≡ false →
    must_split g.surroundings.site size address ≡ false →
    IsFirstLeast (cost_of g size address before) (trees_tried g size address before)
    (best g size address before)
