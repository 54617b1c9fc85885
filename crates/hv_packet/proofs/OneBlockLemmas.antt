-- A picture of one block that is one unit of intra DC without a level but 0, for tests.
use Rattle.std.proofs.Common.{◌≡◌, ℕ, zero, suc, ◌<◌, List, [], ◌∷◌, length, replicate, refl, sym, ap, ap₂, ◌∙◌, subst}
use Rattle.std.specs.Prelude.{slice_get, slice_index_or, Some, is_some}
use Rattle.std.proofs.lemmas.Bool.{false≢true}
use Rattle.std.proofs.lemmas.List.{get_or-replicate, length-replicate}
use Rattle.std.proofs.lemmas.Option.{slice_get-get_or}
use Rattle.hv_lemmas.proofs.OptionLemmas.{some_same}
use Rattle.hv_tables.specs.declared.bins.SliceKind.{SliceKind}
use Rattle.hv_types.specs.declared.settings.Settings.{Settings}
use Rattle.hv_types.specs.Configuration.{padded_width, padded_height}
use Rattle.hv_plan.specs.declared.offsets.SaoParam.{SaoParam}
use Rattle.hv_plan.specs.declared.prediction.Unit.{Unit}
use Rattle.hv_block.specs.Plans.{opening_plan, opening_unit}
use Rattle.hv_tree_model.specs.Trees.{Leaf, Intra, no_units, no_levels}
use Rattle.hv_tree_model.specs.Sites.{site, sites, is_outside, crosses, column_of, row_of}
use Rattle.hv_tree_model.specs.EarlierUnits.{Unavailable, squares_of}
use Rattle.hv_tree_model.specs.Validity.{AreValid}
use Rattle.hv_tree_model.specs.Plans.{Plan, tree_at, tree_of, coded_square, square_or_none, NamesItsUnits}
use Rattle.hv_near.specs.Neighbours.{lists_of_plan}
use Rattle.hv_slice_model.specs.BlankUnits.{no_offsets, blank_node, blank_units}
use Rattle.hv_slice_model.specs.Slices.{picture_sites}
use Rattle.hv_slice_model.specs.PlannedUnits.{planned_units, NameTheirUnits}
use Rattle.hv_slice_model.proofs.BlankUnitLemmas.{blank_units_valid}

abbrev pub opening : Plan
opening = lists_of_plan opening_plan

-- its tree is that of a block in which nothing is chosen
tree_is : tree_of (site 64 64 0) opening ≡ Leaf (Intra 1) (no_units 3)
unfolding tree_at is_outside column_of row_of no_units no_levels
tree_is = refl

units_are : planned_units (sites 64 64) (opening ∷ []) (no_offsets ∷ []) ≡ blank_units (sites 64 64)
unfolding sites tree_at blank_node is_outside crosses column_of row_of no_units no_levels
units_are = refl

pub one_block_valid : (kind : SliceKind) (references : ℕ) →
    AreValid kind references (sites 64 64)
    (planned_units (sites 64 64) (opening ∷ []) (no_offsets ∷ []))
one_block_valid kind references =
    subst (λ units. AreValid kind references (sites 64 64) units) (sym units_are)
    (blank_units_valid kind references (sites 64 64))

-- all squares are those of one unit
all_alike : (count address : ℕ) (unit : Unit) → address < count →
    slice_index_or (replicate count (coded_square unit)) address Unavailable ≡
    square_or_none (slice_get (replicate count unit) address)
all_alike count address unit below =
    get_or-replicate count address (coded_square unit) Unavailable below ∙
    sym (ap square_or_none
    (slice_get-get_or (replicate count unit) address unit
    (subst (λ n. address < n) (sym (length-replicate count unit)) below) ∙
    ap Some (get_or-replicate count address unit unit below)))

named : NamesItsUnits (site 64 64 0) opening
named = record {
  square = λ address below inside.
      ap (λ tree. slice_index_or (squares_of 3 tree) address Unavailable) tree_is ∙
      all_alike 64 address opening_unit below;
}

pub one_block_names : NameTheirUnits 64 64 (opening ∷ [])
one_block_names zero plan there =
    subst (λ p. NamesItsUnits (site 64 64 0) p) (some_same opening plan there) named
one_block_names (suc index) plan there = absurd (false≢true (ap is_some there))

-- ---- a padded picture of 64x64

module _ (cfg : Settings) (w : cfg.width ≡ 64) (h : cfg.height ≡ 64) where
  wide : padded_width cfg ≡ 64
  wide = rw w refl

  high : padded_height cfg ≡ 64
  high = rw h refl

  places : picture_sites cfg ≡ sites 64 64
  places = ap₂ sites wide high

  one_there : length (sites 64 64) ≡ 1
  unfolding sites
  one_there = refl

  pub counted_there : {A : Type 0} (xs : List A) (x : A) → xs ≡ x ∷ [] →
      length xs ≡ length (picture_sites cfg)
  counted_there xs x e = ap length e ∙ sym (ap length places ∙ one_there)

  pub names_there : (plans : List Plan) → plans ≡ opening ∷ [] →
      NameTheirUnits (padded_width cfg) (padded_height cfg) plans
  names_there plans e =
      subst (λ list. NameTheirUnits (padded_width cfg) (padded_height cfg) list) (sym e)
      (subst (λ n. NameTheirUnits n (padded_height cfg) (opening ∷ [])) (sym wide)
      (subst (λ n. NameTheirUnits 64 n (opening ∷ [])) (sym high) one_block_names))

  pub valid_there : (kind : SliceKind) (references : ℕ) (plans : List Plan)
      (offsets : List SaoParam) → plans ≡ opening ∷ [] → offsets ≡ no_offsets ∷ [] →
      AreValid kind references (picture_sites cfg)
      (planned_units (picture_sites cfg) plans offsets)
  valid_there kind references plans offsets e f =
      subst (λ list. AreValid kind references (picture_sites cfg)
      (planned_units (picture_sites cfg) list offsets)) (sym e)
      (subst (λ list. AreValid kind references (picture_sites cfg)
      (planned_units (picture_sites cfg) (opening ∷ []) list)) (sym f)
      (subst (λ sites. AreValid kind references sites
      (planned_units sites (opening ∷ []) (no_offsets ∷ []))) (sym places)
      (one_block_valid kind references)))
