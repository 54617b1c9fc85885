-- The units of a group, one after another.
use Rattle.std.proofs.Common.{◌≡◌, ℕ, suc, ◌+◌, ◌<◌, List, [], ◌∷◌, ◌++◌, length, take, map, slice_index_or, sym, ap, ◌∙◌, arith, append-nil, ◌≤◌}
use Rattle.std.specs.Prelude.{flat_map}
use Rattle.std.proofs.lemmas.List.{map-append, get_or-map, length-map, take_all}
use Rattle.std.proofs.lemmas.Grind.{flat_map-append}
use Rattle.std.proofs.Math.Seq.{take-suc}
use Rattle.hv_types.specs.declared.settings.Settings.{Settings}
use Rattle.hv_group_model.specs.Structure.{Coded, coded, coding, picture_at}

after_one : (n : ℕ) → n + 1 ≡ suc n
after_one n = omega arith

-- the first units, and one more; or pictures
pub units_more : {V : Type 0} (inside : List V) (items : V → List ℕ) (units : List (List ℕ))
    (i : ℕ) (unit : V) → map items inside ≡ units → i < length inside →
    unit ≡ slice_index_or inside i unit →
    flat_map (λ u. u) (take (i + 1) units) ≡ flat_map (λ u. u) (take i units) ++ items unit
units_more inside items units i unit seen below is =
    let next : slice_index_or units i (items unit) ≡ items unit =
    ap (λ us. slice_index_or us i (items unit)) (sym seen) ∙
    get_or-map items inside i unit (items unit) below ∙ sym (ap items is) in
    let long : length inside ≡ length units =
    sym (length-map inside items) ∙ ap (λ us. length us) seen in
    ap (λ n. flat_map (λ u. u) (take n units)) (after_one i) ∙
    ap (flat_map (λ u. u)) (take-suc units i (items unit) (omega (arith, below, long))) ∙
    flat_map-append (λ u. u) (take i units) (slice_index_or units i (items unit) ∷ []) ∙
    ap (λ u. flat_map (λ v. v) (take i units) ++ u)
    (append-nil (slice_index_or units i (items unit)) ∙ next)

-- the units of the first pictures in coding order, and one more
pub coded_more : (cfg : Settings) (f : ℕ → List ℕ) (n count levels at : ℕ) (unit : List ℕ) →
    at < length (coding n cfg.levels) → count ≡ n → levels ≡ cfg.levels →
    unit ≡ f (picture_at count levels at) →
    map (λ c. f c.picture) (take at (coding n cfg.levels)) ++ unit ∷ [] ≡
    map (λ c. f c.picture) (take (at + 1) (coding n cfg.levels))
coded_more cfg f n count levels at unit below same_count same_levels is =
    let order : List Coded = coding n cfg.levels in
    let d : Coded = coded 0 0 [] in
    let g : Coded → List ℕ = λ c. f c.picture in
    let next : unit ≡ g (slice_index_or order at d) =
    is ∙ ap (λ m. f (picture_at m levels at)) same_count ∙
    ap (λ m. f (picture_at n m at)) same_levels in
    ap (λ u. map g (take at order) ++ u ∷ []) next ∙
    sym (map-append g (take at order) (slice_index_or order at d ∷ [])) ∙
    sym (ap (λ m. map g (take m order)) (after_one at) ∙ ap (map g) (take-suc order at d below))

-- all of them
pub all_coded : (cfg : Settings) (f : ℕ → List ℕ) (n at : ℕ) (units : List (List ℕ)) →
    units ≡ map (λ c. f c.picture) (take at (coding n cfg.levels)) →
    length (coding n cfg.levels) ≤ at → units ≡ map (λ c. f c.picture) (coding n cfg.levels)
all_coded cfg f n at units is all =
    is ∙ ap (map (λ (c : Coded). f c.picture)) (take_all at (coding n cfg.levels) all)
