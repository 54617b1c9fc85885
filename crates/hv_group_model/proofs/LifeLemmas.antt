-- A picture is kept just between the place where it is coded and the last place where it is referred
-- to: reference picture sets (8.3.2) by the lives of pictures.
use Rattle.std.proofs.Common.{◌≡◌, ℕ, zero, suc, ◌≤◌, ◌∙◌, sym, ap, ap₂, Bool, true, false, refl, List, [], ◌∷◌, ◌++◌, length, map, arith, cond, take, drop}
use Rattle.std.specs.Prelude.{nat_eq, nat_lt, ◌&&◌, ◌||◌, flat_map}
use Rattle.std.specs.Int.{abs_diff}
use Rattle.std.specs.List.{list_any}
use Rattle.hv_lemmas.proofs.ComparisonLemmas.{lt_suc, lt_zero, zero_lt_suc, or_true}
use Rattle.hv_group_model.specs.Structure.{Coded, Kept, place_in, is_among, is_referred, is_kept, kept, kept_among, references_at}
pub use Rattle.hv_group_model.specs.Lives.{until_in, Life, life_in, is_kept_at}

among_head : (b : Bool) (n p : ℕ) (rest : Bool) → rest ≡ nat_lt n p →
    (b || rest) ≡ nat_lt (cond b 0 (suc n)) (suc p)
among_head true n p rest e = sym (zero_lt_suc p)
among_head false n p rest e = e ∙ sym (lt_suc n p)

pub is_among-take : (order : List Coded) (place picture : ℕ) → place ≤ length order →
    is_among (take place order) picture ≡ nat_lt (place_in order picture) place
is_among-take [] zero picture within = refl
is_among-take [] (suc place) picture within = absurd (omega arith)
is_among-take (c ∷ order) zero picture within = sym (lt_zero (place_in (c ∷ order) picture))
is_among-take (c ∷ order) (suc place) picture within =
    among_head (nat_eq c.picture picture) (place_in order picture) place
    (is_among (take place order) picture) (is_among-take order place picture (omega arith))

-- one past the last place, from that of the rest
abbrev pub until_step : Bool → ℕ → ℕ
until_step b later = cond (nat_lt 0 later) (suc later) (cond b 1 0)

pub until_more : (b : Bool) (later : ℕ) → until_step b (suc later) ≡ suc (suc later)
until_more b later = ap (λ t. cond t (suc (suc later)) (cond b 1 0)) (zero_lt_suc later)

until_here : (b : Bool) (later : ℕ) (rest : Bool) → rest ≡ nat_lt 0 later →
    (b || rest) ≡ nat_lt 0 (until_step b later)
until_here true zero rest e = refl
until_here false zero rest e = e
until_here b (suc later) rest e =
    ap (λ t. b || t) (e ∙ zero_lt_suc later) ∙ or_true b ∙
    sym (ap (nat_lt 0) (until_more b later) ∙ zero_lt_suc (suc later))

until_behind : (b : Bool) (later place : ℕ) →
    nat_lt place later ≡ nat_lt (suc place) (until_step b later)
until_behind true zero place = lt_zero place ∙ sym (lt_suc place 0 ∙ lt_zero place)
until_behind false zero place = lt_zero place ∙ sym (lt_zero (suc place))
until_behind b (suc later) place =
    sym (ap (nat_lt (suc place)) (until_more b later) ∙ lt_suc place (suc later))

pub is_referred-drop : (order : List Coded) (place picture : ℕ) →
    is_referred (drop place order) picture ≡ nat_lt place (until_in order picture)
is_referred-drop [] zero picture = refl
is_referred-drop [] (suc place) picture = sym (lt_zero (suc place))
is_referred-drop (c ∷ order) zero picture =
    until_here (list_any (nat_eq picture) c.references) (until_in order picture)
    (is_referred order picture) (is_referred-drop order zero picture)
is_referred-drop (c ∷ order) (suc place) picture =
    is_referred-drop order place picture ∙
    until_behind (list_any (nat_eq picture) c.references) (until_in order picture) place

-- the kept ones among pictures, by their lives
abbrev pub kept_lives : List ℕ → ℕ → ℕ → List Life → List Kept
kept_lives references place picture lives =
    flat_map (λ life. cond (is_kept_at life place)
    (record {
      distance = abs_diff picture life.picture;
      is_used = list_any (nat_eq life.picture) references;
    } ∷ []) []) lives

pub kept_among-lives : (order : List Coded) (place picture : ℕ) (others : List ℕ) →
    place ≤ length order →
    kept_among order place picture others ≡
    kept_lives (references_at order place) place picture (map (life_in order) others)
kept_among-lives order place picture [] within = refl
kept_among-lives order place picture (other ∷ others) within =
    let same : is_kept order place other ≡ is_kept_at (life_in order other) place =
    ap₂ (λ a b. a && b) (is_among-take order place other within)
    (is_referred-drop order place other) in
    ap₂ (λ x y. x ++ y) (ap (λ t. cond t (kept order place picture other ∷ []) []) same)
    (kept_among-lives order place picture others within)
