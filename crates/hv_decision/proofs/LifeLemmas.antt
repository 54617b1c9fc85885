-- A picture is kept just in its life; and lives as a walk backwards over the coding order finds them,
-- for the code's reference picture sets (8.3.2).
use Rattle.std.proofs.Common.{◌≡◌, ℕ, zero, suc, ◌+◌, ◌≤◌, ◌∙◌, sym, ap, ap₂, Bool, true, false, refl, List, ◌∷◌, length, arith, cond, nat_eq, nat_lt, ◌&&◌}
use Rattle.hv_lemmas.proofs.ComparisonLemmas.{zero_lt_suc}
use Rattle.std.specs.List.{list_any}
use Rattle.hv_group_model.specs.Structure.{Coded, place_in, is_kept}
use Rattle.hv_decision.specs.declared.row.Life.{Life}
use Rattle.hv_group_model.specs.Lives.{until_in}
use Rattle.hv_group_model.proofs.LifeLemmas.{is_among-take, is_referred-drop, until_step, until_more}
use Rattle.hv_decision.specs.Sets.{life_in, life_before, is_kept_at}

pub is_kept-life : (order : List Coded) (place picture : ℕ) → place ≤ length order →
    is_kept order place picture ≡ is_kept_at (life_in order picture) place
is_kept-life order place picture within =
    ap₂ (λ a b. a && b) (is_among-take order place picture within) (is_referred-drop order place picture)

-- ---- a walk backwards over the order: what is known behind a place

-- the life of a picture by what is coded from this place on
abbrev pub life_from : ℕ → List Coded → ℕ → Life
life_from place rest picture = record {
  place = place + place_in rest picture;
  until = let later = until_in rest picture in cond (nat_lt 0 later) (place + later) 0;
}

life_place : (b : Bool) (place rest : ℕ) → place + cond b 0 (suc rest) ≡ cond b place (place + 1 + rest)
life_place true place rest = omega arith
life_place false place rest = omega arith

-- one past the last place, counted from the group's first, by how far behind this place it is
abbrev until_from : ℕ → ℕ → ℕ
until_from place later = cond (nat_lt 0 later) (place + later) 0

until_from-some : (place later : ℕ) → until_from place (suc later) ≡ place + suc later
until_from-some place later = ap (λ t. cond t (place + suc later) 0) (zero_lt_suc later)

-- .. and by what is known behind this place
abbrev until_known : Bool → ℕ → ℕ → ℕ
until_known b place until = cond (nat_lt 0 until) until (cond b (place + 1) 0)

until_known-some : (b : Bool) (place until : ℕ) → until_known b place (suc until) ≡ suc until
until_known-some b place until = ap (λ t. cond t (suc until) (cond b (place + 1) 0)) (zero_lt_suc until)

life_until : (b : Bool) (place later : ℕ) →
    until_from place (until_step b later) ≡ until_known b place (until_from (place + 1) later)
life_until true place zero = refl
life_until false place zero = refl
life_until b place (suc later) =
    let on : place + 1 + suc later ≡ suc (place + suc later) = omega arith in
    let left : until_from place (until_step b (suc later)) ≡ place + suc (suc later) =
    ap (until_from place) (until_more b later) ∙ until_from-some place (suc later) in
    let right : until_known b place (until_from (place + 1) (suc later)) ≡ suc (place + suc later) =
    ap (until_known b place) (until_from-some (place + 1) later ∙ on)
    ∙ until_known-some b place (place + suc later) in
    left ∙ omega arith ∙ sym right

abbrev pub the_life : ℕ → ℕ → Life
the_life place until = record { place = place; until = until }

-- with one place more
pub life_from-more : (place : ℕ) (c : Coded) (rest : List Coded) (picture : ℕ) →
    life_from place (c ∷ rest) picture ≡ life_before (life_from (place + 1) rest picture) c place picture
life_from-more place c rest picture =
    ap₂ (λ (p : ℕ) (u : ℕ). the_life p u)
    (life_place (nat_eq c.picture picture) place (place_in rest picture))
    (life_until (list_any (nat_eq picture) c.references) place (until_in rest picture))
