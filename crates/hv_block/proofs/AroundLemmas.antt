-- The blocks around a block come before it, and where they stand: for `neighbours_of`.
use Rattle.std.proofs.Common.{◌≡◌, ℕ, zero, suc, ◌+◌, ◌-◌, ◌*◌, ◌/◌, ◌%◌, ◌<◌, ◌≤◌, Bool, true, false, cond, List, [], ◌∷◌, set, refl, sym, ap, ◌∙◌, arith}
use Rattle.std.specs.Prelude.{nat_lt, ◌&&◌, slice_get, Option, Some, None, option_map}
use Rattle.std.specs.Int.{div_ceil}
use Rattle.std.proofs.lemmas.Bool.{ltb-true, and_parts}
use Rattle.std.proofs.Math.Nat.{le-div_iff_mul-le, div-add-mod, mul-le-mul_left}
use Rattle.hv_plan.specs.declared.place.Place.{Place}
use Rattle.hv_block.specs.declared.block.Block.{Block}
use Rattle.hv_block.specs.declared.edges.Edges.{Edges}
use Rattle.hv_block.specs.declared.edges.Neighbours.{Neighbours}
use Rattle.hv_block.specs.BlockEdges.{edges_of}
use Rattle.hv_block.specs.Around.{blocks_across, edges_at, neighbours_of}

-- as the code counts the blocks in a row
pub across_counted : (width : ℕ) → div_ceil width 64 ≡ blocks_across width
across_counted width = omega arith

-- ---- they come before it

pub left_is_before : (index across : ℕ) → nat_lt 0 (index % across) ≡ true → 1 ≤ index
left_is_before index across e =
    let some : 1 ≤ index % across = ltb-true 0 (index % across) e in
    omega (arith, some)

pub above_is_before : (index across : ℕ) → 0 < across → nat_lt 0 (index / across) ≡ true →
    across ≤ index
above_is_before index across some e =
    let row : 1 ≤ index / across = ltb-true 0 (index / across) e in
    let rows : 1 * across ≤ index = (le-div_iff_mul-le some).0 row in
    omega (arith, rows)

pub above_of_left : (index across : ℕ) → 0 < across →
    (nat_lt 0 (index % across) && nat_lt 0 (index / across)) ≡ true → across + 1 ≤ index
above_of_left index across some e =
    let parts = and_parts (nat_lt 0 (index % across)) (nat_lt 0 (index / across)) e in
    let column : 1 ≤ index % across = ltb-true 0 (index % across) parts.0 in
    let row : 1 ≤ index / across = ltb-true 0 (index / across) parts.1 in
    let rows : across * 1 ≤ across * (index / across) = mul-le-mul_left across row in
    omega (arith, column, rows, div-add-mod index across)

pub above_of_right : (index across : ℕ) → 0 < across →
    (nat_lt 0 (index / across) && nat_lt (index % across + 1) across) ≡ true → across ≤ index
above_of_right index across some e =
    above_is_before index across some
    (and_parts (nat_lt 0 (index / across)) (nat_lt (index % across + 1) across) e).0

-- ---- the edges of one

edges_same : (blocks : List Block) (has_block : Bool) (i j : ℕ) → (has_block ≡ true → i ≡ j) →
    edges_at blocks has_block i ≡ edges_at blocks has_block j
edges_same blocks true i j same = ap (λ k. option_map edges_of (slice_get blocks k)) (same refl)
edges_same blocks false i j same = refl

pub edges_there : (blocks : List Block) (has_block : Bool) (number : ℕ) (block : Block)
    (edges : Edges) → has_block ≡ true → slice_get blocks number ≡ Some block →
    edges ≡ edges_of block → Some edges ≡ edges_at blocks has_block number
edges_there blocks has_block number block edges is_there there same =
    ap Some same ∙ sym (ap (option_map edges_of) there) ∙
    sym (ap (λ t. cond t (option_map edges_of (slice_get blocks number)) None) is_there)

pub edges_absent : (blocks : List Block) (has_block : Bool) (number : ℕ) → has_block ≡ false →
    None ≡ edges_at blocks has_block number
edges_absent blocks has_block number absent =
    sym (ap (λ t. cond t (option_map edges_of (slice_get blocks number)) None) absent)

-- ---- all four

module _ (blocks : List Block) (place : Place) where
  -- where so many stand in a row
  abbrev around : ℕ → Neighbours
  around n = record {
    left = edges_at blocks (nat_lt 0 (place.index % n)) (place.index - 1);
    above_left =
        edges_at blocks (nat_lt 0 (place.index % n) && nat_lt 0 (place.index / n))
        (place.index - n - 1);
    above = edges_at blocks (nat_lt 0 (place.index / n)) (place.index - n);
    above_right =
        edges_at blocks (nat_lt 0 (place.index / n) && nat_lt (place.index % n + 1) n)
        (place.index - n + 1);
  }

  pub are_neighbours : (across : ℕ) (at_left at_right : Bool)
      (left above_left above above_right : Option Edges) → 0 < across →
      across ≡ blocks_across place.width →
      at_left ≡ (nat_lt 0 (place.index % across) && nat_lt 0 (place.index / across)) →
      at_right ≡
      (nat_lt 0 (place.index / across) && nat_lt (place.index % across + 1) across) →
      left ≡ edges_at blocks (nat_lt 0 (place.index % across)) (place.index - 1) →
      above_left ≡ edges_at blocks at_left (place.index - (across + 1)) →
      above ≡ edges_at blocks (nat_lt 0 (place.index / across)) (place.index - across) →
      above_right ≡ edges_at blocks at_right (place.index - (across - 1)) →
      record {
        left = left;
        above_left = above_left;
        above = above;
        above_right = above_right;
      } ≡
      neighbours_of blocks place
  are_neighbours across at_left at_right left above_left above above_right some e el er l al a ar =
      let index : ℕ = place.index in
      let same_al =
      al ∙
      edges_same blocks at_left (index - (across + 1)) (index - across - 1) (λ t. omega arith) ∙
      ap (λ has. edges_at blocks has (index - across - 1)) el in
      let same_ar =
      ar ∙
      edges_same blocks at_right (index - (across - 1)) (index - across + 1)
      (λ t. let before : across ≤ index = above_of_right index across some (sym er ∙ t) in
      omega (arith, before, some)) ∙
      ap (λ has. edges_at blocks has (index - across + 1)) er in
      let same : record {
        left = left;
        above_left = above_left;
        above = above;
        above_right = above_right;
      } ≡ around across =
      λ i. record { left = l i; above_left = same_al i; above = a i; above_right = same_ar i } in
      same ∙ ap around e

-- ---- they stay when a later block is written

pub set_later : {A : Type 0} (xs : List A) (i k : ℕ) (x : A) → k < i →
    slice_get (set xs i x) k ≡ slice_get xs k
set_later [] i k x early = refl
set_later (y ∷ xs) zero k x early = absurd (omega (arith, early))
set_later (y ∷ xs) (suc i) zero x early = refl
set_later (y ∷ xs) (suc i) (suc k) x early = set_later xs i k x (omega (arith, early))

module _ (blocks : List Block) (i : ℕ) (block : Block) (place : Place)
    (some : 0 < blocks_across place.width) (later : place.index ≤ i) where
  edges_kept : (has_block : Bool) (k : ℕ) → (has_block ≡ true → k < place.index) →
      edges_at (set blocks i block) has_block k ≡ edges_at blocks has_block k
  edges_kept true k early =
      let sooner : k < place.index = early refl in
      ap (option_map edges_of) (set_later blocks i k block (omega (arith, sooner, later)))
  edges_kept false k early = refl

  pub neighbours_kept : neighbours_of (set blocks i block) place ≡ neighbours_of blocks place
  neighbours_kept =
      let index : ℕ = place.index in
      let n : ℕ = blocks_across place.width in
      let left = edges_kept (nat_lt 0 (index % n)) (index - 1)
      (λ t. let h = left_is_before index n t in omega (arith, h)) in
      let above_left = edges_kept (nat_lt 0 (index % n) && nat_lt 0 (index / n)) (index - n - 1)
      (λ t. let h = above_of_left index n some t in omega (arith, h)) in
      let above = edges_kept (nat_lt 0 (index / n)) (index - n)
      (λ t. let h = above_is_before index n some t in omega (arith, h, some)) in
      let above_right =
      edges_kept (nat_lt 0 (index / n) && nat_lt (index % n + 1) n) (index - n + 1)
      (λ t. let h = above_of_right index n some t in
      let right = and_parts (nat_lt 0 (index / n)) (nat_lt (index % n + 1) n) t in
      omega (arith, h, ltb-true _ _ right.1)) in
      λ j. record {
        left = left j;
        above_left = above_left j;
        above = above j;
        above_right = above_right j;
      }
