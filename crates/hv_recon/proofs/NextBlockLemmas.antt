-- One colour component of a picture, behind one block more: the block's own samples are decoded,
-- and nothing changes beside it.
use Rattle.std.proofs.Common.{◌≡◌, ℕ, ◌+◌, ◌-◌, ◌*◌, ◌/◌, ◌%◌, ◌<◌, ◌≤◌, Bool, true, cond, List, sym, ap, ap₂, ◌∙◌, arith, inl, inr}
use Rattle.std.specs.Prelude.{nat_lt, ◌&&◌, slice_get, Some, None}
use Rattle.std.proofs.Math.Nat.{mod-lt, div-add-mod, mul_comm}
use Rattle.std.proofs.lemmas.Nat.{mod-mul-add, div-mul-add}
use Rattle.std.proofs.lemmas.Bool.{cases_lt, and_parts, ltb-true}
use Rattle.std.proofs.lemmas.Bool.Decides.{nat_tests}
use Rattle.hv_block.specs.declared.block.Block.{Block}
use Rattle.hv_tree_model.specs.Sites.{address_of}
use Rattle.hv_recon_model.specs.Reconstruction.{Component}
use Rattle.hv_recon_model.specs.SeenSamples.{SamplesAround, IsSeen, comes_before, sample_inside, sample_around, is_behind_edges, is_in_picture, look_around, look_picture}
use Rattle.hv_recon.proofs.ChoiceLemmas.{where_is, where_never}
use Rattle.hv_recon.proofs.BlockLemmas.{Part, Grid, spot_of, sample_in, sample_before, decoded_before, below_by, at_place}
use Rattle.hv_lemmas.proofs.BooleanLemmas.{same_where}

-- an address is one of 64
address_below_64 : (column row : ℕ) → address_of column row < 64
unfolding address_of
address_below_64 column row = omega arith

one_more : (k n : ℕ) → (k ≡ n → ⊥) → nat_lt k n ≡ nat_lt k (n + 1)
one_more k n other = elim (cases_lt k n) [
  | inl early ↦ grind (arith, nat_tests)
  | inr later ↦ elim (cases_lt k (n + 1)) [
    | inl last ↦ absurd (other (omega (arith, later, last)))
    | inr past ↦ grind (arith, nat_tests)
  ]
]

-- a place of the component lies in the block of this number
pub record LiesInBlock (g : Grid) (n x y : ℕ) : Type 0 where
  pub right : g.side * (n % g.across) ≤ x
  pub across : x < g.side * (n % g.across) + g.side
  pub below : g.side * (n / g.across) ≤ y
  pub down : y < g.side * (n / g.across) + g.side

module _ (p : Part) (g : Grid) (some : 0 < g.side) (fits : g.width ≤ g.side * g.across)
    (blocks : List Block) (n : ℕ) where
  abbrev cx : ℕ
  cx = n % g.across

  abbrev cy : ℕ
  cy = n / g.across

  abbrev side : ℕ
  side = g.side

  number : n ≡ cy * g.across + cx
  number = sym (div-add-mod n g.across) ∙ ap (λ k. k + cx) (mul_comm g.across cy)

  -- beside the block
  not_numbered : (x y : ℕ) → (LiesInBlock g n x y → ⊥) → x < g.width →
      y / side * g.across + x / side ≡ n → ⊥
  not_numbered x y beside wide same =
      let all : side * (x / side) + x % side ≡ x = div-add-mod x side in
      let all_y : side * (y / side) + y % side ≡ y = div-add-mod y side in
      let x_in : x % side < side = mod-lt x some in
      let y_in : y % side < side = mod-lt y some in
      let inside : x / side < g.across =
      below_by side (x / side) g.across (omega (arith, all, wide, fits)) in
      let column : cx ≡ x / side =
      ap (λ k. k % g.across) (sym same) ∙ mod-mul-add (y / side) g.across (x / side) inside in
      let row : cy ≡ y / side =
      ap (λ k. k / g.across) (sym same) ∙ div-mul-add (y / side) g.across (x / side) inside in
      let at_x : side * cx ≡ side * (x / side) = ap (λ k. side * k) column in
      let at_y : side * cy ≡ side * (y / side) = ap (λ k. side * k) row in
      beside (record {
        right = omega (arith, all, at_x);
        across = omega (arith, all, at_x, x_in);
        below = omega (arith, all_y, at_y);
        down = omega (arith, all_y, at_y, y_in);
      })

  same_beside : (x y : ℕ) → (LiesInBlock g n x y → ⊥) →
      decoded_before p g blocks n x y ≡ decoded_before p g blocks (n + 1) x y
  same_beside x y beside =
      let k : ℕ = y / side * g.across + x / side in
      let i : ℕ = y % side * side + x % side in
      same_where (nat_lt x g.width && nat_lt y g.height) (sample_before p blocks n k i)
      (sample_before p blocks (n + 1) k i) None (λ t.
      let wide : x < g.width =
      ltb-true _ _ (and_parts (nat_lt x g.width) (nat_lt y g.height) t).0 in
      ap (λ t. cond t (sample_in p (slice_get blocks k) i) None)
      (one_more k n (not_numbered x y beside wide)))

  -- in the block
  inside_all : (own : List ℕ) (u v : ℕ) → u < side → v < side →
      sample_inside side own 64 u v ≡ slice_get own (v * side + u)
  inside_all own u v ub vb =
      let early : address_of (u / (side / 8)) (v / (side / 8)) < 64 =
      address_below_64 (u / (side / 8)) (v / (side / 8)) in
      where_is (nat_lt u side && nat_lt v side && comes_before side 64 u v) true
      (slice_get own (v * side + u)) None (grind (arith, nat_tests))

  around_all : (around : SamplesAround) (own : List ℕ) (u v : ℕ) → u < side → v < side →
      sample_around side around own 64 (side + u) (side + v) ≡ slice_get own (v * side + u)
  around_all around own u v ub vb =
      let x : ℕ = side + u in
      let y : ℕ = side + v in
      let x_in : x - side ≡ u = omega arith in
      let y_in : y - side ≡ v = omega arith in
      where_never (nat_lt x side) _ _ (λ t. absurd (omega (arith, ltb-true _ _ t))) ∙
      where_never (nat_lt y side) _ _ (λ t. absurd (omega (arith, ltb-true _ _ t))) ∙
      ap₂ (λ a b. sample_inside side own 64 a b) x_in y_in ∙ inside_all own u v ub vb

  here_before : (block : Block) → slice_get blocks n ≡ Some block → (i : ℕ) →
      sample_before p blocks (n + 1) n i ≡ slice_get (p.own block.samples) i
  here_before block there i =
      let early : nat_lt n (n + 1) ≡ true = grind (arith, nat_tests) in
      ap₂ (λ t b. cond t (sample_in p b i) None) early there

  seen_picture : (samples : Component) (x y u v : ℕ) → x ≡ side * cx + u → y ≡ side * cy + v →
      look_picture (spot_of g n) samples (side + u) (side + v) ≡ samples x y
  unfolding look_picture
  seen_picture samples x y u v ex ey =
      let behind : is_behind_edges (spot_of g n) (side + u) (side + v) ≡ true =
      grind (arith, nat_tests) in
      where_is (is_behind_edges (spot_of g n) (side + u) (side + v)) true _ None behind ∙
      ap₂ samples (omega (arith, ex)) (omega (arith, ey))

  seen_around : (around : SamplesAround) (block : Block) (x y u v : ℕ) →
      slice_get blocks n ≡ Some block → x ≡ side * cx + u → y ≡ side * cy + v → u < side →
      v < side →
      look_around (spot_of g n) around (p.own block.samples) 64 (side + u) (side + v) ≡
      decoded_before p g blocks (n + 1) x y
  unfolding look_around
  seen_around around block x y u v there ex ey ub vb =
      let test : Bool = is_in_picture (spot_of g n) (side + u) (side + v) in
      elim (cases_lt x g.width) [
        | inl wide ↦ elim (cases_lt y g.height) [
          | inl high ↦
              where_is test true _ None (in_it wide high) ∙
              around_all around (p.own block.samples) u v ub vb ∙
              sym (at_place p g some blocks cx cy u v x y (n + 1) n ex ey ub vb wide high
              (sym number) ∙ here_before block there (v * side + u))
          | inr low ↦ neither (λ w h. absurd (omega (arith, low, h)))
        ]
        | inr far ↦ neither (λ w h. absurd (omega (arith, far, w)))
      ] where
        column : side * cx + (side + u) - side ≡ x
        column = omega (arith, ex)

        row : side * cy + (side + v) - side ≡ y
        row = omega (arith, ey)

        in_it : x < g.width → y < g.height →
            is_in_picture (spot_of g n) (side + u) (side + v) ≡ true
        in_it wide high = rw (column, row) (grind (arith, nat_tests))

        neither : (x < g.width → y < g.height → ⊥) →
            cond (is_in_picture (spot_of g n) (side + u) (side + v))
            (sample_around side around (p.own block.samples) 64 (side + u) (side + v)) None ≡
            decoded_before p g blocks (n + 1) x y
        neither out =
            where_never (is_in_picture (spot_of g n) (side + u) (side + v)) _ None (λ t.
            let a = and_parts (is_behind_edges (spot_of g n) (side + u) (side + v) &&
            nat_lt (side * cx + (side + u) - side) g.width)
            (nat_lt (side * cy + (side + v) - side) g.height) t in
            let b = and_parts (is_behind_edges (spot_of g n) (side + u) (side + v))
            (nat_lt (side * cx + (side + u) - side) g.width) a.0 in
            out (omega (arith, column, ltb-true _ _ b.1)) (omega (arith, row, ltb-true _ _ a.1))) ∙
            sym (where_never (nat_lt x g.width && nat_lt y g.height) _ None (λ t.
            let a = and_parts (nat_lt x g.width) (nat_lt y g.height) t in
            out (ltb-true _ _ a.0) (ltb-true _ _ a.1)))

  same_in_block : (around : SamplesAround) (block : Block) (samples : Component) (x y : ℕ) →
      slice_get blocks n ≡ Some block →
      IsSeen (spot_of g n) around (p.own block.samples) 64 samples → LiesInBlock g n x y →
      samples x y ≡ decoded_before p g blocks (n + 1) x y
  same_in_block around block samples x y there seen lies =
      let u : ℕ = x - side * cx in
      let v : ℕ = y - side * cy in
      let ex : x ≡ side * cx + u = omega (arith, lies.right) in
      let ey : y ≡ side * cy + v = omega (arith, lies.below) in
      let ub : u < side = omega (arith, lies.right, lies.across) in
      let vb : v < side = omega (arith, lies.below, lies.down) in
      sym (seen_picture samples x y u v ex ey) ∙
      seen.sample (side + u) (side + v) (omega arith) (omega (arith, ub)) (omega arith)
      (omega (arith, vb)) ∙
      seen_around around block x y u v there ex ey ub vb

  -- all of it
  pub decoded_next : (around : SamplesAround) (block : Block) (old new : Component) →
      slice_get blocks n ≡ Some block →
      ((x y : ℕ) → old x y ≡ decoded_before p g blocks n x y) →
      IsSeen (spot_of g n) around (p.own block.samples) 64 new →
      ((x y : ℕ) → (LiesInBlock g n x y → ⊥) → new x y ≡ old x y) → (x y : ℕ) →
      new x y ≡ decoded_before p g blocks (n + 1) x y
  decoded_next around block old new there before seen kept x y =
      elim (cases_lt x (side * cx)) [
        | inl left ↦ other (λ l. absurd (omega (arith, left, l.right)))
        | inr right ↦ elim (cases_lt x (side * cx + side)) [
          | inr far ↦ other (λ l. absurd (omega (arith, far, l.across)))
          | inl across ↦ elim (cases_lt y (side * cy)) [
            | inl above ↦ other (λ l. absurd (omega (arith, above, l.below)))
            | inr below ↦ elim (cases_lt y (side * cy + side)) [
              | inr low ↦ other (λ l. absurd (omega (arith, low, l.down)))
              | inl down ↦ same_in_block around block new x y there seen
                  (record { right = right; across = across; below = below; down = down })
            ]
          ]
        ]
      ] where
        other : (LiesInBlock g n x y → ⊥) → new x y ≡ decoded_before p g blocks (n + 1) x y
        other beside = kept x y beside ∙ before x y ∙ same_beside x y beside
