-- A transform unit: where its blocks and its levels lie, and what is decoded behind it.
use Rattle.std.proofs.Common.{◌≡◌, ℕ, zero, suc, ◌+◌, ◌-◌, ◌*◌, ◌/◌, ◌%◌, ◌^◌, ◌<◌, ◌≤◌, Bool, true, false, List, map, refl, ap, ◌∙◌, arith}
use Rattle.std.specs.Prelude.{slice_get, Some, option_map, ℤ}
use Rattle.std.proofs.Math.Dec.{lit≤}
use Rattle.std.proofs.lemmas.Option.{slice_get-map}
use Rattle.hv_types.specs.declared.picture.Picture.{Picture}
use Rattle.hv_types.specs.Samples.{Plane}
use Rattle.hv_tables.specs.Quantisers.{chroma_qp}
use Rattle.hv_block.specs.declared.edges.Neighbours.{Neighbours}
use Rattle.hv_block.specs.Plans.{CtbPlan}
use Rattle.hv_block.specs.Samples.{Samples}
use Rattle.hv_inter_model.specs.Interpolation.{inter_predicted}
use Rattle.hv_sample_model.specs.InverseTransform.{residual}
use Rattle.hv_tree_model.specs.Trees.{Motion, Prediction, Intra, Inter, side}
use Rattle.hv_tree_model.specs.Sites.{Site, ctb_column, ctb_row, column_of, row_of, x0, y0, squares}
use Rattle.hv_tree_model.specs.Plans.{Plan, part, transform_unit_at}
use Rattle.hv_tree_model.proofs.NodeLemmas.{IsNode}
use Rattle.hv_recon_model.specs.Reconstruction.{Component, Decoded, Square, chroma_of, square_at, luma_planes, cb_planes, cr_planes, with_block, sum_of, decoded_block, decoded_unit, all_decoded}
use Rattle.hv_recon_model.specs.SeenSamples.{luma_spot, chroma_spot}
use Rattle.hv_recon_model.proofs.SeenLemmas.{FitsIn, FitsInPicture, seen_behind}
use Rattle.hv_recon_model.proofs.SeenNodeLemmas.{node_ends, power_luma, power_chroma, luma_between, chroma_between, intra_block}
use Rattle.hv_recon.specs.Leaves.{AreSeen, lists_of_plan, lists_with_vectors, luma_around, cb_around, cr_around}
use Rattle.hv_recon.specs.Units.{AreBlocksPut, luma_levels, chroma_levels, inter_block, IsUnitPut, IsInterUnitPut}

pub is_node : (size address : ℕ) → size ≤ 2 → address < 64 → address % squares size ≡ 0 →
    IsNode size address
is_node size address few inside even =
    record { few = omega (arith, few); inside = inside; even = even }

luma_area : (size : ℕ) → size ≤ 2 → 2 ^ (size + 3) * 2 ^ (size + 3) ≡ 64 * squares size
luma_area zero few = refl
luma_area (suc zero) few = refl
luma_area (suc (suc zero)) few = refl
luma_area (suc (suc (suc size))) few = absurd (omega (arith, few))

chroma_area : (size : ℕ) → size ≤ 2 → 2 ^ (size + 2) * 2 ^ (size + 2) ≡ 16 * squares size
chroma_area zero few = refl
chroma_area (suc zero) few = refl
chroma_area (suc (suc zero)) few = refl
chroma_area (suc (suc (suc size))) few = absurd (omega (arith, few))

-- where the blocks and the levels of a unit end
pub record UnitEnds (size address : ℕ) : Type 0 where
  pub right : 8 * column_of address + 2 ^ (size + 3) ≤ 64
  pub bottom : 8 * row_of address + 2 ^ (size + 3) ≤ 64
  pub chroma_right : 4 * column_of address + 2 ^ (size + 2) ≤ 32
  pub chroma_bottom : 4 * row_of address + 2 ^ (size + 2) ≤ 32
  pub levels : 64 * address + 2 ^ (size + 3) * 2 ^ (size + 3) ≤ 4096
  pub chroma_levels : 16 * address + 2 ^ (size + 2) * 2 ^ (size + 2) ≤ 1024

pub unit_ends : (size address : ℕ) → size ≤ 2 → address < 64 → address % squares size ≡ 0 →
    UnitEnds size address
unit_ends size address few inside even =
    let e = node_ends size address few (is_node size address few inside even) in
    record {
      right = omega (arith, e.0, power_luma size);
      bottom = omega (arith, e.1, power_luma size);
      chroma_right = omega (arith, e.0, power_chroma size);
      chroma_bottom = omega (arith, e.1, power_chroma size);
      levels = omega (arith, e.2, luma_area size few);
      chroma_levels = omega (arith, e.2, chroma_area size few);
    }

-- ---- what is decoded behind a unit

-- a unit lies in the picture
pub record UnitInPicture (place : Site) (size address : ℕ) : Type 0 where
  pub across : x0 place address + side size ≤ place.width
  pub down : y0 place address + side size ≤ place.height

-- its blocks in the picture
abbrev pub luma_square : Site → ℕ → ℕ → Square
luma_square place size address =
    square_at (x0 place address) (y0 place address) (size + 3)

abbrev pub chroma_square : Site → ℕ → ℕ → Square
chroma_square place size address =
    square_at (32 * ctb_column place + 4 * column_of address)
    (32 * ctb_row place + 4 * row_of address) (size + 2)

-- the block of chroma under the block of luma
chroma_block : (prediction : Prediction) (planes : List Plane) (place : Site) (size address qp : ℕ)
    (levels : List ℤ) (samples : Component) →
    decoded_block prediction false qp planes
    (chroma_of (square_at (x0 place address) (y0 place address) (size + 3)))
    (part levels (16 * address) (2 ^ (size + 3 - 1) * 2 ^ (size + 3 - 1))) samples ≡
    decoded_block prediction false qp planes (chroma_square place size address)
    (chroma_levels levels size address) samples
chroma_block prediction planes place size address qp levels samples =
    let x : x0 place address / 2 ≡ 32 * ctb_column place + 4 * column_of address = omega arith in
    let y : y0 place address / 2 ≡ 32 * ctb_row place + 4 * row_of address = omega arith in
    let log2 : size + 3 - 1 ≡ size + 2 = omega arith in
    λ i. decoded_block prediction false qp planes (square_at (x i) (y i) (log2 i))
    (part levels (16 * address) (2 ^ log2 i * 2 ^ log2 i)) samples

-- that each of the three blocks is decoded to these samples
pub record AreDecodedTo
    (prediction : Prediction) (plan : Plan) (place : Site) (size address qp : ℕ) (d : Decoded)
    (luma cb cr : List ℕ) : Type 0 where
  pub luma_is :
      decoded_block prediction true qp (luma_planes d.references) (luma_square place size address)
      (part plan.luma (64 * address) (2 ^ (size + 3) * 2 ^ (size + 3))) d.luma ≡
      Some (with_block d.luma (luma_square place size address) luma)
  pub cb_is :
      decoded_block prediction false (chroma_qp qp) (cb_planes d.references)
      (chroma_square place size address) (chroma_levels plan.cb size address) d.cb ≡
      Some (with_block d.cb (chroma_square place size address) cb)
  pub cr_is :
      decoded_block prediction false (chroma_qp qp) (cr_planes d.references)
      (chroma_square place size address) (chroma_levels plan.cr size address) d.cr ≡
      Some (with_block d.cr (chroma_square place size address) cr)

-- where the blocks of a unit lie
module _ (place : Site) (size address : ℕ) (few : size ≤ 2) (node : IsNode size address)
    (inside : UnitInPicture place size address) where
  some_side : 1 ≤ 2 ^ size
  some_side = one_at_least size few where
    one_at_least : (n : ℕ) → n ≤ 2 → 1 ≤ 2 ^ n
    one_at_least zero few = lit≤ tt
    one_at_least (suc zero) few = lit≤ tt
    one_at_least (suc (suc zero)) few = lit≤ tt
    one_at_least (suc (suc (suc n))) few = absurd (omega (arith, few))

  pub luma_fits : FitsIn 64 (8 * column_of address) (8 * row_of address) (size + 3)
  luma_fits =
      let e = unit_ends size address few node.inside node.even in
      record {
        some = omega (arith, power_luma size, some_side);
        across = e.right;
        down = e.bottom;
      }

  pub chroma_fits : FitsIn 32 (4 * column_of address) (4 * row_of address) (size + 2)
  chroma_fits =
      let e = unit_ends size address few node.inside node.even in
      record {
        some = omega (arith, power_chroma size, some_side);
        across = e.chroma_right;
        down = e.chroma_bottom;
      }

  luma_in_picture :
      FitsInPicture (luma_spot place) (8 * column_of address) (8 * row_of address) (size + 3)
  luma_in_picture = record {
    across = omega (arith, inside.across, power_luma size);
    down = omega (arith, inside.down, power_luma size);
  }

  chroma_in_picture :
      FitsInPicture (chroma_spot place) (4 * column_of address) (4 * row_of address) (size + 2)
  chroma_in_picture = record {
    across = omega (arith, inside.across, power_chroma size);
    down = omega (arith, inside.down, power_chroma size);
  }

  -- where its three blocks are put, whatever they are predicted by
  pub blocks_behind : (prediction : Prediction) (plan : Plan) (references : List Picture)
      (near : Neighbours) (qp : ℕ) (luma cb cr : List ℕ) (old new : Samples) (d : Decoded) →
      AreBlocksPut luma cb cr size address old new →
      AreDecodedTo prediction plan place size address qp d luma cb cr →
      AreSeen place references near old address d →
      (e : Decoded) ×
      (decoded_unit qp prediction (luma_square place size address)
      (transform_unit_at plan (size + 3) address) d ≡ Some e) ×
      AreSeen place references near new (address + squares size) e
  blocks_behind prediction plan references near qp luma cb cr old new d put are seen =
      let next : ℕ = address + squares size in
      let between = chroma_between size address few node in
      let is_cb = chroma_block prediction (cb_planes d.references) place size address
      (chroma_qp qp) plan.cb d.cb in
      let is_cr = chroma_block prediction (cr_planes d.references) place size address
      (chroma_qp qp) plan.cr d.cr in (
        record {
          luma = with_block d.luma (luma_square place size address) luma;
          cb = with_block d.cb (chroma_square place size address) cb;
          cr = with_block d.cr (chroma_square place size address) cr;
          references = d.references;
        },
        (λ i. all_decoded d.references (are.luma_is i) ((is_cb ∙ are.cb_is) i)
            ((is_cr ∙ are.cr_is) i)),
        record {
          luma = seen_behind (luma_spot place) (luma_around near) luma old.luma new.luma address
              next _ _ (size + 3) d.luma luma_fits luma_in_picture
              (luma_between size address few node) put.luma seen.luma;
          cb = seen_behind (chroma_spot place) (cb_around near) cb old.cb new.cb address next _ _
              (size + 2) d.cb chroma_fits chroma_in_picture between put.cb seen.cb;
          cr = seen_behind (chroma_spot place) (cr_around near) cr old.cr new.cr address next _ _
              (size + 2) d.cr chroma_fits chroma_in_picture between put.cr seen.cr;
          same_references = seen.same_references;
        },
      )

-- an intra unit
pub unit_behind : (plan : CtbPlan) (place : Site) (references : List Picture) (near : Neighbours)
    (size address mode qp : ℕ) (old new : Samples) (d : Decoded) → size ≤ 2 →
    IsNode size address → UnitInPicture place size address →
    IsUnitPut plan place near size address mode qp old new →
    AreSeen place references near old address d →
    (e : Decoded) ×
    (decoded_unit qp (Intra mode) (luma_square place size address)
    (transform_unit_at (lists_of_plan plan) (size + 3) address) d ≡ Some e) ×
    AreSeen place references near new (address + squares size) e
unit_behind plan place references near size address mode qp old new d few node inside put seen =
    let fits = luma_fits place size address few node inside in
    let fits_chroma = chroma_fits place size address few node inside in
    blocks_behind place size address few node inside (Intra mode) (lists_of_plan plan) references
    near qp _ _ _ old new d put
    (record {
      luma_is = intra_block (luma_spot place) (luma_around near) old.luma address _ _ (size + 3)
          mode true qp (luma_planes d.references) (luma_levels plan size address) d.luma fits
          seen.luma;
      cb_is = intra_block (chroma_spot place) (cb_around near) old.cb address _ _ (size + 2) mode
          false (chroma_qp qp) (cb_planes d.references) (chroma_levels plan.cb size address) d.cb
          fits_chroma seen.cb;
      cr_is = intra_block (chroma_spot place) (cr_around near) old.cr address _ _ (size + 2) mode
          false (chroma_qp qp) (cr_planes d.references) (chroma_levels plan.cr size address) d.cr
          fits_chroma seen.cr;
    }) seen

-- an inter unit
one_moved : (motion : Motion) (is_luma : Bool) (qp : ℕ) (planes : List Plane) (plane : Plane)
    (s : Square) (levels : List ℤ) (samples : Component) →
    slice_get planes motion.ref_idx_l0 ≡ Some plane →
    decoded_block (Inter motion) is_luma qp planes s levels samples ≡
    Some (with_block samples s
    (inter_block s.log2 is_luma qp levels plane motion.MvdL0 s.x s.y))
unfolding decoded_block
one_moved motion is_luma qp planes plane s levels samples there =
    ap (λ o. option_map (λ block. with_block samples s (sum_of block (residual s.log2 qp levels)))
    (option_map (λ p. inter_predicted is_luma p motion.MvdL0 s.x s.y (2 ^ s.log2)) o)) there

-- a component of the entry of list 0
entry_of : (component : Picture → Plane) (references used : List Picture) (entry : ℕ)
    (reference : Picture) → used ≡ references → slice_get references entry ≡ Some reference →
    slice_get (map component used) entry ≡ Some (component reference)
entry_of component references used entry reference same there =
    slice_get-map component used entry ∙
    ap (λ l. option_map component (slice_get l entry)) same ∙ ap (option_map component) there

pub inter_unit_behind : (motion : Motion) (plan : CtbPlan) (place : Site)
    (references : List Picture) (reference : Picture) (near : Neighbours)
    (size address qp : ℕ) (old new : Samples) (d : Decoded) →
    slice_get references motion.ref_idx_l0 ≡ Some reference → size ≤ 2 →
    IsNode size address → UnitInPicture place size address →
    IsInterUnitPut plan place size address reference motion.MvdL0 qp old new →
    AreSeen place references near old address d →
    (e : Decoded) ×
    (decoded_unit qp (Inter motion) (luma_square place size address)
    (transform_unit_at (lists_with_vectors plan) (size + 3) address) d ≡ Some e) ×
    AreSeen place references near new (address + squares size) e
inter_unit_behind motion plan place references reference near size address qp old new d there few
    node inside put seen =
    let entry : ℕ = motion.ref_idx_l0 in
    blocks_behind place size address few node inside (Inter motion) (lists_with_vectors plan)
    references near qp _ _ _ old new d put
    (record {
      luma_is = one_moved motion true qp (luma_planes d.references) reference.luma
          (luma_square place size address) (luma_levels plan size address) d.luma
          (entry_of (λ p. p.luma) references d.references entry reference seen.same_references
          there);
      cb_is = one_moved motion false (chroma_qp qp) (cb_planes d.references) reference.cb
          (chroma_square place size address) (chroma_levels plan.cb size address) d.cb
          (entry_of (λ p. p.cb) references d.references entry reference seen.same_references there);
      cr_is = one_moved motion false (chroma_qp qp) (cr_planes d.references) reference.cr
          (chroma_square place size address) (chroma_levels plan.cr size address) d.cr
          (entry_of (λ p. p.cr) references d.references entry reference seen.same_references there);
    }) seen
