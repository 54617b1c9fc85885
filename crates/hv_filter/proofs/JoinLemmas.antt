-- Planes that are written place by place, by rows, with the samples of blocks.
use Rattle.std.proofs.Common.{◌≡◌, ℕ, ◌+◌, ◌-◌, ◌*◌, ◌/◌, ◌%◌, ◌<◌, ◌≤◌, List, [], get_or, map, slice_range, inl, inr, sym, ◌∙◌, ap, ap₂, mul_comm, arith}
use Rattle.std.specs.Prelude.{slice_get, Some, option_map}
use Rattle.std.proofs.lemmas.Bool.{cases_lt}
use Rattle.std.proofs.lemmas.Nat.{div-mul-add, mod-mul-add, mod_below, same_from_place, row_fits_turned}
use Rattle.std.proofs.lemmas.Option.{slice_get-map, get_or_from_slice_get}
use Rattle.std.proofs.lemmas.List.Edits.{get_or-between}
use Rattle.std.proofs.Math.Nat.{add-mul}
use Rattle.hv_types.specs.Samples.{Plane, IsWhole, with_sample, sample_at, plane_of}
use Rattle.hv_types.proofs.SampleLemmas.{IsPlane-with_sample, sample_at-with_sample_same, sample_at-with_sample_other, plane_is}
use Rattle.hv_block.specs.declared.block.Block.{Block}
use Rattle.hv_filter_model.specs.Blocks.{joined_sample}
use Rattle.hv_filter.specs.declared.component.Component.{Component}
use Rattle.hv_filter.specs.JoinedPicture.{samples_of, lists_of, IsFilledTo}

pub nothing_filled : (n width height : ℕ) (f : ℕ → ℕ → ℕ) (plane : Plane) → n ≡ 0 →
    IsWhole plane → plane.width ≡ width → plane.height ≡ height →
    IsFilledTo n width height f plane
nothing_filled n width height f plane none whole wide high = record {
  whole = record { wide = wide; high = high; whole = whole };
  samples = λ x y across down below. absurd (omega (arith, below, none));
}

-- the same, said with other names of the numbers
pub filled_as : (n m width w height h : ℕ) (f : ℕ → ℕ → ℕ) (plane : Plane) → n ≡ m →
    width ≡ w → height ≡ h → IsFilledTo n width height f plane → IsFilledTo m w h f plane
filled_as n m width w height h f plane e₁ e₂ e₃ it = record {
  whole = record {
    wide = it.whole.wide ∙ e₂;
    high = it.whole.high ∙ e₃;
    whole = it.whole.whole;
  };
  samples = λ x y across down below.
      it.samples x y (omega (arith, across, e₂)) (omega (arith, down, e₃))
      (omega (arith, below, e₁, ap (λ k. y * k + x) e₂));
}

-- one place more
pub filled_more : (n m width height x y v : ℕ) (f : ℕ → ℕ → ℕ) (old : Plane) → x < width →
    y < height → n ≡ y * width + x → m ≡ n + 1 → v ≡ f x y → IsFilledTo n width height f old →
    IsFilledTo m width height f (with_sample old x y v)
filled_more n m width height x y v f old across down is more right h =
    let inside : x < old.width = omega (arith, h.whole.wide) in
    let below : y < old.height = omega (arith, h.whole.high) in
    record {
      whole = IsPlane-with_sample width height x y v old h.whole;
      samples = λ s t across_s down_t early.
          let inside_s : s < old.width = omega (arith, h.whole.wide) in
          elim (cases_lt (t * width + s) n) [
            | inl before ↦
                sample_at-with_sample_other old x y v s t inside inside_s
                (λ same_x same_y.
                let one : t * width + s ≡ y * width + x =
                ap₂ (λ a b. a * width + b) same_y same_x in
                absurd (omega (arith, before, is, one)))
                ∙ h.samples s t across_s down_t before
            | inr here ↦
                let place : t * width + s ≡ y * width + x = omega (arith, here, early, is, more) in
                let same = same_from_place t s y x width across_s across place in
                ap₂ (λ a b. sample_at (with_sample old x y v) a b) same.1 same.0
                ∙ sample_at-with_sample_same old x y v h.whole.whole inside below
                ∙ right ∙ sym (ap₂ f same.1 same.0)
          ];
    }

-- all places
pub all_filled : (n width height : ℕ) (f : ℕ → ℕ → ℕ) (plane : Plane) → height * width ≤ n →
    IsFilledTo n width height f plane → plane ≡ plane_of width height f
all_filled n width height f plane all h =
    plane_is width height f plane h.whole
    (λ x y across down.
    h.samples x y across down
    (omega (
      arith,
      all,
      row_fits_turned y width width height down (omega arith),
      across,
      mul_comm width height,
    )))

-- what stands in a place is a sample of its block
pub joined_at : (component : Component) (side across y column i : ℕ) (blocks : List Block)
    (block : Block) → slice_get blocks (y / side * across + column) ≡ Some block → i < side →
    joined_sample side across (lists_of component blocks) (column * side + i) y ≡
    get_or (samples_of component block.samples) (y % side * side + i) 0
joined_at component side across y column i blocks block there inside =
    let g : Block → List ℕ = λ b. samples_of component b.samples in
    let list : get_or (map g blocks) (y / side * across + column) [] ≡ g block =
    get_or_from_slice_get (map g blocks) (y / side * across + column) (g block) []
    (slice_get-map g blocks (y / side * across + column) ∙ ap (option_map g) there) in
    ap₂ (λ k u. get_or (get_or (map g blocks) (y / side * across + k) []) (y % side * side + u) 0)
    (div-mul-add column side i inside) (mod-mul-add column side i inside)
    ∙ ap (λ l. get_or l (y % side * side + i) 0) list

-- a row of a block is there
pub row_inside : (y side n : ℕ) → 0 < side → n ≡ side * side → y % side * side + side ≤ n
row_inside y side n some is =
    omega (
      arith,
      is,
      row_fits_turned (y % side) side side side (mod_below y side some) (omega arith),
    )

-- column x of a row of a block
pub part_sample : (component : Component) (side across y column x : ℕ) (blocks : List Block)
    (block : Block) (samples : List ℕ) →
    slice_get blocks (y / side * across + column) ≡ Some block →
    samples ≡ samples_of component block.samples → column * side ≤ x → x < column * side + side →
    get_or (slice_range samples (y % side * side) (y % side * side + side)) (x - column * side) 0
    ≡ joined_sample side across (lists_of component blocks) x y
part_sample component side across y column x blocks block samples there is from to =
    let i : ℕ = x - column * side in
    let start : ℕ = y % side * side in
    let place : column * side + i ≡ x = omega (arith, from) in
    get_or-between samples start (start + side) i 0 (omega (arith, from, to))
    ∙ ap (λ l. get_or l (start + i) 0) is
    ∙ sym (joined_at component side across y column i blocks block there (omega (arith, from, to)))
    ∙ ap (λ k. joined_sample side across (lists_of component blocks) k y) place

-- a block of a row is there
pub block_there : (number across column count : ℕ) → column < across →
    (number + 1) * across ≤ count → number * across + column < count
block_there number across column count below room =
    omega (arith, below, room, add-mul number 1 across)
