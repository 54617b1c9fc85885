-- Planes of which rows are written, a block after another.
use Rattle.std.proofs.Common.{◌≡◌, ℕ, ◌+◌, ◌-◌, ◌*◌, ◌/◌, ◌%◌, ◌<◌, ◌≤◌, List, length, get_or, min, ⊎_elim, refl, sym, ◌∙◌, ap, ap₂, subst, arith}
use Rattle.std.proofs.lemmas.List.{get_or_default}
use Rattle.hv_plan.specs.declared.offsets.SaoComponent.{SaoComponent}
use Rattle.hv_plan.specs.declared.offsets.SaoParam.{SaoParam}
use Rattle.hv_filter_model.specs.SampleAdaptiveOffset.{sao_sample, off_param}
use Rattle.hv_sao.specs.declared.component.Component.{Component}
use Rattle.hv_sao.specs.Components.{component_of}
use Rattle.std.proofs.lemmas.Bool.{cases_lt}
use Rattle.std.proofs.lemmas.Nat.{div-mul-add}
use Rattle.std.proofs.lemmas.Grind.{div_ceil_times}
use Rattle.std.proofs.Math.Nat.{mul-le-mul_right, add-mul}
use Rattle.hv_types.specs.Samples.{Plane, IsWhole, with_run}
use Rattle.hv_sao.specs.Planes.{IsWritten, number_at, block_sample}
use Rattle.hv_sao.proofs.RowLemmas.{no_part, length-part, part_put, length_with_part, part_joined}

pub nothing_written : (x y : ℕ) (f : ℕ → ℕ) (p : Plane) → IsWritten x y 0 f p p
nothing_written x y f p = record { wide = refl; high = refl; size = refl; part = no_part (y * p.width + x) f p.samples }

-- a plane stays whole
pub whole_written : (x y n : ℕ) (f : ℕ → ℕ) (old new : Plane) → IsWhole old →
    IsWritten x y n f old new → IsWhole new
whole_written x y n f old new whole h = record {
  count = h.size ∙ whole.count ∙ sym (ap₂ (λ a b. a * b) h.wide h.high);
  wide = subst (λ a. 0 < a) (sym h.wide) whole.wide;
  high = subst (λ a. 0 < a) (sym h.high) whole.high;
}

-- a run of samples
pub run_written : (x y n : ℕ) (values : List ℕ) (p : Plane) → IsWhole p → y < p.height →
    length values ≡ n → x + n ≤ p.width →
    IsWritten x y n (number_at values) p (with_run p x y values)
run_written x y n values p whole down count across =
    let inside : y * p.width + x + length values ≤ length p.samples =
    length-part p p.samples p.width x y (length values) whole.count refl down
    (omega (arith, across, count)) in
    subst (λ k. IsWritten x y k (number_at values) p (with_run p x y values)) count
    (record {
      wide = refl;
      high = refl;
      size = length_with_part (y * p.width + x) values p.samples inside;
      part = part_put (y * p.width + x) values p.samples inside;
    })

-- what is written is the same by other words
pub written_as : (x y n : ℕ) (f g : ℕ → ℕ) (old new : Plane) → ((i : ℕ) → i < n → f i ≡ g i) → IsWritten x y n f old new →
    IsWritten x y n g old new
written_as x y n f g old new same h = record {
  wide = h.wide;
  high = h.high;
  size = h.size;
  part = record {
    part = λ i below. h.part.part i below ∙ same i below;
    before = h.part.before;
    behind = h.part.behind;
  };
}

-- a part that begins inside another, or at its end, and reaches as far at least
pub part_written : (x y n at m k next : ℕ) (f g : ℕ → ℕ) (old mid new : Plane) → IsWritten x y n f old mid → IsWritten next y m g mid new →
    next ≡ x + at → at ≤ n → n ≤ at + m → ((i : ℕ) → i < m → g i ≡ f (at + i)) → k ≡ at + m → IsWritten x y k f old new
part_written x y n at m k next f g old mid new h h₂ place within reach same is = record {
  wide = h₂.wide ∙ h.wide;
  high = h₂.high ∙ h.high;
  size = h₂.size ∙ h.size;
  part = part_joined (y * old.width + x) n at m k (y * mid.width + next) f g old.samples mid.samples new.samples h.part h₂.part
      (ap (λ w. y * w + next) h.wide ∙ omega (arith, place)) within reach same is;
}

-- a run put where all before it in the part is right
pub run_more : (x y n at m k next : ℕ) (f : ℕ → ℕ) (values : List ℕ) (old mid : Plane) → IsWhole old → y < old.height →
    length values ≡ m → next + m ≤ old.width → ((i : ℕ) → i < m → number_at values i ≡ f (at + i)) →
    IsWritten x y n f old mid → next ≡ x + at → at ≤ n → n ≤ at + m → k ≡ at + m → IsWritten x y k f old (with_run mid next y values)
run_more x y n at m k next f values old mid whole down count across same h place within reach is =
    part_written x y n at m k next f (number_at values) old mid (with_run mid next y values) h
    (run_written next y m values mid (whole_written x y n f old mid whole h) (omega (arith, down, h.high)) count
    (omega (arith, across, h.wide)))
    place within reach same is

-- ---- blocks of a row

-- a block begins inside
pub block_inside : (w s k : ℕ) → 0 < s → k < w / s + min 1 (w % s) → k * s < w
block_inside w s k some h =
    let all : (w / s + min 1 (w % s)) * s < w + s = (div_ceil_times w s some).1 in
    let most : (k + 1) * s ≤ (w / s + min 1 (w % s)) * s = mul-le-mul_right s (omega arith) in
    omega (arith, all, most, add-mul k 1 s)

-- all blocks reach to the end
pub blocks_reach : (w s : ℕ) → 0 < s → w ≤ (w / s + min 1 (w % s)) * s
blocks_reach w s some = (div_ceil_times w s some).0

pub choice_inside : (w s k first n : ℕ) → k * s < w → w + first * s ≤ n * s → first + k < n
choice_inside w s k first n inside room =
    ⊎_elim (λ less. less)
    (λ more.
    let most : n * s ≤ (first + k) * s = mul-le-mul_right s more in
    absurd (omega (arith, inside, room, most, add-mul first k s)))
    (cases_lt (first + k) n)

-- a block's part of a row behind those before it
pub block_written : (component : Component) (choices : List SaoParam) (first side width y column step : ℕ) (none : SaoParam)
    (choice : SaoComponent) (plane old mid new : Plane) → 0 < side → column * side < width →
    step ≡ min side (width - column * side) → first + column < length choices →
    choice ≡ component_of component (get_or choices (first + column) none) →
    IsWritten 0 y (min (column * side) width) (block_sample component choices first side plane y) old mid →
    IsWritten (column * side) y (column * side + step - column * side) (λ i. sao_sample choice plane (column * side + i) y) mid new →
    IsWritten 0 y (min ((column + 1) * side) width) (block_sample component choices first side plane y) old new
block_written component choices first side width y column step none choice plane old mid new some inside is there chosen h h₂ =
    let n : ℕ = column * side in
    let begin : min n width ≡ n = omega arith in
    let more : (column + 1) * side ≡ column * side + 1 * side = add-mul column 1 side in
    let same : choice ≡ component_of component (get_or choices (first + column) off_param) =
    chosen ∙ ap (λ p. component_of component p) (get_or_default choices (first + column) none off_param there) in
    part_written 0 y n n (n + step - n) (min ((column + 1) * side) width) n (block_sample component choices first side plane y)
    (λ i. sao_sample choice plane (n + i) y) old mid new (subst (λ k. IsWritten 0 y k (block_sample component choices first side plane y) old mid) begin h) h₂
    (omega arith) (omega arith) (omega arith)
    (λ i below.
    ap (λ c. sao_sample c plane (n + i) y) same
    ∙ ap (λ k. sao_sample (component_of component (get_or choices (first + k) off_param)) plane (n + i) y)
    (sym (div-mul-add column side i (omega (arith, below)))))
    (omega (arith, more))
