-- Rows of samples beside their neighbours, and rows that are written.
use Rattle.std.specs.Prelude.{◌≡◌, ℕ, ◌+◌, ◌/◌, ◌<◌, ◌≤◌, List, length, slice_index_or, Some, pos, ◌+ℤ◌}
use Rattle.hv_lemmas.specs.Clipping.{clip1}
use Rattle.hv_plan.specs.declared.offsets.SaoComponent.{SaoComponent}
use Rattle.hv_types.specs.Samples.{Plane, sample_at}
use Rattle.hv_filter_model.specs.SampleAdaptiveOffset.{bandTable, edge_of, edgeIdx, SaoOffsetVal}

-- sample i is f i
abbrev pub IsRow : (ℕ → ℕ) → List ℕ → Type 0
IsRow f row = (i : ℕ) → i < length row → slice_index_or row i 0 ≡ f i

-- from place `lead` on there are f 0, f 1 and so on, `count` numbers; every other number is as
-- before
pub record HasPart (lead count : ℕ) (f : ℕ → ℕ) (old new : List ℕ) : Type 0 where
  pub part : (i : ℕ) → i < count → slice_index_or new (lead + i) 0 ≡ f i
  pub before : (k : ℕ) → k < lead → slice_index_or new k 0 ≡ slice_index_or old k 0
  pub behind : (k : ℕ) → lead + count ≤ k → slice_index_or new k 0 ≡ slice_index_or old k 0

-- of `count` numbers from place `lead` on, the first n are f 0, f 1 and so on; every number before
-- and behind them all is as before
pub record BeginsPart (lead n count : ℕ) (f : ℕ → ℕ) (old new : List ℕ) : Type 0 where
  pub part : (i : ℕ) → i < n → slice_index_or new (lead + i) 0 ≡ f i
  pub before : (k : ℕ) → k < lead → slice_index_or new k 0 ≡ slice_index_or old k 0
  pub behind : (k : ℕ) → lead + count ≤ k → slice_index_or new k 0 ≡ slice_index_or old k 0

-- sample i of a row with the offset of its band
abbrev pub band_sample : SaoComponent → ℕ → List ℕ → ℕ → ℕ
band_sample component position samples i =
    let sample = slice_index_or samples i 0 in
    clip1 (pos sample +ℤ SaoOffsetVal component (bandTable position (sample / 8)))

-- sample i of a row with the offset of its edge, beside its two neighbours
abbrev pub edge_sample : SaoComponent → List ℕ → List ℕ → List ℕ → ℕ → ℕ
edge_sample component samples first second i =
    let sample = slice_index_or samples i 0 in
    clip1 (pos sample +ℤ SaoOffsetVal component
    (edge_of sample (Some (slice_index_or first i 0)) (Some (slice_index_or second i 0))))

-- The samples from column `start` on of a row's columns from `from` to `to`, with their first and
-- second neighbours. Those before and behind have no category.
pub record IsEdgeRow (class : ℕ) (plane : Plane) (y from to start : ℕ)
    (samples first second : List ℕ) : Type 0 where
  pub begins : from ≤ start
  pub ends : start + length samples ≤ to
  pub firsts : length first ≡ length samples
  pub seconds : length second ≡ length samples
  pub values : IsRow (λ i. sample_at plane (start + i) y) samples
  pub edges : (i : ℕ) → i < length samples →
      edgeIdx class plane (start + i) y ≡
      edge_of (slice_index_or samples i 0)
      (Some (slice_index_or first i 0)) (Some (slice_index_or second i 0))
  pub before : (x : ℕ) → from ≤ x → x < start → edgeIdx class plane x y ≡ 0
  pub behind : (x : ℕ) → start + length samples ≤ x → x < to → edgeIdx class plane x y ≡ 0
