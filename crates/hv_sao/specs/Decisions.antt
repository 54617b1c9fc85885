-- The choice of a block's offsets from counts and sums of its samples.
use Rattle.std.specs.Prelude.{◌≡◌, ℕ, ◌+◌, ◌-◌, ◌*◌, ◌<◌, ◌≤◌, ◌^◌, cond, nat_eq, nat_lt, List, [], ◌∷◌, slice_index_or, max, min, Some, ℤ, pos, ◌+ℤ◌, ◌-ℤ◌, ◌*ℤ◌}
use Rattle.std.specs.Int.{abs_diff}
use Rattle.std.specs.Int.RustNames.{unsigned_abs}
use Rattle.hv_lemmas.specs.Clipping.{clip1}
use Rattle.hv_types.specs.Samples.{Plane, HasByteSamples, sample_at}
use Rattle.hv_plan.specs.declared.offsets.SaoKind.{SaoKind}
use Rattle.hv_plan.specs.declared.offsets.SaoKind.TheVariants.{Band}
use Rattle.hv_plan.specs.declared.offsets.SaoComponent.{SaoComponent}
use Rattle.hv_filter_model.specs.Blocks.{Location, locations}
use Rattle.hv_filter_model.specs.SampleAdaptiveOffset.{category, edge_of, edgeIdx, sao_sample}
use Rattle.hv_filter_model.specs.OffsetDecision.{Block, difference, offset, candidate, squared_errors}
use Rattle.hv_sao.specs.declared.block.Area.{Area}
use Rattle.hv_sao.specs.Areas.{area_of}
use Rattle.hv_sao.specs.declared.tally.Tally.{Tally}
use Rattle.hv_sao.specs.declared.candidate.Candidate.{Candidate}
use Rattle.hv_sao.specs.declared.offset.Offset.{Offset}
use Rattle.std.specs.List.{sum_by}
use Rattle.hv_filter_model.specs.OffsetBins.{own_bins}
use Rattle.hv_sao.specs.Tallies.{sum_upto, chosen, count_of, sum_of_key, tally_at}

-- the block that code stands for
abbrev pub block_of : Plane → Plane → Area → Block
block_of deblocked input area = record { deblocked = deblocked; input = input; area = area_of area }

-- ---- keys

-- a sample's value
abbrev pub value_key : Block → Location → ℕ
value_key b at = sample_at b.deblocked at.x at.y

-- Eight keys a category. Where offsets are positive, the last eight values are apart, as a sum may
-- be cut there; where they are negative, the first eight.
abbrev pub edge_key : ℕ → ℕ → ℕ
edge_key category sample =
    cond (nat_eq category 0) 32
    (8 * (category - 1) + cond (nat_lt category 3) (max sample 248 - 248) (min sample 7))

abbrev pub edge_key_at : ℕ → Block → Location → ℕ
edge_key_at class b at =
    edge_key (edgeIdx class b.deblocked at.x at.y) (sample_at b.deblocked at.x at.y)

-- The first n samples of a row, beside their two neighbours, have these keys.
pub record AreEdgeKeys (n : ℕ) (samples first second keys : List ℕ) : Type 0 where
  pub values : (i : ℕ) → i < n →
      slice_index_or keys i 0 ≡
      edge_key
      (edge_of (slice_index_or samples i 0) (Some (slice_index_or first i 0))
      (Some (slice_index_or second i 0)))
      (slice_index_or samples i 0)
  pub most : (i : ℕ) → i < n → slice_index_or keys i 0 ≤ 32

-- the first n tallies count the samples of a block by their keys
pub record Counts (n : ℕ) (key : Location → ℕ) (b : Block) (tallies : List Tally) : Type 0 where
  pub counts : (k : ℕ) → k < n →
      pos (tally_at tallies k).count ≡ count_of key k (locations b.area)
  pub sums : (k : ℕ) → k < n →
      (tally_at tallies k).sum ≡ sum_of_key key (difference b) k (locations b.area)

-- ---- groups of eight keys

-- of the first n of them
unfoldable pub counts_to : ℕ → List Tally → ℕ → ℤ
counts_to n tallies at = sum_upto n (λ j. pos (tally_at tallies (at + j)).count)

unfoldable pub sums_to : ℕ → List Tally → ℕ → ℤ
sums_to n tallies at = sum_upto n (λ j. (tally_at tallies (at + j)).sum)

abbrev pub group_count : List Tally → ℕ → ℤ
group_count = counts_to 8

abbrev pub group_sum : List Tally → ℕ → ℤ
group_sum = sums_to 8

-- how far a sample moves by an offset
abbrev pub moved : ℕ → ℤ → ℤ
moved sample offset = pos (clip1 (pos sample +ℤ offset)) -ℤ pos sample

-- by how much the squared differences of n samples grow where each moves by c, and the sum of their
-- differences is s: n * c * c - 2 * c * s
abbrev pub growth : ℤ → ℤ → ℤ → ℤ
growth n s c = (n *ℤ (c *ℤ c)) -ℤ (pos 2 *ℤ (c *ℤ s))

abbrev pub tally_growth : Tally → ℤ → ℤ
tally_growth tally c = growth (pos tally.count) tally.sum c

-- of the first n tallies of a group whose samples have the values from `base` on
unfoldable pub growths_to : ℕ → List Tally → ℕ → ℕ → ℤ → ℤ
growths_to n tallies at base offset =
    sum_upto n (λ j. tally_growth (tally_at tallies (at + j)) (moved (base + j) offset))

abbrev pub group_growth : List Tally → ℕ → ℕ → ℤ → ℤ
group_growth = growths_to 8

-- ---- growth of a block's squared differences

-- the squared difference of the input and what is deblocked
abbrev pub input_error : Block → Location → ℕ
input_error b at =
    let gap = abs_diff (sample_at b.input at.x at.y) (sample_at b.deblocked at.x at.y) in gap * gap

-- by how much it grows at one location
abbrev pub growth_at : Block → SaoComponent → Location → ℤ
growth_at b component at =
    growth (pos 1) (difference b at)
    (pos (sao_sample component b.deblocked at.x at.y) -ℤ pos (sample_at b.deblocked at.x at.y))

-- over the samples that get offset i
abbrev pub category_growth : Block → SaoComponent → ℕ → ℤ
category_growth b component i =
    chosen (λ at. nat_eq (category component.kind b.deblocked at.x at.y) (i + 1))
    (growth_at b component) (locations b.area)

-- an offset of a block, and the growth over the samples that get it
pub record IsOffset (b : Block) (kind : SaoKind) (i : ℕ) (z grows : ℤ) : Type 0 where
  pub value : z ≡ offset b kind i
  pub growth : grows ≡ category_growth b (candidate b kind) i

-- a candidate of a block: its squared differences, and the bins that its component takes itself
pub record IsCandidate (b : Block) (kind : SaoKind) (c : Candidate) : Type 0 where
  pub component : c.component ≡ candidate b kind
  pub squares : c.squares ≡ pos (squared_errors b (candidate b kind))
  pub bins : c.bins ≡ own_bins (candidate b kind)

-- the squared differences of what is deblocked
pub record IsMeasured (b : Block) (errors : ℕ) : Type 0 where
  pub bytes : HasByteSamples b.deblocked
  pub squares : errors ≡ sum_by (input_error b) (locations b.area)

-- counts by values, and the squared differences of what is deblocked
pub record IsCounted (b : Block) (tallies : List Tally) (errors : ℕ) : Type 0 where
  pub counts : Counts 256 (value_key b) b tallies
  pub measured : IsMeasured b errors

-- the same by edges of a class
pub record IsCountedByEdge
    (class : ℕ) (b : Block) (tallies : List Tally) (errors : ℕ) : Type 0 where
  pub counts : Counts 32 (edge_key_at class b) b tallies
  pub measured : IsMeasured b errors

-- ---- four offsets

abbrev pub offset_at_index : List Offset → ℕ → Offset
offset_at_index offsets i = slice_index_or offsets i (record { value = pos 0; growth = pos 0 })

abbrev pub growth_at_index : List Offset → ℕ → ℤ
growth_at_index offsets i = (offset_at_index offsets i).growth

-- the first n of all bands' offsets are those of a block
pub record HasBandOffsets (n : ℕ) (b : Block) (offsets : List Offset) : Type 0 where
  pub each : (position i : ℕ) → position ≤ 28 → i < 4 → position + i < n →
      IsOffset b (Band position) i
      (offset_at_index offsets (position + i)).value
      (growth_at_index offsets (position + i))

-- the first n of offsets let the squared differences grow so far at most
pub record AreSmallTo (n : ℕ) (offsets : List Offset) : Type 0 where
  pub small : (k : ℕ) → k < n → unsigned_abs (growth_at_index offsets k) ≤ 2 ^ 27

abbrev pub component_from : SaoKind → List Offset → SaoComponent
component_from kind offsets = record {
  kind = kind;
  offsets = (offset_at_index offsets 0).value ∷ (offset_at_index offsets 1).value ∷
      (offset_at_index offsets 2).value ∷ (offset_at_index offsets 3).value ∷ [];
}
