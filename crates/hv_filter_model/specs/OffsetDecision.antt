-- The encoder's own choice of sample adaptive offsets for a coding tree block: the first of least
-- cost, for luma, and for Cb and Cr together. H.265 leaves it free.
use Rattle.std.specs.Prelude.{ℕ, zero, suc, ◌+◌, ◌*◌, ◌/◌, cond, nat_eq, List, [], ◌∷◌, ◌++◌, length, map, filter, sum, ℤ, pos, neg_ℤ, ◌+ℤ◌, ◌-ℤ◌}
use Rattle.std.specs.Int.{abs_diff, is_negative}
use Rattle.std.specs.Int.RustNames.{unsigned_abs}
use Rattle.hv_lemmas.specs.Clipping.{clip3}
use Rattle.hv_lemmas.specs.Lists.{tabulate}
use Rattle.hv_types.specs.declared.picture.Picture.{Picture}
use Rattle.hv_types.specs.Samples.{Plane, sample_at}
use Rattle.hv_plan.specs.declared.offsets.SaoKind.{SaoKind}
use Rattle.hv_plan.specs.declared.offsets.SaoKind.TheVariants.{Off, Band, Edge}
use Rattle.hv_plan.specs.declared.offsets.SaoComponent.{SaoComponent}
use Rattle.hv_plan.specs.declared.offsets.SaoParam.{SaoParam}
use Rattle.hv_plan.specs.declared.place.Place.{Place}
use Rattle.hv_filter_model.specs.Blocks.{luma_side, chroma_side, blocks_over, Area, block_area, Location, locations}
use Rattle.hv_filter_model.specs.Costs.{cost, first_least}
use Rattle.hv_filter_model.specs.OffsetBins.{own_bins, luma_bins, chroma_bins}
use Rattle.hv_filter_model.specs.SampleAdaptiveOffset.{least_offset, most_offset, category, sao_sample, off_param}

-- a block of one colour component: the plane as deblocked, the plane of the input, and which part
-- of both the block is
pub record Block : Type 0 where
  pub deblocked : Plane
  pub input : Plane
  pub area : Area

-- ---- the offsets of a kind

-- input minus deblocked
abbrev pub difference : Block → Location → ℤ
difference b at = pos (sample_at b.input at.x at.y) -ℤ pos (sample_at b.deblocked at.x at.y)

-- the samples that get offset i
abbrev pub samples_of : Block → SaoKind → ℕ → List Location
samples_of b kind i =
    filter (λ at. nat_eq (category kind b.deblocked at.x at.y) (i + 1)) (locations b.area)

abbrev pub sum_of : List ℤ → ℤ
sum_of [] = pos 0
sum_of (z ∷ zs) = z +ℤ sum_of zs

abbrev pub with_sign_of : ℤ → ℕ → ℤ
with_sign_of z n = cond (is_negative z) (neg_ℤ (pos n)) (pos n)

-- the mean of n numbers of this sum, rounded to the nearest, a half away from 0; 0 of none
abbrev pub mean : ℤ → ℕ → ℤ
mean total n =
    cond (nat_eq n 0) (pos 0) (with_sign_of total ((2 * unsigned_abs total + n) / (2 * n)))

-- offset i: the mean of the differences of its samples, in the range of the kind
abbrev pub offset : Block → SaoKind → ℕ → ℤ
offset b kind i =
    clip3 (least_offset kind i) (most_offset kind i)
    (mean (sum_of (map (difference b) (samples_of b kind i))) (length (samples_of b kind i)))

-- the candidate of a kind
abbrev pub candidate : Block → SaoKind → SaoComponent
candidate b kind = record { kind = kind; offsets = tabulate 4 (λ i. offset b kind i) }

-- ---- its cost

-- the squared difference of the input and what is shown
abbrev pub squared_error : Block → SaoComponent → Location → ℕ
squared_error b component at =
    let gap = abs_diff (sample_at b.input at.x at.y)
    (sao_sample component b.deblocked at.x at.y) in
    gap * gap

abbrev pub squared_errors : Block → SaoComponent → ℕ
squared_errors b component = sum (map (squared_error b component) (locations b.area))

-- ---- the choice

-- luma: off, the bands at the positions 0 to 28, the edge classes 0 to 3
abbrev pub luma_candidates : Block → List SaoComponent
luma_candidates b =
    tabulate 29 (λ position. candidate b (Band position)) ++
    tabulate 4 (λ class. candidate b (Edge class))

abbrev pub luma_choice : ℕ → Block → SaoComponent
luma_choice qp b =
    first_least (λ c. cost qp (squared_errors b c) (luma_bins c)) (candidate b Off)
    (luma_candidates b)

-- Cb or Cr: the band at a position of its own, 0 to 28
abbrev pub band_choice : ℕ → Block → SaoComponent
band_choice qp b =
    first_least (λ c. cost qp (squared_errors b c) (own_bins c)) (candidate b (Band 0))
    (tabulate 28 (λ i. candidate b (Band (i + 1))))

pub record Chroma : Type 0 where
  pub cb : SaoComponent
  pub cr : SaoComponent

-- off, bands, the edge classes 0 to 3
abbrev pub edge_pair : Block → Block → ℕ → Chroma
edge_pair cb cr class = record { cb = candidate cb (Edge class); cr = candidate cr (Edge class) }

abbrev pub chroma_cost : ℕ → Block → Block → Chroma → ℕ
chroma_cost qp cb cr pair =
    cost qp (squared_errors cb pair.cb + squared_errors cr pair.cr) (chroma_bins pair.cb pair.cr)

abbrev pub chroma_choice : ℕ → Block → Block → Chroma
chroma_choice qp cb cr =
    first_least (chroma_cost qp cb cr)
    (record { cb = candidate cb Off; cr = candidate cr Off })
    (record { cb = band_choice qp cb; cr = band_choice qp cr } ∷ tabulate 4 (edge_pair cb cr))

-- the block of this number of two planes
abbrev pub block_of : ℕ → ℕ → ℕ → Plane → Plane → Block
block_of side across number deblocked input = record {
  deblocked = deblocked;
  input = input;
  area = block_area side across number deblocked;
}

-- the choice for the block at a place
abbrev pub chosen_offsets : Picture → Picture → Place → ℕ → SaoParam
chosen_offsets deblocked input place qp =
    let across = blocks_over luma_side place.width in
    let chroma = chroma_choice qp
    (block_of chroma_side across place.index deblocked.cb input.cb)
    (block_of chroma_side across place.index deblocked.cr input.cr) in
    record {
      luma = luma_choice qp
          (block_of luma_side across place.index deblocked.luma input.luma);
      cb = chroma.cb;
      cr = chroma.cr;
    }

-- ---- the choices for a picture

-- how many coding tree blocks it has
abbrev pub block_count : Picture → ℕ
block_count picture =
    blocks_over luma_side picture.luma.width * blocks_over luma_side picture.luma.height

abbrev pub place_in : Picture → ℕ → Place
place_in picture number =
    record { width = picture.luma.width; height = picture.luma.height; index = number }

-- at effort 0 nothing is chosen
abbrev pub block_offsets : ℕ → ℕ → Picture → Picture → ℕ → SaoParam
block_offsets zero qp deblocked input number = off_param
block_offsets (suc effort) qp deblocked input number =
    chosen_offsets deblocked input (place_in deblocked number) qp

-- one for each block, in raster order
abbrev pub picture_offsets : ℕ → ℕ → Picture → Picture → List SaoParam
picture_offsets effort qp deblocked input =
    tabulate (block_count deblocked) (block_offsets effort qp deblocked input)
