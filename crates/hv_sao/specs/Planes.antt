-- Planes of which rows are written.
use Rattle.std.specs.Prelude.{◌≡◌, ℕ, ◌+◌, ◌*◌, ◌/◌, ◌<◌, List, length, slice_index_or}
use Rattle.hv_types.specs.Samples.{Plane, IsPlane, sample_at}
use Rattle.hv_plan.specs.declared.offsets.SaoComponent.{SaoComponent}
use Rattle.hv_filter_model.specs.Blocks.{block_number}
use Rattle.hv_plan.specs.declared.offsets.SaoParam.{SaoParam}
use Rattle.hv_filter_model.specs.SampleAdaptiveOffset.{sao_sample, off, off_param}
use Rattle.hv_sao.specs.declared.component.Component.{Component}
use Rattle.hv_sao.specs.Components.{component_of}
use Rattle.hv_sao.specs.Rows.{HasPart}

-- In row y, from column x on, there are f 0, f 1 and so on, `count` samples; every other sample is
-- as before.
pub record IsWritten (x y count : ℕ) (f : ℕ → ℕ) (old new : Plane) : Type 0 where
  pub wide : new.width ≡ old.width
  pub high : new.height ≡ old.height
  pub size : length new.samples ≡ length old.samples
  pub part : HasPart (y * old.width + x) count f old.samples new.samples

abbrev pub number_at : List ℕ → ℕ → ℕ
number_at numbers i = slice_index_or numbers i 0

-- column x of row y, where the choices of the row's blocks, which have this side, stand from place
-- `first` on
abbrev pub block_sample : Component → List SaoParam → ℕ → ℕ → Plane → ℕ → ℕ → ℕ
block_sample component choices first side plane y x =
    sao_sample
    (component_of component (slice_index_or choices (first + x / side) off_param)) plane x y

-- column x of row y, with the choice of its block
abbrev pub plane_sample : ℕ → ℕ → List SaoComponent → Plane → ℕ → ℕ → ℕ
plane_sample side across choices plane x y =
    sao_sample (slice_index_or choices (block_number side across x y) off) plane x y

-- a plane of the sides of another has f x y in column x of row y, in the first rows
pub record HasRows (rows : ℕ) (f : ℕ → ℕ → ℕ) (like plane : Plane) : Type 0 where
  pub whole : IsPlane like.width like.height plane
  pub samples :
      (x y : ℕ) → x < like.width → y < rows → y < like.height → sample_at plane x y ≡ f x y
