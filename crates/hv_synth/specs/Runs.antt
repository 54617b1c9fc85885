-- Runs of bytes: parts of rows of planes, one behind the other.
use Rattle.std.specs.Prelude.{◌+◌, ◌*◌, ◌/◌, ◌≡◌, ℕ, ◌<◌, List, Some, slice_index}
use Rattle.std.specs.List.{flat_map}
use Rattle.hv_types.specs.Configuration.{IsValid}
use Rattle.hv_types.specs.Video.{raw}
use Rattle.hv_types.specs.declared.settings.Settings.{Settings}
use Rattle.hv_types.specs.declared.settings.SynthSpec.{SynthSpec}
use Rattle.hv_synth.specs.declared.component.Component.{Component}
use Rattle.hv_synth.specs.declared.component.Component.TheVariants.{Luma, Cb, Cr}
use Rattle.hv_synth.specs.Generator.{luma, cb, cr, generated}

-- f 0, f 1 and so on, in the first n places
abbrev pub IsRun : ℕ → (ℕ → ℕ) → List ℕ → Type 0
IsRun n f bytes = (k : ℕ) → k < n → slice_index bytes k ≡ f k

-- a side of the plane of a component, of that of luma
abbrev pub side_of : Component → ℕ → ℕ
side_of Luma n = n
side_of Cb n = n / 2
side_of Cr n = n / 2

-- where its plane begins among the bytes of a picture
abbrev pub first_of : Component → ℕ → ℕ → ℕ
first_of Luma w h = 0
first_of Cb w h = w * h
first_of Cr w h = w * h + w / 2 * (h / 2)

-- its samples
abbrev pub sample_of : Component → ℕ → ℕ → ℕ → ℕ → ℕ
sample_of Luma seed t x y = luma seed t x y
sample_of Cb seed t x y = cb seed t x y
sample_of Cr seed t x y = cr t x y

-- A place among the bytes of a picture is in column x of row y of the plane of a component.
pub record IsPlace (s : Settings) (place : ℕ) (component : Component) (x y : ℕ) : Type 0 where
  pub across : x < side_of component s.width
  pub down : y < side_of component s.height
  pub at : place ≡ first_of component s.width s.height + (y * side_of component s.width + x)

-- byte i of the generated video
abbrev pub byte_of : Settings → ℕ → ℕ
byte_of s i = slice_index (flat_map raw (generated s)) i

-- Settings in all ranges that name this generator.
pub record Generates (s : Settings) (spec : SynthSpec) : Type 0 where
  pub valid : IsValid s
  pub named : s.synth ≡ Some spec
