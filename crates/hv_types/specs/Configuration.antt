-- Which settings are refused, and the sizes that follow from settings.
use Rattle.std.specs.Prelude.{◌≡◌, ℕ, ◌+◌, ◌-◌, ◌*◌, ◌/◌, ◌%◌, ◌^◌, ◌≤◌, Bool, ◌||◌, nat_lt, nat_eq, if◌then◌else◌, List, [], ◌∷◌, Option, Some, None, option_map}
use Rattle.hv_types.specs.declared.settings.Settings.{Settings}
use Rattle.hv_types.specs.declared.settings.SynthSpec.{SynthSpec}
use Rattle.hv_types.specs.declared.settings.Field.{Field}
use Rattle.hv_types.specs.declared.settings.Field.TheVariants.{Qp, Levels, Group, Workers, Effort, Segment, Pictures}
use Rattle.hv_types.specs.declared.settings.ConfigError.{ConfigError}
use Rattle.hv_types.specs.declared.settings.ConfigError.TheVariants.{OddSize, SizeRange, GroupTooLarge, OutOfRange}

-- of tests, each with what is answered where it is met, the answer of the first that is met
abbrev pub first_met : {A : Type 0} → List (Bool × A) → Option A
first_met [] = None
first_met (t ∷ ts) = (if t.0 then Some t.1 else first_met ts)

abbrev pub is_odd : ℕ → Bool
is_odd n = nat_eq (n % 2) 1

abbrev pub is_outside : ℕ → ℕ → ℕ → Bool
is_outside low high n = nat_lt n low || nat_lt high n

-- the most temporal levels above the lowest, and the most pictures of a video
abbrev pub most_levels : ℕ
most_levels = 3

abbrev pub most_pictures : ℕ
most_pictures = 400000

-- the pictures that a generator is asked for, 0 where there is no generator
abbrev pub pictures_asked : Option SynthSpec → ℕ
pictures_asked None = 0
pictures_asked (Some s) = s.pictures

-- the fields with their ranges, in the order in which they are tested
abbrev pub field_tests : Settings → List (Bool × Field)
field_tests s =
    (is_outside 0 51 s.qp, Qp)
    ∷ (is_outside 0 most_levels s.levels, Levels)
    ∷ (is_outside 1 64 s.group, Group)
    ∷ (is_outside 1 16 s.workers, Workers)
    ∷ (is_outside 0 2 s.effort, Effort)
    ∷ (is_outside 1 64 s.segment, Segment)
    ∷ (is_outside 0 most_pictures (pictures_asked s.synth), Pictures)
    ∷ []

-- the first field that is out of its range
abbrev pub field_out_of_range : Settings → Option Field
field_out_of_range s = first_met (field_tests s)

-- the tests of the size, in their order
abbrev pub size_tests : Settings → List (Bool × ConfigError)
size_tests s =
    (is_odd s.width || is_odd s.height, OddSize)
    ∷ (is_outside 8 4096 s.width || is_outside 8 2176 s.height, SizeRange)
    ∷ (nat_lt (2 ^ 28) (s.width * s.height * s.group), GroupTooLarge)
    ∷ []

abbrev pub or_else : {A : Type 0} → Option A → Option A → Option A
or_else None other = other
or_else (Some a) other = Some a

-- the first fault of the settings: of the size, else of a field
abbrev pub fault_of : Settings → Option ConfigError
fault_of s = or_else (first_met (size_tests s)) (option_map OutOfRange (field_out_of_range s))

-- the next multiple of n: n itself at a multiple
abbrev pub next_multiple : ℕ → ℕ → ℕ
next_multiple n x = (x + (n - 1)) / n * n

-- the sizes of a padded picture, in luma samples
abbrev pub padded_width : Settings → ℕ
padded_width s = next_multiple 8 s.width

abbrev pub padded_height : Settings → ℕ
padded_height s = next_multiple 8 s.height

-- the coding tree blocks of 64x64 that cover a padded picture, the last ones cut (7.4.3.2)
abbrev pub columns : Settings → ℕ
columns s = (padded_width s + 63) / 64

abbrev pub rows : Settings → ℕ
rows s = (padded_height s + 63) / 64

-- the bytes of one raw picture of these sides, without padding: a byte for each sample of luma, of
-- Cb and of Cr, where each of the last two has half the width and half the height
abbrev pub picture_bytes_of : ℕ → ℕ → ℕ
picture_bytes_of width height = width * height + 2 * (width / 2 * (height / 2))

abbrev pub picture_bytes : Settings → ℕ
picture_bytes s = picture_bytes_of s.width s.height

-- what holds of settings without a fault
pub record IsValid (s : Settings) : Type 0 where
  pub even_width : s.width % 2 ≡ 0
  pub even_height : s.height % 2 ≡ 0
  pub width_least : 8 ≤ s.width
  pub width_most : s.width ≤ 4096
  pub height_least : 8 ≤ s.height
  pub height_most : s.height ≤ 2176
  pub group_samples : s.width * s.height * s.group ≤ 2 ^ 28
  pub qp : s.qp ≤ 51
  pub levels : s.levels ≤ most_levels
  pub group_least : 1 ≤ s.group
  pub group_most : s.group ≤ 64
  pub workers_least : 1 ≤ s.workers
  pub workers_most : s.workers ≤ 16
  pub effort : s.effort ≤ 2
  pub segment_least : 1 ≤ s.segment
  pub segment_most : s.segment ≤ 64
  pub pictures : pictures_asked s.synth ≤ most_pictures
