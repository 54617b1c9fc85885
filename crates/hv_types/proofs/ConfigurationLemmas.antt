-- What follows from settings without a fault.
use Rattle.std.specs.Prelude.{◌≡◌, ℕ, ◌+◌, ◌*◌, ◌/◌, ◌%◌, ◌^◌, ◌<◌, ◌≤◌, Bool, true, false, nat_lt, List, [], ◌∷◌, Option, Some, None, option_map, refl}
use Rattle.std.proofs.Common.{arith}
use Rattle.std.proofs.lemmas.Bool.{ltb-false, eqb-false, or_parts}
use Rattle.std.proofs.lemmas.Nat.{mul-le}
use Rattle.hv_types.specs.declared.settings.Settings.{Settings}
use Rattle.hv_types.specs.declared.settings.ConfigError.{ConfigError}
use Rattle.hv_types.specs.declared.settings.Field.{Field}
use Rattle.hv_types.specs.declared.settings.ConfigError.TheVariants.{OutOfRange}
use Rattle.hv_types.specs.Configuration.{first_met, or_else, most_levels, most_pictures, is_odd, is_outside, pictures_asked, field_out_of_range, size_tests, field_tests, fault_of, padded_width, padded_height, columns, rows, picture_bytes, IsValid}

-- where there is no answer, no test is met
abbrev AllUnmet : {A : Type 0} → List (Bool × A) → Type 0
AllUnmet [] = Unit {0}
AllUnmet (t ∷ ts) = (t.0 ≡ false) × AllUnmet ts

this_unmet : {A : Type 0} (b : Bool) (a : A) (ts : List (Bool × A)) → first_met ((b, a) ∷ ts) ≡ None → (b ≡ false) × (first_met ts ≡ None)
this_unmet false a ts e = (refl, e)
this_unmet true a ts e = absurd cc

all_unmet : {A : Type 0} (ts : List (Bool × A)) → first_met ts ≡ None → AllUnmet ts
all_unmet [] e = tt
all_unmet (t ∷ ts) e = let here = this_unmet t.0 t.1 ts e in (here.0, all_unmet ts here.1)

inside : (low high n : ℕ) → is_outside low high n ≡ false → (low ≤ n) × (n ≤ high)
inside low high n e = let both = or_parts (nat_lt n low) (nat_lt high n) e in (ltb-false n low both.0, ltb-false high n both.1)

even : (n : ℕ) → is_odd n ≡ false → n % 2 ≡ 0
even n e = let apart : n % 2 ≡ 1 → ⊥ = eqb-false (n % 2) 1 e in omega (arith, apart)

both_none : (size : Option ConfigError) (field : Option Field) → or_else size (option_map OutOfRange field) ≡ None → (size ≡ None) × (field ≡ None)
both_none None None e = (refl, refl)
both_none None (Some f) e = absurd cc
both_none (Some c) field e = absurd cc

pub valid : (s : Settings) → fault_of s ≡ None → IsValid s
valid s e =
    let parts = both_none (first_met (size_tests s)) (field_out_of_range s) e in
    let size = all_unmet (size_tests s) parts.0 in
    let field = all_unmet (field_tests s) parts.1 in
    let evens = or_parts (is_odd s.width) (is_odd s.height) size.0 in
    let sizes = or_parts (is_outside 8 4096 s.width) (is_outside 8 2176 s.height) size.1.0 in
    let width = inside 8 4096 s.width sizes.0 in
    let height = inside 8 2176 s.height sizes.1 in
    record {
      even_width = even s.width evens.0;
      even_height = even s.height evens.1;
      width_least = width.0;
      width_most = width.1;
      height_least = height.0;
      height_most = height.1;
      group_samples = ltb-false (2 ^ 28) (s.width * s.height * s.group) size.1.1.0;
      qp = (inside 0 51 s.qp field.0).1;
      levels = (inside 0 most_levels s.levels field.1.0).1;
      group_least = (inside 1 64 s.group field.1.1.0).0;
      group_most = (inside 1 64 s.group field.1.1.0).1;
      workers_least = (inside 1 16 s.workers field.1.1.1.0).0;
      workers_most = (inside 1 16 s.workers field.1.1.1.0).1;
      effort = (inside 0 2 s.effort field.1.1.1.1.0).1;
      segment_least = (inside 1 64 s.segment field.1.1.1.1.1.0).0;
      segment_most = (inside 1 64 s.segment field.1.1.1.1.1.0).1;
      pictures = (inside 0 most_pictures (pictures_asked s.synth) field.1.1.1.1.1.1.0).1;
    }

-- a padded picture: whole 8x8 blocks, and as few as cover the picture
pub padded_width-whole : (s : Settings) → padded_width s % 8 ≡ 0
padded_width-whole s = omega arith

pub padded_height-whole : (s : Settings) → padded_height s % 8 ≡ 0
padded_height-whole s = omega arith

pub padded_width-covers : (s : Settings) → (s.width ≤ padded_width s) × (padded_width s < s.width + 8)
padded_width-covers s = (omega arith, omega arith)

pub padded_height-covers : (s : Settings) → (s.height ≤ padded_height s) × (padded_height s < s.height + 8)
padded_height-covers s = (omega arith, omega arith)

pub padded_width-range : (s : Settings) → IsValid s → (8 ≤ padded_width s) × (padded_width s ≤ 4096)
padded_width-range s v = (omega arith, omega arith)

pub padded_height-range : (s : Settings) → IsValid s → (8 ≤ padded_height s) × (padded_height s ≤ 2176)
padded_height-range s v = (omega arith, omega arith)

-- the coding tree blocks: as few as cover the padded picture
pub columns-covers : (s : Settings) → (padded_width s ≤ 64 * columns s) × (64 * columns s < padded_width s + 64)
columns-covers s = (omega arith, omega arith)

pub rows-covers : (s : Settings) → (padded_height s ≤ 64 * rows s) × (64 * rows s < padded_height s + 64)
rows-covers s = (omega arith, omega arith)

pub columns-range : (s : Settings) → IsValid s → (1 ≤ columns s) × (columns s ≤ 64)
columns-range s v = (omega arith, omega arith)

pub rows-range : (s : Settings) → IsValid s → (1 ≤ rows s) × (rows s ≤ 34)
rows-range s v = (omega arith, omega arith)

-- the bytes of a raw picture
pub picture_bytes-least : (s : Settings) → IsValid s → 96 ≤ picture_bytes s
picture_bytes-least s v =
    let luma : 8 * 8 ≤ s.width * s.height = mul-le 8 8 s.width s.height v.width_least v.height_least in
    let chroma : 4 * 4 ≤ s.width / 2 * (s.height / 2) = mul-le 4 4 (s.width / 2) (s.height / 2) (omega arith) (omega arith) in
    omega arith

pub picture_bytes-most : (s : Settings) → IsValid s → picture_bytes s ≤ 13369344
picture_bytes-most s v =
    let luma : s.width * s.height ≤ 4096 * 2176 = mul-le s.width s.height 4096 2176 v.width_most v.height_most in
    let chroma : s.width / 2 * (s.height / 2) ≤ 2048 * 1088 = mul-le (s.width / 2) (s.height / 2) 2048 1088 (omega arith) (omega arith) in
    omega arith
