-- The reference samples of an angular mode (8.4.4.2.6), in a list that begins with the one before
-- the corner by the block's side.
use Rattle.std.specs.Prelude.{◌≡◌, ℕ, ◌+◌, ◌-◌, ◌*◌, ◌/◌, ◌^◌, ◌≤◌, cond, nat_eq, nat_le, ◌&&◌, List, slice_index, ℤ, pos, negsuc, ◌+ℤ◌, ◌-ℤ◌, ◌*ℤ◌}
use Rattle.std.specs.Int.{int_shr, int_rem_euclid}
use Rattle.std.specs.Int.RustNames.{unsigned_abs}
use Rattle.hv_tables.specs.Angles.{intraPredAngle, invAngle}
use Rattle.hv_sample_model.specs.IntraPrediction.{ref}

-- how far along a mode's line has come at a row, in whole samples
unfoldable pub shift : ℕ → ℕ → ℤ
shift mode across = int_shr (pos (across + 1) *ℤ intraPredAngle mode) 5

-- iFact: the rest of it, in 32nds
unfoldable pub part : ℕ → ℕ → ℕ
part mode across = unsigned_abs (int_rem_euclid (pos (across + 1) *ℤ intraPredAngle mode) (pos 32))

-- the place of the reference sample from which a row begins
unfoldable pub first : ℕ → ℕ → ℕ → ℕ
first log2 mode across = unsigned_abs (pos (2 ^ log2 + 1) +ℤ shift mode across)

-- how many samples before the corner a mode refers to
unfoldable pub projected_count : ℕ → ℕ → ℕ
projected_count log2 mode =
    cond (nat_le 11 mode && nat_le mode 25)
    (unsigned_abs (shift mode (2 ^ log2 - 1)) - 1) 0

-- where the sample that is i + 1 before the corner lies on the other side
unfoldable pub projected : ℕ → ℕ → ℕ
projected mode i = unsigned_abs (int_shr (negsuc i *ℤ invAngle mode +ℤ pos 128) 8)

-- the list holds those that a mode refers to
abbrev pub HoldsReference : ℕ → ℕ → (ℕ → ℕ) → (ℕ → ℕ) → List ℕ → Type 0
HoldsReference log2 mode main other reference =
    (k : ℕ) → 2 ^ log2 ≤ k + projected_count log2 mode → k ≤ 3 * 2 ^ log2 →
    slice_index reference k ≡ ref main other mode (pos k -ℤ pos (2 ^ log2))

-- between two neighbouring samples
abbrev pub blended : ℕ → ℕ → ℕ → ℕ
blended part a b = ((32 - part) * a + part * b + 16) / 32

-- the sample that is x behind the first of a row
abbrev pub sample_between : List ℕ → ℕ → ℕ → ℕ → ℕ
sample_between reference first part x =
    cond (nat_eq part 0) (slice_index reference (first + x))
    (blended part (slice_index reference (first + x)) (slice_index reference (first + x + 1)))
