-- Sample adaptive offset (8.7.3): which choices there are for a coding tree block (7.4.9.3), and
-- the picture that is shown, from the deblocked one and the choices.
use Rattle.std.specs.Prelude.{◌≡◌, ℕ, ◌+◌, ◌-◌, ◌/◌, ◌%◌, ◌<◌, Bool, false, cond, nat_eq, nat_lt, ◌&&◌, List, [], ◌∷◌, map, replicate, slice_index_or, Option, Some, None, ℤ, pos, negsuc, ◌+ℤ◌, ◌≤ℤ◌}
use Rattle.std.specs.Int.RustNames.{unsigned_abs}
use Rattle.hv_lemmas.specs.Clipping.{clip1}
use Rattle.hv_types.specs.declared.picture.Picture.{Picture}
use Rattle.hv_types.specs.Samples.{Plane, sample_at, plane_of}
use Rattle.hv_plan.specs.declared.offsets.SaoKind.{SaoKind}
use Rattle.hv_plan.specs.declared.offsets.SaoKind.TheVariants.{Off, Band, Edge}
use Rattle.hv_plan.specs.declared.offsets.SaoComponent.{SaoComponent}
use Rattle.hv_plan.specs.declared.offsets.SaoParam.{SaoParam}
use Rattle.hv_filter_model.specs.Blocks.{luma_side, chroma_side, blocks_over, block_number}

-- ---- the choices (7.4.9.3)

-- the least and the greatest that offset i may be: its sign is coded for a band alone
abbrev pub least_offset : SaoKind → ℕ → ℤ
least_offset Off i = pos 0
least_offset (Band position) i = negsuc 6
least_offset (Edge class) i = cond (nat_lt i 2) (pos 0) (negsuc 6)

abbrev pub most_offset : SaoKind → ℕ → ℤ
most_offset Off i = pos 0
most_offset (Band position) i = pos 7
most_offset (Edge class) i = cond (nat_lt i 2) (pos 7) (pos 0)

abbrev pub offset_at : SaoComponent → ℕ → ℤ
offset_at component i = slice_index_or component.offsets i (pos 0)

-- sao_band_position and SaoEoClass are in their range
abbrev pub IsKind : SaoKind → Type 0
IsKind Off = Unit {0}
IsKind (Band position) = position < 32
IsKind (Edge class) = class < 4

pub record IsBetween (low high z : ℤ) : Type 0 where
  pub least : low ≤ℤ z
  pub most : z ≤ℤ high

pub record IsValidComponent (component : SaoComponent) : Type 0 where
  pub kind : IsKind component.kind
  pub offsets : (i : ℕ) → i < 4 →
      IsBetween (least_offset component.kind i) (most_offset component.kind i)
      (offset_at component i)

-- SaoTypeIdx is the same, and so is SaoEoClass where there is one
abbrev pub HaveOneType : SaoKind → SaoKind → Type 0
HaveOneType Off Off = Unit {0}
HaveOneType (Band position) (Band other) = Unit {0}
HaveOneType (Edge class) (Edge other) = class ≡ other
HaveOneType _ _ = ⊥

pub record IsValidParam (param : SaoParam) : Type 0 where
  pub luma : IsValidComponent param.luma
  pub cb : IsValidComponent param.cb
  pub cr : IsValidComponent param.cr
  pub chroma : HaveOneType param.cb.kind param.cr.kind

-- ---- the samples (8.7.3.2)

-- bandTable: k + 1 at the band that is k behind the first of the four, behind band 31 comes band 0
abbrev pub bandTable : ℕ → ℕ → ℕ
bandTable position band =
    let k = (band + 32 - position) % 32 in cond (nat_lt k 4) (k + 1) 0

-- hPos and vPos, of the first and the second neighbour (Table 8-13)
abbrev pub table_entry : List (List ℤ) → ℕ → ℕ → ℤ
table_entry table class k = slice_index_or (slice_index_or table class []) k (pos 0)

abbrev pub hPos : ℕ → ℕ → ℤ
hPos = table_entry (
    (negsuc 0 ∷ pos 1 ∷ []) ∷
    (pos 0 ∷ pos 0 ∷ []) ∷
    (negsuc 0 ∷ pos 1 ∷ []) ∷
    (pos 1 ∷ negsuc 0 ∷ []) ∷ [])

abbrev pub vPos : ℕ → ℕ → ℤ
vPos = table_entry (
    (pos 0 ∷ pos 0 ∷ []) ∷
    (negsuc 0 ∷ pos 1 ∷ []) ∷
    (negsuc 0 ∷ pos 1 ∷ []) ∷
    (negsuc 0 ∷ pos 1 ∷ []) ∷ [])

-- whether it is one of the first n columns or rows
abbrev pub is_inside : ℕ → ℤ → Bool
is_inside n (pos place) = nat_lt place n
is_inside n (negsuc place) = false

abbrev pub sample_inside : Plane → ℤ → ℤ → Option ℕ
sample_inside plane x y =
    cond (is_inside plane.width x && is_inside plane.height y)
    (Some (sample_at plane (unsigned_abs x) (unsigned_abs y)))
    None

abbrev pub neighbour : ℕ → ℕ → Plane → ℕ → ℕ → Option ℕ
neighbour class k plane x y =
    sample_inside plane (pos x +ℤ hPos class k) (pos y +ℤ vPos class k)

-- 1 + Sign( a - b )
abbrev pub compared : ℕ → ℕ → ℕ
compared a b = cond (nat_lt a b) 0 (cond (nat_eq a b) 1 2)

-- edgeIdx of a sample and its two neighbours: 0 where one of them is missing
abbrev pub edge_of : ℕ → Option ℕ → Option ℕ → ℕ
edge_of sample (Some a) (Some b) =
    slice_index_or (1 ∷ 2 ∷ 0 ∷ 3 ∷ 4 ∷ []) (compared sample a + compared sample b) 0
edge_of sample _ _ = 0

abbrev pub edgeIdx : ℕ → Plane → ℕ → ℕ → ℕ
edgeIdx class plane x y =
    edge_of (sample_at plane x y) (neighbour class 0 plane x y) (neighbour class 1 plane x y)

-- which offset a sample gets, counted from 1: 0 for none
abbrev pub category : SaoKind → Plane → ℕ → ℕ → ℕ
category Off plane x y = 0
category (Band position) plane x y = bandTable position (sample_at plane x y / 8)
category (Edge class) plane x y = edgeIdx class plane x y

-- SaoOffsetVal
abbrev pub SaoOffsetVal : SaoComponent → ℕ → ℤ
SaoOffsetVal component i = slice_index_or (pos 0 ∷ component.offsets) i (pos 0)

-- saoPicture at column x of row y of a plane, where the block has this choice
abbrev pub sao_sample : SaoComponent → Plane → ℕ → ℕ → ℕ
sao_sample component plane x y =
    clip1 (pos (sample_at plane x y) +ℤ SaoOffsetVal component (category component.kind plane x y))

-- ---- planes and the picture (8.7.3.1)

-- nothing changes
abbrev pub off : SaoComponent
off = record { kind = Off; offsets = replicate 4 (pos 0) }

abbrev pub off_param : SaoParam
off_param = record { luma = off; cb = off; cr = off }

-- a plane whose blocks have this side, `across` of them in a row, and these choices
abbrev pub sao_plane : ℕ → ℕ → List SaoComponent → Plane → Plane
sao_plane side across choices plane =
    plane_of plane.width plane.height
    (λ x y. sao_sample (slice_index_or choices (block_number side across x y) off) plane x y)

-- saoPicture, from one choice a block in raster order
abbrev pub sao_picture : Picture → List SaoParam → Picture
sao_picture deblocked choices =
    let across = blocks_over luma_side deblocked.luma.width in
    record {
      luma = sao_plane luma_side across (map (λ c. c.luma) choices) deblocked.luma;
      cb = sao_plane chroma_side across (map (λ c. c.cb) choices) deblocked.cb;
      cr = sao_plane chroma_side across (map (λ c. c.cr) choices) deblocked.cr;
    }
