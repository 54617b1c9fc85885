-- The slice header of a picture of a group, and what it says.
use Rattle.std.proofs.Common.{◌≡◌, ℕ, zero, suc, ◌*◌, List, length, refl, ap₂, ◌∙◌, arith}
use Rattle.hv_types.specs.declared.settings.Settings.{Settings}
use Rattle.hv_tables.specs.declared.bins.SliceKind.{SliceKind}
use Rattle.hv_tables.specs.declared.bins.SliceKind.TheVariants.{I, P}
use Rattle.hv_types.specs.Configuration.{padded_width, padded_height}
use Rattle.hv_group_model.specs.Structure.{qp_at, coded_of}
use Rattle.hv_stream_model.specs.Bits.{bytes_of}
use Rattle.hv_stream_model.specs.Headers.{SliceHeader, slice_header_of, used_count}
use Rattle.hv_stream_model.specs.Units.{TRAIL_R, IDR_N_LP, unit_bytes}
use Rattle.hv_entropy_model.specs.CodeWord.{word}
use Rattle.hv_tree_model.specs.Trees.{CodingTreeUnit}
use Rattle.hv_tree_model.specs.Sites.{Site, sites, blocks_over}
use Rattle.hv_tree_model.specs.Validity.{AreValid}
use Rattle.hv_unit_model.specs.Bins.{slice_bins}
use Rattle.hv_slice_model.specs.Slices.{nal_unit_type_of, header_fields, header_in, picture_sites, word_behind, payload_of_slice, unit_of_slice}
use Rattle.hv_lemmas.proofs.ComparisonLemmas.{suc_other_than_0}
use Rattle.hv_tree_model.proofs.NodeLemmas.{length-sites_from}

pub quantiser_in : (cfg : Settings) (count picture : ℕ) →
    qp_at cfg.qp (coded_of count cfg.levels picture).depth ≡ (header_in cfg count picture).qp
quantiser_in cfg count zero = refl
quantiser_in cfg count (suc k) = refl

pub fields_in : (cfg : Settings) (count picture : ℕ) →
    header_fields (header_in cfg count picture) ≡
    slice_header_of count cfg.levels cfg.qp picture
fields_in cfg count zero = refl
fields_in cfg count (suc k) = rw (suc_other_than_0 k) refl

pub first_kind : (cfg : Settings) (count picture : ℕ) → picture ≡ 0 →
    I ≡ (header_in cfg count picture).slice_type
first_kind cfg count zero e = refl
first_kind cfg count (suc k) e = absurd (omega arith)

pub later_kind : (cfg : Settings) (count picture : ℕ) → (picture ≡ 0 → ⊥) →
    P ≡ (header_in cfg count picture).slice_type
later_kind cfg count zero e = absurd (e refl)
later_kind cfg count (suc k) e = refl

pub first_type : (cfg : Settings) (count picture : ℕ) → picture ≡ 0 →
    IDR_N_LP ≡ nal_unit_type_of (header_in cfg count picture)
first_type cfg count zero e = refl
first_type cfg count (suc k) e = absurd (omega arith)

pub later_type : (cfg : Settings) (count picture : ℕ) → (picture ≡ 0 → ⊥) →
    TRAIL_R ≡ nal_unit_type_of (header_in cfg count picture)
later_type cfg count zero e = absurd (e refl)
later_type cfg count (suc k) e = rw (suc_other_than_0 k) refl

-- ---- what a slice of a header's kind, references and quantiser has

module _ (header : SliceHeader) (cfg : Settings) (units : List Site → List CodingTreeUnit)
    (kind : SliceKind) (references width height : ℕ) (k : kind ≡ header.slice_type)
    (r : references ≡ used_count header.references) (w : width ≡ padded_width cfg)
    (h : height ≡ padded_height cfg) where
  pub data_in : (qp : ℕ) → qp ≡ header.qp →
      bytes_of (word kind qp
      (slice_bins kind references (sites width height) (units (sites width height)))) ≡
      bytes_of (word_behind header (picture_sites cfg) (units (picture_sites cfg)))
  data_in qp q = rw (k, r, w, h, q) refl

  pub valid_in :
      AreValid header.slice_type (used_count header.references) (picture_sites cfg)
      (units (picture_sites cfg)) →
      AreValid kind references (sites width height) (units (sites width height))
  valid_in valid = rw (k, r, w, h) valid

pub length-blocks : (cfg : Settings) (width height : ℕ) → width ≡ padded_width cfg →
    height ≡ padded_height cfg →
    length (picture_sites cfg) ≡ blocks_over width * blocks_over height
unfolding sites
length-blocks cfg width height w h = rw (w, h)
    (length-sites_from (blocks_over (padded_width cfg) * blocks_over (padded_height cfg))
    (padded_width cfg) (padded_height cfg) 0)

-- the unit with a payload
pub unit_in : (header : SliceHeader) (sites : List Site) (units : List CodingTreeUnit) (type : ℕ)
    (payload bytes : List ℕ) → type ≡ nal_unit_type_of header →
    payload ≡ payload_of_slice header sites units →
    bytes ≡ unit_bytes
    (record { nal_unit_type = type; nuh_layer_id = 0; TemporalId = 0; payload = payload }) →
    bytes ≡ unit_bytes (unit_of_slice header sites units)
unit_in header sites units type payload bytes t p e =
    e ∙ ap₂ (λ (kind : ℕ) (content : List ℕ). unit_bytes
    (record { nal_unit_type = kind; nuh_layer_id = 0; TemporalId = 0; payload = content })) t p
