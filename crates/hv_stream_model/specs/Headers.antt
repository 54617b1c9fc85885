-- Parameter sets and slice segment headers (7.3.2, 7.3.6): one table of fields each, read from both
-- ends. What this profile leaves free are the parameters of the tables.
use Rattle.std.specs.Prelude.{ℕ, zero, suc, ◌+◌, ◌-◌, ◌/◌, ◌%◌, Bool, cond, not, nat_eq, nat_lt, nat_le, ◌&&◌, List, [], ◌∷◌, ◌++◌, length, ℤ, pos, ◌+ℤ◌, ◌-ℤ◌}
use Rattle.std.specs.Int.RustNames.{unsigned_abs}
use Rattle.std.specs.Int.{is_negative}
use Rattle.std.specs.List.{count_by}
use Rattle.hv_tables.specs.declared.bins.SliceKind.{SliceKind}
use Rattle.hv_tables.specs.declared.bins.SliceKind.TheVariants.{I, P}
use Rattle.hv_types.specs.declared.settings.Settings.{Settings}
use Rattle.hv_types.specs.Configuration.{padded_width, padded_height, most_levels}
use Rattle.hv_stream_model.specs.Bits.{bytes_of}
use Rattle.hv_stream_model.specs.Units.{VPS_NUT, SPS_NUT, PPS_NUT, unit_of_payload}
use Rattle.hv_stream_model.specs.Fields.{Descriptor, U, Ue, Field, u, ue, se, signed_of, HeaderScript, bits_of_fields, aligned}
use Rattle.hv_group_model.specs.Structure.{Kept, ReferenceSet, reference_set, coded_of, qp_at}
use Rattle.hv_stream_model.specs.Scripts.{Done, Ask, only_if, ◌>>=◌}

-- ---- tables

-- profile_tier_level (7.3.3): Main profile, level 5.1
abbrev pub profile_tier_level : List Field
profile_tier_level =
    u 2 0 ∷  -- general_profile_space
    u 1 0 ∷  -- general_tier_flag
    u 5 1 ∷  -- general_profile_idc
    u 32 0x60000000 ∷  -- general_profile_compatibility_flag, those of 1 and 2 set
    u 1 1 ∷  -- general_progressive_source_flag
    u 1 0 ∷  -- general_interlaced_source_flag
    u 1 0 ∷  -- general_non_packed_constraint_flag
    u 1 1 ∷  -- general_frame_only_constraint_flag
    u 32 0 ∷  -- 44 bits 0
    u 12 0 ∷
    u 8 153 ∷  -- general_level_idc
    []

-- what a decoder has to hold of each sub-layer, by the number of temporal levels
abbrev pub ordering : ℕ → List Field
ordering levels =
    u 1 1 ∷  -- sub_layer_ordering_info_present_flag
    ue (levels + 1) ∷  -- max_dec_pic_buffering_minus1
    ue levels ∷  -- max_num_reorder_pics
    ue 0 ∷  -- max_latency_increase_plus1
    []

-- video_parameter_set_rbsp (7.3.2.1), before ordering
abbrev pub vps_start : List Field
vps_start =
    u 4 0 ∷  -- vps_video_parameter_set_id
    u 1 1 ∷  -- vps_base_layer_internal_flag
    u 1 1 ∷  -- vps_base_layer_available_flag
    u 6 0 ∷  -- vps_max_layers_minus1
    u 3 0 ∷  -- vps_max_sub_layers_minus1
    u 1 1 ∷  -- vps_temporal_id_nesting_flag
    u 16 65535 ∷  -- vps_reserved_0xffff_16bits
    profile_tier_level

abbrev pub vps_end : List Field
vps_end =
    u 6 0 ∷  -- vps_max_layer_id
    ue 0 ∷  -- vps_num_layer_sets_minus1
    u 1 0 ∷  -- vps_timing_info_present_flag
    u 1 0 ∷  -- vps_extension_flag
    []

abbrev pub vps : ℕ → List Field
vps levels = vps_start ++ ordering levels ++ vps_end

-- seq_parameter_set_rbsp (7.3.2.2), before the size
abbrev pub sps_start : List Field
sps_start =
    u 4 0 ∷  -- sps_video_parameter_set_id
    u 3 0 ∷  -- sps_max_sub_layers_minus1
    u 1 1 ∷  -- sps_temporal_id_nesting_flag
    (profile_tier_level ++
    ue 0 ∷  -- sps_seq_parameter_set_id
    ue 1 ∷  -- chroma_format_idc
    [])

-- the size of a padded picture, and what of it isn't shown at the right and at the bottom, in
-- chroma samples
pub record Size : Type 0 where
  pub pic_width_in_luma_samples : ℕ
  pub pic_height_in_luma_samples : ℕ
  pub conf_win_right_offset : ℕ
  pub conf_win_bottom_offset : ℕ

abbrev pub is_cropped : Size → Bool
is_cropped size = not (nat_eq (size.conf_win_right_offset + size.conf_win_bottom_offset) 0)

abbrev pub window : Size → List Field
window size =
    cond (is_cropped size)
    (u 1 1 ∷  -- conformance_window_flag
    ue 0 ∷  -- conf_win_left_offset
    ue size.conf_win_right_offset ∷
    ue 0 ∷  -- conf_win_top_offset
    ue size.conf_win_bottom_offset ∷
    [])
    (u 1 0 ∷ [])

abbrev pub size_fields : Size → List Field
size_fields size =
    ue size.pic_width_in_luma_samples ∷ ue size.pic_height_in_luma_samples ∷ window size

abbrev pub sps_depths : List Field
sps_depths =
    ue 0 ∷  -- bit_depth_luma_minus8
    ue 0 ∷  -- bit_depth_chroma_minus8
    ue 4 ∷  -- log2_max_pic_order_cnt_lsb_minus4
    []

abbrev pub sps_end : List Field
sps_end =
    ue 0 ∷  -- log2_min_luma_coding_block_size_minus3
    ue 3 ∷  -- log2_diff_max_min_luma_coding_block_size
    ue 0 ∷  -- log2_min_luma_transform_block_size_minus2
    ue 3 ∷  -- log2_diff_max_min_luma_transform_block_size
    ue 0 ∷  -- max_transform_hierarchy_depth_inter
    ue 0 ∷  -- max_transform_hierarchy_depth_intra
    u 1 0 ∷  -- scaling_list_enabled_flag
    u 1 0 ∷  -- amp_enabled_flag
    u 1 1 ∷  -- sample_adaptive_offset_enabled_flag
    u 1 0 ∷  -- pcm_enabled_flag
    ue 0 ∷  -- num_short_term_ref_pic_sets
    u 1 0 ∷  -- long_term_ref_pics_present_flag
    u 1 0 ∷  -- sps_temporal_mvp_enabled_flag
    u 1 0 ∷  -- strong_intra_smoothing_enabled_flag
    u 1 0 ∷  -- vui_parameters_present_flag
    u 1 0 ∷  -- sps_extension_present_flag
    []

abbrev pub sps : ℕ → Size → List Field
sps levels size = sps_start ++ size_fields size ++ sps_depths ++ ordering levels ++ sps_end

-- pic_parameter_set_rbsp (7.3.2.3)
abbrev pub pps : List Field
pps =
    ue 0 ∷  -- pps_pic_parameter_set_id
    ue 0 ∷  -- pps_seq_parameter_set_id
    u 1 0 ∷  -- dependent_slice_segments_enabled_flag
    u 1 0 ∷  -- output_flag_present_flag
    u 3 0 ∷  -- num_extra_slice_header_bits
    u 1 0 ∷  -- sign_data_hiding_enabled_flag
    u 1 0 ∷  -- cabac_init_present_flag
    ue 0 ∷  -- num_ref_idx_l0_default_active_minus1
    ue 0 ∷  -- num_ref_idx_l1_default_active_minus1
    se (pos 0) ∷  -- init_qp_minus26
    u 1 0 ∷  -- constrained_intra_pred_flag
    u 1 0 ∷  -- transform_skip_enabled_flag
    u 1 0 ∷  -- cu_qp_delta_enabled_flag
    se (pos 0) ∷  -- pps_cb_qp_offset
    se (pos 0) ∷  -- pps_cr_qp_offset
    u 1 0 ∷  -- pps_slice_chroma_qp_offsets_present_flag
    u 1 0 ∷  -- weighted_pred_flag
    u 1 0 ∷  -- weighted_bipred_flag
    u 1 0 ∷  -- transquant_bypass_enabled_flag
    u 1 0 ∷  -- tiles_enabled_flag
    u 1 0 ∷  -- entropy_coding_sync_enabled_flag
    u 1 0 ∷  -- pps_loop_filter_across_slices_enabled_flag
    u 1 0 ∷  -- deblocking_filter_control_present_flag
    u 1 0 ∷  -- pps_scaling_list_data_present_flag
    u 1 0 ∷  -- lists_modification_present_flag
    ue 0 ∷  -- log2_parallel_merge_level_minus2
    u 1 0 ∷  -- slice_segment_header_extension_present_flag
    u 1 0 ∷  -- pps_extension_present_flag
    []

-- slice_segment_header (7.3.6.1) of an IDR picture, before slice_qp_delta
abbrev pub idr_start : List Field
idr_start =
    u 1 1 ∷  -- first_slice_segment_in_pic_flag
    u 1 0 ∷  -- no_output_of_prior_pics_flag
    ue 0 ∷  -- slice_pic_parameter_set_id
    ue 2 ∷  -- slice_type, I
    u 1 1 ∷  -- slice_sao_luma_flag
    u 1 1 ∷  -- slice_sao_chroma_flag
    []

-- slice_qp_delta, against 26 (7.4.9.14, 7.4.7.1)
abbrev pub qp_delta : ℕ → ℤ
qp_delta qp = pos qp -ℤ pos 26

-- the header of the slice of an IDR picture, by its quantiser
abbrev pub idr_slice : ℕ → List Field
idr_slice qp = idr_start ++ se (qp_delta qp) ∷ []

-- ---- slice_segment_header of another picture than an IDR

-- The greatest slice_pic_order_cnt_lsb of this profile. It has 8 bits, so that it is the picture
-- order count itself (8.3.1).
abbrev pub most_count : ℕ
most_count = 127

-- what of it is free
pub record SliceHeader : Type 0 where
  pub slice_type : SliceKind
  pub slice_pic_order_cnt_lsb : ℕ
  pub references : ReferenceSet
  pub qp : ℕ

-- slice_type in an independent slice (7.4.7.1)
abbrev pub type_code : SliceKind → ℕ
type_code P = 1
type_code I = 2

abbrev pub bit_of : Bool → ℕ
bit_of flag = cond flag 1 0

-- st_ref_pic_set (7.3.7), one side of it, behind a picture at this distance: delta_poc_s0_minus1
-- and used_by_curr_pic_s0_flag, or delta_poc_s1_minus1 and used_by_curr_pic_s1_flag
abbrev pub side_fields : ℕ → List Kept → List Field
side_fields from [] = []
side_fields from (kept ∷ rest) =
    ue (kept.distance - from - 1) ∷ u 1 (bit_of kept.is_used) ∷ side_fields kept.distance rest

-- st_ref_pic_set: num_negative_pics, num_positive_pics, and the pictures of both sides
abbrev pub set_fields : ReferenceSet → List Field
set_fields references =
    ue (length references.before) ∷
    ue (length references.after) ∷
    (side_fields 0 references.before ++ side_fields 0 references.after)

-- how many pictures of the set the picture itself refers to
abbrev pub used_in : List Kept → ℕ
used_in kept = count_by (λ k. k.is_used) kept

abbrev pub used_count : ReferenceSet → ℕ
used_count references = used_in references.before + used_in references.after

-- in P slices: the number of active references is that of the used ones
abbrev pub active_fields : SliceKind → ℕ → List Field
active_fields I used = []
active_fields P used =
    u 1 1 ∷  -- num_ref_idx_active_override_flag
    ue (used - 1) ∷  -- num_ref_idx_l0_active_minus1
    ue 4 ∷  -- five_minus_max_num_merge_cand
    []

abbrev pub slice_start : List Field
slice_start =
    u 1 1 ∷  -- first_slice_segment_in_pic_flag
    ue 0 ∷  -- slice_pic_parameter_set_id
    []

abbrev pub sao_flags : List Field
sao_flags =
    u 1 1 ∷  -- slice_sao_luma_flag
    u 1 1 ∷  -- slice_sao_chroma_flag
    []

abbrev pub slice : SliceHeader → List Field
slice header =
    slice_start ++
    ue (type_code header.slice_type) ∷
    u 8 header.slice_pic_order_cnt_lsb ∷
    u 1 0 ∷  -- short_term_ref_pic_set_sps_flag
    (set_fields header.references ++
    sao_flags ++
    active_fields header.slice_type (used_count header.references) ++
    se (qp_delta header.qp) ∷
    [])

-- ---- the size that settings ask for

abbrev pub size_of : Settings → Size
size_of s = record {
  pic_width_in_luma_samples = padded_width s;
  pic_height_in_luma_samples = padded_height s;
  conf_win_right_offset = (padded_width s - s.width) / 2;
  conf_win_bottom_offset = (padded_height s - s.height) / 2;
}

-- a parameter set, with its trailing bits
abbrev pub parameter_set : ℕ → List Field → List ℕ
parameter_set nal_unit_type fields =
    unit_of_payload nal_unit_type (bytes_of (aligned (bits_of_fields fields)))

-- VPS, SPS and PPS
abbrev pub parameter_sets : Settings → List ℕ
parameter_sets cfg =
    parameter_set VPS_NUT (vps cfg.levels) ++
    parameter_set SPS_NUT (sps cfg.levels (size_of cfg)) ++
    parameter_set PPS_NUT pps

-- ---- the slices of a group

-- the header of a picture of a group of so many, with these levels and this quantiser: picture 0 is
-- an IDR picture, the others are P pictures
abbrev pub slice_header_of : ℕ → ℕ → ℕ → ℕ → List Field
slice_header_of count levels qp zero = idr_slice (qp_at qp 0)
slice_header_of count levels qp (suc k) =
    slice (record {
      slice_type = P;
      slice_pic_order_cnt_lsb = suc k;
      references = reference_set count levels (suc k);
      qp = qp_at qp (coded_of count levels (suc k)).depth;
    })

-- ---- reading

-- reads each field, and fails at another value
abbrev pub fixed : List Field → HeaderScript (Unit {0})
fixed [] = Done tt
fixed (field ∷ fields) =
    Ask field.question (λ value. only_if (nat_eq value field.value) (fixed fields))

-- reads a free value
abbrev pub free : Descriptor → HeaderScript ℕ
free descriptor = Ask descriptor Done

-- the number of temporal levels
abbrev pub read_ordering : HeaderScript ℕ
read_ordering =
    fixed (u 1 1 ∷ []) >>= λ _.
    free Ue >>= λ buffering.
    free Ue >>= λ levels.
    fixed (ue 0 ∷ []) >>= λ _.
    only_if (nat_eq buffering (levels + 1) && nat_le levels most_levels) (Done levels)

abbrev pub read_vps : HeaderScript ℕ
read_vps = fixed vps_start >>= λ _. read_ordering >>= λ levels. fixed vps_end >>= λ _. Done levels

abbrev pub is_side : ℕ → ℕ → Bool
is_side most n = nat_eq (n % 8) 0 && nat_le 8 n && nat_le n most

abbrev pub read_offsets : ℕ → ℕ → HeaderScript Size
read_offsets width height =
    fixed (ue 0 ∷ []) >>= λ _.
    free Ue >>= λ right.
    fixed (ue 0 ∷ []) >>= λ _.
    free Ue >>= λ bottom.
    only_if (nat_le right 3 && nat_le bottom 3 && nat_lt 0 (right + bottom))
    (Done (record {
      pic_width_in_luma_samples = width;
      pic_height_in_luma_samples = height;
      conf_win_right_offset = right;
      conf_win_bottom_offset = bottom;
    }))

abbrev pub read_window : ℕ → ℕ → ℕ → HeaderScript Size
read_window width height flag =
    cond (nat_eq flag 1) (read_offsets width height)
    (Done (record {
      pic_width_in_luma_samples = width;
      pic_height_in_luma_samples = height;
      conf_win_right_offset = 0;
      conf_win_bottom_offset = 0;
    }))

abbrev pub read_size : HeaderScript Size
read_size =
    free Ue >>= λ width.
    free Ue >>= λ height.
    only_if (is_side 4096 width && is_side 2176 height)
    (free (U 1) >>= λ flag. read_window width height flag)

-- the number of temporal levels, and the size
abbrev pub read_sps : HeaderScript (ℕ × Size)
read_sps =
    fixed sps_start >>= λ _.
    read_size >>= λ size.
    fixed sps_depths >>= λ _.
    read_ordering >>= λ levels.
    fixed sps_end >>= λ _.
    Done (levels, size)

abbrev pub read_pps : HeaderScript (Unit {0})
read_pps = fixed pps

-- the quantiser that a slice_qp_delta gives (7.4.7.1, 8.6.1), where it is in 0 to 51
abbrev pub qp_from : ℕ → HeaderScript ℕ
qp_from code =
    let qp = pos 26 +ℤ signed_of code in
    only_if (not (is_negative qp) && nat_le (unsigned_abs qp) 51) (Done (unsigned_abs qp))

abbrev pub read_idr_slice : HeaderScript ℕ
read_idr_slice = fixed idr_start >>= λ _. free Ue >>= λ code. qp_from code

-- one side of a set: so many pictures, behind one at this distance, and none farther than the first
-- number says
abbrev pub read_side : ℕ → ℕ → ℕ → HeaderScript (List Kept)
read_side most zero from = Done []
read_side most (suc count) from =
    free Ue >>= λ delta.
    only_if (nat_le (from + delta + 1) most)
    (free (U 1) >>= λ flag.
    read_side most count (from + delta + 1) >>= λ rest.
    Done (record { distance = from + delta + 1; is_used = nat_eq flag 1 } ∷ rest))

-- The set of the picture of this count: at most one picture more than there are levels, each of a
-- count from 0 to the greatest.
abbrev pub read_set : ℕ → ℕ → HeaderScript ReferenceSet
read_set levels count =
    free Ue >>= λ negative.
    free Ue >>= λ positive.
    only_if (nat_le (negative + positive) (levels + 1))
    (read_side count negative 0 >>= λ before.
    read_side (most_count - count) positive 0 >>= λ after.
    Done (record { before = before; after = after }))

abbrev pub type_from : ℕ → HeaderScript SliceKind
type_from code = cond (nat_eq code 1) (Done P) (only_if (nat_eq code 2) (Done I))

-- a P slice refers to one picture or to two
abbrev pub read_active : SliceKind → ℕ → HeaderScript (Unit {0})
read_active I used = Done tt
read_active P used = only_if (nat_le 1 used && nat_le used 2) (fixed (active_fields P used))

abbrev pub read_slice : ℕ → HeaderScript SliceHeader
read_slice levels =
    fixed slice_start >>= λ _.
    free Ue >>= λ code.
    type_from code >>= λ slice_type.
    free (U 8) >>= λ count.
    only_if (nat_le 1 count && nat_le count most_count)
    (fixed (u 1 0 ∷ []) >>= λ _.
    read_set levels count >>= λ references.
    fixed sao_flags >>= λ _.
    read_active slice_type (used_count references) >>= λ _.
    free Ue >>= λ delta.
    qp_from delta >>= λ qp.
    Done (record {
      slice_type = slice_type;
      slice_pic_order_cnt_lsb = count;
      references = references;
      qp = qp;
    }))
