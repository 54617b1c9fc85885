-- Which pictures of a sequence are decoded, kept and shown, computed by the definitions.
use Rattle.std.proofs.Common.{◌≡◌, ℕ, Bool, true, false, List, [], ◌∷◌, map, refl}
use Rattle.std.specs.Prelude.{Option, Some, None, option_map}
use Rattle.hv_tables.specs.declared.bins.SliceKind.{SliceKind}
use Rattle.hv_tables.specs.declared.bins.SliceKind.TheVariants.{I, P}
use Rattle.hv_types.specs.Video.{crop}
use Rattle.hv_lemmas.specs.Lists.{tabulate}
use Rattle.hv_sample_model.specs.Blocks.{sum_of, total_of}
use Rattle.hv_sample_model.specs.IntraPrediction.{predicted}
use Rattle.hv_sample_model.specs.InverseTransform.{residual}
use Rattle.hv_group_model.specs.Structure.{Kept}
use Rattle.hv_stream_model.specs.Headers.{Size, SliceHeader}
use Rattle.hv_tree_model.specs.Trees.{no_levels, no_units}
use Rattle.hv_tree_model.specs.Sites.{sites, column_of, row_of, crosses, is_outside}
use Rattle.hv_vector_model.specs.Vectors.{trees_with_vectors, tree_with_vectors}
use Rattle.hv_slice_model.specs.BlankUnits.{blank_node}
use Rattle.hv_slice_model.specs.Slices.{idr_header, set_counts, list_0}
use Rattle.hv_model.specs.Parsing.{CodedPicture, Sequence, sequences_of, cut_at_idrs}
use Rattle.hv_recon_model.specs.Reconstruction.{decoded_block, decoded_tree, decoded_trees, unfiltered}
use Rattle.hv_recon_model.specs.BlankLaws.{grey}
use Rattle.hv_model.specs.Encoding.{coded_units}
use Rattle.hv_model.specs.Decoding.{decoded_sequence, by_count, shown_of}

abbrev kept : ℕ → Bool → Kept
kept distance is_used = record { distance = distance; is_used = is_used }

-- a picture of this kind and count, whose set has these pictures before it and behind it
abbrev header : SliceKind → ℕ → List Kept → List Kept → SliceHeader
header slice_type count before after = record {
  slice_type = slice_type;
  slice_pic_order_cnt_lsb = count;
  references = record { before = before; after = after };
  qp = 30;
}

abbrev coded : SliceHeader → CodedPicture
coded header = record { header = header; units = coded_units (sites 8 8) }

abbrev first : CodedPicture
first = coded (idr_header 30)

abbrev second : CodedPicture
second = coded (header P 1 (kept 1 true ∷ []) [])

-- ---- sets and list 0

-- the picture 8 of a set of 7, 4, 9 and 13, of which 7 isn't used
abbrev between : SliceHeader
between =
    header P 8 (kept 1 false ∷ kept 4 true ∷ []) (kept 1 true ∷ kept 5 true ∷ [])

named_by_its_set : set_counts between ≡ 7 ∷ 4 ∷ 9 ∷ 13 ∷ []
named_by_its_set = refl

used_by_it : list_0 between ≡ 4 ∷ 9 ∷ 13 ∷ []
used_by_it = refl

-- ---- sequences

abbrev small : Size
small = record {
  pic_width_in_luma_samples = 8;
  pic_height_in_luma_samples = 8;
  conf_win_right_offset = 1;
  conf_win_bottom_offset = 0;
}

abbrev sequence : List CodedPicture → Sequence
sequence pictures = record { size = small; pictures = pictures }

-- the counts of a sequence's pictures as they are decoded, and as they are shown
abbrev decoded_counts : List CodedPicture → Option (List ℕ)
decoded_counts pictures =
    option_map (map (λ d. d.PicOrderCntVal)) (decoded_sequence (sequence pictures))

abbrev shown_counts : List CodedPicture → Option (List ℕ)
shown_counts pictures =
    option_map (λ ds. map (λ d. d.PicOrderCntVal) (by_count ds)) (decoded_sequence (sequence pictures))

-- three pictures in the coding order 0 2 1
abbrev last_before_middle : List CodedPicture
last_before_middle =
    first ∷
    coded (header P 2 (kept 2 true ∷ []) []) ∷
    coded (header P 1 (kept 1 true ∷ []) (kept 1 true ∷ [])) ∷
    []

coded_in_this_order : decoded_counts last_before_middle ≡ Some (0 ∷ 2 ∷ 1 ∷ [])
unfolding sites blank_node crosses is_outside column_of row_of no_units no_levels decoded_block decoded_tree decoded_trees unfiltered trees_with_vectors tree_with_vectors
coded_in_this_order = refl

shown_in_another : shown_counts last_before_middle ≡ Some (0 ∷ 1 ∷ 2 ∷ [])
unfolding sites blank_node crosses is_outside column_of row_of no_units no_levels decoded_block decoded_tree decoded_trees unfiltered trees_with_vectors tree_with_vectors
shown_in_another = refl

-- counts may leave gaps
gaps : shown_counts
    (first ∷ coded (header P 127 (kept 127 true ∷ []) []) ∷
    coded (header I 64 [] (kept 63 false ∷ [])) ∷ []) ≡ Some (0 ∷ 64 ∷ 127 ∷ [])
unfolding sites blank_node crosses is_outside column_of row_of no_units no_levels decoded_block decoded_tree decoded_trees unfiltered trees_with_vectors tree_with_vectors
gaps = refl

no_idr_picture : decoded_counts (coded (header I 1 [] []) ∷ []) ≡ None
no_idr_picture = refl

-- a set that names a picture that never came
missing_picture : decoded_counts (first ∷ coded (header P 3 (kept 1 true ∷ []) []) ∷ []) ≡ None
unfolding sites blank_node crosses is_outside column_of row_of no_units no_levels decoded_block decoded_tree decoded_trees unfiltered trees_with_vectors tree_with_vectors
missing_picture = refl

-- .. also where it isn't used
missing_and_unused : decoded_counts (first ∷ coded (header I 3 (kept 1 false ∷ []) []) ∷ []) ≡ None
unfolding sites blank_node crosses is_outside column_of row_of no_units no_levels decoded_block decoded_tree decoded_trees unfiltered trees_with_vectors tree_with_vectors
missing_and_unused = refl

-- .. and one that was dropped: the set of picture 2 is without picture 0
dropped_picture :
    decoded_counts
    (first ∷ second ∷ coded (header P 2 (kept 1 true ∷ []) []) ∷
    coded (header P 3 (kept 3 true ∷ []) []) ∷ []) ≡ None
unfolding sites blank_node crosses is_outside column_of row_of no_units no_levels decoded_block decoded_tree decoded_trees unfiltered trees_with_vectors tree_with_vectors
dropped_picture = refl

-- .. and one that is kept by every set between
kept_picture :
    decoded_counts
    (first ∷ second ∷ coded (header P 2 (kept 1 true ∷ kept 2 false ∷ []) []) ∷
    coded (header P 3 (kept 3 true ∷ []) []) ∷ []) ≡ Some (0 ∷ 1 ∷ 2 ∷ 3 ∷ [])
unfolding sites blank_node crosses is_outside column_of row_of no_units no_levels decoded_block decoded_tree decoded_trees unfiltered trees_with_vectors tree_with_vectors
kept_picture = refl

count_comes_twice : decoded_counts (first ∷ second ∷ second ∷ []) ≡ None
count_comes_twice = refl

-- ---- several sequences

cut_before_each : cut_at_idrs (first ∷ second ∷ first ∷ first ∷ second ∷ []) ≡
    (first ∷ second ∷ []) ∷ (first ∷ []) ∷ (first ∷ second ∷ []) ∷ []
cut_before_each = refl

-- in another sequence the counts begin anew, and nothing of the one before is kept
counts_begin_anew :
    shown_of (sequences_of small (first ∷ second ∷ first ∷ second ∷ [])) ≡
    Some
    (crop (grey 8 8) 6 8 ∷ crop (grey 8 8) 6 8 ∷ crop (grey 8 8) 6 8 ∷ crop (grey 8 8) 6 8 ∷ [])
unfolding sites blank_node crosses is_outside column_of row_of no_units no_levels decoded_block decoded_tree decoded_trees unfiltered trees_with_vectors tree_with_vectors predicted residual sum_of total_of tabulate
counts_begin_anew = refl

nothing_kept_across :
    shown_of
    (sequences_of small (first ∷ second ∷ first ∷ coded (header P 2 (kept 1 true ∷ []) []) ∷ [])) ≡
    None
unfolding sites blank_node crosses is_outside column_of row_of no_units no_levels decoded_block decoded_tree decoded_trees unfiltered trees_with_vectors tree_with_vectors
nothing_kept_across = refl
