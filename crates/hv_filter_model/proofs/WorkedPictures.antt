-- Worked offsets of pictures, and a plane that is put together from its blocks.
use Rattle.std.proofs.Common.{◌≡◌, refl, [], ◌∷◌}
use Rattle.hv_lemmas.specs.Lists.{tabulate}
use Rattle.hv_types.specs.declared.picture.Picture.{Picture}
use Rattle.hv_types.specs.Samples.{plane_by_rows}
use Rattle.hv_filter_model.specs.Blocks.{joined_plane}
use Rattle.hv_filter_model.specs.FlatPictures.{flat_picture}
use Rattle.hv_filter_model.specs.SampleAdaptiveOffset.{off_param}
use Rattle.hv_filter_model.specs.OffsetDecision.{block_count, chosen_offsets, picture_offsets}

two_by_one : block_count (flat_picture 72 8 20 100 250) ≡ 2
unfolding tabulate
two_by_one = refl

two_by_two : block_count (flat_picture 72 72 20 100 250) ≡ 4
unfolding tabulate
two_by_two = refl

nothing_at_effort_0 :
    picture_offsets 0 12 (flat_picture 72 8 20 100 250) (flat_picture 72 8 23 104 255) ≡
    off_param ∷ off_param ∷ []
unfolding tabulate
nothing_at_effort_0 = refl

abbrev dark : Picture
dark = flat_picture 8 8 20 100 250

abbrev bright : Picture
bright = flat_picture 8 8 23 104 255

chosen_at_effort_1 : picture_offsets 1 12 dark bright ≡
    chosen_offsets dark bright (record { width = 8; height = 8; index = 0 }) 12 ∷ []
unfolding tabulate
chosen_at_effort_1 = refl

-- Two blocks of side 2 over a plane of three columns and two rows: the last column of the second
-- one lies behind the plane's edge.
cut_block : joined_plane 2 2 3 2 ((1 ∷ 2 ∷ 3 ∷ 4 ∷ []) ∷ (5 ∷ 6 ∷ 7 ∷ 8 ∷ []) ∷ []) ≡
    plane_by_rows 3 2 (1 ∷ 2 ∷ 5 ∷ 3 ∷ 4 ∷ 7 ∷ [])
unfolding tabulate
cut_block = refl

-- and over one of two columns and three rows
lower_block : joined_plane 2 1 2 3 ((1 ∷ 2 ∷ 3 ∷ 4 ∷ []) ∷ (5 ∷ 6 ∷ 7 ∷ 8 ∷ []) ∷ []) ≡
    plane_by_rows 2 3 (1 ∷ 2 ∷ 3 ∷ 4 ∷ 5 ∷ 6 ∷ [])
unfolding tabulate
lower_block = refl
