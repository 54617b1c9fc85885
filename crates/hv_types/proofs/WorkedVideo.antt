-- Small planes and pictures written out, against which the definitions of video are compared.
use Rattle.std.proofs.Common.{◌≡◌, ℕ, ◌+◌, ◌*◌, List, [], ◌∷◌, refl}
use Rattle.hv_lemmas.specs.Lists.{tabulate}
use Rattle.hv_types.specs.Samples.{Plane, plane_of, sample_at, filled_plane, with_sample, pad_plane, crop_plane}
use Rattle.hv_types.specs.Configuration.{picture_bytes_of}
use Rattle.hv_types.specs.Video.{raw, pictures, rest, padded_side, pad, crop}
use Rattle.hv_types.specs.declared.picture.Picture.{Picture}

-- three columns and two rows
abbrev small : Plane
small = record { width = 3; height = 2; samples = 1 ∷ 2 ∷ 3 ∷ 4 ∷ 5 ∷ 6 ∷ [] }

in_column_and_row : sample_at small 2 0 ≡ 3
in_column_and_row = refl

by_rows : (plane_of 3 2 (λ x y. 10 * y + x)).samples ≡ 0 ∷ 1 ∷ 2 ∷ 10 ∷ 11 ∷ 12 ∷ []
unfolding tabulate
by_rows = refl

all_sevens : (filled_plane 3 2 7).samples ≡ 7 ∷ 7 ∷ 7 ∷ 7 ∷ 7 ∷ 7 ∷ []
unfolding tabulate
all_sevens = refl

one_changed : (with_sample small 1 1 9).samples ≡ 1 ∷ 2 ∷ 3 ∷ 4 ∷ 9 ∷ 6 ∷ []
one_changed = refl

-- two columns and one row more
padded : (pad_plane small 5 3).samples ≡ 1 ∷ 2 ∷ 3 ∷ 3 ∷ 3 ∷ 4 ∷ 5 ∷ 6 ∷ 6 ∷ 6 ∷ 4 ∷ 5 ∷ 6 ∷ 6 ∷ 6 ∷ []
unfolding tabulate
padded = refl

cropped : (crop_plane small 2 2).samples ≡ 1 ∷ 2 ∷ 4 ∷ 5 ∷ []
unfolding tabulate
cropped = refl

sides : padded_side 8 ∷ padded_side 9 ∷ padded_side 130 ∷ padded_side
    4096 ∷ [] ≡ 8 ∷ 16 ∷ 136 ∷ 4096 ∷ []
sides = refl

bytes_of_eight : picture_bytes_of 16 8 ≡ 192
bytes_of_eight = refl

-- two pictures of two columns and two rows, and two bytes more
abbrev stream : List ℕ
stream = 1 ∷ 2 ∷ 3 ∷ 4 ∷ 5 ∷ 6 ∷ 11 ∷ 12 ∷ 13 ∷ 14 ∷ 15 ∷ 16 ∷ 21 ∷ 22 ∷ []

abbrev square : ℕ → Picture
square n = record {
  luma = record { width = 2; height = 2; samples = (n + 1) ∷ (n + 2) ∷ (n + 3) ∷ (n + 4) ∷ [] };
  cb = record { width = 1; height = 1; samples = (n + 5) ∷ [] };
  cr = record { width = 1; height = 1; samples = (n + 6) ∷ [] };
}

two_pictures : pictures 2 2 stream ≡ square 0 ∷ square 10 ∷ []
unfolding tabulate
two_pictures = refl

two_bytes : rest 2 2 stream ≡ 21 ∷ 22 ∷ []
two_bytes = refl

bytes_again : raw (square 10) ≡ 11 ∷ 12 ∷ 13 ∷ 14 ∷ 15 ∷ 16 ∷ []
bytes_again = refl

-- a square is padded to eight columns and eight rows, with four and four in chroma
padded_luma : (pad (square 0)).luma ≡ pad_plane (square 0).luma 8 8
padded_luma = refl

padded_chroma : (pad (square 0)).cr.samples ≡ 6 ∷ 6 ∷ 6 ∷ 6 ∷ 6 ∷ 6 ∷ 6 ∷ 6 ∷ 6 ∷ 6 ∷ 6 ∷ 6 ∷ 6 ∷ 6 ∷ 6 ∷ 6 ∷ []
unfolding tabulate
padded_chroma = refl

back : crop (pad (square 0)) 2 2 ≡ square 0
unfolding tabulate
back = refl
