-- How the stream of a video whose units are predicted from other pictures too grows with its
-- groups.
use Rattle.std.proofs.Common.{[], ◌∷◌, arith}
use Rattle.hv_model.specs.InterPictures.{encode_group, group_bytes}
use Rattle.hv_model.specs.InterEncodingLaws.{InterEncodingAppends, InterReconstructionAppends}
use Rattle.hv_model.proofs.GroupLemmas.{first_written, next_written, shown_behind}

pub inter_encoding_appends : InterEncodingAppends
inter_encoding_appends cfg groups [] [] next = absurd (omega (arith, next.some))
inter_encoding_appends cfg groups [] (first ∷ group) next =
    first_written (group_bytes cfg) cfg groups (first ∷ group) next
inter_encoding_appends cfg groups (first ∷ pictures) group next =
    next_written (group_bytes cfg) cfg groups (first ∷ pictures) group next

pub inter_reconstruction_appends : InterReconstructionAppends
inter_reconstruction_appends cfg = shown_behind (λ group. (encode_group cfg group).shown) cfg
