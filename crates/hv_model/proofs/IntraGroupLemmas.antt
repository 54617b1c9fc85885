-- How the stream of a video whose units are predicted within their pictures grows with its groups.
use Rattle.std.proofs.Common.{[], ◌∷◌, arith}
use Rattle.hv_model.specs.IntraPictures.{encode_group, group_bytes}
use Rattle.hv_model.specs.IntraEncodingLaws.{IntraEncodingAppends, IntraReconstructionAppends}
use Rattle.hv_model.proofs.GroupLemmas.{first_written, next_written, shown_behind}

pub intra_encoding_appends : IntraEncodingAppends
intra_encoding_appends cfg groups [] [] next = absurd (omega (arith, next.some))
intra_encoding_appends cfg groups [] (first ∷ group) next =
    first_written (group_bytes cfg) cfg groups (first ∷ group) next
intra_encoding_appends cfg groups (first ∷ pictures) group next =
    next_written (group_bytes cfg) cfg groups (first ∷ pictures) group next

pub intra_reconstruction_appends : IntraReconstructionAppends
intra_reconstruction_appends cfg = shown_behind (λ group. (encode_group cfg group).shown) cfg
