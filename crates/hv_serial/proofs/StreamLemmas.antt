-- What is written of pictures, group after group.
use Rattle.std.proofs.Common.{◌≡◌, ℕ, zero, suc, List, [], ◌∷◌, ◌++◌, refl, ap, ◌∙◌, arith, append-nil}
use Rattle.std.specs.Prelude.{nat_eq, flat_map}
use Rattle.std.proofs.Math.Dec.{eqb-suc-zero}
use Rattle.std.proofs.lemmas.Grind.{flat_map-append}
use Rattle.hv_types.specs.declared.settings.Settings.{Settings}
use Rattle.hv_types.specs.declared.settings.Emit.{Emit}
use Rattle.hv_types.specs.declared.settings.Emit.TheVariants.{Stream, Recon}
use Rattle.hv_types.specs.declared.picture.Picture.{Picture}
use Rattle.hv_types.specs.Video.{raw}
use Rattle.hv_model.specs.InterPictures.{encode_group, group_bytes, encode_of, recon_of, output_as, output}
use Rattle.hv_model.specs.EncodingLaws.{IsNextGroup}
use Rattle.hv_model.proofs.InterGroupLemmas.{inter_encoding_appends, inter_reconstruction_appends}
use Rattle.hv_serial.specs.Steps.{sets_of, written_as, bytes_of_group}

nothing_as : (emit : Emit) (cfg : Settings) → output_as emit cfg [] ≡ []
nothing_as Stream cfg = refl
nothing_as Recon cfg = refl

-- of no pictures nothing is written
pub output_nothing : (cfg : Settings) → output cfg [] ≡ []
output_nothing cfg = nothing_as cfg.emit cfg

-- the stream behind one group more
stream_more : (cfg : Settings) (groups : ℕ) (v group : List Picture) →
    IsNextGroup cfg groups v group →
    encode_of cfg (v ++ group) ≡
    encode_of cfg v ++ (sets_of cfg (nat_eq groups 0) ++ group_bytes cfg group)
stream_more cfg zero [] group next = inter_encoding_appends cfg 0 [] group next
stream_more cfg (suc groups) [] group next =
    absurd (omega (arith, next.whole, next.some, next.few))
stream_more cfg zero (first ∷ v) group next = absurd (omega (arith, next.whole))
stream_more cfg (suc groups) (first ∷ v) group next =
    rw (eqb-suc-zero groups)
    (inter_encoding_appends cfg (suc groups) (first ∷ v) group next ∙
    ap (λ (x : List ℕ). x ++ group_bytes cfg group) (append-nil (encode_of cfg (first ∷ v))))

written_more : (emit : Emit) (cfg : Settings) (groups : ℕ) (v group : List Picture) →
    IsNextGroup cfg groups v group →
    output_as emit cfg (v ++ group) ≡
    output_as emit cfg v ++ written_as emit cfg (nat_eq groups 0) (encode_group cfg group)
written_more Stream cfg groups v group next = stream_more cfg groups v group next
written_more Recon cfg groups v group next =
    ap (flat_map raw) (inter_reconstruction_appends cfg groups v group next) ∙
    flat_map-append raw (recon_of cfg v) (encode_group cfg group).shown

-- what is written behind one group more
pub output_more : (cfg : Settings) (groups : ℕ) (v group : List Picture) →
    IsNextGroup cfg groups v group →
    output cfg (v ++ group) ≡ output cfg v ++ bytes_of_group cfg (nat_eq groups 0) group
output_more cfg groups v group next = written_more cfg.emit cfg groups v group next
