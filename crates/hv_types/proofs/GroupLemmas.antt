-- A group that grows by a picture.
use Rattle.std.proofs.Common.{◌<◌, [], ◌∷◌, ◌++◌, length, arith}
use Rattle.std.proofs.lemmas.List.{length_push}
use Rattle.std.proofs.lemmas.List.Elements.{All-push}
use Rattle.hv_types.specs.declared.picture.Picture.{Picture}
use Rattle.hv_types.specs.Video.{IsPadded}
use Rattle.hv_types.specs.GroupInput.{GroupInput, IsGroup}

pub IsGroup-push : (g : GroupInput) (p : Picture) → IsGroup g → length g.pictures < g.config.group →
    IsPadded g.config p → IsGroup record g
    { pictures = g.pictures ++ p ∷ [] }
IsGroup-push g p it room padded = record {
  most = it.most;
  few = omega (arith, length_push g.pictures p);
  padded = All-push (IsPadded g.config) g.pictures p
      it.padded padded;
}
