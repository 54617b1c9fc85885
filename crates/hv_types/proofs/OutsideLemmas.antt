-- What several calls of a source or a sink do together.
use Rattle.std.specs.Prelude.{◌++◌, take, drop, Some}
use Rattle.std.proofs.Common.{arith, ap, sym, ◌∙◌, append_assoc, length-drop}
use Rattle.std.proofs.Math.Seq.{take-add}
use Rattle.std.proofs.lemmas.List.{drop-drop}
use Rattle.hv_types.specs.Outside.{Fills}
use Rattle.hv_types.specs.OutsideLaws.{ReadsAreJoined, WritesAreJoined}

pub reads_joined : ReadsAreJoined
reads_joined bytes mid now into part whole at n before r e =
    let more : Fills (drop at bytes) now part n = r.told (drop at bytes) before.left in
    record {
      there = omega (arith, more.there, length-drop at bytes, before.there);
      same =
          e ∙ ap (λ xs. xs ++ take n part) before.same ∙
          ap (λ xs. take at bytes ++ xs) more.same ∙ sym (take-add at n bytes);
      left = more.left ∙ ap Some (drop-drop n at bytes);
    }

pub writes_joined : WritesAreJoined
writes_joined bytes piece mid now at n before w =
    w.told (bytes ++ take at piece) before ∙
    ap Some
    (append_assoc bytes (take at piece) (take n (drop at piece)) ∙
    ap (λ xs. bytes ++ xs) (sym (take-add at n piece)))
