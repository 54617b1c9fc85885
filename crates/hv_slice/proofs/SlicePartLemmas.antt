-- The header of a P picture (7.3.6.1) from its parts, for `put_p_slice`.
use Rattle.std.proofs.Common.{◌≡◌, ℕ, List, [], ◌∷◌, ◌++◌, ap, ap₂, ◌∙◌, append_assoc}
use Rattle.hv_tables.specs.declared.bins.SliceKind.TheVariants.{P}
use Rattle.hv_stream_model.specs.Fields.{Field, u, ue, se}
use Rattle.hv_stream_model.specs.Headers.{slice, set_fields, slice_start, sao_flags, active_fields, type_code, used_count, qp_delta}
use Rattle.hv_decision.specs.declared.row.SetEntry.{SetEntry}
use Rattle.hv_slice.specs.Entries.{set_of, header_with}

regroup : (a b c d : List Field) → a ++ (b ++ c ++ d) ≡ a ++ b ++ c ++ d
regroup a b c d = simp append_assoc

pub parts_make : (picture qp used : ℕ) (before after : List SetEntry) (start end : List Field) →
    start ≡ slice_start ++ ue (type_code P) ∷ u 8 picture ∷ u 1 0 ∷ [] →
    end ≡ sao_flags ++ active_fields P used ++ se (qp_delta qp) ∷ [] →
    used ≡ used_count (set_of before after) →
    start ++ set_fields (set_of before after) ++ end ≡ slice (header_with picture before after qp)
parts_make picture qp used before after start end es ee eu =
    let set : List Field = set_fields (set_of before after) in
    let last : List Field = se (qp_delta qp) ∷ [] in
    let active : List Field = active_fields P (used_count (set_of before after)) in
    ap₂ (λ s e. s ++ set ++ e) es (ee ∙ ap (λ n. sao_flags ++ active_fields P n ++ last) eu) ∙
    ap (λ rest. slice_start ++ ue (type_code P) ∷ u 8 picture ∷ u 1 0 ∷ rest)
    (regroup set sao_flags active last)
