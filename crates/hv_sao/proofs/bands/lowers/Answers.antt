use Rattle.std.proofs.Common.{◌≡◌, ◌∙◌, ap, sym, get_or, pos, to_z, of_z, w8, rules}
use Rattle.hv_sao.specs.Bands.{lower}
use Rattle.hv_sao.proofs.BandLemmas.{made_of, lower_lane}
use Rattle.hv_sao.proofs.bands.lowers.Goals as goal

pub returns : goal.returns
returns c =
    let fits_a : to_z w8 (of_z w8 (get_or c.args.offsets 0 (pos 0))) ≡ get_or c.args.offsets 0 (pos 0) = search rules in
    let fits_b : to_z w8 (of_z w8 (get_or c.args.offsets 1 (pos 0))) ≡ get_or c.args.offsets 1 (pos 0) = search rules in
    let fits_c : to_z w8 (of_z w8 (get_or c.args.offsets 2 (pos 0))) ≡ get_or c.args.offsets 2 (pos 0) = search rules in
    let fits_d : to_z w8 (of_z w8 (get_or c.args.offsets 3 (pos 0))) ≡ get_or c.args.offsets 3 (pos 0) = search rules in
    made_of lower c.args.offsets _ _ _ _ _
    (lower_lane c.byte_of-a.result c.byte_of-a.ensures.byte ∙ sym c.byte_of-a.ensures.lowered ∙ ap lower fits_a)
    (lower_lane c.byte_of-b.result c.byte_of-b.ensures.byte ∙ sym c.byte_of-b.ensures.lowered ∙ ap lower fits_b)
    (lower_lane c.byte_of-c.result c.byte_of-c.ensures.byte ∙ sym c.byte_of-c.ensures.lowered ∙ ap lower fits_c)
    (lower_lane c.byte_of-d.result c.byte_of-d.ensures.byte ∙ sym c.byte_of-d.ensures.lowered ∙ ap lower fits_d)
