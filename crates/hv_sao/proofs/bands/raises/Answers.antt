use Rattle.std.proofs.Common.{◌≡◌, ◌∙◌, ap, sym, get_or, pos, to_z, of_z, w8, rules}
use Rattle.hv_sao.specs.Bands.{raise}
use Rattle.hv_sao.proofs.BandLemmas.{made_of, raise_lane}
use Rattle.hv_sao.proofs.bands.raises.Goals as goal

pub returns : goal.returns
returns c =
    let fits_a : to_z w8 (of_z w8 (get_or c.args.offsets 0 (pos 0))) ≡ get_or c.args.offsets 0 (pos 0) = search rules in
    let fits_b : to_z w8 (of_z w8 (get_or c.args.offsets 1 (pos 0))) ≡ get_or c.args.offsets 1 (pos 0) = search rules in
    let fits_c : to_z w8 (of_z w8 (get_or c.args.offsets 2 (pos 0))) ≡ get_or c.args.offsets 2 (pos 0) = search rules in
    let fits_d : to_z w8 (of_z w8 (get_or c.args.offsets 3 (pos 0))) ≡ get_or c.args.offsets 3 (pos 0) = search rules in
    made_of raise c.args.offsets _ _ _ _ _
    (raise_lane c.byte_of-a.result ∙ sym c.byte_of-a.ensures.raised ∙ ap raise fits_a)
    (raise_lane c.byte_of-b.result ∙ sym c.byte_of-b.ensures.raised ∙ ap raise fits_b)
    (raise_lane c.byte_of-c.result ∙ sym c.byte_of-c.ensures.raised ∙ ap raise fits_c)
    (raise_lane c.byte_of-d.result ∙ sym c.byte_of-d.ensures.raised ∙ ap raise fits_d)
