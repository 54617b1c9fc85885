use Rattle.std.proofs.Common.{◌≡◌, ◌∙◌, ◌+◌, ◌-◌, ◌*◌, arith, length, List, ℕ, ℤ, take, pos}
use Rattle.std.proofs.lemmas.List.{get_or-take, length-take-le}
use Rattle.hv_interp.specs.Filters.{place_of}
use Rattle.hv_interp.proofs.SumLemmas.{sums_have_16_bits}
use Rattle.hv_interp.proofs.InterpolationLemmas.{sums_are_filtered}
use Rattle.hv_interp.proofs.interpolate.filter_twice_in.Goals as goal

pub filter_sums-requires : goal.filter_sums-requires
filter_sums-requires g c =
    let count : ℕ = (c.args.size + g.row.T - 1) * c.args.size in
    let sums : List ℤ = c.sum_rows.new.sums in
    let all : length (take count sums) ≡ count = length-take-le count sums (omega (arith, c.requires.enough)) in (
      omega (arith, c.requires.most),
      (
        c.requires.some,
        (
          c.requires.most,
          (
            c.requires.even,
            (
              c.requires.down_light,
              (
                sums_have_16_bits count c.args.across.now c.args.samples.now sums (place_of c.args.size c.args.stride) 1 c.requires.across_light
                    c.type_inv.samples c.sum_rows.ensures,
                (omega (arith, c.requires.size), (omega (arith, c.requires.size), (omega (arith, all), c.requires.room))),
              ),
            ),
          ),
        ),
      ),
    )

pub returns : goal.returns
returns g c k inside =
    let count : ℕ = (c.args.size + g.row.T - 1) * c.args.size in
    c.filter_sums.ensures k inside ∙
    sums_are_filtered c.args.size c.args.size k c.args.stride (c.args.size + g.row.T - 1) c.args.across.now c.args.down.now c.args.samples.now
    (take count c.sum_rows.new.sums) inside (omega arith)
    (λ i below. get_or-take count c.sum_rows.new.sums i (pos 0) below ∙ c.sum_rows.ensures i below)
