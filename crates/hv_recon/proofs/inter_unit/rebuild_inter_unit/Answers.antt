use Rattle.std.proofs.Common.{◌≡◌, ℕ, ◌+◌, ◌-◌, ◌*◌, ◌/◌, ◌^◌, true, false, take, drop, refl, sym, ap, ◌∙◌, arith}
use Rattle.hv_tree_model.specs.Sites.{ctb_column, ctb_row, column_of, row_of}
use Rattle.hv_recon.proofs.UnitLemmas.{unit_ends}
use Rattle.hv_recon.proofs.PutUnitLemmas.{same_inter_put}
use Rattle.hv_recon.proofs.inter_unit.rebuild_inter_unit.Goals as goal

pub slice_bounds-levels-end : goal.slice_bounds-levels-end
slice_bounds-levels-end c =
    let ends =
    unit_ends c.args.unit.size c.args.unit.address c.args.unit.few c.args.unit.inside
    c.args.unit.even in
    omega (arith, ends.levels, c.area_of.ensures.square, c.from-address.ensures, c.luma.ensures.count)

pub rebuild_luma-requires-clause-across : goal.rebuild_luma-requires-clause-across
rebuild_luma-requires-clause-across c =
    let ends =
    unit_ends c.args.unit.size c.args.unit.address c.args.unit.few c.args.unit.inside
    c.args.unit.even in
    omega (arith, ends.right, c.column_of-x.ensures.value)

pub rebuild_luma-requires-clause-down : goal.rebuild_luma-requires-clause-down
rebuild_luma-requires-clause-down c =
    let ends =
    unit_ends c.args.unit.size c.args.unit.address c.args.unit.few c.args.unit.inside
    c.args.unit.even in
    omega (arith, ends.bottom, c.row_of-y.ensures.value)

pub slice_bounds-rebuild_cb-end : goal.slice_bounds-rebuild_cb-end
slice_bounds-rebuild_cb-end c =
    let ends =
    unit_ends c.args.unit.size c.args.unit.address c.args.unit.few c.args.unit.inside
    c.args.unit.even in
    omega (
      arith,
      ends.chroma_levels,
      c.area_of-2.ensures.square,
      c.from-address.ensures,
      c.cb.ensures.count,
    )

pub rebuild_cb-requires-clause-across : goal.rebuild_cb-requires-clause-across
rebuild_cb-requires-clause-across c =
    let ends =
    unit_ends c.args.unit.size c.args.unit.address c.args.unit.few c.args.unit.inside
    c.args.unit.even in
    omega (arith, ends.chroma_right, c.column_of-x.ensures.value)

pub rebuild_cb-requires-clause-down : goal.rebuild_cb-requires-clause-down
rebuild_cb-requires-clause-down c =
    let ends =
    unit_ends c.args.unit.size c.args.unit.address c.args.unit.few c.args.unit.inside
    c.args.unit.even in
    omega (arith, ends.chroma_bottom, c.row_of-y.ensures.value)

pub rebuild_cr-requires-clause-across : goal.rebuild_cr-requires-clause-across
rebuild_cr-requires-clause-across c =
    let ends =
    unit_ends c.args.unit.size c.args.unit.address c.args.unit.few c.args.unit.inside
    c.args.unit.even in
    omega (arith, ends.chroma_right, c.column_of-x.ensures.value)

pub rebuild_cr-requires-clause-down : goal.rebuild_cr-requires-clause-down
rebuild_cr-requires-clause-down c =
    let ends =
    unit_ends c.args.unit.size c.args.unit.address c.args.unit.few c.args.unit.inside
    c.args.unit.even in
    omega (arith, ends.chroma_bottom, c.row_of-y.ensures.value)

pub returns : goal.returns
returns c =
    let size : ℕ = c.args.unit.size in
    let address = c.from-address.ensures in
    let x = c.column_of-x.ensures.value in
    let y = c.row_of-y.ensures.value in
    let column = c.corner-column.ensures.column in
    let row = c.corner-column.ensures.row in
    let half_column : c.corner-column.result.0 / 2 ≡
    32 * ctb_column c.args.place + 4 * column_of c.args.unit.address =
    omega (arith, column) in
    let half_row : c.corner-column.result.1 / 2 ≡
    32 * ctb_row c.args.place + 4 * row_of c.args.unit.address =
    omega (arith, row) in
    let area :
    64 * c.from-address.result + c.area_of.result - 64 * c.from-address.result ≡
    2 ^ (size + 3) * 2 ^ (size + 3) =
    omega (arith, c.area_of.ensures.square) in
    let chroma_area :
    16 * c.from-address.result + c.area_of-2.result - 16 * c.from-address.result ≡
    2 ^ (size + 2) * 2 ^ (size + 2) =
    omega (arith, c.area_of-2.ensures.square) in
    record {
      luma = same_inter_put 64 (size + 3) true _ _ _ _ _ _ _ _ _ _ _ _ _ _ _ _ _ _
          (ap (λ v. 8 * v) x) (ap (λ v. 8 * v) y) refl
          (λ i. take (area i) (drop (64 * address i) (c.luma.ensures.value i)))
          column row refl (sym (c.rebuild_cr.ensures.luma ∙ c.rebuild_cb.ensures.luma))
          c.rebuild_luma.ensures.put;
      cb = same_inter_put 32 (size + 2) false _ _ _ _ _ _ _ _ _ _ _ _ _ _ _ _ _ _
          (ap (λ v. 4 * v) x) (ap (λ v. 4 * v) y) c.chroma_qp.ensures.value
          (λ i. take (chroma_area i) (drop (16 * address i) (c.cb.ensures.value i)))
          half_column half_row c.rebuild_luma.ensures.cb (sym c.rebuild_cr.ensures.cb)
          c.rebuild_cb.ensures.put;
      cr = same_inter_put 32 (size + 2) false _ _ _ _ _ _ _ _ _ _ _ _ _ _ _ _ _ _
          (ap (λ v. 4 * v) x) (ap (λ v. 4 * v) y) c.chroma_qp.ensures.value
          (λ i. take (chroma_area i) (drop (16 * address i) (c.cr.ensures.value i)))
          half_column half_row (c.rebuild_cb.ensures.cr ∙ c.rebuild_luma.ensures.cr) refl
          c.rebuild_cr.ensures.put;
    }
