use Rattle.std.proofs.Common.{ℕ, ◌+◌, ◌*◌, true, false, take, refl, sym, ap, ◌∙◌, arith}
use Rattle.hv_recon_model.proofs.SeenNodeLemmas.{power_luma, power_chroma}
use Rattle.hv_recon.specs.Views.{around_of}
use Rattle.hv_recon.proofs.UnitLemmas.{unit_ends}
use Rattle.hv_recon.proofs.PutUnitLemmas.{same_put}
use Rattle.hv_recon.proofs.CodedUnitLemmas.{length-coded_levels, same_levels, written}
use Rattle.hv_recon.proofs.coded_unit.code_unit.Goals as goal

pub luma_view-requires : goal.luma_view-requires
luma_view-requires c =
    omega (arith, c.requires.whole.luma.wide, c.requires.whole.luma.whole.wide)

pub code_luma-requires : goal.code_luma-requires
code_luma-requires c =
    let ends =
    unit_ends c.args.unit.size c.args.unit.address c.args.unit.few c.args.unit.inside
    c.args.unit.even in
    let column = c.column_of-column.ensures.value in
    let row = c.row_of-row.ensures.value in
    let power = power_luma c.args.unit.size in
    record {
      side = ap (λ s. s.side) c.luma_view.ensures.spot;
      across = omega (arith, ends.right, column);
      down = omega (arith, ends.bottom, row);
      wide = omega (
        arith,
        ap (λ s. s.left) c.luma_view.ensures.spot,
        column,
        c.requires.right,
        power,
        c.requires.whole.luma.wide,
      );
      high = omega (
        arith,
        ap (λ s. s.top) c.luma_view.ensures.spot,
        row,
        c.requires.bottom,
        power,
        c.requires.whole.luma.high,
      );
      room = omega (arith, ends.levels, c.from-address.ensures);
    }

pub chroma_view-requires : goal.chroma_view-requires
chroma_view-requires c =
    omega (arith, c.requires.whole.luma.wide, c.requires.whole.luma.whole.wide)

pub code_cb-requires : goal.code_cb-requires
code_cb-requires c =
    let ends =
    unit_ends c.args.unit.size c.args.unit.address c.args.unit.few c.args.unit.inside
    c.args.unit.even in
    let column = c.column_of-column.ensures.value in
    let row = c.row_of-row.ensures.value in
    let power = power_chroma c.args.unit.size in
    record {
      side = ap (λ s. s.side) c.chroma_view.ensures.spot;
      across = omega (arith, ends.chroma_right, column);
      down = omega (arith, ends.chroma_bottom, row);
      wide = omega (
        arith,
        ap (λ s. s.left) c.chroma_view.ensures.spot,
        column,
        c.requires.right,
        power,
        c.requires.whole.cb.wide,
      );
      high = omega (
        arith,
        ap (λ s. s.top) c.chroma_view.ensures.spot,
        row,
        c.requires.bottom,
        power,
        c.requires.whole.cb.high,
      );
      room = omega (arith, ends.chroma_levels, c.from-address.ensures);
    }

pub chroma_view-requires-2 : goal.chroma_view-requires-2
chroma_view-requires-2 c =
    omega (arith, c.requires.whole.luma.wide, c.requires.whole.luma.whole.wide)

pub code_cr-requires : goal.code_cr-requires
code_cr-requires c =
    let ends =
    unit_ends c.args.unit.size c.args.unit.address c.args.unit.few c.args.unit.inside
    c.args.unit.even in
    let column = c.column_of-column.ensures.value in
    let row = c.row_of-row.ensures.value in
    let power = power_chroma c.args.unit.size in
    record {
      side = ap (λ s. s.side) c.chroma_view-2.ensures.spot;
      across = omega (arith, ends.chroma_right, column);
      down = omega (arith, ends.chroma_bottom, row);
      wide = omega (
        arith,
        ap (λ s. s.left) c.chroma_view-2.ensures.spot,
        column,
        c.requires.right,
        power,
        c.requires.whole.cr.wide,
      );
      high = omega (
        arith,
        ap (λ s. s.top) c.chroma_view-2.ensures.spot,
        row,
        c.requires.bottom,
        power,
        c.requires.whole.cr.high,
      );
      room = omega (arith, ends.chroma_levels, c.from-address.ensures);
    }

pub returns : goal.returns
returns c =
    let size : ℕ = c.args.unit.size in
    let mode : ℕ = c.args.unit.mode in
    let ends =
    unit_ends size c.args.unit.address c.args.unit.few c.args.unit.inside c.args.unit.even in
    let column = c.column_of-column.ensures.value in
    let row = c.row_of-row.ensures.value in
    let address = c.from-address.ensures in
    let spot = c.luma_view.ensures.spot in
    let around = c.luma_view.ensures.around in
    let cb_spot = c.chroma_view.ensures.spot in
    let cb_near = ap around_of c.chroma_view.ensures.around ∙ c.cb_around.ensures in
    let cr_spot = c.chroma_view-2.ensures.spot in
    let cr_near = ap around_of c.chroma_view-2.ensures.around ∙ c.cr_around.ensures in
    let old_cb = c.code_luma.ensures.cb in
    let old_cr = c.code_cb.ensures.cr ∙ c.code_luma.ensures.cr in
    let first = c.code_luma.ensures.plan in
    let second = c.code_cb.ensures.plan in
    let third = c.code_cr.ensures.plan in
    let luma_same =
    same_levels (size + 3) mode true _ _ c.args.input.now.luma _ _ _ _ _ _ _ _ _ _ _ _ refl spot
    around (ap (λ v. 8 * v) column) (ap (λ v. 8 * v) row) address refl in
    let cb_same =
    same_levels (size + 2) mode false _ _ c.args.input.now.cb _ _ _ _ _ _ _ _ _ _ _ _
    c.chroma_qp.ensures.value cb_spot cb_near (ap (λ v. 4 * v) column) (ap (λ v. 4 * v) row) address
    old_cb in
    let cr_same =
    same_levels (size + 2) mode false _ _ c.args.input.now.cr _ _ _ _ _ _ _ _ _ _ _ _
    c.chroma_qp.ensures.value cr_spot cr_near (ap (λ v. 4 * v) column) (ap (λ v. 4 * v) row) address
    old_cr in
    let luma =
    written c.args.plan.now.luma _ _ c.code_cr.new.plan.luma _ _ _
    (ap (λ p. p.luma) third ∙ ap (λ p. p.luma) second ∙ ap (λ p. p.luma) first)
    (ap (λ a. 64 * a) address) luma_same (length-coded_levels (size + 3) mode true _ _ _)
    (omega (arith, ends.levels, c.code_luma.ensures.room)) in
    let cb =
    written c.code_luma.new.plan.cb _ _ c.code_cr.new.plan.cb _ _ _
    (ap (λ p. p.cb) third ∙ ap (λ p. p.cb) second) (ap (λ a. 16 * a) address) cb_same
    (length-coded_levels (size + 2) mode false _ _ _)
    (omega (arith, ends.chroma_levels, c.code_cb.ensures.room)) in
    let cr =
    written c.code_cb.new.plan.cr _ _ c.code_cr.new.plan.cr _ _ _
    (ap (λ p. p.cr) third) (ap (λ a. 16 * a) address) cr_same
    (length-coded_levels (size + 2) mode false _ _ _)
    (omega (arith, ends.chroma_levels, c.code_cr.ensures.room)) in
    record {
      coded = record {
        luma = luma.0;
        cb = cb.0;
        cr = cr.0;
        put = record {
          luma = same_put 64 (size + 3) mode true _ _ _ _ _ _ _ _ _ _ _ _ _ _ _ _ _ _
              (ap (λ v. 8 * v) column) (ap (λ v. 8 * v) row) refl (luma_same ∙ sym luma.0) spot around
              address refl (sym (c.code_cr.ensures.luma ∙ c.code_cb.ensures.luma))
              c.code_luma.ensures.put;
          cb = same_put 32 (size + 2) mode false _ _ _ _ _ _ _ _ _ _ _ _ _ _ _ _ _ _
              (ap (λ v. 4 * v) column) (ap (λ v. 4 * v) row) c.chroma_qp.ensures.value
              (cb_same ∙ sym cb.0) cb_spot cb_near address old_cb (sym c.code_cr.ensures.cb)
              c.code_cb.ensures.put;
          cr = same_put 32 (size + 2) mode false _ _ _ _ _ _ _ _ _ _ _ _ _ _ _ _ _ _
              (ap (λ v. 4 * v) column) (ap (λ v. 4 * v) row) c.chroma_qp.ensures.value
              (cr_same ∙ sym cr.0) cr_spot cr_near address old_cr refl c.code_cr.ensures.put;
        };
      };
      kept = record {
        units = ap (λ p. p.units) third ∙ ap (λ p. p.units) second ∙ ap (λ p. p.units) first;
        luma = luma.1;
        cb = cb.1 ∙ ap (λ p. take (16 * c.args.unit.address) p.cb) first;
        cr = cr.1 ∙ ap (λ p. take (16 * c.args.unit.address) p.cr) second ∙
            ap (λ p. take (16 * c.args.unit.address) p.cr) first;
      };
    }
