-- The levels of an inter transform block: those of what its prediction leaves of the input.
use Rattle.std.specs.Prelude.{◌≡◌, ℕ, ◌+◌, ◌*◌, ◌/◌, ◌^◌, Bool, true, false, List, ℤ}
use Rattle.hv_block.specs.Plans.{CtbPlan}
use Rattle.hv_plan.specs.declared.prediction.Mv.{Mv}
use Rattle.hv_tables.specs.Quantisers.{chroma_qp}
use Rattle.hv_types.specs.declared.picture.Picture.{Picture}
use Rattle.hv_types.specs.Samples.{Plane}
use Rattle.hv_inter_model.specs.Interpolation.{inter_predicted}
use Rattle.hv_sample_model.specs.Quantisation.{levels}
use Rattle.hv_tree_model.specs.Sites.{x0, y0}
use Rattle.hv_tree_model.specs.Plans.{part}
use Rattle.hv_recon.specs.Coding.{input_block}
use Rattle.hv_mode_model.specs.ModeDecision.{differences}
use Rattle.hv_mode.specs.declared.task.Task.{Task}

-- by rows, of the block of 2^log2 columns and rows that begins in column x of row y of a component,
-- which the vector leads to its prediction in that of a reference picture
abbrev pub inter_levels : ℕ → Bool → ℕ → Mv → ℕ → ℕ → Plane → Plane → List ℤ
inter_levels log2 is_luma qp mv x y input reference =
    levels log2 qp false
    (differences (input_block input x y log2)
    (inter_predicted is_luma reference mv x y (2 ^ log2)))

-- The plan has the levels of the inter transform unit of this size at this address: each component
-- is predicted from that of the reference picture by this vector.
pub record HasInterLevels
    (t : Task) (reference : Picture) (mv : Mv) (size address : ℕ) (plan : CtbPlan) : Type 0 where
  pub luma :
      part plan.luma (64 * address) (2 ^ (size + 3) * 2 ^ (size + 3)) ≡
      inter_levels (size + 3) true t.qp mv (x0 t.place address) (y0 t.place address)
      t.input.now.luma reference.luma
  pub cb :
      part plan.cb (16 * address) (2 ^ (size + 2) * 2 ^ (size + 2)) ≡
      inter_levels (size + 2) false (chroma_qp t.qp) mv (x0 t.place address / 2)
      (y0 t.place address / 2) t.input.now.cb reference.cb
  pub cr :
      part plan.cr (16 * address) (2 ^ (size + 2) * 2 ^ (size + 2)) ≡
      inter_levels (size + 2) false (chroma_qp t.qp) mv (x0 t.place address / 2)
      (y0 t.place address / 2) t.input.now.cr reference.cr
