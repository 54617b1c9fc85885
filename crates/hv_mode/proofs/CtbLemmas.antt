-- The node of the greatest size is the coding tree block: nothing of it is decided before, so what
-- its own samples were before never matters.
use Rattle.std.proofs.Common.{◌≡◌, ℕ, ◌-◌, cond, List, [], refl, sym, ap, ◌∙◌, arith}
use Rattle.std.specs.Prelude.{nat_lt, ◌&&◌, None}
use Rattle.std.proofs.lemmas.Bool.{and_parts, ltb-true}
use Rattle.hv_types.specs.declared.picture.Picture.{Picture}
use Rattle.hv_block.specs.declared.block.Block.{Block}
use Rattle.hv_block.specs.declared.edges.Neighbours.{Neighbours}
use Rattle.hv_block.specs.Samples.{Samples}
use Rattle.hv_tree_model.specs.Trees.{greatest_size}
use Rattle.hv_tree_model.specs.Sites.{Site}
use Rattle.hv_tree_model.specs.Plans.{Plan, tree_of}
use Rattle.hv_near.specs.Neighbours.{lists_of_plan}
use Rattle.hv_near.specs.Squares.{Shows}
use Rattle.hv_recon_model.specs.Reconstruction.{Component, Decoded}
use Rattle.hv_recon_model.specs.SeenSamples.{Spot, SamplesAround, IsSeen, luma_spot, chroma_spot, comes_before, by_rows, sample_inside, sample_at_left, sample_above, is_in_picture, look_around}
use Rattle.hv_recon.specs.Leaves.{AreSeen, luma_around, cb_around, cr_around, lists_with_vectors}
use Rattle.hv_recon.specs.DecodedNodes.{DecodesBlock}
use Rattle.hv_recon.proofs.ChoiceLemmas.{where_never}
use Rattle.hv_recon.proofs.NodeLemmas.{greatest_node_is_block}
use Rattle.hv_mode_model.specs.ModeDecision.{coded_node, best}
use Rattle.hv_mode.specs.declared.task.Task.{Task}
use Rattle.hv_mode.specs.Nodes.{given_of, Stands, Decides}
use Rattle.hv_mode.specs.Pictures.{before_block}
use Rattle.hv_mode.specs.Vectors.{references_of}
use Rattle.hv_mode.proofs.SplitLemmas.{decides_decodes}

-- ---- before the block

nothing_inside : (side : ℕ) (own : List ℕ) (x y : ℕ) → sample_inside side own 0 x y ≡ None
nothing_inside side own x y =
    where_never (nat_lt x side && nat_lt y side && comes_before side 0 x y) (by_rows side own x y)
    None
    (λ t. absurd (omega (arith, ltb-true _ 0 (and_parts _ (comes_before side 0 x y) t).1)))

look_whatever : (s : Spot) (around : SamplesAround) (own other : List ℕ) (x y : ℕ) →
    look_around s around own 0 x y ≡ look_around s around other 0 x y
unfolding look_around
look_whatever s around own other x y =
    ap (λ u. cond (is_in_picture s x y) (cond (nat_lt x s.side) (sample_at_left s.side around y)
    (cond (nat_lt y s.side) (sample_above s.side around x) u)) None)
    (nothing_inside s.side own (x - s.side) (y - s.side) ∙
    sym (nothing_inside s.side other (x - s.side) (y - s.side)))

seen_whatever : (s : Spot) (around : SamplesAround) (own other : List ℕ) (samples : Component) →
    IsSeen s around own 0 samples → IsSeen s around other 0 samples
seen_whatever s around own other samples seen = record {
  sample = λ x y left right top low.
      seen.sample x y left right top low ∙ look_whatever s around own other x y;
}

are_seen_whatever : (place : Site) (references : List Picture) (near : Neighbours)
    (own other : Samples) (d : Decoded) → AreSeen place references near own 0 d →
    AreSeen place references near other 0 d
are_seen_whatever place references near own other d seen = record {
  same_references = seen.same_references;
  luma = seen_whatever (luma_spot place) (luma_around near) own.luma other.luma d.luma seen.luma;
  cb = seen_whatever (chroma_spot place) (cb_around near) own.cb other.cb d.cb seen.cb;
  cr = seen_whatever (chroma_spot place) (cr_around near) own.cr other.cr d.cr seen.cr;
}

nothing_shown : (site : Site) (plan : Plan) → Shows site plan 0 []
nothing_shown site plan = record {
  count = refl;
  square = λ a below inside. absurd (omega (arith, below));
}

-- ---- the block

module _ (t : Task) (old new : Block)
    (decides : Decides t greatest_size 0 (best (given_of t) greatest_size 0) old new) where
  stands : (own : Samples) (d : Decoded) →
      AreSeen t.place (references_of t) t.near.now own 0 d → Stands t old 0 (before_block d)
  stands own d seen = record {
    decoded =
        are_seen_whatever t.place (references_of t) t.near.now own old.samples d seen;
    earlier = nothing_shown t.place (lists_with_vectors old.plan);
  }

  pub tree_of_block : (own : Samples) (d : Decoded) →
      AreSeen t.place (references_of t) t.near.now own 0 d →
      tree_of t.place (lists_with_vectors new.plan) ≡
      best (given_of t) greatest_size 0 (before_block d)
  tree_of_block own d seen = decides.tree (before_block d) (stands own d seen)

  pub coded_of_block : (own : Samples) (d : Decoded) →
      AreSeen t.place (references_of t) t.near.now own 0 d →
      tree_of t.place (lists_of_plan new.plan) ≡
      coded_node (given_of t) greatest_size 0 (before_block d)
      (best (given_of t) greatest_size 0 (before_block d))
  coded_of_block own d seen = decides.coded (before_block d) (stands own d seen)

  pub decodes_block :
      DecodesBlock (lists_with_vectors new.plan) t.place t.qp (references_of t) t.near.now
      new.samples
  decodes_block =
      greatest_node_is_block (lists_with_vectors new.plan) t.place t.qp (references_of t)
      t.near.now new.samples (λ own d seen.
      decides_decodes t greatest_size 0 old new [] (omega arith)
      (nothing_shown t.place (lists_with_vectors old.plan)) decides d
      (are_seen_whatever t.place (references_of t) t.near.now own old.samples d seen))
