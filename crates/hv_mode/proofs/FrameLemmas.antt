-- Frames of a block in decoding order: what is known before an address holds in each block that has
-- the same before it, and a copied node restores what stood there (6.5.2).
use Rattle.std.proofs.Common.{◌≡◌, ℕ, ◌+◌, ◌-◌, ◌*◌, ◌<◌, ◌≤◌, Bool, true, false, List, ◌++◌, take, take-take, refl, sym, ap, ap₂, ◌∙◌, subst, arith, mul-add}
use Rattle.std.specs.Prelude.{nat_lt, ◌&&◌, map, None}
use Rattle.std.proofs.Math.Seq.{take-add}
use Rattle.std.proofs.lemmas.Bool.{and_parts, ltb-true, lt-ltb}
use Rattle.std.proofs.lemmas.List.{take-map}
use Rattle.hv_block.specs.declared.block.Block.{Block}
use Rattle.hv_tree_model.specs.Trees.{Tree}
use Rattle.hv_tree_model.specs.Sites.{squares}
use Rattle.hv_tree_model.specs.Plans.{Plan, part, square_or_none}
use Rattle.hv_recon_model.specs.Reconstruction.{Component}
use Rattle.hv_recon_model.specs.SeenSamples.{Spot, SamplesAround, IsSeen, by_rows, comes_before, is_in_picture, sample_at_left, sample_above, sample_around, look_around}
use Rattle.hv_inter_model.specs.UnitVectors.{unit_with_vector}
use Rattle.hv_recon.specs.Leaves.{lists_with_vectors}
use Rattle.hv_near.specs.Squares.{own_square}
use Rattle.hv_mode_model.specs.ModeDecision.{Before}
use Rattle.hv_mode.specs.declared.task.Task.{Task}
use Rattle.hv_mode.specs.Nodes.{Stands, SameSamples, SameBefore, Decides, SameInNode, CopiesNode}
use Rattle.hv_lemmas.proofs.BooleanLemmas.{same_where, other_where}
use Rattle.hv_lemmas.proofs.ListLemmas.{get_before}

-- ---- lists that begin alike

pub take_less : {A : Type 0} (few many : ℕ) (xs ys : List A) → few ≤ many →
    take many xs ≡ take many ys → take few xs ≡ take few ys
take_less few many xs ys less same =
    sym (take-take few many xs less) ∙ ap (take few) same ∙ take-take few many ys less

-- with the same part behind them
pub take_more : {A : Type 0} (from count : ℕ) (xs ys : List A) → take from xs ≡ take from ys →
    part xs from count ≡ part ys from count → take (from + count) xs ≡ take (from + count) ys
take_more from count xs ys first then =
    take-add from count xs ∙ ap₂ (λ a b. a ++ b) first then ∙ sym (take-add from count ys)

-- ---- blocks that have the same before an address

same_samples : (side address : ℕ) (s : List ℕ) → SameSamples side address s s
same_samples side address s = record { sample = λ x y across down before. refl }

samples_trans : (side address : ℕ) (s t u : List ℕ) → SameSamples side address s t →
    SameSamples side address t u → SameSamples side address s u
samples_trans side address s t u first second = record {
  sample = λ x y across down before.
      second.sample x y across down before ∙ first.sample x y across down before;
}

earlier_comes : (side a b x y : ℕ) → a ≤ b → comes_before side a x y ≡ true →
    comes_before side b x y ≡ true
earlier_comes side a b x y less before = lt-ltb _ _ (omega (arith, less, ltb-true _ _ before))

samples_less : (side a b : ℕ) (s t : List ℕ) → a ≤ b → SameSamples side b s t →
    SameSamples side a s t
samples_less side a b s t less same = record {
  sample = λ x y across down before.
      same.sample x y across down (earlier_comes side a b x y less before);
}

pub same_refl : (address : ℕ) (s : Block) → SameBefore address s s
same_refl address s = record {
  units = refl;
  luma_levels = refl;
  cb_levels = refl;
  cr_levels = refl;
  luma = same_samples 64 address s.samples.luma;
  cb = same_samples 32 address s.samples.cb;
  cr = same_samples 32 address s.samples.cr;
}

samples_sym : (side address : ℕ) (s t : List ℕ) → SameSamples side address s t →
    SameSamples side address t s
samples_sym side address s t same = record {
  sample = λ x y across down before. sym (same.sample x y across down before);
}

pub same_sym : (address : ℕ) (s t : Block) → SameBefore address s t → SameBefore address t s
same_sym address s t same = record {
  units = sym same.units;
  luma_levels = sym same.luma_levels;
  cb_levels = sym same.cb_levels;
  cr_levels = sym same.cr_levels;
  luma = samples_sym 64 address _ _ same.luma;
  cb = samples_sym 32 address _ _ same.cb;
  cr = samples_sym 32 address _ _ same.cr;
}

pub same_trans : (address : ℕ) (s t u : Block) → SameBefore address s t →
    SameBefore address t u → SameBefore address s u
same_trans address s t u first second = record {
  units = second.units ∙ first.units;
  luma_levels = second.luma_levels ∙ first.luma_levels;
  cb_levels = second.cb_levels ∙ first.cb_levels;
  cr_levels = second.cr_levels ∙ first.cr_levels;
  luma = samples_trans 64 address _ _ _ first.luma second.luma;
  cb = samples_trans 32 address _ _ _ first.cb second.cb;
  cr = samples_trans 32 address _ _ _ first.cr second.cr;
}

pub same_less : (a b : ℕ) (s t : Block) → a ≤ b → SameBefore b s t → SameBefore a s t
same_less a b s t less same = record {
  units = take_less a b _ _ less same.units;
  luma_levels = take_less (64 * a) (64 * b) _ _ (omega (arith, less)) same.luma_levels;
  cb_levels = take_less (16 * a) (16 * b) _ _ (omega (arith, less)) same.cb_levels;
  cr_levels = take_less (16 * a) (16 * b) _ _ (omega (arith, less)) same.cr_levels;
  luma = samples_less 64 a b _ _ less same.luma;
  cb = samples_less 32 a b _ _ less same.cb;
  cr = samples_less 32 a b _ _ less same.cr;
}

-- ---- a node that is saved, and copied back

levels_restored : {A : Type 0} (grain address n : ℕ) (first saved tried new : List A) →
    take (grain * address) tried ≡ take (grain * address) first →
    take (grain * address) new ≡ take (grain * address) tried →
    part saved (grain * address) (grain * n) ≡ part first (grain * address) (grain * n) →
    part new (grain * address) (grain * n) ≡ part saved (grain * address) (grain * n) →
    take (grain * (address + n)) new ≡ take (grain * (address + n)) first
levels_restored grain address n first saved tried new before again save restore =
    let whole : grain * address + grain * n ≡ grain * (address + n) =
    sym (mul-add grain address n) in
    subst (λ (m : ℕ). take m new ≡ take m first) whole
    (take_more (grain * address) (grain * n) new first (again ∙ before) (restore ∙ save))

samples_restored : (side size address : ℕ) (first saved tried new : List ℕ) →
    SameInNode side size address first saved → SameSamples side address first tried →
    SameInNode side size address saved new → SameSamples side address tried new →
    SameSamples side (address + squares size) first new
samples_restored side size address first saved tried new save before restore again = record {
  sample = λ x y across down inside.
      by x y across down inside (comes_before side address x y) refl;
} where
  by : (x y : ℕ) → x < side → y < side → comes_before side (address + squares size) x y ≡ true →
      (test : Bool) → comes_before side address x y ≡ test →
      by_rows side new x y ≡ by_rows side first x y
  by x y across down inside true here =
      again.sample x y across down here ∙ before.sample x y across down here
  by x y across down inside false here =
      restore.sample x y across down here inside ∙ save.sample x y across down here inside

pub restored : (size address : ℕ) (first old saved tried new : Block) →
    CopiesNode size address first old saved → SameBefore address first tried →
    CopiesNode size address saved tried new → SameBefore (address + squares size) first new
restored size address first old saved tried new save before restore = record {
  units = take_more address (squares size) new.plan.units first.plan.units
      (restore.kept.units ∙ before.units) (restore.units ∙ save.units);
  luma_levels = levels_restored 64 address (squares size) first.plan.luma saved.plan.luma
      tried.plan.luma new.plan.luma before.luma_levels restore.kept.luma_levels
      save.luma_levels restore.luma_levels;
  cb_levels = levels_restored 16 address (squares size) first.plan.cb saved.plan.cb
      tried.plan.cb new.plan.cb before.cb_levels restore.kept.cb_levels
      save.cb_levels restore.cb_levels;
  cr_levels = levels_restored 16 address (squares size) first.plan.cr saved.plan.cr
      tried.plan.cr new.plan.cr before.cr_levels restore.kept.cr_levels
      save.cr_levels restore.cr_levels;
  luma = samples_restored 64 size address first.samples.luma saved.samples.luma
      tried.samples.luma new.samples.luma save.luma before.luma restore.luma restore.kept.luma;
  cb = samples_restored 32 size address first.samples.cb saved.samples.cb
      tried.samples.cb new.samples.cb save.cb before.cb restore.cb restore.kept.cb;
  cr = samples_restored 32 size address first.samples.cr saved.samples.cr
      tried.samples.cr new.samples.cr save.cr before.cr restore.cr restore.kept.cr;
}

-- ---- what stands before an address

look_same : (s : Spot) (around : SamplesAround) (old new : List ℕ) (address x y : ℕ) →
    SameSamples s.side address old new →
    look_around s around old address x y ≡ look_around s around new address x y
unfolding look_around
look_same s around old new address x y same =
    let p : ℕ = x - s.side in
    let q : ℕ = y - s.side in
    same_where (is_in_picture s x y) (sample_around s.side around old address x y)
    (sample_around s.side around new address x y) None (λ there.
    other_where (nat_lt x s.side) (sample_at_left s.side around y) _ _ (λ no_x.
    other_where (nat_lt y s.side) (sample_above s.side around x) _ _ (λ no_y.
    same_where (nat_lt p s.side && nat_lt q s.side && comes_before s.side address p q)
    (by_rows s.side old p q) (by_rows s.side new p q) None (λ inside.
    let both = and_parts (nat_lt p s.side && nat_lt q s.side) _ inside in
    let sides = and_parts (nat_lt p s.side) (nat_lt q s.side) both.0 in
    sym (same.sample p q (ltb-true _ _ sides.0) (ltb-true _ _ sides.1) both.1)))))

seen_same : (s : Spot) (around : SamplesAround) (old new : List ℕ) (address : ℕ)
    (samples : Component) → SameSamples s.side address old new →
    IsSeen s around old address samples → IsSeen s around new address samples
seen_same s around old new address samples same seen = record {
  sample = λ x y left right top low.
      seen.sample x y left right top low ∙ look_same s around old new address x y same;
}

pub own_square_same : (address : ℕ) (p q : Plan) (a : ℕ) → a < address →
    take address q.units ≡ take address p.units → own_square p a ≡ own_square q a
own_square_same address p q a below same =
    ap square_or_none (get_before address p.units q.units a below (sym same))

-- with their vectors the units are the same too
pub moving_units_same : (address : ℕ) (s t : Block) → SameBefore address s t →
    take address (map unit_with_vector t.plan.units) ≡
    take address (map unit_with_vector s.plan.units)
moving_units_same address s t same =
    take-map unit_with_vector address t.plan.units ∙ ap (map unit_with_vector) same.units ∙
    sym (take-map unit_with_vector address s.plan.units)

pub moving_square_same : (address : ℕ) (s t : Block) (a : ℕ) → a < address →
    SameBefore address s t →
    own_square (lists_with_vectors s.plan) a ≡ own_square (lists_with_vectors t.plan) a
moving_square_same address s t a below same =
    own_square_same address (lists_with_vectors s.plan) (lists_with_vectors t.plan) a below
    (moving_units_same address s t same)

pub stands_since : (task : Task) (address : ℕ) (before : Before) (s t : Block) →
    SameBefore address s t → Stands task s address before → Stands task t address before
stands_since task address before s t same stands = record {
  decoded = record {
    luma = seen_same _ _ s.samples.luma t.samples.luma address _ same.luma stands.decoded.luma;
    cb = seen_same _ _ s.samples.cb t.samples.cb address _ same.cb stands.decoded.cb;
    cr = seen_same _ _ s.samples.cr t.samples.cr address _ same.cr stands.decoded.cr;
    same_references = stands.decoded.same_references;
  };
  earlier = record {
    count = stands.earlier.count;
    square = λ a below inside. stands.earlier.square a below inside ∙
        moving_square_same address s t a below same;
  };
}

pub decides_since : (task : Task) (size address : ℕ) (choice : Before → Tree)
    (old mid new : Block) → SameBefore address old mid →
    Decides task size address choice mid new → Decides task size address choice old new
decides_since task size address choice old mid new same decides = record {
  kept = same_trans address old mid new same decides.kept;
  names = decides.names;
  moving_names = decides.moving_names;
  tree = λ before stands.
      decides.tree before (stands_since task address before old mid same stands);
  coded = λ before stands.
      decides.coded before (stands_since task address before old mid same stands);
  stands = λ before stands.
      decides.stands before (stands_since task address before old mid same stands);
}
