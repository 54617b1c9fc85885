-- A node that is split below a limit of cost: each part is decided below what the parts before it
-- have left, and the split is given up with the first part that is.
use Rattle.std.proofs.Common.{◌≡◌, ℕ, zero, suc, ◌+◌, ◌-◌, ◌*◌, ◌/◌, ◌%◌, ◌^◌, ◌<◌, ◌≤◌, false, refl, sym, ap, subst, ◌∙◌, arith}
use Rattle.std.specs.Prelude.{Option, Some}
use Rattle.std.proofs.lemmas.Bool.Decides.{nat_tests}
use Rattle.hv_block.specs.declared.block.Block.{Block}
use Rattle.hv_tree_model.specs.Trees.{Tree, side}
use Rattle.hv_tree_model.specs.Sites.{Site, x0, y0, squares, crosses}
use Rattle.hv_tree_model.specs.Plans.{UnitsAround, look_around}
use Rattle.hv_tree_model.proofs.NodeLemmas.{IsNode}
use Rattle.hv_vector_model.specs.Vectors.{around_with_vectors}
use Rattle.hv_near.specs.Neighbours.{around_of}
use Rattle.hv_recon_model.proofs.DecodedLemmas.{side_double}
use Rattle.hv_recon.specs.DecodedNodes.{IsNodeOfBlock}
use Rattle.hv_recon.proofs.NodeLemmas.{node_of_block}
use Rattle.hv_filter_model.specs.Costs.{cost}
use Rattle.hv_mode_model.specs.ModeDecision.{Given, Before, behind, cost_of, best}
use Rattle.hv_mode.specs.declared.task.Task.{Task}
use Rattle.hv_mode.specs.Nodes.{given_of, Stands, SameBefore}
use Rattle.hv_mode.specs.SplitNodes.{split_choice, tried_choice}
use Rattle.hv_mode.specs.Limits.{IsBelow, GivenUp, DecidesBelow}
use Rattle.hv_mode.proofs.BestLemmas.{begins_inside, not_split, best_tried}
use Rattle.hv_mode.proofs.FrameLemmas.{same_refl, same_trans, same_less}
use Rattle.hv_mode.proofs.LimitLemmas.{is_below, below_as}
use Rattle.hv_mode.proofs.SplitCostLemmas.{corner_x, corner_y, costs_of_parts}
use Rattle.hv_mode.proofs.SplitLemmas.{split_decides, stands_at}
use Rattle.hv_mode.proofs.StillLemmas.{LooksAlike, around_alike}

-- ---- the parts lie in the picture

at_most_once : (k n : ℕ) → k < 2 → k * n ≤ n
at_most_once zero n few = omega arith
at_most_once (suc zero) n few = omega arith
at_most_once (suc (suc k)) n few = absurd (omega (arith, few))

part_across : (site : Site) (below address k z : ℕ) → IsNode (suc below) address → k < 4 →
    z ≡ address + k * squares below → x0 site address + side (suc below) ≤ site.width →
    x0 site z + side below ≤ site.width
part_across site below address k z node few is right =
    let corner = corner_x site below address k z node few is in
    let half : k % 2 * 2 ^ below ≤ 2 ^ below =
    at_most_once (k % 2) (2 ^ below) (omega arith) in
    let double = side_double below in omega (arith, corner, double, half, right)

part_down : (site : Site) (below address k z : ℕ) → IsNode (suc below) address → k < 4 →
    z ≡ address + k * squares below → y0 site address + side (suc below) ≤ site.height →
    y0 site z + side below ≤ site.height
part_down site below address k z node few is bottom =
    let corner = corner_y site below address k z node few is in
    let half : k / 2 * 2 ^ below ≤ 2 ^ below =
    at_most_once (k / 2) (2 ^ below) (omega (arith, few)) in
    let double = side_double below in omega (arith, corner, double, half, bottom)

is_above : (size : ℕ) → 0 < size → suc (size - 1) ≡ size
is_above size some = omega (arith, some)

node_above : (size address : ℕ) → 0 < size → IsNodeOfBlock size address →
    IsNode (suc (size - 1)) address
node_above size address some node =
    node_of_block (suc (size - 1)) address
    (subst (λ n. IsNodeOfBlock n address) (sym (is_above size some)) node)

-- a node that is split, and so many squares in each of its parts
pub record IsSplit (t : Task) (size address step : ℕ) : Type 0 where
  pub node : IsNodeOfBlock size address
  pub right : x0 t.place address + side size ≤ t.place.width
  pub bottom : y0 t.place address + side size ≤ t.place.height
  pub some : 0 < size
  pub is_step : step ≡ squares (size - 1)

pub split_is : (t : Task) (size address step : ℕ) → IsNodeOfBlock size address →
    x0 t.place address + side size ≤ t.place.width →
    y0 t.place address + side size ≤ t.place.height → 0 < size → step ≡ squares (size - 1) →
    IsSplit t size address step
split_is t size address step node right bottom some is_step =
    record { node = node; right = right; bottom = bottom; some = some; is_step = is_step }

module _ (t : Task) (size address step : ℕ) (is_split : IsSplit t size address step) (k z : ℕ)
    (few : k < 4) (is : z ≡ address + k * step) where
  node : IsNode (suc (size - 1)) address
  node = node_above size address is_split.some is_split.node

  place : z ≡ address + k * squares (size - 1)
  place = is ∙ ap (λ n. address + k * n) is_split.is_step

  pub part_right : x0 t.place z + side (size - 1) ≤ t.place.width
  part_right =
      part_across t.place (size - 1) address k z node few place
      (subst (λ n. x0 t.place address + side n ≤ t.place.width)
      (sym (is_above size is_split.some)) is_split.right)

  pub part_bottom : y0 t.place z + side (size - 1) ≤ t.place.height
  part_bottom =
      part_down t.place (size - 1) address k z node few place
      (subst (λ n. y0 t.place address + side n ≤ t.place.height)
      (sym (is_above size is_split.some)) is_split.bottom)

-- ---- a part that was decided below its limit

pub record Part (t : Task) (size z : ℕ) (old : Block) : Type 0 where
  pub new : Block
  pub limit : ℕ
  pub cost : ℕ
  pub is : IsBelow t (size - 1) z (best (given_of t) (size - 1) z) limit old new cost

-- by what was answered
abbrev pub part_of : (t : Task) (size z limit : ℕ) (old new : Block) (result : Option ℕ) (cost : ℕ) →
    result ≡ Some cost →
    DecidesBelow t (size - 1) z (best (given_of t) (size - 1) z) limit old new result →
    Part t size z old
part_of t size z limit old new result cost some decides = record {
  new = new;
  limit = limit;
  cost = cost;
  is =
      is_below t (size - 1) z (best (given_of t) (size - 1) z) limit old new result cost some
      decides;
}

-- where all is tried of a node, that is its choice
pub below_best : (t : Task) (size address limit : ℕ) (old new : Block) (result : Option ℕ) →
    0 < t.effort → x0 t.place address + side size ≤ t.place.width →
    y0 t.place address + side size ≤ t.place.height →
    DecidesBelow t size address (tried_choice t size address) limit old new result →
    DecidesBelow t size address (best (given_of t) size address) limit old new result
below_best t size address limit old new result tries right bottom decides =
    below_as t size address (tried_choice t size address) limit (best (given_of t) size address)
    old new result
    (λ before here. sym (best_tried t address before
    (begins_inside t.place size address right bottom) tries size
    (not_split t.place size address right bottom))) decides

-- ---- what a split costs

not_crossing : (site : Site) (size address : ℕ) → x0 site address + side size ≤ site.width →
    y0 site address + side size ≤ site.height → crosses site size address ≡ false
unfolding crosses
not_crossing site size address right bottom = grind (arith, nat_tests)

moving_alike : (around : UnitsAround) (here : Site) →
    LooksAlike (look_around here (around_with_vectors around))
    (look_around here (around_with_vectors around))
moving_alike around here xs ys column row same =
    sym (around_alike around here xs xs column row refl) ∙
    around_alike around here xs ys column row same

module _ (t : Task) (size address : ℕ) where
  abbrev g : Given
  g = given_of t

  abbrev below : ℕ
  below = size - 1

  abbrev choice : ℕ → Before → Tree
  choice at = best (given_of t) (size - 1) at

  -- behind each part, where a part has so many squares
  abbrev behind_a : ℕ → Before → Before
  behind_a n before = behind g below address (choice address before) before

  abbrev behind_b : ℕ → Before → Before
  behind_b n before =
      behind g below (address + n) (choice (address + n) (behind_a n before)) (behind_a n before)

  abbrev behind_c : ℕ → Before → Before
  behind_c n before =
      behind g below (address + 2 * n) (choice (address + 2 * n) (behind_b n before))
      (behind_b n before)

  abbrev part_cost : ℕ → Before → ℕ
  part_cost at before = cost_of g below at before (choice at before)

  abbrev IsSum : ℕ → ℕ → Before → Type 0
  IsSum n above before =
      cost_of g above address before (split_choice t size address before) ≡
      cost t.qp 0 1 +
      (part_cost address before +
      (part_cost (address + n) (behind_a n before) +
      (part_cost (address + 2 * n) (behind_b n before) +
      part_cost (address + 3 * n) (behind_c n before))))

  module _ (step : ℕ) (is_split : IsSplit t size address step) (limit flag : ℕ)
      (priced : flag ≡ cost t.qp 0 1) (s0 : Block) where
    abbrev split : Before → Tree
    split = split_choice t size address

    is_step : step ≡ squares (size - 1)
    is_step = is_split.is_step

    sum : (before : Before) → IsSum step size before
    sum before =
        let above = is_above size is_split.some in
        subst (λ n. IsSum n size before) (sym is_step)
        (subst (λ k. IsSum (squares below) k before) above
        (costs_of_parts g below address before
        (node_above size address is_split.some is_split.node)
        (moving_alike (around_of t.near.now) t.place)
        (subst (λ n. crosses t.place n address ≡ false) (sym above)
        (not_crossing t.place size address is_split.right is_split.bottom))))

    -- the flag alone costs as much
    pub flag_up : limit ≤ flag → GivenUp t size address split limit s0 s0
    flag_up spent = record {
      kept = same_refl address s0;
      more = λ before here. let all = sum before in omega (arith, all, spent, priced);
    }

    pub first_up : (s1 : Block) (left : ℕ) → limit ≤ flag + left →
        GivenUp t below address (choice address) left s0 s1 →
        GivenUp t size address split limit s0 s1
    first_up s1 left spent up = record {
      kept = up.kept;
      more = λ before here.
          let all = sum before in let more = up.more before here in
          omega (arith, all, more, spent, priced);
    }

    module _ (first : Part t size address s0) where
      abbrev s1 : Block
      s1 = first.new

      after_a : (before : Before) → Stands t s0 address before →
          Stands t s1 (address + step) (behind_a step before)
      after_a before here =
          stands_at t s1 (address + squares below) (address + step) (behind_a step before)
          (omega (arith, is_step)) (first.is.decided.stands before here)

      kept_b : (s2 : Block) → SameBefore (address + step) s1 s2 → SameBefore address s0 s2
      kept_b s2 kept =
          same_trans address s0 s1 s2 first.is.decided.kept
          (same_less address (address + step) s1 s2 (omega arith) kept)

      pub second_up : (s2 : Block) (left : ℕ) → limit ≤ flag + first.cost + left →
          GivenUp t below (address + step) (choice (address + step)) left s1 s2 →
          GivenUp t size address split limit s0 s2
      second_up s2 left spent up = record {
        kept = kept_b s2 up.kept;
        more = λ before here.
            let all = sum before in let one = first.is.costs before here in
            let more = up.more (behind_a step before) (after_a before here) in
            omega (arith, all, one, more, spent, priced);
      }

      module _ (second : Part t size (address + step) first.new) where
        abbrev s2 : Block
        s2 = second.new

        after_b : (before : Before) → Stands t s0 address before →
            Stands t s2 (address + 2 * step) (behind_b step before)
        after_b before here =
            stands_at t s2 (address + step + squares below) (address + 2 * step)
            (behind_b step before) (omega (arith, is_step))
            (second.is.decided.stands (behind_a step before) (after_a before here))

        kept_c : (s3 : Block) → SameBefore (address + 2 * step) s2 s3 → SameBefore address s0 s3
        kept_c s3 kept =
            same_trans address s0 s2 s3 (kept_b s2 second.is.decided.kept)
            (same_less address (address + 2 * step) s2 s3 (omega arith) kept)

        pub third_up : (s3 : Block) (left : ℕ) → limit ≤ flag + first.cost + second.cost + left →
            GivenUp t below (address + 2 * step) (choice (address + 2 * step)) left s2 s3 →
            GivenUp t size address split limit s0 s3
        third_up s3 left spent up = record {
          kept = kept_c s3 up.kept;
          more = λ before here.
              let all = sum before in let one = first.is.costs before here in
              let two = second.is.costs (behind_a step before) (after_a before here) in
              let more = up.more (behind_b step before) (after_b before here) in
              omega (arith, all, one, two, more, spent, priced);
        }

        module _ (third : Part t size (address + 2 * step) second.new) where
          abbrev s3 : Block
          s3 = third.new

          after_c : (before : Before) → Stands t s0 address before →
              Stands t s3 (address + 3 * step) (behind_c step before)
          after_c before here =
              stands_at t s3 (address + 2 * step + squares below) (address + 3 * step)
              (behind_c step before) (omega (arith, is_step))
              (third.is.decided.stands (behind_b step before) (after_b before here))

          pub fourth_up : (s4 : Block) (left : ℕ) →
              limit ≤ flag + first.cost + second.cost + third.cost + left →
              GivenUp t below (address + 3 * step) (choice (address + 3 * step)) left s3 s4 →
              GivenUp t size address split limit s0 s4
          fourth_up s4 left spent up = record {
            kept =
                same_trans address s0 s3 s4 (kept_c s3 third.is.decided.kept)
                (same_less address (address + 3 * step) s3 s4 (omega arith) up.kept);
            more = λ before here.
                let all = sum before in let one = first.is.costs before here in
                let two = second.is.costs (behind_a step before) (after_a before here) in
                let three = third.is.costs (behind_b step before) (after_b before here) in
                let more = up.more (behind_c step before) (after_c before here) in
                omega (arith, all, one, two, three, more, spent, priced);
          }

          pub all_below : (fourth : Part t size (address + 3 * step) third.new) →
              flag + first.cost + second.cost + third.cost + fourth.limit ≤ limit →
              IsBelow t size address split limit s0 fourth.new
              (flag + first.cost + second.cost + third.cost + fourth.cost)
          all_below fourth spent = record {
            decided =
                split_decides t size step address s0 s1 s2 s3 fourth.new is_split.some is_step
                is_split.node (begins_inside t.place size address is_split.right is_split.bottom)
                first.is.decided second.is.decided third.is.decided fourth.is.decided;
            costs = λ before here.
                let all = sum before in let one = first.is.costs before here in
                let two = second.is.costs (behind_a step before) (after_a before here) in
                let three = third.is.costs (behind_b step before) (after_b before here) in
                let four = fourth.is.costs (behind_c step before) (after_c before here) in
                omega (arith, all, one, two, three, four, priced);
            less = let h = fourth.is.less in omega (arith, h, spent);
          }
