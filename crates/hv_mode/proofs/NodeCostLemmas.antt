-- The cost of a node by its squared differences and its bins.
use Rattle.std.proofs.Common.{◌≡◌, ℕ, zero, suc, ◌+◌, ◌≤◌, List, length, sym, ap, ap₂, subst, ◌∙◌, arith}
use Rattle.hv_tree_model.specs.Trees.{Tree}
use Rattle.hv_tree_model.specs.Sites.{Site, squares}
use Rattle.hv_tree_model.specs.EarlierUnits.{Square, Surroundings}
use Rattle.hv_tree_model.specs.Plans.{Plan, tree_at}
use Rattle.hv_unit_model.specs.Bins.{bins_of_node}
use Rattle.hv_near.specs.Squares.{Shows, NamesNode}
use Rattle.hv_recon.specs.DecodedNodes.{IsNodeOfBlock}
use Rattle.hv_filter_model.specs.Costs.{cost}
use Rattle.hv_mode_model.specs.ModeDecision.{Given, Before, decoded_behind, node_square, squared_errors, coded_node, cost_of}

-- a node ends in the block
pub node_in_block : (size address : ℕ) → IsNodeOfBlock size address → address + squares size ≤ 64
node_in_block zero address node = omega (arith, node.inside)
node_in_block (suc zero) address node = omega (arith, node.inside, node.multiple)
node_in_block (suc (suc zero)) address node = omega (arith, node.inside, node.multiple)
node_in_block (suc (suc (suc zero))) address node = omega (arith, node.inside, node.multiple)
node_in_block (suc (suc (suc (suc size)))) address node = absurd (omega (arith, node.size_at_most))

-- ---- bins: the node by its column and row, and its depth

pub ends_there : (size n address a : ℕ) → n ≡ size → a ≡ address → address + squares size ≤ 64 →
    a + squares n ≤ 64
ends_there size n address a same there ends = rw (same, there) ends

pub names_there : (site : Site) (plan : Plan) (size n address a : ℕ) → size ≡ n → address ≡ a →
    NamesNode site plan size address → NamesNode site plan n a
names_there site plan size n address a same there names =
    subst (λ m. NamesNode site plan m a) same
    (subst (λ b. NamesNode site plan size b) there names)

abbrev Counted : ℕ → Surroundings → Site → Plan → (size address : ℕ) → Type 0
Counted count s site plan size address =
    (earlier : List Square) → Shows site plan address earlier →
    count ≡ length (bins_of_node s size address earlier (tree_at site plan size address))

pub counted_here : (count : ℕ) (s : Surroundings) (site : Site) (plan : Plan)
    (size n address a : ℕ) → n ≡ size → a ≡ address → Counted count s site plan n a →
    Counted count s site plan size address
counted_here count s site plan size n address a same there counted =
    subst (λ m. Counted count s site plan m address) same
    (subst (λ b. Counted count s site plan n b) there counted)

-- ---- the cost

pub cost_is : (g : Given) (size address : ℕ) (before : Before) (tree planned : Tree)
    (result errors bins : ℕ) → coded_node g size address before tree ≡ planned →
    result ≡ cost g.qp errors bins →
    errors ≡
    squared_errors g.input (decoded_behind g size address tree before.decoded)
    (node_square g size address) →
    bins ≡ length (bins_of_node g.surroundings size address before.earlier planned) →
    result ≡ cost_of g size address before tree
unfolding cost_of
cost_is g size address before tree planned result errors bins same priced measured counted =
    priced ∙
    ap₂ (cost g.qp) measured
    (counted ∙
    ap (λ t. length (bins_of_node g.surroundings size address before.earlier t)) (sym same))

-- of which the squared differences alone are a part
pub cost_is_more : (g : Given) (size address : ℕ) (before : Before) (tree : Tree)
    (result errors : ℕ) → result ≡ cost g.qp errors 0 →
    errors ≡
    squared_errors g.input (decoded_behind g size address tree before.decoded)
    (node_square g size address) →
    result ≤ cost_of g size address before tree
unfolding cost_of
cost_is_more g size address before tree result errors priced measured =
    omega (arith, priced, measured)
