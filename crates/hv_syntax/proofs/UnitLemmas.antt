-- What is put of a coding tree unit (7.3.8.2).
use Rattle.std.proofs.Common.{◌≡◌, ℕ, ◌<◌, Bool, false, cond, nat_eq, List, [], ◌∷◌, ◌++◌, length, map, refl, ◌∙◌, subst, append_assoc, arith}
use Rattle.hv_tables.specs.Bins.{Bin, Puts, terminate_bin}
use Rattle.hv_residual_model.specs.UnitBins.{PutsUnit, slice_bin}
use Rattle.hv_residual.proofs.PuttingLemmas.{Stands}
use Rattle.hv_tree_model.specs.Trees.{Tree, CodingTreeUnit, greatest_size}
use Rattle.hv_tree_model.specs.Sites.{Site, row_of, is_outside}
use Rattle.hv_tree_model.specs.EarlierUnits.{Square, Surroundings}
use Rattle.hv_tree_model.specs.MostProbableModes.{candModeList, candIntraPredMode, candidates, dc}
use Rattle.hv_tree_model.specs.Plans.{Plan, UnitsAround, tree_at, tree_of, in_block}
use Rattle.hv_unit_model.specs.Bins.{sao_bins, bins_of_node, bins}
use Rattle.hv_plan.specs.declared.offsets.SaoParam.{SaoParam}
use Rattle.hv_syntax.specs.declared.block.Block.{Block}
use Rattle.hv_syntax.specs.Blocks.{plan_of, place_of, node_of, seen_left, seen_above, AreBeside, Sees}
use Rattle.hv_syntax.proofs.AroundLemmas.{in_block_sees}
use Rattle.hv_syntax.proofs.SeenLemmas.{candidates_seen}
use Rattle.hv_near.specs.Squares.{Shows}

pub shows_none : (site : Site) (plan : Plan) → Shows site plan 0 []
shows_none site plan = record { count = refl; square = λ a h inside. absurd (omega (arith, h)) }

pub puts_unit : {S : Type 0} (stands : Stands S) (a b c d : S) (s : Surroundings)
    (unit : CodingTreeUnit) → PutsUnit stands a b (sao_bins s.site unit.sao) →
    PutsUnit stands b c (bins_of_node s greatest_size 0 [] unit.tree) →
    Puts stands c d (terminate_bin unit.end_of_slice_segment_flag ∷ []) →
    Puts stands a d (bins s unit)
puts_unit stands a b c d s unit p1 p2 p3 = λ kind qp before h.
    let offsets : List Bin = map slice_bin (sao_bins s.site unit.sao) in
    let tree : List Bin = map slice_bin (bins_of_node s greatest_size 0 [] unit.tree) in
    let last : List Bin = terminate_bin unit.end_of_slice_segment_flag ∷ [] in
    let joined : ((before ++ offsets) ++ tree) ++ last ≡ before ++ (offsets ++ (tree ++ last)) =
    append_assoc (before ++ offsets) tree last ∙ append_assoc before offsets (tree ++ last) in
    subst (λ (l : List Bin). stands d kind qp l) joined
    (p3 kind qp ((before ++ offsets) ++ tree)
    (p2 kind qp (before ++ offsets) (p1 kind qp before h)))

pub puts_ctb : {S : Type 0} (stands : Stands S) (a0 a1 a2 a3 : S) (b : Block) (around : UnitsAround)
    (place : Site) (sao : SaoParam) (last : Bool) → place_of b ≡ place →
    AreBeside b.beside around → PutsUnit stands a0 a1 (sao_bins (place_of b) sao) →
    ((s : Surroundings) (earlier : List Square) → Sees b s →
    Shows (place_of b) (plan_of b) 0 earlier →
    PutsUnit stands a1 a2 (bins_of_node s 3 0 earlier (node_of b 3 0))) →
    Puts stands a2 a3 (terminate_bin last ∷ []) →
    Puts stands a0 a3 (bins (in_block b.kind b.references place around)
    (record { sao = sao; tree = tree_of place (plan_of b); end_of_slice_segment_flag = last }))
puts_ctb stands a0 a1 a2 a3 b around place sao last e beside p1 p2 p3 =
    let at : Site → Surroundings = λ x. in_block b.kind b.references x around in
    let unit : Site → CodingTreeUnit = λ x.
    record { sao = sao; tree = tree_of x (plan_of b); end_of_slice_segment_flag = last } in
    subst (λ (x : Site). Puts stands a0 a3 (bins (at x) (unit x))) e
    (puts_unit stands a0 a1 a2 a3 (at (place_of b)) (unit (place_of b)) p1
    (p2 (at (place_of b)) [] (in_block_sees b around beside) (shows_none (place_of b) (plan_of b)))
    p3)

abbrev Counted : ℕ → Surroundings → List Square → (size address : ℕ) → Tree → Type 0
Counted n s earlier size address tree = n ≡ length (bins_of_node s size address earlier tree)

pub count_at : (n : ℕ) (b : Block) (around : UnitsAround) (place : Site) (p : Plan)
    (size a address : ℕ) (earlier : List Square) → place_of b ≡ place → plan_of b ≡ p →
    a ≡ address → AreBeside b.beside around →
    ((s : Surroundings) (e : List Square) → Sees b s → Shows (place_of b) (plan_of b) a e →
    n ≡ length (bins_of_node s size a e (node_of b size a))) → Shows place p address earlier →
    n ≡ length (bins_of_node (in_block b.kind b.references place around) size address earlier
    (tree_at place p size address))
count_at n b around place p size a address earlier e f g beside count =
    let at : Site → Surroundings = λ x. in_block b.kind b.references x around in
    let law : Site → Plan → ℕ → Type 0 = λ x q m. Shows x q m earlier →
    Counted n (at x) earlier size m (tree_at x q size m) in
    let here : law (place_of b) (plan_of b) a =
    λ shows. count (at (place_of b)) earlier (in_block_sees b around beside) shows in
    let there : law place (plan_of b) a = subst (λ (x : Site). law x (plan_of b) a) e here in
    let planned : law place p a = subst (λ (q : Plan). law place q a) f there in
    subst (λ (m : ℕ). law place p m) g planned

-- the same of the candidates of a unit, at which coding has come
pub modes_at : (list : List ℕ) (b : Block) (around : UnitsAround) (place : Site) (p : Plan)
    (address : ℕ) (earlier : List Square) → place_of b ≡ place → plan_of b ≡ p →
    AreBeside b.beside around → address < 64 →
    list ≡ candModeList (candIntraPredMode (seen_left b address))
    (cond (nat_eq (row_of address) 0) dc (candIntraPredMode (seen_above b address))) →
    Shows place p address earlier → is_outside place address ≡ false →
    list ≡ candidates (in_block b.kind b.references place around) address earlier
modes_at list b around place p address earlier e f beside h seen =
    let law : Site → Plan → Type 0 = λ x q. Shows x q address earlier →
    is_outside x address ≡ false →
    list ≡ candidates (in_block b.kind b.references x around) address earlier in
    let here : law (place_of b) (plan_of b) = λ shows inside.
    seen ∙ candidates_seen b (in_block b.kind b.references (place_of b) around) address earlier h
    (record { sees = in_block_sees b around beside; shows = shows; inside = inside }) in
    let there : law place (plan_of b) = subst (λ (x : Site). law x (plan_of b)) e here in
    subst (λ (q : Plan). law place q) f there
