-- A node that is split costs what its split_cu_flag and its four parts cost: what is decoded behind
-- a part leaves its samples as they are.
use Rattle.std.proofs.Common.{◌≡◌, ℕ, suc, ◌+◌, ◌*◌, ◌/◌, ◌%◌, ◌^◌, ◌<◌, ◌≤◌, false, refl, sym, ap, ap₂, subst, ◌∙◌, arith}
use Rattle.std.specs.Prelude.{Some}
use Rattle.std.proofs.Math.Dec.{lit<}
use Rattle.std.proofs.Math.Nat.{add-mul, mul_comm}
use Rattle.hv_tree_model.specs.Trees.{Tree, Split, side, greatest_size}
use Rattle.hv_tree_model.specs.Sites.{Site, x0, y0, column_of, row_of, squares, crosses}
use Rattle.hv_tree_model.proofs.NodeLemmas.{IsNode, child_of}
use Rattle.hv_recon_model.specs.Reconstruction.{Decoded, decoded_tree}
use Rattle.hv_recon_model.proofs.BesideLemmas.{KeepBeside, KeptBeside, tree_beside}
use Rattle.hv_recon_model.proofs.DecodedLemmas.{Step, and_then}
use Rattle.hv_filter_model.specs.Costs.{bin_weight, cost}
use Rattle.hv_mode_model.specs.ModeDecision.{Given, Before, or_else, behind, decoded_behind, node_square, squared_errors, cost_of, split_of, best}
use Rattle.hv_mode_model.proofs.ChosenDecodedLemmas.{decoded_node}
use Rattle.hv_mode.proofs.SplitErrorLemmas.{errors_at, errors_of_parts, IsBeside, errors_beside}
use Rattle.hv_mode.proofs.SplitBinLemmas.{bins_of_parts}
use Rattle.hv_mode.proofs.StillLemmas.{LooksAlike}

-- ---- where the parts of a node lie

pub corner_x : (site : Site) (size address k z : ℕ) → IsNode (suc size) address → k < 4 →
    z ≡ address + k * squares size → x0 site z ≡ x0 site address + 8 * (k % 2 * 2 ^ size)
corner_x site size address k z node below is =
    let child = child_of size address k node below in
    let column : column_of z ≡ column_of address + k % 2 * 2 ^ size =
    ap column_of is ∙ child.column in
    omega (arith, column)

pub corner_y : (site : Site) (size address k z : ℕ) → IsNode (suc size) address → k < 4 →
    z ≡ address + k * squares size → y0 site z ≡ y0 site address + 8 * (k / 2 * 2 ^ size)
corner_y site size address k z node below is =
    let child = child_of size address k node below in
    let row : row_of z ≡ row_of address + k / 2 * 2 ^ size = ap row_of is ∙ child.row in
    omega (arith, row)

-- ---- sums of costs

four_costs : (qp errors e1 e2 e3 e4 bins b1 b2 b3 b4 : ℕ) → errors ≡ e1 + e2 + (e3 + e4) →
    bins ≡ 1 + (b1 + (b2 + (b3 + b4))) →
    cost qp errors bins ≡
    cost qp 0 1 + (cost qp e1 b1 + (cost qp e2 b2 + (cost qp e3 b3 + cost qp e4 b4)))
four_costs qp errors e1 e2 e3 e4 bins b1 b2 b3 b4 measured counted =
    let w : ℕ = bin_weight qp in
    let weighed : w * bins ≡ w * 1 + (w * b1 + (w * b2 + (w * b3 + w * b4))) =
    ap (λ k. w * k) counted ∙
    omega (
      arith,
      mul_comm w (1 + (b1 + (b2 + (b3 + b4)))),
      mul_comm w b1,
      mul_comm w b2,
      mul_comm w b3,
      mul_comm w b4,
      add-mul 1 (b1 + (b2 + (b3 + b4))) w,
      add-mul b1 (b2 + (b3 + b4)) w,
      add-mul b2 (b3 + b4) w,
      add-mul b3 b4 w,
    ) in
    omega (arith, measured, weighed)

-- ---- a node that is split, each part of it chosen behind the earlier ones

module _ (g : Given) (size address : ℕ) (before : Before) (node : IsNode (suc size) address) where
  abbrev n : ℕ
  n = squares size

  abbrev m : ℕ
  m = side size

  abbrev x : ℕ
  x = x0 g.surroundings.site address

  abbrev y : ℕ
  y = y0 g.surroundings.site address

  abbrev pub part_a : Tree
  part_a = best g size address before

  abbrev pub behind_a : Before
  behind_a = behind g size address part_a before

  abbrev pub part_b : Tree
  part_b = best g size (address + n) behind_a

  abbrev pub behind_b : Before
  behind_b = behind g size (address + n) part_b behind_a

  abbrev pub part_c : Tree
  part_c = best g size (address + 2 * n) behind_b

  abbrev pub behind_c : Before
  behind_c = behind g size (address + 2 * n) part_c behind_b

  abbrev pub part_d : Tree
  part_d = best g size (address + 3 * n) behind_c

  abbrev last : Decoded
  last = decoded_behind g size (address + 3 * n) part_d behind_c.decoded

  few : size ≤ greatest_size
  few = let h = node.few in omega (arith, h)

  even_x : x % 2 ≡ 0
  even_x = omega arith

  even_y : y % 2 ≡ 0
  even_y = omega arith

  -- the corners of the parts
  x_of : (k z : ℕ) → k < 4 → z ≡ address + k * n →
      x0 g.surroundings.site z ≡ x + 8 * (k % 2 * 2 ^ size)
  x_of k z below is = corner_x g.surroundings.site size address k z node below is

  y_of : (k z : ℕ) → k < 4 → z ≡ address + k * n →
      y0 g.surroundings.site z ≡ y + 8 * (k / 2 * 2 ^ size)
  y_of k z below is = corner_y g.surroundings.site size address k z node below is

  x_b : x0 g.surroundings.site (address + n) ≡ x + m
  x_b = let h = x_of 1 (address + n) (lit< tt) (omega arith) in omega (arith, h)

  y_b : y0 g.surroundings.site (address + n) ≡ y
  y_b = let h = y_of 1 (address + n) (lit< tt) (omega arith) in omega (arith, h)

  x_c : x0 g.surroundings.site (address + 2 * n) ≡ x
  x_c = let h = x_of 2 (address + 2 * n) (lit< tt) refl in omega (arith, h)

  y_c : y0 g.surroundings.site (address + 2 * n) ≡ y + m
  y_c = let h = y_of 2 (address + 2 * n) (lit< tt) refl in omega (arith, h)

  x_d : x0 g.surroundings.site (address + 3 * n) ≡ x + m
  x_d = let h = x_of 3 (address + 3 * n) (lit< tt) refl in omega (arith, h)

  y_d : y0 g.surroundings.site (address + 3 * n) ≡ y + m
  y_d = let h = y_of 3 (address + 3 * n) (lit< tt) refl in omega (arith, h)

  -- what is decoded of each
  step_a : decoded_tree g.qp size x y part_a before.decoded ≡ Some behind_a.decoded
  step_a = decoded_node g size address before few

  moved : (z u v : ℕ) (tree : Tree) (d e : Decoded) → x0 g.surroundings.site z ≡ u →
      y0 g.surroundings.site z ≡ v →
      decoded_tree g.qp size (x0 g.surroundings.site z) (y0 g.surroundings.site z) tree d ≡
      Some e →
      decoded_tree g.qp size u v tree d ≡ Some e
  moved z u v tree d e is_x is_y step =
      ap₂ (λ p q. decoded_tree g.qp size p q tree d) (sym is_x) (sym is_y) ∙ step

  step_b : decoded_tree g.qp size (x + m) y part_b behind_a.decoded ≡ Some behind_b.decoded
  step_b =
      moved (address + n) (x + m) y part_b behind_a.decoded behind_b.decoded x_b y_b
      (decoded_node g size (address + n) behind_a few)

  step_c : decoded_tree g.qp size x (y + m) part_c behind_b.decoded ≡ Some behind_c.decoded
  step_c =
      moved (address + 2 * n) x (y + m) part_c behind_b.decoded behind_c.decoded x_c y_c
      (decoded_node g size (address + 2 * n) behind_b few)

  step_d : decoded_tree g.qp size (x + m) (y + m) part_d behind_c.decoded ≡ Some last
  step_d =
      moved (address + 3 * n) (x + m) (y + m) part_d behind_c.decoded last x_d y_d
      (decoded_node g size (address + 3 * n) behind_c few)

  whole : decoded_behind g (suc size) address (Split part_a part_b part_c part_d) before.decoded ≡
      last
  unfolding decoded_tree
  whole =
      let f1 : Step = decoded_tree g.qp size x y part_a in
      let f2 : Step = decoded_tree g.qp size (x + m) y part_b in
      let f3 : Step = decoded_tree g.qp size x (y + m) part_c in
      let f4 : Step = decoded_tree g.qp size (x + m) (y + m) part_d in
      let two =
      and_then f2 (f1 before.decoded) behind_a.decoded behind_b.decoded step_a step_b in
      let three = and_then f3 _ behind_b.decoded behind_c.decoded two step_c in
      ap (or_else before.decoded) (and_then f4 _ behind_c.decoded last three step_d)

  -- and what each keeps
  keeps : (u v : ℕ) (tree : Tree) (d e : Decoded) → u % 2 ≡ 0 → v % 2 ≡ 0 →
      decoded_tree g.qp size u v tree d ≡ Some e → KeepBeside u v m d e
  keeps u v tree d e even_u even_v step =
      subst (KeptBeside u v m d) step (tree_beside g.qp size u v tree d even_u even_v)

  keep_b : KeepBeside (x + m) y m behind_a.decoded behind_b.decoded
  keep_b =
      keeps (x + m) y part_b behind_a.decoded behind_b.decoded (omega (arith, even_x)) even_y step_b

  keep_c : KeepBeside x (y + m) m behind_b.decoded behind_c.decoded
  keep_c =
      keeps x (y + m) part_c behind_b.decoded behind_c.decoded even_x (omega (arith, even_y)) step_c

  keep_d : KeepBeside (x + m) (y + m) m behind_c.decoded last
  keep_d =
      keeps (x + m) (y + m) part_d behind_c.decoded last (omega (arith, even_x))
      (omega (arith, even_y)) step_d

  -- the squared differences at each part
  abbrev errors : Decoded → ℕ → ℕ → ℕ
  errors d u v = errors_at g.input d size u v

  stays : (left top u v : ℕ) (d e : Decoded) → u % 2 ≡ 0 → v % 2 ≡ 0 →
      IsBeside left top m u v m → KeepBeside left top m d e → errors e u v ≡ errors d u v
  stays left top u v d e even_u even_v beside kept =
      errors_beside g.input d e left top m size u v even_u even_v beside kept

  a_stays : errors last x y ≡ errors behind_a.decoded x y
  a_stays =
      stays (x + m) (y + m) x y behind_c.decoded last even_x even_y (record {
        place = λ i j across down. record { beside = λ l r t b. omega (arith, l, across) };
      }) keep_d ∙
      stays x (y + m) x y behind_b.decoded behind_c.decoded even_x even_y (record {
        place = λ i j across down. record { beside = λ l r t b. omega (arith, t, down) };
      }) keep_c ∙
      stays (x + m) y x y behind_a.decoded behind_b.decoded even_x even_y (record {
        place = λ i j across down. record { beside = λ l r t b. omega (arith, l, across) };
      }) keep_b

  b_stays : errors last (x + m) y ≡ errors behind_b.decoded (x + m) y
  b_stays =
      let even : (x + m) % 2 ≡ 0 = omega (arith, even_x) in
      stays (x + m) (y + m) (x + m) y behind_c.decoded last even even_y (record {
        place = λ i j across down. record { beside = λ l r t b. omega (arith, t, down) };
      }) keep_d ∙
      stays x (y + m) (x + m) y behind_b.decoded behind_c.decoded even even_y (record {
        place = λ i j across down. record { beside = λ l r t b. omega (arith, t, down) };
      }) keep_c

  c_stays : errors last x (y + m) ≡ errors behind_c.decoded x (y + m)
  c_stays =
      let even : (y + m) % 2 ≡ 0 = omega (arith, even_y) in
      stays (x + m) (y + m) x (y + m) behind_c.decoded last even_x even (record {
        place = λ i j across down. record { beside = λ l r t b. omega (arith, l, across) };
      }) keep_d

  -- by the part's own place
  at_part : (d : Decoded) (z u v : ℕ) → x0 g.surroundings.site z ≡ u →
      y0 g.surroundings.site z ≡ v →
      squared_errors g.input d (node_square g size z) ≡ errors d u v
  at_part d z u v is_x is_y = ap₂ (errors d) is_x is_y

  errors_whole :
      squared_errors g.input
      (decoded_behind g (suc size) address (Split part_a part_b part_c part_d) before.decoded)
      (node_square g (suc size) address) ≡
      squared_errors g.input behind_a.decoded (node_square g size address) +
      squared_errors g.input behind_b.decoded (node_square g size (address + n)) +
      (squared_errors g.input behind_c.decoded (node_square g size (address + 2 * n)) +
      squared_errors g.input last (node_square g size (address + 3 * n)))
  errors_whole =
      ap (λ d. squared_errors g.input d (node_square g (suc size) address)) whole ∙
      omega (
        arith,
        errors_of_parts g.input last size x y,
        a_stays,
        b_stays,
        c_stays,
        at_part behind_b.decoded (address + n) (x + m) y x_b y_b,
        at_part behind_c.decoded (address + 2 * n) x (y + m) x_c y_c,
        at_part last (address + 3 * n) (x + m) (y + m) x_d y_d,
      )

  pub costs_of_parts : LooksAlike g.surroundings.look g.surroundings.look →
      crosses g.surroundings.site (suc size) address ≡ false →
      cost_of g (suc size) address before (split_of g size address before (best g size)) ≡
      cost g.qp 0 1 +
      (cost_of g size address before part_a +
      (cost_of g size (address + n) behind_a part_b +
      (cost_of g size (address + 2 * n) behind_b part_c +
      cost_of g size (address + 3 * n) behind_c part_d)))
  unfolding cost_of
  costs_of_parts alike inside =
      four_costs g.qp _ _ _ _ _ _ _ _ _ _ errors_whole
      (bins_of_parts g alike size address before inside part_a part_b part_c part_d)
