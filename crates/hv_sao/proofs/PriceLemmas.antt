-- The first of least cost, one candidate after another.
use Rattle.std.proofs.Common.{◌≡◌, ℕ, ◌+◌, Bool, true, false, cond, nat_lt, int_lt, List, [], ◌∷◌, ◌++◌, pos, refl, sym, ◌∙◌, ap, ap₂, subst, add-one}
use Rattle.hv_lemmas.specs.Lists.{tabulate}
use Rattle.hv_lemmas.proofs.ListLemmas.{tabulate_push}
use Rattle.hv_plan.specs.declared.offsets.SaoKind.{SaoKind}
use Rattle.hv_plan.specs.declared.offsets.SaoComponent.{SaoComponent}
use Rattle.hv_filter_model.specs.Costs.{cost, cheaper}
use Rattle.hv_filter_model.proofs.CostLemmas.{first_least_push}
use Rattle.hv_filter_model.specs.OffsetBins.{type_bins, class_bins, own_bins}
use Rattle.hv_filter_model.specs.OffsetDecision.{Block, Chroma, candidate, squared_errors, chroma_cost}
use Rattle.hv_sao.specs.declared.candidate.Candidate.{Candidate}
use Rattle.hv_sao.specs.declared.price.Priced.{Priced}
use Rattle.hv_sao.specs.declared.price.PricedPair.{PricedPair}
use Rattle.hv_sao.specs.Decisions.{IsCandidate}
use Rattle.hv_sao.specs.Prices.{luma_cost, own_cost, IsMade, IsBest, pair_of, IsBestPair}

pub pushed : {A : Type 0} (n m : ℕ) (f : ℕ → A) → m ≡ n + 1 → tabulate m f ≡ tabulate n f ++ f n ∷ []
pushed n m f is = ap (λ k. tabulate k f) (is ∙ add-one n) ∙ tabulate_push n f

-- a candidate says what is right
pub made_is : (b : Block) (kind : SaoKind) (c : Candidate) → IsCandidate b kind c → IsMade b c
made_is b kind c h = record {
  squares = h.squares ∙ ap (λ v. pos (squared_errors b v)) (sym h.component);
  bins = h.bins ∙ ap own_bins (sym h.component);
}

choose : (b : Block) (f : SaoComponent → ℕ) (x : SaoComponent) (xs : List SaoComponent) (p q r : Priced) (less : Bool) → IsBest b f x xs p →
    q.cost ≡ pos (f q.candidate.component) → IsMade b q.candidate → less ≡ nat_lt (f q.candidate.component) (f p.candidate.component) →
    r ≡ cond less q p → IsBest b f x (xs ++ q.candidate.component ∷ []) r
choose b f x xs p q r true h price made e is =
    subst (λ v. IsBest b f x (xs ++ q.candidate.component ∷ []) v) (sym is)
    (record {
      best = ap (λ v. cond v q.candidate.component p.candidate.component) e
          ∙ ap (λ v. cheaper f v q.candidate.component) h.best ∙ sym (first_least_push f x xs q.candidate.component);
      cost = price;
      made = made;
    })
choose b f x xs p q r false h price made e is =
    subst (λ v. IsBest b f x (xs ++ q.candidate.component ∷ []) v) (sym is)
    (record {
      best = ap (λ v. cond v q.candidate.component p.candidate.component) e
          ∙ ap (λ v. cheaper f v q.candidate.component) h.best ∙ sym (first_least_push f x xs q.candidate.component);
      cost = h.cost;
      made = h.made;
    })

-- one candidate more
pub best_more : (b : Block) (f : SaoComponent → ℕ) (x : SaoComponent) (xs ys : List SaoComponent) (y : SaoComponent) (p q r : Priced) →
    IsBest b f x xs p → q.candidate.component ≡ y → q.cost ≡ pos (f q.candidate.component) → IsMade b q.candidate →
    r ≡ cond (int_lt q.cost p.cost) q p → ys ≡ xs ++ y ∷ [] → IsBest b f x ys r
best_more b f x xs ys y p q r h same price made is all =
    subst (λ v. IsBest b f x v r) (ap (λ v. xs ++ v ∷ []) same ∙ sym all)
    (choose b f x xs p q r (int_lt q.cost p.cost) h price made (ap₂ (λ u v. int_lt u v) price h.cost) is)

-- the first
pub best_first : (b : Block) (f : SaoComponent → ℕ) (x : SaoComponent) (p : Priced) → p.candidate.component ≡ x →
    p.cost ≡ pos (f p.candidate.component) → IsMade b p.candidate → IsBest b f x [] p
best_first b f x p same price made = record { best = same; cost = price; made = made }

-- ---- prices

pub luma_price_is : (qp : ℕ) (b : Block) (c : Candidate) (p : Priced) → IsMade b c → p.candidate ≡ c →
    ((s : ℕ) → c.squares ≡ pos s →
    p.cost ≡ pos (cost qp s (type_bins c.component.kind + class_bins c.component.kind + c.bins))) →
    p.cost ≡ pos (luma_cost qp b p.candidate.component)
luma_price_is qp b c p made same price =
    price (squared_errors b c.component) made.squares
    ∙ ap (λ n. pos (cost qp (squared_errors b c.component) (type_bins c.component.kind + class_bins c.component.kind + n))) made.bins
    ∙ ap (λ v. pos (luma_cost qp b v.component)) (sym same)

pub own_price_is : (qp : ℕ) (b : Block) (c : Candidate) (p : Priced) → IsMade b c → p.candidate ≡ c →
    ((s : ℕ) → c.squares ≡ pos s → p.cost ≡ pos (cost qp s c.bins)) →
    p.cost ≡ pos (own_cost qp b p.candidate.component)
own_price_is qp b c p made same price =
    price (squared_errors b c.component) made.squares
    ∙ ap (λ n. pos (cost qp (squared_errors b c.component) n)) made.bins
    ∙ ap (λ v. pos (own_cost qp b v.component)) (sym same)

-- a priced candidate of a kind
pub record IsPricedOf (b : Block) (f : SaoComponent → ℕ) (y : SaoComponent) (p : Priced) : Type 0 where
  pub component : p.candidate.component ≡ y
  pub cost : p.cost ≡ pos (f p.candidate.component)
  pub made : IsMade b p.candidate

pub luma_priced : (qp : ℕ) (b : Block) (kind : SaoKind) (c : Candidate) (p : Priced) → IsCandidate b kind c → p.candidate ≡ c →
    ((s : ℕ) → c.squares ≡ pos s →
    p.cost ≡ pos (cost qp s (type_bins c.component.kind + class_bins c.component.kind + c.bins))) →
    IsPricedOf b (luma_cost qp b) (candidate b kind) p
luma_priced qp b kind c p h same price = record {
  component = ap (λ v. v.component) same ∙ h.component;
  cost = luma_price_is qp b c p (made_is b kind c h) same price;
  made = subst (λ v. IsMade b v) (sym same) (made_is b kind c h);
}

pub own_priced : (qp : ℕ) (b : Block) (kind : SaoKind) (c : Candidate) (p : Priced) → IsCandidate b kind c → p.candidate ≡ c →
    ((s : ℕ) → c.squares ≡ pos s → p.cost ≡ pos (cost qp s c.bins)) →
    IsPricedOf b (own_cost qp b) (candidate b kind) p
own_priced qp b kind c p h same price = record {
  component = ap (λ v. v.component) same ∙ h.component;
  cost = own_price_is qp b c p (made_is b kind c h) same price;
  made = subst (λ v. IsMade b v) (sym same) (made_is b kind c h);
}

pub tabulate_none : {A : Type 0} (f : ℕ → A) → tabulate 0 f ≡ []
unfolding tabulate
tabulate_none f = refl

-- ---- pairs

pub record IsPricedPairOf (f : Chroma → ℕ) (y : Chroma) (p : PricedPair) : Type 0 where
  pub pair : pair_of p ≡ y
  pub cost : p.cost ≡ pos (f (pair_of p))

pub pair_first : (f : Chroma → ℕ) (x : Chroma) (p : PricedPair) → IsPricedPairOf f x p → IsBestPair f x [] p
pair_first f x p h = record { best = h.pair; cost = h.cost }

choose_pair : (f : Chroma → ℕ) (x : Chroma) (xs : List Chroma) (p q r : PricedPair) (less : Bool) → IsBestPair f x xs p →
    q.cost ≡ pos (f (pair_of q)) → less ≡ nat_lt (f (pair_of q)) (f (pair_of p)) → r ≡ cond less q p →
    IsBestPair f x (xs ++ pair_of q ∷ []) r
choose_pair f x xs p q r true h price e is =
    subst (λ v. IsBestPair f x (xs ++ pair_of q ∷ []) v) (sym is)
    (record {
      best = ap (λ v. cond v (pair_of q) (pair_of p)) e ∙ ap (λ v. cheaper f v (pair_of q)) h.best ∙ sym (first_least_push f x xs (pair_of q));
      cost = price;
    })
choose_pair f x xs p q r false h price e is =
    subst (λ v. IsBestPair f x (xs ++ pair_of q ∷ []) v) (sym is)
    (record {
      best = ap (λ v. cond v (pair_of q) (pair_of p)) e ∙ ap (λ v. cheaper f v (pair_of q)) h.best ∙ sym (first_least_push f x xs (pair_of q));
      cost = h.cost;
    })

pub pair_more : (f : Chroma → ℕ) (x : Chroma) (xs ys : List Chroma) (y : Chroma) (p q r : PricedPair) → IsBestPair f x xs p →
    IsPricedPairOf f y q → r ≡ cond (int_lt q.cost p.cost) q p → ys ≡ xs ++ y ∷ [] → IsBestPair f x ys r
pair_more f x xs ys y p q r h priced is all =
    subst (λ v. IsBestPair f x v r) (ap (λ v. xs ++ v ∷ []) priced.pair ∙ sym all)
    (choose_pair f x xs p q r (int_lt q.cost p.cost) h priced.cost (ap₂ (λ u v. int_lt u v) priced.cost h.cost) is)

pub chroma_priced : (qp : ℕ) (b d : Block) (cb cr : Candidate) (p : PricedPair) (y z : SaoComponent) → IsMade b cb → IsMade d cr →
    cb.component ≡ y → cr.component ≡ z → p.cb ≡ cb → p.cr ≡ cr →
    ((s t : ℕ) → cb.squares ≡ pos s → cr.squares ≡ pos t →
    p.cost ≡ pos (cost qp (s + t) (type_bins cb.component.kind + class_bins cb.component.kind + cb.bins + cr.bins))) →
    IsPricedPairOf (chroma_cost qp b d) (record { cb = y; cr = z }) p
chroma_priced qp b d cb cr p y z made made₂ first second same same₂ price =
    let pair : Candidate → Candidate → Chroma = λ u v. record { cb = u.component; cr = v.component } in
    let made_pair : SaoComponent → SaoComponent → Chroma = λ u v. record { cb = u; cr = v } in
    record {
      pair = ap₂ pair same same₂ ∙ ap₂ made_pair first second;
      cost = price (squared_errors b cb.component) (squared_errors d cr.component) made.squares made₂.squares
          ∙ ap₂ (λ m n. pos (cost qp (squared_errors b cb.component + squared_errors d cr.component)
          (type_bins cb.component.kind + class_bins cb.component.kind + m + n))) made.bins made₂.bins
          ∙ sym (ap₂ (λ u v. pos (chroma_cost qp b d (pair u v))) same same₂);
    }
