-- Candidates with their costs.
use Rattle.std.specs.Prelude.{◌≡◌, ℕ, List, pos}
use Rattle.hv_plan.specs.declared.offsets.SaoComponent.{SaoComponent}
use Rattle.hv_plan.specs.declared.offsets.SaoKind.TheVariants.{Off}
use Rattle.hv_filter_model.specs.Costs.{cost, first_least}
use Rattle.hv_filter_model.specs.OffsetBins.{own_bins, luma_bins}
use Rattle.hv_filter_model.specs.OffsetDecision.{Block, Chroma, candidate, band_choice, squared_errors}
use Rattle.hv_sao.specs.declared.candidate.Candidate.{Candidate}
use Rattle.hv_sao.specs.declared.price.Priced.{Priced}
use Rattle.hv_sao.specs.declared.price.PricedPair.{PricedPair}

abbrev pub luma_cost : ℕ → Block → SaoComponent → ℕ
luma_cost qp b c = cost qp (squared_errors b c) (luma_bins c)

abbrev pub own_cost : ℕ → Block → SaoComponent → ℕ
own_cost qp b c = cost qp (squared_errors b c) (own_bins c)

-- what a candidate says of its component is right
pub record IsMade (b : Block) (c : Candidate) : Type 0 where
  pub squares : c.squares ≡ pos (squared_errors b c.component)
  pub bins : c.bins ≡ own_bins c.component

-- the first of least cost among a component and others
pub record IsBest
    (b : Block) (f : SaoComponent → ℕ) (x : SaoComponent) (xs : List SaoComponent)
    (p : Priced) : Type 0 where
  pub best : p.candidate.component ≡ first_least f x xs
  pub cost : p.cost ≡ pos (f p.candidate.component)
  pub made : IsMade b p.candidate

abbrev pub pair_of : PricedPair → Chroma
pair_of p = record { cb = p.cb.component; cr = p.cr.component }

pub record IsBestPair
    (f : Chroma → ℕ) (x : Chroma) (xs : List Chroma) (p : PricedPair) : Type 0 where
  pub best : pair_of p ≡ first_least f x xs
  pub cost : p.cost ≡ pos (f (pair_of p))

abbrev pub off_pair : Block → Block → Chroma
off_pair cb cr = record { cb = candidate cb Off; cr = candidate cr Off }

abbrev pub band_pair : ℕ → Block → Block → Chroma
band_pair qp cb cr = record { cb = band_choice qp cb; cr = band_choice qp cr }
