-- The rules that the quantisers of chroma (8.6.1), the factors of scaling (8.6.3), and the
-- encoder's factors of quantisation follow.
use Rattle.std.specs.Prelude.{◌≡◌, ℕ, ◌+◌, ◌-◌, ◌*◌, ◌/◌, ◌%◌, ◌^◌, ◌<◌, ◌≤◌}
use Rattle.hv_tables.specs.Quantisers.{chroma_qp, levelScale, quantisation_factor}
use Rattle.hv_tables.specs.AngleLaws.{nearest}

-- one less from 30 on
abbrev pub ChromaFallsBehind : Type 0
ChromaFallsBehind = (qp : ℕ) → 30 ≤ qp → qp ≤ 33 → chroma_qp qp ≡ qp - 1

-- then one step for two, from 33 to 37
abbrev pub ChromaGoesHalfAsFast : Type 0
ChromaGoesHalfAsFast = (qp : ℕ) → 34 ≤ qp → qp ≤ 43 → chroma_qp qp ≡ (qp + 32) / 2

-- the same below, and six less above
abbrev pub ChromaKeepsPace : Type 0
ChromaKeepsPace = (qp : ℕ) → qp < 30 → chroma_qp qp ≡ qp

abbrev pub ChromaStaysSixBehind : Type 0
ChromaStaysSixBehind = (qp : ℕ) → 44 ≤ qp → chroma_qp qp ≡ qp - 6

-- levelScale doubles in six steps: it is the nearest to 2 ^ ((32 + qp % 6) / 6)
abbrev pub ScalesAreNearest : Type 0
ScalesAreNearest =
    (qp : ℕ) →
    ((2 * levelScale qp - 1) ^ 6 < 2 ^ (38 + qp % 6)) ×
    (2 ^ (38 + qp % 6) < (2 * levelScale qp + 1) ^ 6)

-- a factor is 2 ^ 20 by levelScale, to the nearest
abbrev pub FactorsAreNearest : Type 0
FactorsAreNearest = (qp : ℕ) → quantisation_factor qp ≡ nearest (2 ^ 20) (levelScale qp)
