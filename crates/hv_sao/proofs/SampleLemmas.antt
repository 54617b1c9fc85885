-- Samples with their offsets, from their categories (8.7.3.2).
use Rattle.std.proofs.Common.{◌≡◌, ℕ, ◌+◌, ◌-◌, ◌/◌, ◌<◌, ◌≤◌, List, length, get_or, ⊎_elim, Some, pos, ◌+ℤ◌, sym, ◌∙◌, ap, arith}
use Rattle.std.proofs.lemmas.Bool.{cases_lt}
use Rattle.hv_lemmas.specs.Clipping.{clip1}
use Rattle.hv_plan.specs.declared.offsets.SaoKind.{SaoKind}
use Rattle.hv_plan.specs.declared.offsets.SaoKind.TheVariants.{Band, Edge}
use Rattle.hv_plan.specs.declared.offsets.SaoComponent.{SaoComponent}
use Rattle.hv_types.specs.Samples.{Plane, sample_at}
use Rattle.hv_filter_model.proofs.OffLemmas.{clip1_same}
use Rattle.hv_filter_model.specs.SampleAdaptiveOffset.{bandTable, category, edge_of, edgeIdx, SaoOffsetVal, sao_sample}
use Rattle.hv_sao.specs.Rows.{IsRow, HasPart, IsEdgeRow, edge_sample}

pub by_category : (component : SaoComponent) (class : ℕ) (plane : Plane) (x y k : ℕ) → component.kind ≡ Edge class →
    edgeIdx class plane x y ≡ k →
    sao_sample component plane x y ≡ clip1 (pos (sample_at plane x y) +ℤ SaoOffsetVal component k)
by_category component class plane x y k kind e =
    ap (λ (v : SaoKind). clip1 (pos (sample_at plane x y) +ℤ SaoOffsetVal component (category v plane x y))) kind
    ∙ ap (λ n. clip1 (pos (sample_at plane x y) +ℤ SaoOffsetVal component n)) e

without_edge : (component : SaoComponent) (class : ℕ) (plane : Plane) (x y s : ℕ) → component.kind ≡ Edge class →
    edgeIdx class plane x y ≡ 0 → s ≡ sample_at plane x y → s < 256 → s ≡ sao_sample component plane x y
without_edge component class plane x y s kind none same byte =
    sym (by_category component class plane x y 0 kind none ∙ ap (λ n. clip1 (pos n +ℤ pos 0)) (sym same) ∙ clip1_same s byte)

-- a sample with the offset of its band
pub by_band : (component : SaoComponent) (position : ℕ) (plane : Plane) (x y s : ℕ) → component.kind ≡ Band position →
    s ≡ sample_at plane x y →
    clip1 (pos s +ℤ SaoOffsetVal component (bandTable position (s / 8))) ≡ sao_sample component plane x y
by_band component position plane x y s kind same =
    ap (λ n. clip1 (pos n +ℤ SaoOffsetVal component (bandTable position (n / 8)))) same
    ∙ ap (λ (v : SaoKind). clip1 (pos (sample_at plane x y) +ℤ SaoOffsetVal component (category v plane x y))) (sym kind)

-- a row whose edges are put into a copy of it
pub edges_put : (component : SaoComponent) (class : ℕ) (plane : Plane) (y from to start : ℕ) (samples first second whole new : List ℕ) →
    component.kind ≡ Edge class → from ≤ to → IsEdgeRow class plane y from to start samples first second →
    IsRow (λ i. sample_at plane (from + i) y) whole → length whole ≡ to - from → length new ≡ to - from →
    ((i : ℕ) → i < length new → get_or new i 0 < 256) →
    HasPart (start - from) (length samples) (edge_sample component samples first second) whole new →
    IsRow (λ i. sao_sample component plane (from + i) y) new
edges_put component class plane y from to start samples first second whole new kind order row values size count bytes put = λ i below.
    ⊎_elim
    (λ early.
    without_edge component class plane (from + i) y (get_or new i 0) kind
    (row.before (from + i) (omega arith) (omega (arith, row.begins)))
    (put.before i early ∙ values i (omega arith)) (bytes i below))
    (λ later.
    ⊎_elim
    (λ inside.
    let k : ℕ = i - (start - from) in
    let at : start + k ≡ from + i = omega (arith, row.begins) in
    let place : (start - from) + k ≡ i = omega arith in
    let few : k < length samples = omega arith in
    let edge : edgeIdx class plane (from + i) y ≡ edge_of (get_or samples k 0) (Some (get_or first k 0)) (Some (get_or second k 0)) =
    ap (λ x. edgeIdx class plane x y) (sym at) ∙ row.edges k few in
    let sample : sample_at plane (from + i) y ≡ get_or samples k 0 =
    ap (λ x. sample_at plane x y) (sym at) ∙ sym (row.values k few) in
    ap (λ j. get_or new j 0) (sym place) ∙ put.part k few
    ∙ ap (λ s. clip1 (pos s +ℤ SaoOffsetVal component (edge_of (get_or samples k 0) (Some (get_or first k 0)) (Some (get_or second k 0))))) (sym sample)
    ∙ sym (by_category component class plane (from + i) y (edge_of (get_or samples k 0) (Some (get_or first k 0)) (Some (get_or second k 0))) kind edge))
    (λ late.
    without_edge component class plane (from + i) y (get_or new i 0) kind
    (row.behind (from + i) (omega (arith, row.begins, late)) (omega arith))
    (put.behind i late ∙ values i (omega arith)) (bytes i below))
    (cases_lt i ((start - from) + length samples)))
    (cases_lt i (start - from))
