use Rattle.std.proofs.Common.{◌≡◌, ◌∙◌, ◌++◌, ap, ap₂, sym, subst, List, ℕ, ℤ, ◌<◌, All, ◌≤◌, map}
use Rattle.std.specs.Int.RustNames.{unsigned_abs}
use Rattle.std.proofs.lemmas.Simd.{put_chunk_whole, map-map}
use lib.Lanes.{put_chunk}
use mir.Syntax.{w32, w16}
use Rattle.hv_lemmas.specs.Clipping.{clip16}
use Rattle.hv_sample_model.specs.Quantisation.{rounded}
use Rattle.hv_lanes.specs.Lanes.{Numbers32}
use Rattle.hv_lanes.proofs.LaneStepLemmas.{kept, small_numbers, passed, clips_kept, small_append, means_small, length-eight}
use Rattle.hv_lanes.proofs.lanes.put_means.Goals as goal

pub joined-requires-clause-first : goal.joined-requires-clause-first
joined-requires-clause-first c =
    let numbers : Numbers32 c.args.low = small_numbers c.args.low c.requires.low in
    subst Numbers32 (sym (kept w32 c.args.low numbers)) numbers

pub joined-requires-clause-second : goal.joined-requires-clause-second
joined-requires-clause-second c =
    let numbers : Numbers32 c.args.high = small_numbers c.args.high c.requires.high in
    subst Numbers32 (sym (kept w32 c.args.high numbers)) numbers

lanes_small : (low high : List ℤ) → All (λ z. unsigned_abs z ≤ 1073741824) low → All (λ z. unsigned_abs z ≤ 1073741824) high → passed w32 (passed w32 low ++ passed w32 high) ≡ low ++ high
lanes_small low high f g =
    ap (passed w32) (ap₂ (λ a b. a ++ b) (kept w32 low (small_numbers low f)) (kept w32 high (small_numbers high g))) ∙
    kept w32 (low ++ high) (small_numbers (low ++ high) (small_append low high f g))

pub means-requires-clause-lanes_most : goal.means-requires-clause-lanes_most
means-requires-clause-lanes_most c =
    let same : passed w32 c.joined.result ≡ c.args.low ++ c.args.high = ap (passed w32) c.joined.ensures ∙ lanes_small c.args.low c.args.high c.requires.low c.requires.high in
    subst (All (λ z. unsigned_abs z ≤ 1073741824)) (sym same) (small_append c.args.low c.args.high c.requires.low c.requires.high)

means_are : (low high joined means : List ℤ) (s : ℕ) → 0 < s → All (λ z. unsigned_abs z ≤ 1073741824) low → All (λ z. unsigned_abs z ≤ 1073741824) high
    → joined ≡ passed w32 low ++ passed w32 high → means ≡ map (λ z. rounded z s) (passed w32 joined)
    → Numbers32 (passed w32 means) × (passed w32 means ≡ map (λ z. rounded z s) (low ++ high))
means_are low high joined means s some f g e h =
    let is : means ≡ map (λ z. rounded z s) (low ++ high) = h ∙ ap (map (λ z. rounded z s)) (ap (passed w32) e ∙ lanes_small low high f g) in
    let numbers : Numbers32 (map (λ z. rounded z s) (low ++ high)) = small_numbers _ (means_small s (low ++ high) some (small_append low high f g)) in
    let same : passed w32 means ≡ map (λ z. rounded z s) (low ++ high) = ap (passed w32) is ∙ kept w32 _ numbers in
    (subst Numbers32 (sym same) numbers, same)

pub clipped-requires-clause-numbers : goal.clipped-requires-clause-numbers
clipped-requires-clause-numbers c =
    (means_are c.args.low c.args.high c.joined.result c.means.result c.args.shift c.requires.some c.requires.low c.requires.high c.joined.ensures c.means.ensures).0

pub returns : goal.returns
returns c =
    let lanes : List ℤ = c.args.low ++ c.args.high in
    let mean : ℤ → ℤ = λ z. clip16 (rounded z c.args.shift) in
    let same = (means_are c.args.low c.args.high c.joined.result c.means.result c.args.shift c.requires.some c.requires.low c.requires.high c.joined.ensures c.means.ensures).1 in
    let all : c.clipped.result ≡ map mean lanes = c.clipped.ensures ∙ ap (map clip16) same ∙ map-map clip16 (λ z. rounded z c.args.shift) lanes in
    ap (put_chunk 0 c.args.out.now) (ap (passed w16) all ∙ clips_kept (λ z. rounded z c.args.shift) lanes) ∙
    put_chunk_whole c.args.out.now (map mean lanes) (c.requires.room ∙ sym (length-eight mean c.args.low c.args.high c.requires.first_four c.requires.second_four))
