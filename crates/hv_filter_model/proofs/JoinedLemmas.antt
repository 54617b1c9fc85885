-- Each place of a plane lies in one block.
use Rattle.std.proofs.Common.{◌≡◌, ℕ, ◌+◌, ◌*◌, ◌/◌, ◌%◌, ◌<◌, [], get_or, ◌∙◌, ap, ap₂, mul_comm}
use Rattle.std.proofs.lemmas.Nat.{mod-mul-add, div-mul-add, div-add-mod'}
use Rattle.hv_types.proofs.SampleLemmas.{sample_at-plane_of}
use Rattle.hv_filter_model.specs.Blocks.{block_number, joined_sample}
use Rattle.hv_filter_model.specs.JoinedLaws.{SamplesAreJoined}

block_of_column : (side k u : ℕ) → u < side → (side * k + u) / side ≡ k
block_of_column side k u below =
    ap (λ a. (a + u) / side) (mul_comm side k) ∙ div-mul-add k side u below

column_in_block : (side k u : ℕ) → u < side → (side * k + u) % side ≡ u
column_in_block side k u below =
    ap (λ a. (a + u) % side) (mul_comm side k) ∙ mod-mul-add k side u below

pub samples_joined : SamplesAreJoined
samples_joined side across width height number u v blocks some left top inside down =
    let x : ℕ = side * (number % across) + u in
    let y : ℕ = side * (number / across) + v in
    let number_is : block_number side across x y ≡ number =
    ap₂ (λ a b. a * across + b) (block_of_column side (number / across) v top)
    (block_of_column side (number % across) u left)
    ∙ div-add-mod' number across in
    let place : y % side * side + x % side ≡ v * side + u =
    ap₂ (λ a b. a * side + b) (column_in_block side (number / across) v top)
    (column_in_block side (number % across) u left) in
    sample_at-plane_of width height x y (joined_sample side across blocks) inside down
    ∙ ap₂ (λ (k i : ℕ). get_or (get_or blocks k []) i 0) number_is place
