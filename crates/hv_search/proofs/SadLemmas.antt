-- Sums of differences of joined runs.
use Rattle.std.proofs.Common.{◌≡◌, ℕ, ◌+◌, ◌*◌, ◌≤◌, List, ◌++◌, length, take, drop, arith, sym, ◌∙◌, length-append}
use Rattle.std.specs.Int.{abs_diff}
use Rattle.std.proofs.lemmas.Simd.{length-chunk}
use Rattle.hv_kernel.specs.Differences.{sad_of}
use Rattle.hv_search.specs.Nodes.{woven_sad}
use Rattle.hv_kernel.proofs.PairLemmas.{sum_of_pairs-append}

pub sad_of_four : (a b c d e f g h : List ℕ) → length a ≡ length e → length b ≡ length f → length c ≡ length g → sad_of ((a ++ b) ++ (c ++ d)) ((e ++ f) ++ (g ++ h)) ≡ (sad_of a e + sad_of b f) + (sad_of c g + sad_of d h)
sad_of_four a b c d e f g h p q r =
    let upper = sum_of_pairs-append abs_diff a b e f p in
    let lower = sum_of_pairs-append abs_diff c d g h r in
    let even : length (a ++ b) ≡ length (e ++ f) = omega (arith, length-append a b, length-append e f) in
    omega (arith, sum_of_pairs-append abs_diff (a ++ b) (c ++ d) (e ++ f) (g ++ h) even, upper, lower)

pub sad_of_four_runs : (packed : List ℕ) (at : ℕ) (window : List ℕ) (there : ℕ) → at + 64 ≤ length packed → there + 976 ≤ length window → sad_of ((take 16 (drop at packed) ++ take 16 (drop (at + 16) packed)) ++ (take 16 (drop (at + 32) packed) ++ take 16 (drop (at + 48) packed))) ((take 16 (drop there window) ++ take 16 (drop (there + 320) window)) ++ (take 16 (drop (there + 2 * 320) window) ++ take 16 (drop (there + 3 * 320) window))) ≡ woven_sad packed at window there
sad_of_four_runs packed at window there p q =
    sad_of_four (take 16 (drop at packed)) (take 16 (drop (at + 16) packed)) (take 16 (drop (at + 32) packed)) (take 16 (drop (at + 48) packed)) (take 16 (drop there window)) (take 16 (drop (there + 320) window)) (take 16 (drop (there + 640) window)) (take 16 (drop (there + 960) window))
    (length-chunk at 16 packed (omega arith) ∙ sym (length-chunk there 16 window (omega arith)))
    (length-chunk (at + 16) 16 packed (omega arith) ∙ sym (length-chunk (there + 320) 16 window (omega arith)))
    (length-chunk (at + 32) 16 packed (omega arith) ∙ sym (length-chunk (there + 640) 16 window (omega arith)))
