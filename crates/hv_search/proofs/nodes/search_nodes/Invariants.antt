use Rattle.std.proofs.Common.{◌≡◌, ◌+◌, ◌*◌, ◌<◌, ℕ, get_or, List}
use Rattle.hv_search.specs.Nodes.{least_of, key_at, score_at}
use Rattle.hv_search.proofs.nodes.search_nodes.Given as goal

-- each node's least key of the first t places
abbrev pub kept : (s r : List ℕ) (stride t : ℕ) (eights sixteens thirty_twos : List ℕ) (whole : ℕ) → Type 0
kept s r stride t eights sixteens thirty_twos whole =
    ((p : ℕ) → p < 64 → get_or eights p 0 ≡ least_of 4294967295 (key_at (score_at s r stride p 8)) t) ×
    ((p : ℕ) → p < 16 → get_or sixteens p 0 ≡ least_of 4294967295 (key_at (score_at s r stride p 16)) t) ×
    ((p : ℕ) → p < 4 → get_or thirty_twos p 0 ≡ least_of 4294967295 (key_at (score_at s r stride p 32)) t) ×
    (whole ≡ least_of 4294967295 (key_at (score_at s r stride 0 64)) t)

abbrev pub invariant-loop-dy : goal.invariant-loop-dy
invariant-loop-dy l = kept l.source l.reference l.stride (17 * l.dy) l.keys.eights l.keys.sixteens l.keys.thirty_twos l.keys.whole

abbrev pub invariant-loop-dx : goal.invariant-loop-dx
invariant-loop-dx l = kept l.source l.reference l.stride (17 * l.dy + l.dx) l.keys.eights l.keys.sixteens l.keys.thirty_twos l.keys.whole
