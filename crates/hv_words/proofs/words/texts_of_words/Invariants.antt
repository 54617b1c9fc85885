-- The name, and so many words.
use Rattle.std.proofs.Common.{◌≡◌, ◌∷◌, map, take}
use Rattle.hv_words.specs.Command.{program_name}
use Rattle.hv_words.proofs.words.texts_of_words.Given as goal

abbrev pub invariant-loop-i : goal.invariant-loop-i
invariant-loop-i l = map (λ s. s.now) l.texts.items ≡ program_name ∷ take l.i l.words
