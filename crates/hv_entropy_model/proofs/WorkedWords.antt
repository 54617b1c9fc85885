-- Worked code words, computed by the definitions.
use Rattle.std.proofs.Common.{◌≡◌, true, false, List, [], ◌∷◌, refl, map, ◌++◌}
use Rattle.hv_tables.specs.declared.bins.SliceKind.TheVariants.{I}
use Rattle.hv_tables.specs.Bins.{Bin, bypass_bin, terminate_bin}
use Rattle.hv_stream_model.specs.Bits.{bytes_of, first_bytes}
use Rattle.hv_entropy_model.specs.Contexts.{lps_width, next_variable, first_variables}
use Rattle.hv_entropy_model.specs.CodeWord.{shift_of, reach, first_interval, word}

-- six bypass bins and the end of the slice
abbrev carrying_bins : List Bin
carrying_bins =
    map bypass_bin (false ∷ true ∷ false ∷ false ∷ false ∷ true ∷ []) ++ terminate_bin true ∷ []

carrying_word : word I 26 carrying_bins ≡
    0 ∷ 1 ∷ 0 ∷ 0 ∷ 0 ∷ 1 ∷ 1 ∷ 1 ∷ 1 ∷ 0 ∷ 1 ∷ 1 ∷ 0 ∷ 1 ∷ 1 ∷ []
unfolding shift_of lps_width next_variable first_variables
carrying_word = refl

carrying_bytes : bytes_of (word I 26 carrying_bins) ≡ 71 ∷ 182 ∷ []
unfolding shift_of lps_width next_variable first_variables first_bytes
carrying_bytes = refl

carrying_low : (reach (first_interval (first_variables I 26)) carrying_bins).low ≡ 8670
unfolding shift_of lps_width next_variable first_variables
carrying_low = refl
