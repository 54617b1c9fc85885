-- The distances to the entries of list 0, as the definition of vectors has them.
use Rattle.std.specs.Prelude.{List, [], ◌∷◌, ℤ}
use Rattle.hv_amvp.specs.declared.scaling.Distances.{Distances}

abbrev pub entries : Distances → List ℤ
entries distances = distances.first ∷ distances.second ∷ []
