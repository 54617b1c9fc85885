-- How the code holds what is coded for a picture.
use Rattle.std.specs.Prelude.{ℕ, List, [], ◌∷◌}
use Rattle.hv_group_model.specs.Structure.{Coded, coded}
use Rattle.hv_decision.specs.declared.coded.References.{References}
use Rattle.hv_decision.specs.declared.coded.References.TheVariants.{Nothing, One, Two}
use Rattle.hv_decision.specs.declared.coded.CodedPicture.{CodedPicture}

-- list 0
abbrev pub references_of : References → List ℕ
references_of Nothing = []
references_of (One first) = first ∷ []
references_of (Two first second) = first ∷ second ∷ []

abbrev pub coded_as : CodedPicture → Coded
coded_as c = coded c.picture c.depth (references_of c.references)
