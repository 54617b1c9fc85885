-- What is given of other pictures for a coding tree block: its reference pictures, and the vectors
-- that were found.
use Rattle.std.specs.Prelude.{List}
use Rattle.std.specs.Option.{option_copied}
use Rattle.hv_types.specs.declared.picture.Picture.{Picture}
use Rattle.hv_recon.specs.Leaves.{pictures_of}
use Rattle.hv_mode_model.specs.ModeDecision.{FoundVectors}
use Rattle.hv_mode.specs.declared.task.Task.{Task}
use Rattle.hv_mode.specs.declared.picture_task.PictureTask.{PictureTask}
use Rattle.hv_mode.specs.Motions.{found_of}

-- for a block

abbrev pub references_of : Task → List Picture
references_of t = pictures_of (option_copied t.first) (option_copied t.second)

abbrev pub vectors_of : Task → FoundVectors
vectors_of t = found_of (option_copied t.motion)

-- for all blocks of a picture

abbrev pub references_for : PictureTask → List Picture
references_for t = pictures_of (option_copied t.first) (option_copied t.second)

abbrev pub vectors_for : PictureTask → FoundVectors
vectors_for t = found_of (option_copied t.motion)
