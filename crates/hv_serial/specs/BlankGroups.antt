-- A group in which nothing is chosen: its units, and its grey pictures.
use Rattle.std.specs.Prelude.{ℕ, List, [], map, replicate}
use Rattle.hv_types.specs.declared.settings.Settings.{Settings}
use Rattle.hv_types.specs.declared.settings.Emit.{Emit}
use Rattle.hv_types.specs.declared.settings.Emit.TheVariants.{Stream, Recon}
use Rattle.hv_types.specs.Configuration.{picture_bytes}
use Rattle.hv_group_model.specs.Structure.{coding}
use Rattle.hv_stream_model.specs.Units.{unit_bytes}
use Rattle.hv_slice_model.specs.BlankUnits.{blank_units}
use Rattle.hv_slice_model.specs.Slices.{picture_sites, header_in, unit_of_slice}

-- the unit of a picture of a group of so many
abbrev pub blank_unit : Settings → ℕ → ℕ → List ℕ
blank_unit cfg count picture =
    unit_bytes
    (unit_of_slice (header_in cfg count picture) (picture_sites cfg)
    (blank_units (picture_sites cfg)))

-- those of its pictures, in coding order
abbrev pub blank_units_of : Settings → ℕ → List (List ℕ)
blank_units_of cfg count =
    map (λ coded. blank_unit cfg count coded.picture) (coding count cfg.levels)

-- its raw pictures that are emitted
abbrev pub grey_pictures : Emit → Settings → ℕ → List (List ℕ)
grey_pictures Stream cfg count = []
grey_pictures Recon cfg count = replicate count (replicate (picture_bytes cfg) 128)
