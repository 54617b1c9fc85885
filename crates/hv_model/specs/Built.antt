-- The settings that the encoder is built for so far: any size, any effort where each picture is a
-- group of its own, and groups of any size with any levels at the effort at which nothing is
-- chosen.
use Rattle.std.specs.Prelude.{◌≡◌, ◌⊎◌, Bool, ◌||◌, nat_eq}
use Rattle.std.specs.Bool.{Decides}
use Rattle.hv_types.specs.declared.settings.Settings.{Settings}
use Rattle.hv_types.specs.Configuration.{IsValid}

pub record IsBuilt (s : Settings) : Type 0 where
  pub valid : IsValid s
  pub predicted : (s.effort ≡ 0) ⊎ (s.group ≡ 1)

-- of settings without a fault
abbrev pub is_built : Settings → Bool
is_built s = nat_eq s.effort 0 || nat_eq s.group 1

-- the test is true for just these settings
abbrev pub BuiltIsDecided : Type 0
BuiltIsDecided = (s : Settings) → IsValid s → Decides (is_built s) (IsBuilt s)
