-- What holds of settings without a fault.
use Rattle.std.specs.Prelude.{◌≡◌, ◌≤◌, None}
use Rattle.hv_types.specs.declared.settings.Settings.{Settings}
use Rattle.hv_types.specs.Configuration.{fault_of, IsValid, picture_bytes}

abbrev pub FaultlessIsValid : Type 0
FaultlessIsValid = (s : Settings) → fault_of s ≡ None → IsValid s

-- a picture has so many bytes at least
abbrev pub LeastBytes : Type 0
LeastBytes = (s : Settings) → IsValid s → 96 ≤ picture_bytes s

-- and so many at most
abbrev pub MostBytes : Type 0
MostBytes = (s : Settings) → IsValid s → picture_bytes s ≤ 13369344
