-- What is encoded: the bytes that the source has, or where the settings name a generator those of
-- the generated video, which are read whole and without a fault.
use Rattle.std.specs.Prelude.{ℕ, Bool, cond, List, [], Option, Some, flat_map, is_some}
use Rattle.hv_types.specs.declared.settings.Settings.{Settings}
use Rattle.hv_types.specs.Video.{raw}
use Rattle.hv_synth.specs.Generator.{generated}
use Rattle.hv_serial.specs.Transfers.{Drawn}

abbrev pub is_generated : Settings → Bool
is_generated cfg = is_some cfg.synth

-- the bytes of the generated video
abbrev pub generated_bytes : Settings → List ℕ
generated_bytes cfg = flat_map raw (generated cfg)

-- the bytes to encode, where the source has these
abbrev pub input_bytes : Settings → List ℕ → List ℕ
input_bytes cfg bytes = cond (is_generated cfg) (generated_bytes cfg) bytes

-- .. as far as they are told, where the source tells so much: those of a generator always are
abbrev pub input : Settings → Option (List ℕ) → Option (List ℕ)
input cfg left = cond (is_generated cfg) (Some (generated_bytes cfg)) left

-- what isn't read of them, where the source has these left then
abbrev pub input_left : Settings → Option (List ℕ) → Option (List ℕ)
input_left cfg left = cond (is_generated cfg) (Some []) left

-- the count of faults of the input, where this is that of the source
abbrev pub input_faults : Settings → ℕ → ℕ
input_faults cfg faults = cond (is_generated cfg) 0 faults

-- what was read, where this was read of the source
abbrev pub input_drawn : Settings → Drawn → Drawn
input_drawn cfg d = record {
  before = input cfg d.before;
  now = input_left cfg d.now;
  faults_before = input_faults cfg d.faults_before;
  faults_now = input_faults cfg d.faults_now;
}
