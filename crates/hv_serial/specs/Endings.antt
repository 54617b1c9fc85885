-- How the encoding of a video ends.
use Rattle.std.specs.Prelude.{◌≡◌, ℕ, List, [], length, Some, Result, Ok, Err}
use Rattle.hv_types.specs.declared.settings.Settings.{Settings}
use Rattle.hv_types.specs.declared.settings.Emit.TheVariants.{Stream}
use Rattle.hv_types.specs.Outside.{Rises}
use Rattle.hv_types.specs.declared.picture.Picture.{Picture}
use Rattle.hv_model.specs.Decoding.{decode_of}
use Rattle.hv_model.specs.InterPictures.{recon_of, output}
use Rattle.hv_serial.specs.declared.answers.Totals.{Totals}
use Rattle.hv_serial.specs.declared.answers.EncodeError.{EncodeError}
use Rattle.hv_serial.specs.declared.answers.EncodeError.TheVariants.{ReadFault, ShortPicture, WriteFault, NoMemory, TooLong}
use Rattle.hv_serial.specs.Transfers.{Drawn, Put, Grows}
use Rattle.hv_serial.specs.Outcomes.{pictures_in, group_count, IsReadToEnd, EndsWithin, GoesOn, WroteGroups, WroteSome, WrotePart}

-- for the bytes that the source had
abbrev pub Told : Drawn → (List ℕ → Type 0) → Type 0
Told d P = (bytes : List ℕ) → d.before ≡ Some bytes → P bytes

-- for the bytes that the source had, and has
abbrev pub BothTold : Drawn → (List ℕ → List ℕ → Type 0) → Type 0
BothTold d P = (bytes left : List ℕ) → d.before ≡ Some bytes → d.now ≡ Some left → P bytes left

pub record NoFaults (d : Drawn) (w : Put) : Type 0 where
  pub reading : d.faults_now ≡ d.faults_before
  pub writing : w.faults_now ≡ w.faults_before

-- ---- a video

-- the numbers of these pictures, of their groups, and of the bytes of their output
pub record AreTotals (cfg : Settings) (v : List Picture) (t : Totals) : Type 0 where
  pub pictures : t.pictures ≡ length v
  pub groups : t.groups ≡ group_count cfg (length v)
  pub bytes : t.bytes ≡ length (output cfg v)

pub record EndsOk (cfg : Settings) (t : Totals) (d : Drawn) (w : Put) : Type 0 where
  pub read : Told d (λ bytes. IsReadToEnd cfg bytes d.now)
  pub wrote : Told d (λ bytes. Grows w.old w.new (output cfg (pictures_in cfg bytes)))
  pub totals : Told d (λ bytes. AreTotals cfg (pictures_in cfg bytes) t)
  pub no_faults : NoFaults d w

pub record EndsReadFault (cfg : Settings) (d : Drawn) (w : Put) : Type 0 where
  pub rises : Rises d.faults_before d.faults_now
  pub writing : w.faults_now ≡ w.faults_before
  pub wrote : BothTold d (λ bytes left. WroteGroups cfg bytes left w.old w.new)

pub record EndsShort (cfg : Settings) (have : ℕ) (d : Drawn) (w : Put) : Type 0 where
  pub read : Told d (λ bytes. EndsWithin cfg have bytes d.now)
  pub wrote : BothTold d (λ bytes left. WroteGroups cfg bytes left w.old w.new)
  pub no_faults : NoFaults d w

pub record EndsTooLong (cfg : Settings) (d : Drawn) (w : Put) : Type 0 where
  pub read : Told d (λ bytes. GoesOn cfg bytes d.now)
  pub wrote : BothTold d (λ bytes left. WroteGroups cfg bytes left w.old w.new)
  pub no_faults : NoFaults d w

pub record EndsWriteFault (cfg : Settings) (d : Drawn) (w : Put) : Type 0 where
  pub rises : Rises w.faults_before w.faults_now
  pub reading : d.faults_now ≡ d.faults_before
  pub wrote : BothTold d (λ bytes left. WrotePart cfg bytes left w.old w.new)

pub record EndsNoMemory (cfg : Settings) (d : Drawn) (w : Put) : Type 0 where
  pub wrote : BothTold d (λ bytes left. WroteSome cfg bytes left w.old w.new)
  pub no_faults : NoFaults d w

abbrev pub Ends : Settings → Drawn → Put → Result Totals EncodeError → Type 0
Ends cfg d w (Ok totals) = EndsOk cfg totals d w
Ends cfg d w (Err ReadFault) = EndsReadFault cfg d w
Ends cfg d w (Err (ShortPicture have)) = EndsShort cfg have d w
Ends cfg d w (Err WriteFault) = EndsWriteFault cfg d w
Ends cfg d w (Err NoMemory) = EndsNoMemory cfg d w
Ends cfg d w (Err TooLong) = EndsTooLong cfg d w

-- where a sink that had nothing has a stream then, it decodes to the reconstructed pictures
abbrev pub Decodes : Settings → Drawn → Put → Type 0
Decodes cfg d w =
    (bytes stream : List ℕ) → cfg.emit ≡ Stream → d.before ≡ Some bytes → w.old ≡ Some [] →
    w.new ≡ Some stream → decode_of stream ≡ Some (recon_of cfg (pictures_in cfg bytes))
