-- How each step of the encoding of a video ends: the reading of a picture and of a group, and the
-- writing of a group.
use Rattle.std.specs.Prelude.{◌≡◌, ℕ, ◌+◌, ◌*◌, ◌<◌, ◌≤◌, ◌^◌, Bool, true, false, List, [], ◌++◌, length, map, flat_map, take, drop, Option, Some, Result, Ok, Err}
use Rattle.hv_types.specs.declared.settings.Settings.{Settings}
use Rattle.hv_types.specs.declared.settings.Emit.{Emit}
use Rattle.hv_types.specs.declared.settings.Emit.TheVariants.{Stream, Recon}
use Rattle.hv_types.specs.declared.picture.Picture.{Picture}
use Rattle.hv_types.specs.Outside.{Rises}
use Rattle.hv_types.specs.Configuration.{most_pictures, picture_bytes}
use Rattle.hv_types.specs.GroupInput.{GroupInput}
use Rattle.hv_types.specs.Video.{raw, pad}
use Rattle.hv_decision.specs.Groups.{GroupOutput}
use Rattle.hv_stream_model.specs.Headers.{parameter_sets}
use Rattle.hv_model.specs.Encoding.{EncodedGroup}
use Rattle.hv_model.specs.InterPictures.{encode_group}
use Rattle.hv_serial.specs.declared.answers.EncodeError.{EncodeError}
use Rattle.hv_serial.specs.declared.answers.EncodeError.TheVariants.{ReadFault, ShortPicture, WriteFault, NoMemory, TooLong}
use Rattle.hv_serial.specs.Transfers.{Drawn, Put, Grows, PutsPart, FellShort}
use Rattle.hv_serial.specs.Outcomes.{pictures_in}
use Rattle.hv_serial.specs.Endings.{Told}

-- ---- what was taken from these bytes

-- so many of them
pub record Took (n : ℕ) (bytes : List ℕ) (now : Option (List ℕ)) : Type 0 where
  pub there : n ≤ length bytes
  pub left : now ≡ Some (drop n bytes)

-- all of them, so many
pub record TookAll (n : ℕ) (bytes : List ℕ) (now : Option (List ℕ)) : Type 0 where
  pub all : length bytes ≡ n
  pub left : now ≡ Some (drop n bytes)

-- so many, and fewer than `room` behind them
pub record TookPart (n room : ℕ) (bytes : List ℕ) (now : Option (List ℕ)) : Type 0 where
  pub part : ℕ
  pub few : part < room
  pub took : Took (n + part) bytes now

-- ---- a picture is read, behind so many

-- its bytes are in the buffer
pub record PictureRead (cfg : Settings) (number : ℕ) (buffer : List ℕ) (d : Drawn) :
    Type 0 where
  pub few : number < most_pictures
  pub read : Told d (λ bytes. Took (picture_bytes cfg) bytes d.now)
  pub bytes : Told d (λ bytes. buffer ≡ take (picture_bytes cfg) bytes)
  pub no_fault : d.faults_now ≡ d.faults_before

pub record NoPicture (d : Drawn) : Type 0 where
  pub read : Told d (λ bytes. TookAll 0 bytes d.now)
  pub no_fault : d.faults_now ≡ d.faults_before

pub record PictureFault (cfg : Settings) (d : Drawn) : Type 0 where
  pub rises : Rises d.faults_before d.faults_now
  pub read : Told d (λ bytes. FellShort bytes d.now (picture_bytes cfg))

pub record PictureShort (cfg : Settings) (number have : ℕ) (d : Drawn) : Type 0 where
  pub room : number < most_pictures
  pub some : 0 < have
  pub few : have < picture_bytes cfg
  pub read : Told d (λ bytes. TookAll have bytes d.now)
  pub no_fault : d.faults_now ≡ d.faults_before

pub record PictureTooMany (number : ℕ) (d : Drawn) : Type 0 where
  pub most : number ≡ most_pictures
  pub read : Told d (λ bytes. Took 1 bytes d.now)
  pub no_fault : d.faults_now ≡ d.faults_before

abbrev pub EndsPicture : Settings → ℕ → List ℕ → Drawn → Result Bool EncodeError → Type 0
EndsPicture cfg number buffer d (Ok true) = PictureRead cfg number buffer d
EndsPicture cfg number buffer d (Ok false) = NoPicture d
EndsPicture cfg number buffer d (Err ReadFault) = PictureFault cfg d
EndsPicture cfg number buffer d (Err (ShortPicture have)) = PictureShort cfg number have d
EndsPicture cfg number buffer d (Err WriteFault) = ⊥
EndsPicture cfg number buffer d (Err NoMemory) = ⊥
EndsPicture cfg number buffer d (Err TooLong) = PictureTooMany number d

-- ---- a group is read, behind so many pictures

-- these are the first pictures of the input, padded
abbrev pub AreFirst : Settings → List Picture → Drawn → Type 0
AreFirst cfg padded d =
    Told d (λ bytes. padded ≡ map pad (take (length padded) (pictures_in cfg bytes)))

-- these padded pictures, fewer than a group has only where the input ends behind them
pub record GroupRead (cfg : Settings) (before : ℕ) (padded : List Picture) (d : Drawn) :
    Type 0 where
  pub room : length padded ≤ cfg.group
  pub few : before + length padded ≤ most_pictures
  pub read : Told d (λ bytes. Took (length padded * picture_bytes cfg) bytes d.now)
  pub pictures : AreFirst cfg padded d
  pub all :
      length padded < cfg.group →
      Told d (λ bytes. length bytes ≡ length padded * picture_bytes cfg)
  pub no_fault : d.faults_now ≡ d.faults_before

-- the group has these settings
pub record GroupIsRead (cfg : Settings) (before : ℕ) (input : GroupInput) (d : Drawn) : Type 0 where
  pub config : input.config ≡ cfg
  pub group : GroupRead cfg before input.pictures d

-- behind `count` pictures of the group the source failed
pub record GroupFault (cfg : Settings) (d : Drawn) : Type 0 where
  pub count : ℕ
  pub room : count < cfg.group
  pub rises : Rises d.faults_before d.faults_now
  pub read : Told d (λ bytes. TookPart (count * picture_bytes cfg) (picture_bytes cfg) bytes d.now)

-- behind `count` pictures of the group the input ended so many bytes into a picture
pub record GroupShort (cfg : Settings) (before have : ℕ) (d : Drawn) : Type 0 where
  pub count : ℕ
  pub room : count < cfg.group
  pub number : before + count < most_pictures
  pub some : 0 < have
  pub few : have < picture_bytes cfg
  pub read : Told d (λ bytes. TookAll (count * picture_bytes cfg + have) bytes d.now)
  pub no_fault : d.faults_now ≡ d.faults_before

-- behind `count` pictures of the group, the last that a video may have, there is a byte
pub record GroupTooMany (cfg : Settings) (before : ℕ) (d : Drawn) : Type 0 where
  pub count : ℕ
  pub room : count < cfg.group
  pub number : before + count ≡ most_pictures
  pub read : Told d (λ bytes. Took (count * picture_bytes cfg + 1) bytes d.now)
  pub no_fault : d.faults_now ≡ d.faults_before

-- some pictures of the group were read whole
pub record GroupNoMemory (cfg : Settings) (d : Drawn) : Type 0 where
  pub count : ℕ
  pub read : Told d (λ bytes. Took (count * picture_bytes cfg) bytes d.now)
  pub no_fault : d.faults_now ≡ d.faults_before

abbrev pub EndsGroup : Settings → ℕ → Drawn → Result GroupInput EncodeError → Type 0
EndsGroup cfg before d (Ok input) = GroupIsRead cfg before input d
EndsGroup cfg before d (Err ReadFault) = GroupFault cfg d
EndsGroup cfg before d (Err (ShortPicture have)) = GroupShort cfg before have d
EndsGroup cfg before d (Err WriteFault) = ⊥
EndsGroup cfg before d (Err NoMemory) = GroupNoMemory cfg d
EndsGroup cfg before d (Err TooLong) = GroupTooMany cfg before d

-- ---- a group is written

-- what goes out before the units of a group: the parameter sets before those of the first one
abbrev pub sets_of : Settings → Bool → List ℕ
sets_of cfg true = parameter_sets cfg
sets_of cfg false = []

-- what is written of a group that is encoded so
abbrev pub written_as : Emit → Settings → Bool → EncodedGroup → List ℕ
written_as Stream cfg first group = sets_of cfg first ++ flat_map (λ unit. unit) group.units
written_as Recon cfg first group = flat_map raw group.shown

-- what is written of a group
abbrev pub bytes_of_group : Settings → Bool → List Picture → List ℕ
bytes_of_group cfg first group = written_as cfg.emit cfg first (encode_group cfg group)

-- .. and of a group with this output
abbrev pub joined_as : Emit → Settings → Bool → GroupOutput → List ℕ
joined_as Stream cfg first output = sets_of cfg first ++ flat_map (λ unit. unit) output.slices
joined_as Recon cfg first output = flat_map (λ picture. picture) output.shown

-- the raw pictures of a group that are emitted
abbrev pub emitted : Emit → List Picture → List (List ℕ)
emitted Stream shown = []
emitted Recon shown = map raw shown

-- these pictures are the padded ones of those that a statement speaks of
abbrev pub OfPadded : List Picture → (List Picture → Type 0) → Type 0
OfPadded padded P = (group : List Picture) → map pad group ≡ padded → P group

-- of the pictures whose padded ones these are
pub record PutsGroup (cfg : Settings) (first : Bool) (padded : List Picture) (n : ℕ) (w : Put) :
    Type 0 where
  pub wrote : OfPadded padded (λ group. Grows w.old w.new (bytes_of_group cfg first group))
  pub bytes : OfPadded padded (λ group. n ≡ length (bytes_of_group cfg first group))
  pub fits : n < 2 ^ 64
  pub no_fault : w.faults_now ≡ w.faults_before

pub record PutsPartOfGroup (cfg : Settings) (first : Bool) (padded : List Picture) (w : Put) :
    Type 0 where
  pub rises : Rises w.faults_before w.faults_now
  pub wrote : OfPadded padded (λ group. PutsPart w.old w.new (bytes_of_group cfg first group))

-- nothing is, and no write failed
pub record PutsNothing (w : Put) : Type 0 where
  pub wrote : w.new ≡ w.old
  pub no_fault : w.faults_now ≡ w.faults_before

abbrev pub EndsWriting : Settings → Bool → List Picture → Put → Result ℕ EncodeError → Type 0
EndsWriting cfg first padded w (Ok n) = PutsGroup cfg first padded n w
EndsWriting cfg first padded w (Err ReadFault) = ⊥
EndsWriting cfg first padded w (Err (ShortPicture have)) = ⊥
EndsWriting cfg first padded w (Err WriteFault) = PutsPartOfGroup cfg first padded w
EndsWriting cfg first padded w (Err NoMemory) = PutsNothing w
EndsWriting cfg first padded w (Err TooLong) = ⊥
