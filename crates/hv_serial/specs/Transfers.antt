-- What calls moved from a source and to a sink: of the bytes that a source had `before` a call and
-- has `now`, and of those that a sink had `old` and has `new`, where source and sink tell their
-- bytes.
use Rattle.std.specs.Prelude.{◌≡◌, ℕ, ◌<◌, ◌≤◌, List, ◌++◌, length, take, drop, Option, Some}

-- ---- a source and a sink, on both sides of a call

-- what a source tells, and its count of faults
pub record Drawn : Type 0 where
  pub before : Option (List ℕ)
  pub now : Option (List ℕ)
  pub faults_before : ℕ
  pub faults_now : ℕ

-- of two states of a source
abbrev pub drawn : {S : Type 0} → (S → Option (List ℕ)) → (S → ℕ) → S → S → Drawn
drawn left faults old new = record {
  before = left old;
  now = left new;
  faults_before = faults old;
  faults_now = faults new;
}

-- what a sink tells, and its count of faults
pub record Put : Type 0 where
  pub old : Option (List ℕ)
  pub new : Option (List ℕ)
  pub faults_before : ℕ
  pub faults_now : ℕ

-- of two states of a sink
abbrev pub put : {K : Type 0} → (K → Option (List ℕ)) → (K → ℕ) → K → K → Put
put written faults old new = record {
  old = written old;
  new = written new;
  faults_before = faults old;
  faults_now = faults new;
}

-- ---- what was read

-- a source that had these bytes had only n
abbrev pub EndsAfter : Option (List ℕ) → ℕ → Type 0
EndsAfter before n = (bytes : List ℕ) → before ≡ Some bytes → length bytes ≡ n

-- fewer than `room` of the bytes were read
pub record FellShort (bytes : List ℕ) (now : Option (List ℕ)) (room : ℕ) : Type 0 where
  pub n : ℕ
  pub few : n < room
  pub there : n ≤ length bytes
  pub left : now ≡ Some (drop n bytes)

abbrev pub StopsShort : Option (List ℕ) → Option (List ℕ) → ℕ → Type 0
StopsShort before now room = (bytes : List ℕ) → before ≡ Some bytes → FellShort bytes now room

-- ---- what was written

-- the sink has these bytes behind those that it had
abbrev pub Grows : Option (List ℕ) → Option (List ℕ) → List ℕ → Type 0
Grows old new bytes = (had : List ℕ) → old ≡ Some had → new ≡ Some (had ++ bytes)

-- the sink has some of the bytes behind those that it had, from the first on
abbrev pub PutsPart : Option (List ℕ) → Option (List ℕ) → List ℕ → Type 0
PutsPart old new bytes =
    (had : List ℕ) → old ≡ Some had → (n : ℕ) × (new ≡ Some (had ++ take n bytes))
