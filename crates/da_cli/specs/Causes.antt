-- What a status says of the inputs: of which file it speaks, and what was picked and read.
use Rattle.std.specs.Prelude.{◌≡◌, ℕ, ◌+◌, ◌-◌, ◌<◌, ◌≤◌, List, length, ⊤, ◌⊎◌}
use Rattle.std.specs.declared.option.Option.{Option}
use Rattle.da_io.specs.declared.inputs.LastCall.{LastCall}
use Rattle.da_io.specs.declared.inputs.LastCall.TheVariants as ended
use Rattle.da_io.specs.Faults.{count_on}
use Rattle.da_io.specs.Files.{Files}
use Rattle.da_status.specs.declared.status.Status.{Status}
use Rattle.da_status.specs.declared.status.Status.TheVariants.{PickFault, ReadFault, TooLong}
use Rattle.da_status.specs.Statuses.{Kind, status_kind, Reading, unread, failed, exceeded, begun, finished, row_of}
use Rattle.da_cli.specs.Gathered.{IsWord, AllRead, IsWithinLimit}

-- a failed pick or read was the last call on the inputs, of the file word with that number, and each
-- file before it is there and within its limit, where files are told
abbrev pub FaultCause : (ℕ → ℕ) → Option Files → List (List ℕ) → Option (List ℕ) → LastCall → Status → Type 0
FaultCause limits told names picked last (PickFault i) = (last ≡ ended.PickFailed) × IsWord names i picked × AllRead limits told names i
FaultCause limits told names picked last (ReadFault i) = (last ≡ ended.ReadFailed) × IsWord names i picked × AllRead limits told names i
FaultCause limits told names picked last status = ⊤

-- the file that was picked last gave no more than its limit, where the files were read so far; Idle: no file
-- was picked
abbrev pub GivenReading : (ℕ → ℕ) → Reading → List (List ℕ) → Option (List ℕ) → ℕ → Type 0 → Type 0
GivenReading limits unread names picked given Idle = ⊤
GivenReading limits failed names picked given Idle = IsWithinLimit limits names picked given
GivenReading limits exceeded names picked given Idle = ⊤
GivenReading limits begun names picked given Idle = Idle ⊎ IsWithinLimit limits names picked given
GivenReading limits finished names picked given Idle = 0 < length names → given ≤ limits (length names - 1)

-- the file that was picked last gave no more than its limit, by the kind of the status; Idle: no file was
-- picked
abbrev pub GivenBy : (ℕ → ℕ) → Kind → List (List ℕ) → Option (List ℕ) → ℕ → Type 0 → Type 0
GivenBy limits kind names picked given Idle = GivenReading limits (row_of kind).reading names picked given Idle

-- the file word with that number gave more than its limit, and each file before it is there and within
-- its limit, where files are told; with another status that reading comes before, the file that was picked
-- last gave no more than its limit
abbrev pub ExcessCause : (ℕ → ℕ) → Option Files → List (List ℕ) → Option (List ℕ) → ℕ → Type 0 → Status → Type 0
ExcessCause limits told names picked given Idle (TooLong i) = (limits i < given) × IsWord names i picked × AllRead limits told names i
ExcessCause limits told names picked given Idle (PickFault i) = given ≤ limits i
ExcessCause limits told names picked given Idle (ReadFault i) = given ≤ limits i
ExcessCause limits told names picked given Idle status = GivenBy limits (status_kind status) names picked given Idle

-- a fact that is said where all files were read to their ends
abbrev pub IfFinished : Reading → Type 0 → Type 0
IfFinished unread Fact = ⊤
IfFinished failed Fact = ⊤
IfFinished exceeded Fact = ⊤
IfFinished begun Fact = ⊤
IfFinished finished Fact = Fact

-- a fact of the last call on the inputs, where the kind of the status has all files read
abbrev pub LastBy : Kind → Type 0 → Type 0
LastBy kind Last = IfFinished (row_of kind).reading Last

-- how many picks a run makes that reads so far, with no status that names a file of reading: one for each
-- file word, or those of some where memory ran out
abbrev pub PicksReading : Reading → ℕ → ℕ → ℕ → Type 0
PicksReading unread count before now = now ≡ before
PicksReading failed count before now = ⊥
PicksReading exceeded count before now = ⊥
PicksReading begun count before now = (n : ℕ) × (n ≤ count) × (now ≡ count_on before n)
PicksReading finished count before now = now ≡ count_on before count

-- how many picks a run makes, by the kind of a status that names no file of reading
abbrev pub PicksBy : Kind → ℕ → ℕ → ℕ → Type 0
PicksBy kind count before now = PicksReading (row_of kind).reading count before now

-- how many picks a run makes: those up to the file that a status of reading names, or by the status's kind
abbrev pub PickCount : ℕ → ℕ → ℕ → Status → Type 0
PickCount count before now (PickFault i) = now ≡ count_on before (i + 1)
PickCount count before now (ReadFault i) = now ≡ count_on before (i + 1)
PickCount count before now (TooLong i) = now ≡ count_on before (i + 1)
PickCount count before now status = PicksBy (status_kind status) count before now
