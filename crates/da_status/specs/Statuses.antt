-- Statuses: their numbers, and at which step of a run each is decided.
use Rattle.std.specs.Prelude.{ℕ, Bool, true, false, ⊤}
use Rattle.da_io.specs.Faults.{count_on}
use Rattle.da_status.specs.declared.status.Status.{Status}
use Rattle.da_status.specs.declared.status.Status.TheVariants.{Done, Usage, PickFault, ReadFault, WriteFault, NoMemory, BadInput, TooLong, BadBlock, BadList, BadRequest, Fraud, Missing, Clash, Refused, Waiting}

-- the number that the program ends with
abbrev pub status_number : Status → ℕ
status_number Done = 0
status_number Usage = 1
status_number (PickFault i) = 2
status_number (ReadFault i) = 3
status_number WriteFault = 4
status_number NoMemory = 5
status_number (BadInput i at) = 6
status_number (TooLong i) = 7
status_number (BadBlock why) = 8
status_number (BadList why) = 8
status_number (BadRequest why) = 9
status_number (Fraud axis i) = 10
status_number (Missing cells lies) = 11
status_number Clash = 12
status_number Refused = 13
status_number (Waiting cells) = 14

-- the kinds of statuses, by the step of a run that decides: the words, a failed pick or read, an excess of
-- length, a file's form, what the files ask for, out of memory, a failed write, the complete output
pub data Kind : Type 0 where
  usage : Kind
  fault : Kind
  excess : Kind
  form : Kind
  request : Kind
  memory : Kind
  write : Kind
  output : Kind

-- the kind of a status
abbrev pub status_kind : Status → Kind
status_kind Done = output
status_kind Usage = usage
status_kind (PickFault i) = fault
status_kind (ReadFault i) = fault
status_kind WriteFault = write
status_kind NoMemory = memory
status_kind (BadInput i at) = form
status_kind (TooLong i) = excess
status_kind (BadBlock why) = request
status_kind (BadList why) = request
status_kind (BadRequest why) = request
status_kind (Fraud axis i) = output
status_kind (Missing cells lies) = output
status_kind Clash = output
status_kind Refused = output
status_kind (Waiting cells) = output

-- ---- the table of kinds

-- how far the files are read: not at all; up to a failed pick or read, or to a file that is too long, which
-- the status names; up to some file; all of them to their ends
pub data Reading : Type 0 where
  unread : Reading
  failed : Reading
  exceeded : Reading
  begun : Reading
  finished : Reading

-- what the output takes of a defined output, one that belongs to the words and files: all; a proper prefix,
-- because a write failed; nothing or a proper prefix; there need not be one that is defined
pub data Taken : Type 0 where
  complete : Taken
  part : Taken
  front : Taken
  undefined : Taken

-- what a kind says of a run: how far the files are read; whether the output stays as it was for sure; what
-- it takes of a defined output; whether files that are all in their forms can come to this
pub record Row : Type 0 where
  pub reading : Reading
  pub untouched : Bool
  pub taken : Taken
  pub in_form : Bool

-- the row of each kind; the functions of a kind, below and in Outcome, read it
abbrev pub row_of : Kind → Row
row_of usage = record { reading = unread; untouched = true; taken = complete; in_form = false }
row_of fault = record { reading = failed; untouched = true; taken = undefined; in_form = true }
row_of excess = record { reading = exceeded; untouched = true; taken = complete; in_form = false }
row_of form = record { reading = finished; untouched = true; taken = complete; in_form = false }
row_of request = record { reading = finished; untouched = true; taken = complete; in_form = true }
row_of memory = record { reading = begun; untouched = false; taken = front; in_form = true }
row_of write = record { reading = finished; untouched = false; taken = part; in_form = true }
row_of output = record { reading = finished; untouched = false; taken = complete; in_form = true }

-- the inputs' count of failures after files were read so far: a failed pick or read is counted once
abbrev pub counted_reading : Reading → ℕ → ℕ
counted_reading unread before = before
counted_reading failed before = count_on before 1
counted_reading exceeded before = before
counted_reading begun before = before
counted_reading finished before = before

-- the output's count of failures after so much of a defined output: a failed write is counted once
abbrev pub counted_taken : Taken → ℕ → ℕ
counted_taken complete before = before
counted_taken part before = count_on before 1
counted_taken front before = before
counted_taken undefined before = before

-- the count of the inputs' failures after a run that began with this one
abbrev pub input_count : Kind → ℕ → ℕ
input_count kind before = counted_reading (row_of kind).reading before

-- the count of the output's failures after a run that began with this one
abbrev pub output_count : Kind → ℕ → ℕ
output_count kind before = counted_taken (row_of kind).taken before

-- a fact that is said, or isn't
abbrev pub Said : Bool → Type 0 → Type 0
Said true Fact = Fact
Said false Fact = ⊤

-- a fact that may hold, or can't
abbrev pub May : Bool → Type 0 → Type 0
May true Fact = Fact
May false Fact = ⊥

-- a whole output is taken, which the words and files define
abbrev pub IsDefined : Taken → Type 0
IsDefined complete = Unit {0}
IsDefined part = ⊥
IsDefined front = ⊥
IsDefined undefined = ⊥

-- the words and files decide on a status of this kind
abbrev pub DecidesKind : Kind → Type 0
DecidesKind kind = IsDefined (row_of kind).taken
