-- Files that are read whole before TALK is picked.
use Rattle.std.specs.Prelude.{◌≡◌, ◌≤◌, ◌<◌, ℕ, List, length, ⊤, Some, None, Ok, Err, Result, Vec}
use Rattle.std.specs.declared.option.Option.{Option}
use Rattle.std.specs.declared.alloc.Global.{Global}
use Rattle.da_io.specs.Files.{Files}
use Rattle.da_io.specs.declared.inputs.LastCall.{LastCall}
use Rattle.da_io.specs.declared.inputs.LastCall.TheVariants as call
use Rattle.da_status.specs.declared.status.Status.{Status}
use Rattle.da_status.specs.declared.status.Status.TheVariants as status
use Rattle.da_status.specs.Statuses.{status_kind, input_count}
use Rattle.da_cli.specs.Limits.{file_limit}

-- the file with a name has bytes of which this holds, where files are told
abbrev pub Has : Option Files → List ℕ → (List ℕ → Type 0) → Type 0
Has None name Holds = ⊤
Has (Some files) name Holds = (bytes : List ℕ) × (files name ≡ Some bytes) × Holds bytes

-- it is within the limit, and this is what it is, by what bytes are
abbrev pub HasValue : {A : Type 0} → (List ℕ → Result A ℕ) → Option Files → List ℕ → Result A ℕ → Type 0
HasValue value_in told name value = Has told name (λ bytes. (length bytes ≤ file_limit) × (value_in bytes ≡ value))

-- why the file with a number, which has this name, isn't read: the call that failed was the last, more than the limit was
-- given, or memory ran out
abbrev pub IsUnread : ℕ → Option Files → List ℕ → LastCall → ℕ → Status → Type 0
IsUnread file told name last given (status.PickFault i) = (i ≡ file) × (last ≡ call.PickFailed)
IsUnread file told name last given (status.ReadFault i) = (i ≡ file) × (last ≡ call.ReadFailed)
IsUnread file told name last given (status.TooLong i) = (i ≡ file) × (file_limit < given) × Has told name (λ bytes. file_limit < length bytes)
IsUnread file told name last given status.NoMemory = ⊤
IsUnread file told name last given other = ⊥

-- its bytes, or why it isn't read
abbrev pub ReadsContent : ℕ → Option Files → List ℕ → LastCall → ℕ → Result (Vec ℕ Global) Status → Type 0
ReadsContent file told name last given (Ok content) = Has told name (λ bytes. (length bytes ≤ file_limit) × (content.items ≡ bytes))
ReadsContent file told name last given (Err why) = IsUnread file told name last given why

-- why it isn't what it is to be: it isn't read, or leaves the form
abbrev pub IsNoValue : {A : Type 0} → (List ℕ → Result A ℕ) → ℕ → Option Files → List ℕ → LastCall → ℕ → Status → Type 0
IsNoValue value_in file told name last given (status.BadInput i at) = (i ≡ file) × HasValue value_in told name (Err at)
IsNoValue value_in file told name last given why = IsUnread file told name last given why

-- what it is, or why it isn't that
abbrev pub ReadsValue : {A : Type 0} → (List ℕ → Result A ℕ) → ℕ → Option Files → List ℕ → LastCall → ℕ → Result A Status → Type 0
ReadsValue value_in file told name last given (Ok value) = HasValue value_in told name (Ok value)
ReadsValue value_in file told name last given (Err why) = IsNoValue value_in file told name last given why

-- the inputs' count of failures after that: a pick or a read that failed is counted
abbrev pub reading_faults : {A : Type 0} → Result A Status → ℕ → ℕ
reading_faults (Ok value) before = before
reading_faults (Err why) before = input_count (status_kind why) before
