-- What a status says of the output and its failures, for any relation of outputs and statuses.
use Rattle.std.specs.Prelude.{◌≡◌, ℕ, List, [], ⊤, ◌⊎◌, ◌↔◌, IsSome}
use Rattle.std.specs.declared.option.Option.{Option}
use Rattle.std.specs.Io.KnownBytes.{Appends}
use Rattle.da_io.specs.Sinks.{IsProperPrefix, AppendsPart}
use Rattle.da_status.specs.declared.status.Status.{Status}
use Rattle.da_status.specs.declared.status.Status.TheVariants.{NoMemory}
use Rattle.da_status.specs.Statuses.{Kind, status_kind, Reading, unread, failed, exceeded, begun, finished, Taken, complete, part, front, undefined, row_of, output_count, Said}

-- which outputs and statuses belong together
abbrev pub Relation : Type 1
Relation = List ℕ → Status → Type 0

-- nothing is written, and the status is this one
abbrev pub Refuses : Status → Relation
Refuses refusal w status = (w ≡ []) × (status ≡ refusal)

-- a defined output was taken whole
abbrev pub Outputs : Relation → Option (List ℕ) → Option (List ℕ) → Status → Type 0
Outputs M old new status = (w : List ℕ) × M w status × Appends old new w

-- a proper prefix of a defined output was taken
abbrev pub OutputsPart : Relation → Option (List ℕ) → Option (List ℕ) → Type 0
OutputsPart M old new = (w : List ℕ) × (status : Status) × M w status × AppendsPart old new w

-- nothing was taken, or a proper prefix of a defined output
abbrev pub OutputsFront : Relation → Option (List ℕ) → Option (List ℕ) → Type 0
OutputsFront M old new = (part : List ℕ) × Appends old new part
    × ((part ≡ []) ⊎ ((w : List ℕ) × (status : Status) × M w status × IsProperPrefix part w))

-- what was taken of an output that a relation defines with this status
abbrev pub IsTakenOutput : Taken → Relation → Option (List ℕ) → Option (List ℕ) → Status → Type 0
IsTakenOutput complete M old new status = Outputs M old new status
IsTakenOutput part M old new status = OutputsPart M old new
IsTakenOutput front M old new status = OutputsFront M old new
IsTakenOutput undefined M old new status = ⊤

-- the output that a kind of status leaves: all of one that belongs to the status, a part of one where a
-- write failed or memory ran out
abbrev pub LeavesBy : Kind → Relation → Option (List ℕ) → Option (List ℕ) → Status → Type 0
LeavesBy kind M old new status = IsTakenOutput (row_of kind).taken M old new status

-- the output that a status leaves
abbrev pub Leaves : Relation → Option (List ℕ) → Option (List ℕ) → Status → Type 0
Leaves M old new status = LeavesBy (status_kind status) M old new status

-- what is decided before the output leaves it as it was, by the kind of the status; Same: it is as it was
abbrev pub UntouchedBy : Kind → Type 0 → Type 0
UntouchedBy kind Same = Said (row_of kind).untouched Same

-- what is decided before the output leaves it as it was; Same: it is as it was
abbrev pub Untouched : Type 0 → Status → Type 0
Untouched Same status = UntouchedBy (status_kind status) Same

-- a command, which stands over files that were read, decides on no words and no failed reading; memory may run
-- out in it, too
abbrev pub IsOwnReading : Reading → Type 0
IsOwnReading unread = ⊥
IsOwnReading failed = ⊥
IsOwnReading exceeded = ⊥
IsOwnReading begun = ⊤
IsOwnReading finished = ⊤

-- a command may end with a status of this kind
abbrev pub IsOwnBy : Kind → Type 0
IsOwnBy kind = IsOwnReading (row_of kind).reading

-- how a command with this meaning ends; Same: the output is as it was
pub record Ends (M : Relation) (old new : Option (List ℕ)) (before now : ℕ) (Same : Type 0) (status : Status) : Type 0 where
  pub leaves : Leaves M old new status
  pub faults : now ≡ output_count (status_kind status) before
  pub told : IsSome old ↔ IsSome new
  pub untouched : Untouched Same status
  pub own : IsOwnBy (status_kind status)

-- how a command ends that takes all of its memory before it writes: where memory runs out, the output is as it was
pub record EndsAtOnce (M : Relation) (old new : Option (List ℕ)) (before now : ℕ) (Same : Type 0) (status : Status) : Type 0 where
  pub ends : Ends M old new before now Same status
  pub late : status ≡ NoMemory → Same
