-- How commands end.
use Rattle.std.proofs.Common.{◌≡◌, ◌∙◌, ℕ, List, [], ◌++◌, Result, Ok, Err, cond, inl, inr, refl, sym, ap, subst, IsSome, ◌↔◌, ◌⊎◌}
use Rattle.std.specs.Result.{is_ok}
use Rattle.std.specs.declared.option.Option.{Option}
use Rattle.std.specs.Io.KnownBytes.{Appends}
use Rattle.std.proofs.KnownBytes.{Appends-nil}
use Rattle.da_io.specs.Faults.{count_on, CountsFault}
use Rattle.da_io.specs.Sinks.{IsProperPrefix, AppendsPart, WritesAll}
use Rattle.da_status.specs.declared.status.Status.{Status}
use Rattle.da_status.specs.declared.status.Status.TheVariants.{WriteFault, BadInput, NoMemory}
use Rattle.da_status.specs.Statuses.{Kind, request, output, memory, status_kind, Taken, complete, part, front, undefined, row_of, output_count, May, DecidesKind}
use Rattle.da_status.specs.Outcome.{Relation, Refuses, Outputs, IsTakenOutput, LeavesBy, UntouchedBy, IsOwnBy, Ends, EndsAtOnce}
use Rattle.da_status.proofs.WriteLemmas.{Written, written_on, written_part}

-- a command with a meaning that is another's
pub ends_as : (M N : Relation) (old new : Option (List ℕ)) (before now : ℕ) (Same : Type 0) (status : Status) → M ≡ N
    → Ends M old new before now Same status → Ends N old new before now Same status
ends_as M N old new before now Same status e ends = subst (λ (R : Relation). Ends R old new before now Same status) e ends

-- a file isn't in its form
pub ends_refused : (i at : ℕ) (old : Option (List ℕ)) (before : ℕ) (Same : Type 0) → Same
    → Ends (Refuses (BadInput i at)) old old before before Same (BadInput i at)
ends_refused i at old before Same same = record {
  leaves = ([], (refl, refl), Appends-nil old);
  faults = refl;
  told = (λ s. s, λ s. s);
  untouched = same;
  own = tt;
}

-- what a command answers over files in their forms: its output, or that it refuses what they ask for
abbrev pub IsAnswer : Kind → Type 0
IsAnswer kind = May (row_of kind).in_form (DecidesKind kind)

-- a complete output is an answer
pub answer_output : (status : Status) → status_kind status ≡ output → IsAnswer (status_kind status)
answer_output status e = subst IsAnswer (sym e) tt

-- the status of an answer
pub status_answers : (status wanted : Status) → status ≡ wanted → IsAnswer (status_kind wanted) → IsAnswer (status_kind status)
status_answers status wanted e h = subst (λ (s : Status). IsAnswer (status_kind s)) (sym e) h

-- what the files ask for is refused
pub ends_request : (M : Relation) (old : Option (List ℕ)) (before : ℕ) (Same : Type 0) (status : Status) → status_kind status ≡ request → M [] status → Same
    → Ends M old old before before Same status
ends_request M old before Same status e meant same = record {
  leaves = subst (λ (k : Kind). LeavesBy k M old old status) (sym e) ([], meant, Appends-nil old);
  faults = ap (λ (k : Kind). output_count k before) (sym e);
  told = (λ s. s, λ s. s);
  untouched = subst (λ (k : Kind). UntouchedBy k Same) (sym e) same;
  own = subst IsOwnBy (sym e) tt;
}

-- a complete output was taken
pub ends_output : (M : Relation) (w : List ℕ) (status : Status) (old new : Option (List ℕ)) (before now : ℕ) (Same : Type 0) → status_kind status ≡ output
    → M w status → Appends old new w → now ≡ before → (IsSome old ↔ IsSome new) → Ends M old new before now Same status
ends_output M w status old new before now Same e meant taken counted told = record {
  leaves = subst (λ (k : Kind). LeavesBy k M old new status) (sym e) (w, meant, taken);
  faults = counted ∙ ap (λ (k : Kind). output_count k before) (sym e);
  told = told;
  untouched = subst (λ (k : Kind). UntouchedBy k Same) (sym e) tt;
  own = subst IsOwnBy (sym e) tt;
}

-- a whole output of a meaning is one of a greater meaning
outputs_within : (M N : Relation) (old new : Option (List ℕ)) (status : Status) → ((w : List ℕ) (s : Status) → M w s → N w s)
    → Outputs M old new status → Outputs N old new status
outputs_within M N old new status h o = (o.0, h o.0 status o.1, o.2)

-- the front of an output of a meaning is one of a greater meaning
front_within : (M N : Relation) (taken : List ℕ) → ((w : List ℕ) (s : Status) → M w s → N w s)
    → (taken ≡ []) ⊎ ((w : List ℕ) × (s : Status) × M w s × IsProperPrefix taken w)
    → (taken ≡ []) ⊎ ((w : List ℕ) × (s : Status) × N w s × IsProperPrefix taken w)
front_within M N taken h (inl e) = inl e
front_within M N taken h (inr o) = inr (o.0, o.1, h o.0 o.1 o.2, o.3)

-- what is taken of outputs of a meaning is taken of those of a greater meaning
pub takes_within : (taken : Taken) (M N : Relation) (old new : Option (List ℕ)) (status : Status) → ((w : List ℕ) (s : Status) → M w s → N w s)
    → IsTakenOutput taken M old new status → IsTakenOutput taken N old new status
takes_within complete M N old new status h a = outputs_within M N old new status h a
takes_within part M N old new status h a = (a.0, a.1, h a.0 a.1 a.2, a.3)
takes_within front M N old new status h a = (a.0, a.1, front_within M N a.0 h a.2)
takes_within undefined M N old new status h a = tt

-- a command ends by a greater meaning as by its own
pub ends_within : (M N : Relation) (old new : Option (List ℕ)) (before now : ℕ) (Same : Type 0) (status : Status)
    → ((w : List ℕ) (s : Status) → M w s → N w s) → Ends M old new before now Same status → Ends N old new before now Same status
ends_within M N old new before now Same status h ends = record {
  leaves = takes_within (row_of (status_kind status)).taken M N old new status h ends.leaves;
  faults = ends.faults;
  told = ends.told;
  untouched = ends.untouched;
  own = ends.own;
}

-- a write failed after the front of the output of a meaning
pub ends_in_fault : (M : Relation) (bytes : List ℕ) (status : Status) (old new : Option (List ℕ)) (before now : ℕ) (Same : Type 0)
    → M bytes status → AppendsPart old new bytes → now ≡ count_on before 1 → (IsSome old ↔ IsSome new)
    → Ends M old new before now Same WriteFault
ends_in_fault M bytes status old new before now Same meant taken counted told = record {
  leaves = (bytes, status, meant, taken);
  faults = counted;
  told = told;
  untouched = tt;
  own = tt;
}

-- a run ends with the write of what was held: by a status where that write did not fail
pub ends_after : {T E : Type 0} (M : Relation) (all rest held : List ℕ) (meant : Status) (a b c : Option (List ℕ)) (before now later : ℕ) (Same : Type 0)
    (wrote : Result T E) (status : Status) → M all meant → Written a b all (held ++ rest) → now ≡ before → (IsSome a ↔ IsSome c)
    → WritesAll b c held wrote → CountsFault now later wrote
    → (Written a c all rest → later ≡ before → Ends M a c before later Same status)
    → Ends M a c before later Same (cond (is_ok wrote) status WriteFault)
ends_after M all rest held meant a b c before now later Same (Ok t) status m w counted told taken faults h =
    h (written_on a b c all (held ++ rest) held rest w refl taken) (faults ∙ counted)
ends_after M all rest held meant a b c before now later Same (Err e) status m w counted told taken faults h =
    ends_in_fault M all meant a c before later Same m (written_part a b c all (held ++ rest) held rest w refl taken)
    (faults ∙ ap (λ (n : ℕ). count_on n 1) counted) told

-- ---- commands that take all of their memory before they write

-- such a command ends by a greater meaning as by its own
pub once_within : (M N : Relation) (old new : Option (List ℕ)) (before now : ℕ) (Same : Type 0) (status : Status)
    → ((w : List ℕ) (s : Status) → M w s → N w s) → EndsAtOnce M old new before now Same status → EndsAtOnce N old new before now Same status
once_within M N old new before now Same status h once = record {
  ends = ends_within M N old new before now Same status h once.ends;
  late = once.late;
}

-- a command with a meaning that is another's
pub once_as : (M N : Relation) (old new : Option (List ℕ)) (before now : ℕ) (Same : Type 0) (status : Status) → M ≡ N
    → EndsAtOnce M old new before now Same status → EndsAtOnce N old new before now Same status
once_as M N old new before now Same status e once = record {
  ends = ends_as M N old new before now Same status e once.ends;
  late = once.late;
}

-- a file isn't in its form
pub once_refused : (i at : ℕ) (old : Option (List ℕ)) (before : ℕ) (Same : Type 0) → Same
    → EndsAtOnce (Refuses (BadInput i at)) old old before before Same (BadInput i at)
once_refused i at old before Same same = record { ends = ends_refused i at old before Same same; late = λ e. same }

-- a failed write isn't out of memory
fault_memory : WriteFault ≡ NoMemory → ⊥
fault_memory e = cc

-- a write failed after the front of the output of a meaning
pub once_fault : (M : Relation) (old new : Option (List ℕ)) (before now : ℕ) (Same : Type 0) → Ends M old new before now Same WriteFault
    → EndsAtOnce M old new before now Same WriteFault
once_fault M old new before now Same ends = record { ends = ends; late = λ e. absurd (fault_memory e) }

-- out of memory is no complete output
memory_output : memory ≡ output → ⊥
memory_output e = cc

-- a complete output was taken
pub once_output : (M : Relation) (old new : Option (List ℕ)) (before now : ℕ) (Same : Type 0) (status : Status) → status_kind status ≡ output
    → Ends M old new before now Same status → EndsAtOnce M old new before now Same status
once_output M old new before now Same status is ends = record {
  ends = ends;
  late = λ e. absurd (memory_output (sym (ap status_kind e) ∙ is));
}

-- what the files ask for is refused
pub once_request : (M : Relation) (old : Option (List ℕ)) (before : ℕ) (Same : Type 0) (status : Status) → status_kind status ≡ request → M [] status → Same
    → EndsAtOnce M old old before before Same status
once_request M old before Same status e meant same = record {
  ends = ends_request M old before Same status e meant same;
  late = λ memory. same;
}
