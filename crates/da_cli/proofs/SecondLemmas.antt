-- What repair answers to a second file, whose bytes were not kept.
use Rattle.std.proofs.Common.{◌≡◌, ℕ, ◌≤◌, List, [], ◌∷◌, drop, arith, Some, None, Result, Ok, Err, refl, sym, ap, ap₂, subst, inl, inr}
use Rattle.std.specs.Prelude.{MatchOption}
use Rattle.std.specs.declared.option.Option.{Option}
use Rattle.data_header.specs.Headers.{Roots}
use Rattle.da_io.specs.declared.inputs.Inputs as inputs
use Rattle.da_io.specs.declared.sink.Sink as sink
use Rattle.da_io.specs.Faults.{max_count}
use Rattle.da_wire.specs.Frames.{frames_of, bad_frame}
use Rattle.da_cli.specs.declared.files.Stop.{Stop}
use Rattle.da_cli.specs.declared.files.Stop.TheVariants as stop
use Rattle.da_status.specs.declared.status.Status.{Status}
use Rattle.da_status.specs.declared.status.Status.TheVariants.{BadInput}
use Rattle.da_words.specs.declared.command.Command.TheVariants.{Repair}
use Rattle.da_files.specs.Contents.{file_of}
use Rattle.da_status.specs.Outcome.{Relation, Refuses, EndsAtOnce}
use Rattle.da_status.specs.Judging.{Judged}
use Rattle.da_cli.specs.Limits.{file_limit, repair_limits}
use Rattle.da_cli.specs.Streamed.{IsRead, HasCome}
use Rattle.da_files.specs.Frames.{header_in, error_of}
use Rattle.da_files.specs.Forms.{Over}
use Rattle.da_judging.specs.Repair.{Repairs}
use Rattle.da_cli.specs.StreamedRepair.{RepairsFile, StreamsSecond, Streams}
use Rattle.da_commands.specs.Meaning.{Meaning}
use Rattle.da_status.proofs.EndLemmas.{once_as, once_refused}
use Rattle.da_cli.proofs.ComeLemmas.{come_none, come_file, stop_file, come_memory}

-- what repair answers, by what the first file is and where the second leaves its form
abbrev meant : List ℕ → Result Roots ℕ → Option ℕ → Relation
meant bytes a b = Judged (error_of a ∷ b ∷ []) (Over a (λ h. Repairs h (frames_of bytes)))

-- the meaning of two files: what repair comes to, or which of them isn't in its form
second_is : (text bytes : List ℕ) (h : Roots) → header_in text ≡ Ok h → bad_frame bytes ≡ None → Repairs h (frames_of bytes) ≡ Meaning Repair (text ∷ bytes ∷ [])
unfolding file_of
second_is text bytes h read fine = sym (ap₂ (meant bytes) read fine)

second_refuses : (text bytes : List ℕ) (h : Roots) (at : ℕ) → header_in text ≡ Ok h → bad_frame bytes ≡ Some at → Refuses (BadInput 1 at) ≡ Meaning Repair (text ∷ bytes ∷ [])
unfolding file_of
second_refuses text bytes h at read bad = sym (ap₂ (meant bytes) read bad)

pub first_refuses : (text bytes : List ℕ) (at : ℕ) → header_in text ≡ Err at → Refuses (BadInput 0 at) ≡ Meaning Repair (text ∷ bytes ∷ [])
unfolding file_of
first_refuses text bytes at read = sym (ap (λ (a : Result Roots ℕ). meant bytes a (bad_frame bytes)) read)

module _ {I O : Type 0} (i : inputs.Ghosts I) (o : sink.Ghosts O) where
  -- how a command with this meaning ended
  abbrev Ended : List ℕ → List ℕ → O → O → Status → Type 0
  Ended text bytes old new status =
      EndsAtOnce (Meaning Repair (text ∷ bytes ∷ [])) (o.taken old) (o.taken new) (o.faults old) (o.faults new) (new ≡ old) status

  -- a file that isn't in its form, and an output that is as it was
  pub refused_ends : (number at : ℕ) (text bytes : List ℕ) (old new : O) (status : Status) → Refuses (BadInput number at) ≡ Meaning Repair (text ∷ bytes ∷ []) → status ≡ BadInput number at → new ≡ old
      → Ended text bytes old new status
  refused_ends number at text bytes old new status meant is same =
      subst (λ (s : Status). Ended text bytes old new s) (sym is)
      (subst (λ (x : O). Ended text bytes old x (BadInput number at)) (sym same)
      (once_as _ (Meaning Repair (text ∷ bytes ∷ [])) (o.taken old) (o.taken old) (o.faults old) (o.faults old) (old ≡ old) (BadInput number at) meant
      (once_refused number at (o.taken old) (o.faults old) (old ≡ old) refl)))

  -- what is answered to bytes, by the first place at which no frame stands
  answered : (text bytes : List ℕ) (h : Roots) (old new : O) (status : Status) (bad : Option ℕ) → header_in text ≡ Ok h → bad_frame bytes ≡ bad
      → MatchOption bad (EndsAtOnce (Repairs h (frames_of bytes)) (o.taken old) (o.taken new) (o.faults old) (o.faults new) (new ≡ old) status) (λ at. (status ≡ BadInput 1 at) × (new ≡ old))
      → Ended text bytes old new status
  answered text bytes h old new status None read e ends =
      once_as (Repairs h (frames_of bytes)) (Meaning Repair (text ∷ bytes ∷ [])) (o.taken old) (o.taken new) (o.faults old) (o.faults new) (new ≡ old) status (second_is text bytes h read e) ends
  answered text bytes h old new status (Some at) read e ends = refused_ends 1 at text bytes old new status (second_refuses text bytes h at read e) ends.0 ends.1

  -- under a header
  pub second_of : (name text : List ℕ) (h : Roots) (before now : I) (old new : O) (r : Result Status Stop) → header_in text ≡ Ok h → RepairsFile i o name h before now old new r
      → StreamsSecond i o name text before now old new r
  second_of name text h before now old new (Ok status) read file = (file.0, file.1, answered text file.0 h old new status (bad_frame file.0) read refl file.2)
  second_of name text h before now old new (Err why) read file = (inl file.0, file.1)

  -- both files, of which the first was read whole
  pub stream_second : (names : List (List ℕ)) (name text : List ℕ) (before mid now : I) (old new : O) (r : Result Status Stop) → HasCome i repair_limits names 1 before mid (Ok (text ∷ []))
      → drop 1 names ≡ name ∷ drop 2 names → StreamsSecond i o name text mid now old new r → Streams i o names before now old new r
  stream_second names name text before mid now old new (Ok status) come here second =
      (text ∷ second.0 ∷ [], come_file i repair_limits names 1 before mid now (text ∷ []) name second.0 come here second.1, second.2)
  stream_second names name text before mid now old new (Err why) come here (inl read, same) =
      (stop_file i repair_limits names 1 2 before mid now (text ∷ []) name why (omega arith) come here read, same)
  stream_second names name text before mid now old new (Err why) come here (inr out, same) = (
    subst (λ (s : Stop). HasCome i repair_limits names 2 before now (Err s)) (sym out.0)
        (subst (λ (x : I). HasCome i repair_limits names 2 before x (Err stop.NoMemory)) (sym out.1) (come_memory i repair_limits names 1 2 before mid (text ∷ []) (omega arith) (omega arith) come)),
    same,
  )

  -- the first was not
  pub stream_first : (names : List (List ℕ)) (name : List ℕ) (before now : I) (out : O) (why : Stop) → i.picks before ≤ max_count
      → names ≡ name ∷ drop 1 names → IsRead i file_limit 0 name before now (Err why) → Streams i o names before now out out (Err why)
  stream_first names name before now out why few here read =
      (stop_file i repair_limits names 0 2 before before now [] name why (omega arith) (come_none i repair_limits names before few) here read, refl)

  -- it was
  pub stream_on : (names : List (List ℕ)) (name text : List ℕ) (before now : I) → i.picks before ≤ max_count
      → names ≡ name ∷ drop 1 names → IsRead i file_limit 0 name before now (Ok text) → HasCome i repair_limits names 1 before now (Ok (text ∷ []))
  stream_on names name text before now few here read = come_file i repair_limits names 0 before before now [] name text (come_none i repair_limits names before few) here read
