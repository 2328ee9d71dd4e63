-- How a run ended, from how its files were read and how its command ended.
use Rattle.std.proofs.Common.{◌≡◌, ◌∙◌, ℕ, zero, suc, ◌-◌, ◌<◌, ◌≤◌, List, String, Global, length, None, Some, Result, Ok, Err, refl, sym, ap, subst, arith, inl, inr, ◌⊎◌}
use Rattle.std.specs.declared.option.Option.{Option}
use Rattle.da_io.specs.Faults.{count_on}
use Rattle.da_io.specs.Files.{Files}
use Rattle.da_io.specs.declared.inputs.LastCall.{LastCall}
use Rattle.da_io.specs.declared.inputs.Inputs as inputs
use Rattle.da_io.specs.declared.sink.Sink as sink
use Rattle.da_cli.specs.declared.files.Stop.{Stop}
use Rattle.da_cli.specs.declared.files.Stop.TheVariants as stop
use Rattle.da_status.specs.declared.status.Status.{Status}
use Rattle.da_status.specs.declared.status.Status.TheVariants.{Usage, PickFault, ReadFault, TooLong}
use Rattle.da_words.specs.declared.words.Call.{Call}
use Rattle.da_cli.specs.Limits.{limits_for, limits_in, limits_of}
use Rattle.da_words.specs.Words.{words_of, call_of, last_file, files_of_words}
use Rattle.da_status.specs.Statuses.{status_kind, Reading, unread, failed, exceeded, begun, finished, row_of, counted_reading, input_count, output_count}
use Rattle.da_cli.specs.Gathered.{IsWord, IsLastOf, PicksIn, StopsIn, IsWithinLimit, WithinLimits, count_after}
use Rattle.da_cli.specs.Causes.{FaultCause, GivenReading, ExcessCause, IfFinished, LastBy, PicksReading, PickCount}
use Rattle.da_status.specs.Outcome.{Untouched, IsOwnReading, IsOwnBy, Ends}
use Rattle.da_commands.specs.Meaning.{Meaning}
use Rattle.da_cli.specs.Run.{status_of}
use Rattle.da_cli.specs.Ran.{Ran}
use Rattle.da_cli.specs.Streamed.{HasReadFiles}
use Rattle.da_cli.proofs.GatheredLemmas.{all_gathered}
use Rattle.da_cli.proofs.RunLemmas.{command_told, stopped_told, files_count}

-- ---- a command's own status, which comes after all files were read

-- a command's status names no failed pick or read
fault_own : (limits : ℕ → ℕ) (told : Option Files) (names : List (List ℕ)) (picked : Option (List ℕ)) (last : LastCall) (status : Status) → IsOwnBy (status_kind status)
    → FaultCause limits told names picked last status
fault_own limits told names picked last (PickFault i) own = absurd own
fault_own limits told names picked last (ReadFault i) own = absurd own
fault_own limits told names picked last status own = tt

-- a fact of the last file, or there are no files
some_or_idle : (n : ℕ) (Fact Idle : Type 0) → (0 < n → Fact) → (n ≡ 0 → Idle) → Idle ⊎ Fact
some_or_idle zero Fact Idle fact idle = inl (idle refl)
some_or_idle (suc n) Fact Idle fact idle = inr (fact (omega arith))

-- over files that were read the file picked last gave no more than its limit
given_own : (limits : ℕ → ℕ) (r : Reading) (names : List (List ℕ)) (picked : Option (List ℕ)) (given : ℕ) (Idle : Type 0) → IsOwnReading r
    → (0 < length names → IsWord names (length names - 1) picked) → (0 < length names → given ≤ limits (length names - 1))
    → (length names ≡ 0 → Idle) → GivenReading limits r names picked given Idle
given_own limits unread names picked given Idle own word few idle = tt
given_own limits failed names picked given Idle own word few idle = absurd own
given_own limits exceeded names picked given Idle own word few idle = tt
given_own limits begun names picked given Idle own word few idle =
    some_or_idle (length names) (IsWithinLimit limits names picked given) Idle (λ some. (length names - 1, word some, few some)) idle
given_own limits finished names picked given Idle own word few idle = few

-- a command's status names no file that is too long
excess_own : (limits : ℕ → ℕ) (told : Option Files) (names : List (List ℕ)) (picked : Option (List ℕ)) (given : ℕ) (Idle : Type 0) (status : Status) → IsOwnBy (status_kind status)
    → (0 < length names → IsWord names (length names - 1) picked) → (0 < length names → given ≤ limits (length names - 1)) → (length names ≡ 0 → Idle)
    → ExcessCause limits told names picked given Idle status
excess_own limits told names picked given Idle (TooLong i) own word few idle = absurd own
excess_own limits told names picked given Idle (PickFault i) own word few idle = absurd own
excess_own limits told names picked given Idle (ReadFault i) own word few idle = absurd own
excess_own limits told names picked given Idle status own word few idle = given_own limits (row_of (status_kind status)).reading names picked given Idle own word few idle

-- no failure of the inputs is counted
input_own : (r : Reading) (before : ℕ) → IsOwnReading r → before ≡ counted_reading r before
input_own unread before own = refl
input_own failed before own = absurd own
input_own exceeded before own = refl
input_own begun before own = refl
input_own finished before own = refl

-- each file was picked once
picks_by : (r : Reading) (count before now : ℕ) → IsOwnReading r → now ≡ count_on before count → PicksReading r count before now
picks_by unread count before now own e = absurd own
picks_by failed count before now own e = absurd own
picks_by exceeded count before now own e = absurd own
picks_by begun count before now own e = (count, omega arith, e)
picks_by finished count before now own e = e

-- with a command's status each file was picked once
picks_own : (count before now : ℕ) (status : Status) → IsOwnBy (status_kind status) → now ≡ count_on before count → PickCount count before now status
picks_own count before now (PickFault i) own e = absurd own
picks_own count before now (ReadFault i) own e = absurd own
picks_own count before now (TooLong i) own e = absurd own
picks_own count before now status own e = picks_by (row_of (status_kind status)).reading count before now own e

-- the last call was the end of the last file
last_own : (r : Reading) (Last : Type 0) → Last → IfFinished r Last
last_own unread Last h = tt
last_own failed Last h = tt
last_own exceeded Last h = tt
last_own begun Last h = tt
last_own finished Last h = h

-- ---- files that were not read whole

-- files that were not read whole are no matter of words
stop_usage : (stop : Stop) → status_of stop ≡ Usage → ⊥
stop_usage (stop.PickFault i) e = cc
stop_usage (stop.ReadFault i) e = cc
stop_usage (stop.TooLong i) e = cc
stop_usage stop.NoMemory e = cc

-- files that were not read whole leave the output as it was
stop_untouched : (Same : Type 0) (stop : Stop) → Same → Untouched Same (status_of stop)
stop_untouched Same (stop.PickFault i) same = same
stop_untouched Same (stop.ReadFault i) same = same
stop_untouched Same (stop.TooLong i) same = same
stop_untouched Same stop.NoMemory same = tt

-- the failed pick or read that stopped the reading is the cause of the status
stop_fault : (limits : ℕ → ℕ) (told : Option Files) (names : List (List ℕ)) (picked : Option (List ℕ)) (last : LastCall) (given : ℕ) (stop : Stop)
    → StopsIn limits told names picked last given stop → FaultCause limits told names picked last (status_of stop)
stop_fault limits told names picked last given (stop.PickFault i) why = why
stop_fault limits told names picked last given (stop.ReadFault i) why = why
stop_fault limits told names picked last given (stop.TooLong i) why = tt
stop_fault limits told names picked last given stop.NoMemory why = tt

-- a named file is one of the names
some_names : (names : List (List ℕ)) (i : ℕ) (picked : Option (List ℕ)) → IsWord names i picked → 0 < length names
some_names names i None word = absurd word
some_names names i (Some name) word = omega (arith, word.0)

-- where memory ran out a fact holds of the file picked last, or there are no files
memory_given : (n : ℕ) (Fact Idle : Type 0) → (0 < n → Idle ⊎ Fact) → (n ≡ 0 → Idle) → Idle ⊎ Fact
memory_given zero Fact Idle few idle = inl (idle refl)
memory_given (suc n) Fact Idle few idle = few (omega arith)

-- the file that was too long is the cause of the status; with another one no file was
stop_excess : (limits : ℕ → ℕ) (told : Option Files) (names : List (List ℕ)) (count : ℕ) (picked : Option (List ℕ)) (last : LastCall) (given : ℕ) (Idle : Type 0) (stop : Stop)
    → StopsIn limits told names picked last given stop → (0 < length names → WithinLimits limits names count picked given Idle (Err stop))
    → (length names ≡ 0 → Idle) → ExcessCause limits told names picked given Idle (status_of stop)
stop_excess limits told names count picked last given Idle (stop.PickFault i) why few idle = few (some_names names i picked why.1)
stop_excess limits told names count picked last given Idle (stop.ReadFault i) why few idle = few (some_names names i picked why.1)
stop_excess limits told names count picked last given Idle (stop.TooLong i) why few idle = why
stop_excess limits told names count picked last given Idle stop.NoMemory why few idle = memory_given (length names) (IsWithinLimit limits names picked given) Idle few idle

-- the failure that stopped the reading is counted
stop_inputs : (stop : Stop) (before : ℕ) → count_after {T = List (List ℕ)} before (Err stop) ≡ input_count (status_kind (status_of stop)) before
stop_inputs (stop.PickFault i) before = refl
stop_inputs (stop.ReadFault i) before = refl
stop_inputs (stop.TooLong i) before = refl
stop_inputs stop.NoMemory before = refl

-- reading counts no failure of the output
stop_outputs : (stop : Stop) (before : ℕ) → before ≡ output_count (status_kind (status_of stop)) before
stop_outputs (stop.PickFault i) before = refl
stop_outputs (stop.ReadFault i) before = refl
stop_outputs (stop.TooLong i) before = refl
stop_outputs stop.NoMemory before = refl

-- the files up to the one that stopped the reading were picked
stop_counts : (count before now : ℕ) (stop : Stop) → PicksIn {T = List (List ℕ)} before now count (Err stop) → PickCount count before now (status_of stop)
stop_counts count before now (stop.PickFault i) h = h
stop_counts count before now (stop.ReadFault i) h = h
stop_counts count before now (stop.TooLong i) h = h
stop_counts count before now stop.NoMemory h = h

-- files that were not read whole say nothing of their last call
stop_last : (Last : Type 0) (stop : Stop) → LastBy (status_kind (status_of stop)) Last
stop_last Last (stop.PickFault i) = tt
stop_last Last (stop.ReadFault i) = tt
stop_last Last (stop.TooLong i) = tt
stop_last Last stop.NoMemory = tt

-- ---- a run

module _ {I O : Type 0} (i : inputs.Ghosts I) (o : sink.Ghosts O) where
  -- a command ended so, over its files, which were read
  ran_command : (words : List (List ℕ)) (call : Call) (contents : List (List ℕ)) (before now : I) (old new : O) (status : Status)
      → call_of words ≡ Some call → call.files ≡ length (files_of_words words) → HasReadFiles i (limits_of words) (files_of_words words) call.files before now (Ok contents)
      → Ends (Meaning call.command contents) (o.taken old) (o.taken new) (o.faults old) (o.faults new) (new ≡ old) status
      → Ran i o words before now old new status
  ran_command words call contents before now old new status e count came ends = record {
    meaning = command_told (i.files before) words call contents (o.taken old) (o.taken new) status e
        (all_gathered (limits_of words) (i.files before) (files_of_words words) call.files contents came.contents (omega (arith, count))) ends.leaves;
    usage = (λ u. absurd (subst (λ (s : Status). IsOwnBy (status_kind s)) u ends.own), λ none. absurd cc);
    idle = (λ none. came.idle (count ∙ ap length none));
    untouched = ends.untouched;
    fault = fault_own (limits_of words) (i.files before) (files_of_words words) (i.picked now) (i.ended now) status ends.own;
    excess = excess_own (limits_of words) (i.files before) (files_of_words words) (i.picked now) (i.given now) (now ≡ before) status ends.own
        (λ some. (subst (λ (n : ℕ). IsLastOf (files_of_words words) n (i.picked now) (i.ended now)) count came.last some).0)
        (λ some. subst (λ (n : ℕ). i.given now ≤ limits_of words (n - 1)) count (came.within (subst (λ (n : ℕ). 0 < n) (sym count) some)))
        (λ none. came.idle (count ∙ none));
    input_faults = came.faults ∙ input_own (row_of (status_kind status)).reading (i.faults before) ends.own;
    output_faults = ends.faults;
    picks = picks_own (length (files_of_words words)) (i.picks before) (i.picks now) status ends.own
        (subst (λ (n : ℕ). i.picks now ≡ count_on (i.picks before) n) count came.picks);
    last = last_own (row_of (status_kind status)).reading _ (subst (λ (n : ℕ). IsLastOf (files_of_words words) n (i.picked now) (i.ended now)) count came.last);
    files = came.files;
    told = ends.told;
  }

  -- a command's files were not read whole
  ran_stopped : (words : List (List ℕ)) (call : Call) (before now : I) (out : O) (stop : Stop)
      → call_of words ≡ Some call → call.files ≡ length (files_of_words words) → HasReadFiles i (limits_of words) (files_of_words words) call.files before now (Err stop)
      → Ran i o words before now out out (status_of stop)
  ran_stopped words call before now out stop e count came = record {
    meaning = stopped_told (i.files before) words call call.files (o.taken out) stop e came.contents;
    usage = (λ u. absurd (stop_usage stop u), λ none. absurd cc);
    idle = (λ none. came.idle (count ∙ ap length none));
    untouched = stop_untouched (out ≡ out) stop refl;
    fault = stop_fault (limits_of words) (i.files before) (files_of_words words) (i.picked now) (i.ended now) (i.given now) stop came.stop;
    excess = stop_excess (limits_of words) (i.files before) (files_of_words words) call.files (i.picked now) (i.ended now) (i.given now) (now ≡ before) stop came.stop
        (λ some. came.within (subst (λ (n : ℕ). 0 < n) (sym count) some)) (λ none. came.idle (count ∙ none));
    input_faults = came.faults ∙ stop_inputs stop (i.faults before);
    output_faults = stop_outputs stop (o.faults out);
    picks = stop_counts (length (files_of_words words)) (i.picks before) (i.picks now) stop
        (subst (λ (n : ℕ). PicksIn {T = List (List ℕ)} (i.picks before) (i.picks now) n (Err stop)) count came.picks);
    last = stop_last _ stop;
    files = came.files;
    told = (λ s. s, λ s. s);
  }

  -- files that were read by a command's names, with its limits
  of_names : (words : List (List ℕ)) (call : Call) (limits : ℕ → ℕ) (names : List (List ℕ)) (before now : I) (r : Result (List (List ℕ)) Stop)
      → Some call ≡ call_of words → limits ≡ limits_for call.command → names ≡ files_of_words words
      → HasReadFiles i limits names call.files before now r → HasReadFiles i (limits_of words) (files_of_words words) call.files before now r
  of_names words call limits names before now r e own same came =
      subst (λ (l : ℕ → ℕ). HasReadFiles i l (files_of_words words) call.files before now r) (own ∙ ap limits_in e)
      (subst (λ (n : List (List ℕ)). HasReadFiles i limits n call.files before now r) same came)

  -- a command ended so, over the files that were read by its names
  pub ran_over : (words : List (String Global)) (call : Call) (limits : ℕ → ℕ) (names contents : List (List ℕ)) (before now : I) (old new : O) (status : Status)
      → Some call ≡ call_of (words_of words) → last_file call < length words → limits ≡ limits_for call.command → names ≡ files_of_words (words_of words)
      → HasReadFiles i limits names call.files before now (Ok contents)
      → Ends (Meaning call.command contents) (o.taken old) (o.taken new) (o.faults old) (o.faults new) (new ≡ old) status
      → Ran i o (words_of words) before now old new status
  ran_over words call limits names contents before now old new status e few own same came ends =
      ran_command (words_of words) call contents before now old new status (sym e) (files_count words call e few)
      (of_names (words_of words) call limits names before now (Ok contents) e own same came) ends

  -- the files that a command's names name were not read whole
  pub ran_up_to : (words : List (String Global)) (call : Call) (limits : ℕ → ℕ) (names : List (List ℕ)) (before now : I) (out : O) (stop : Stop)
      → Some call ≡ call_of (words_of words) → last_file call < length words → limits ≡ limits_for call.command → names ≡ files_of_words (words_of words)
      → HasReadFiles i limits names call.files before now (Err stop)
      → Ran i o (words_of words) before now out out (status_of stop)
  ran_up_to words call limits names before now out stop e few own same came =
      ran_stopped (words_of words) call before now out stop (sym e) (files_count words call e few)
      (of_names (words_of words) call limits names before now (Err stop) e own same came)
