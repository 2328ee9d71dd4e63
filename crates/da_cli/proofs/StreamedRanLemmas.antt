-- How a run ended whose second file was a stream.
use Rattle.std.proofs.Common.{◌≡◌, ℕ, ◌+◌, ◌-◌, ◌<◌, List, String, Global, Option, length, take, drop, Some, Result, Ok, Err, sym, ap, subst}
use Rattle.da_io.specs.declared.inputs.Inputs as inputs
use Rattle.da_io.specs.declared.sink.Sink as sink
use Rattle.da_cli.specs.declared.files.Stop.{Stop}
use Rattle.da_status.specs.declared.status.Status.{Status}
use Rattle.da_words.specs.declared.words.Call.{Call}
use Rattle.da_words.specs.declared.command.Command.{Command}
use Rattle.da_words.specs.declared.command.Command.TheVariants.{Repair}
use Rattle.da_cli.specs.Limits.{repair_limits, limits_for}
use Rattle.da_words.specs.Words.{words_of, call_of, last_file}
use Rattle.da_status.specs.Outcome.{Ends}
use Rattle.da_commands.specs.Meaning.{Meaning}
use Rattle.da_cli.specs.Run.{status_of, IsEarly}
use Rattle.da_cli.specs.Ran.{Ran}
use Rattle.da_cli.specs.Streamed.{HasReadFiles, HasCome}
use Rattle.da_cli.specs.StreamedRepair.{Streams}
use Rattle.da_cli.proofs.RunLemmas.{repair_names}
use Rattle.da_cli.proofs.RanLemmas.{ran_over, ran_up_to}

-- the status of files that were read, or that of why they were not
abbrev pub status_in : Result Status Stop → Status
status_in (Ok status) = status
status_in (Err why) = status_of why

module _ {I O : Type 0} (i : inputs.Ghosts I) (o : sink.Ghosts O) where
  -- the files of the words behind a command's own, of which there are two
  gathered_two : (words : List (String Global)) (n : ℕ) (before now : I) (r : Result (List (List ℕ)) Stop) → n ≡ 2 → HasCome i repair_limits (words_of (take 2 (drop 1 words))) 2 before now r
      → HasReadFiles i repair_limits (words_of (take (1 + n - 1) (drop 1 words))) n before now r
  gathered_two words n before now r two come =
      subst (λ (k : ℕ). HasReadFiles i repair_limits (words_of (take (1 + k - 1) (drop 1 words))) k before now r) (sym two) come.gathered

  -- repair ended so
  pub ran_streamed : (words : List (String Global)) (call : Call) (before now : I) (old new : O) (r : Result Status Stop)
      → Some call ≡ call_of (words_of words) → last_file call < length words → call.files ≡ 2 → call.command ≡ Repair
      → Streams i o (words_of (take 2 (drop 1 words))) before now old new r → Ran i o (words_of words) before now old new (status_in r)
  ran_streamed words call before now old new (Ok status) e few two is s =
      ran_over i o words call repair_limits _ s.0 before now old new status e few (ap limits_for (sym is)) (repair_names words call e is) (gathered_two words call.files before now (Ok s.0) two s.1)
      (subst (λ (c : Command). Ends (Meaning c s.0) (o.taken old) (o.taken new) (o.faults old) (o.faults new) (new ≡ old) status) (sym is) s.2.ends)
  ran_streamed words call before now old new (Err why) e few two is s =
      subst (λ (x : O). Ran i o (words_of words) before now old x (status_of why)) (sym s.1)
      (ran_up_to i o words call repair_limits _ before now old why e few (ap limits_for (sym is)) (repair_names words call e is) (gathered_two words call.files before now (Err why) two s.0))

  -- where memory ran out, the output is as it was
  pub early_streamed : (words : List (String Global)) (call : Call) (before now : I) (old new : O) (r : Result Status Stop) → Some call ≡ call_of (words_of words)
      → Streams i o (words_of (take 2 (drop 1 words))) before now old new r → IsEarly (call_of (words_of words)) (new ≡ old) (status_in r)
  early_streamed words call before now old new (Ok status) e s = subst (λ (c : Option Call). IsEarly c (new ≡ old) status) e (λ first is. s.2.late is)
  early_streamed words call before now old new (Err why) e s = subst (λ (c : Option Call). IsEarly c (new ≡ old) (status_of why)) e (λ first is. s.1)
