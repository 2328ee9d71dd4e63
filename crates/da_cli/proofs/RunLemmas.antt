-- A whole run: what words, files, output and status belong together.
use Rattle.std.proofs.Common.{◌≡◌, ℕ, Bool, true, false, ◌+◌, ◌-◌, ◌<◌, List, [], length, take, drop, None, Some, Err, String, Global, refl, inl, sym, ap, ap₂, ◌∙◌, subst, arith, ◌↔◌}
use Rattle.std.specs.Prelude.{MatchOption}
use Rattle.std.specs.declared.option.Option.{Option}
use Rattle.std.specs.String.{string_bytes}
use Rattle.std.proofs.lemmas.Grind.{common_steps}
use Rattle.std.proofs.KnownBytes.{Appends-nil}
use Rattle.std.proofs.lemmas.List.{length-map}
use Rattle.da_io.specs.Files.{Files}
use Rattle.da_words.specs.declared.command.Command.{Command}
use Rattle.da_words.specs.declared.command.Command.TheVariants.{Repair}
use Rattle.da_words.specs.declared.words.Call.{Call}
use Rattle.da_status.specs.declared.status.Status.{Status}
use Rattle.da_status.specs.declared.status.Status.TheVariants.{BadInput, TooLong}
use Rattle.da_status.specs.Statuses.{Kind, usage, fault, excess, form, request, memory, write, output, status_kind, row_of, May, DecidesKind}
use Rattle.da_words.specs.Words.{words_of, call_of, words_before, last_file, file_words, plain_count, files_named, call_names, files_of_call, files_of_words}
use Rattle.da_cli.specs.Limits.{file_limits, limits_for, limits_in, limits_of}
use Rattle.da_cli.specs.Gathered.{Gathered, whole, long, absent, gathered, GathersFiles}
use Rattle.da_cli.specs.declared.files.Stop.{Stop}
use Rattle.da_cli.specs.declared.files.Stop.TheVariants as stop
use Rattle.da_status.specs.Outcome.{Relation, Refuses, Outputs, LeavesBy, Leaves}
use Rattle.da_status.specs.Judging.{first_bad, Judged}
use Rattle.da_commands.specs.Meaning.{judged_of, AnswerOf, Meaning}
use Rattle.da_cli.specs.Run.{status_of, CommandOf, CallOf, RunOf, LeavesTold, CompletesBy, Completes}
use Rattle.da_cli.specs.Laws.{FormLaw, BadInputLaw, ExcessLaw, AbsentLaw, FailureLaw}
use Rattle.da_cli.proofs.GatheredLemmas.{AllGathered}
use Rattle.da_words.proofs.WordLemmas.{names_behind, named-all, length-named}
use Rattle.da_status.proofs.EndLemmas.{IsAnswer}
use Rattle.da_commands.proofs.MeaningLemmas.{answer_last}

-- a command that keeps its files has one limit for all
pub kept_limits : (command : Command) → (command ≡ Repair → ⊥) → file_limits ≡ limits_for command
kept_limits Repair kept = absurd (kept refl)
kept_limits command kept = refl

-- the relation of words that are a command
run_of_call : (words : List (List ℕ)) (call : Call) (files : Files) (g : Gathered) → call_of words ≡ Some call
    → gathered (limits_for call.command) files (call_names call words) ≡ g → RunOf files words ≡ CommandOf call.command g
run_of_call words call files g e read =
    ap (λ (o : Option Call). CallOf o files words) e ∙ ap (CommandOf call.command) read

-- a command over files that were read whole
pub command_told : (told : Option Files) (words : List (List ℕ)) (call : Call) (contents : List (List ℕ)) (old new : Option (List ℕ)) (status : Status)
    → call_of words ≡ Some call → AllGathered (limits_of words) told (files_of_words words) contents → Leaves (Meaning call.command contents) old new status
    → LeavesTold told words old new status
command_told None words call contents old new status e all leaves = tt
command_told (Some files) words call contents old new status e all leaves =
    let are_named : files_of_words words ≡ call_names call words = ap (λ (o : Option Call). files_of_call o words) e in
    let limits : limits_of words ≡ limits_for call.command = ap limits_in e in
    let same : RunOf files words ≡ Meaning call.command contents =
    run_of_call words call files (whole contents) e (ap₂ (λ (l : ℕ → ℕ) (names : List (List ℕ)). gathered l files names) (sym limits) (sym are_named) ∙ all) in
    subst (λ (M : Relation). Leaves M old new status) (sym same) leaves

-- files that were not read whole
pub stopped_told : (told : Option Files) (words : List (List ℕ)) (call : Call) (count : ℕ) (old : Option (List ℕ)) (stop : Stop)
    → call_of words ≡ Some call → GathersFiles (limits_of words) told (files_of_words words) count (Err stop) → LeavesTold told words old old (status_of stop)
stopped_told None words call count old stop e read = tt
stopped_told (Some files) words call count old (stop.PickFault i) e read = tt
stopped_told (Some files) words call count old (stop.ReadFault i) e read = tt
stopped_told (Some files) words call count old stop.NoMemory e read = ([], Appends-nil old, inl refl)
stopped_told (Some files) words call count old (stop.TooLong i) e read =
    let are_named : files_of_words words ≡ call_names call words = ap (λ (o : Option Call). files_of_call o words) e in
    let limits : limits_of words ≡ limits_for call.command = ap limits_in e in
    let same : RunOf files words ≡ Refuses (TooLong i) =
    run_of_call words call files (long i) e (ap₂ (λ (l : ℕ → ℕ) (names : List (List ℕ)). gathered l files names) (sym limits) (sym are_named) ∙ read) in
    subst (λ (M : Relation). Outputs M old old (TooLong i)) (sym same) ([], (refl, refl), Appends-nil old)

-- the names of a command's files
names_same : (words : List (List ℕ)) (call : Call) → Some call ≡ call_of words → call_names call words ≡ files_of_words words
names_same words call e = ap (λ (o : Option Call). files_of_call o words) e

-- those that were gathered by as many plain words as the command has
pub names_by : (words some : List (String Global)) (call : Call) (plain : ℕ) → plain ≡ plain_count call.command call.files
    → words_of some ≡ file_words call.command call.files (words_of words) → Some call ≡ call_of (words_of words)
    → files_named plain (words_of some) ≡ files_of_words (words_of words)
names_by words some call plain is same e = ap₂ files_named is same ∙ names_same (words_of words) call e

-- those of repair are words as they stand
pub repair_names : (words : List (String Global)) (call : Call) → Some call ≡ call_of (words_of words) → call.command ≡ Repair
    → words_of (take (1 + call.files - 1) (drop 1 words)) ≡ files_of_words (words_of words)
repair_names words call e is =
    names_behind 1 call.files words ∙ sym (named-all call.files (drop 1 (words_of words)))
    ∙ ap (λ (command : Command). files_named (plain_count command call.files) (file_words command call.files (words_of words))) (sym is)
    ∙ names_same (words_of words) call e

-- as many words as are asked for
some_taken : {A : Type 0} (b n : ℕ) (xs : List A) → b + n - 1 < length xs → length (take n (drop b xs)) ≡ n
some_taken b n xs few = grind (arith, common_steps)

-- as many names as a command has file words
pub files_count : (words : List (String Global)) (call : Call) → Some call ≡ call_of (words_of words) → last_file call < length words
    → call.files ≡ length (files_of_words (words_of words))
files_count words call e few =
    let within : last_file call < length (words_of words) = omega (arith, few, length-map words string_bytes) in
    sym (sym (ap length (names_same (words_of words) call e))
    ∙ length-named (plain_count call.command call.files) (file_words call.command call.files (words_of words))
    ∙ some_taken (words_before call.command) call.files (words_of words) within)

-- the meaning over judged files
judged_is : (judged : List (Option ℕ)) (A : Relation) (o : Option (ℕ × ℕ)) → first_bad 0 judged ≡ o
    → Judged judged A ≡ (λ w status. MatchOption o (A w status) (λ bad. Refuses (BadInput bad.0 bad.1) w status))
judged_is judged A o e = λ i w status. MatchOption (e i) (A w status) (λ bad. Refuses (BadInput bad.0 bad.1) w status)

-- one relation as another
as_one : (M N : Relation) (w : List ℕ) (status : Status) → M ≡ N → M w status ↔ N w status
as_one M N w status e = (
  λ h. subst (λ (R : Relation). R w status) e h,
  λ h. subst (λ (R : Relation). R w status) (sym e) h,
)

-- over files in their forms the words' relation is the command's answer
run_in_form : (files : Files) (words : List (List ℕ)) (call : Call) (contents : List (List ℕ)) → call_of words ≡ Some call
    → gathered (limits_for call.command) files (call_names call words) ≡ whole contents → first_bad 0 (judged_of call.command contents) ≡ None
    → RunOf files words ≡ AnswerOf call.command contents
run_in_form files words call contents e read fine =
    run_of_call words call files (whole contents) e read ∙ judged_is (judged_of call.command contents) (AnswerOf call.command contents) None fine

-- over files in their forms exactly the command's answer belongs to the run
pub form_law : FormLaw
form_law files words call contents w status e read fine =
    as_one (RunOf files words) (AnswerOf call.command contents) w status (run_in_form files words call contents e read fine)

-- where a file isn't in its form exactly `BadInput` belongs to the run
pub bad_input_law : BadInputLaw
bad_input_law files words call contents i at w status e read bad =
    as_one (RunOf files words) (Refuses (BadInput i at)) w status
    (run_of_call words call files (whole contents) e read ∙ judged_is (judged_of call.command contents) (AnswerOf call.command contents) (Some (i, at)) bad)

-- where a file is too long exactly `TooLong` belongs to the run
pub excess_law : ExcessLaw
excess_law files words call i w status e read =
    as_one (RunOf files words) (Refuses (TooLong i)) w status (run_of_call words call files (long i) e read)

-- where a file isn't there nothing belongs to the run
pub absent_law : AbsentLaw
absent_law files words call i w status e read run =
    subst (λ (R : Relation). R w status) (run_of_call words call files (absent i) e read) run

-- an answer is decided by the words and files
decided_answer : (in_form : Bool) (Decided : Type 0) → May in_form Decided → Decided
decided_answer true Decided h = h
decided_answer false Decided h = absurd h

-- the kind of a status is decided
decided : (status : Status) (k : Kind) → status_kind status ≡ k → DecidesKind k → DecidesKind (status_kind status)
decided status k e h = subst DecidesKind (sym e) h

-- what a command over judged files comes to is decided by words and files
by_judged : (o : Option (ℕ × ℕ)) (command : Command) (files : List (List ℕ)) (w : List ℕ) (status : Status)
    → MatchOption o (AnswerOf command files w status) (λ bad. Refuses (BadInput bad.0 bad.1) w status) → DecidesKind (status_kind status)
by_judged None command files w status h = decided_answer (row_of (status_kind status)).in_form _ (answer_last command files w status h)
by_judged (Some bad) command files w status h = decided status form (ap status_kind h.1) tt

-- what a command over gathered files comes to is decided by words and files
by_gathered : (g : Gathered) (command : Command) (w : List ℕ) (status : Status) → CommandOf command g w status → DecidesKind (status_kind status)
by_gathered (whole contents) command w status h = by_judged (first_bad 0 (judged_of command contents)) command contents w status h
by_gathered (long i) command w status h = decided status excess (ap status_kind h.1) tt
by_gathered (absent i) command w status h = absurd h

-- what words come to is decided by words and files
by_call : (o : Option Call) (files : Files) (words : List (List ℕ)) (w : List ℕ) (status : Status) → CallOf o files words w status → DecidesKind (status_kind status)
by_call None files words w status h = decided status usage (ap status_kind h.1) tt
by_call (Some call) files words w status h = by_gathered (gathered (limits_for call.command) files (call_names call words)) call.command w status h

-- neither a failure nor out of memory belongs to a run
pub failure_law : FailureLaw
failure_law files words w status h = by_call (call_of words) files words w status h

-- what is left of a command's answer is what a run over files in their forms comes to
completes_by : (k : Kind) (M : Relation) (old new : Option (List ℕ)) (status : Status) → ((w : List ℕ) → M w status → IsAnswer k)
    → LeavesBy k M old new status → CompletesBy k M old new status
completes_by usage M old new status last h = absurd (last h.0 h.1)
completes_by fault M old new status last h = tt
completes_by excess M old new status last h = absurd (last h.0 h.1)
completes_by form M old new status last h = absurd (last h.0 h.1)
completes_by request M old new status last h = h
completes_by memory M old new status last h = h
completes_by write M old new status last h = h
completes_by output M old new status last h = h

-- over files in their forms a run completes
pub completes : (told : Option Files) (words : List (List ℕ)) (old new : Option (List ℕ)) (status : Status)
    → LeavesTold told words old new status → Completes told words old new status
completes None words old new status h = tt
completes (Some files) words old new status h = λ call contents e read fine.
    let M = AnswerOf call.command contents in
    completes_by (status_kind status) M old new status (λ w. answer_last call.command contents w status)
    (subst (λ (R : Relation). Leaves R old new status) (run_in_form files words call contents e read fine) h)
