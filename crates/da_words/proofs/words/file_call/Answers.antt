use Rattle.std.proofs.Common.{◌<◌, length, Option, IfSome, sym, subst}
use Rattle.da_words.specs.Commands.{IsRunnable}
use Rattle.da_words.specs.declared.words.Call.{Call}
use Rattle.da_words.specs.Words.{words_of, file_commands, last_file, HasFiles}
use Rattle.da_words.proofs.WordLemmas.{row_is, row_files, rows_few, rows_behind, rows_run, rows_own}
use Rattle.da_words.proofs.words.file_call.Goals as goal

-- the table of the sources is that of the definition
pub returns-clause-value : goal.returns-clause-value
returns-clause-value c = c.call_in.ensures

-- what holds of each row holds of the call that is found
pub returns-clause-files : goal.returns-clause-files
returns-clause-files c =
    subst (λ (found : Option Call). IfSome found (λ (call : Call). last_file call < length c.args.words.now)) (sym c.call_in.ensures)
    (row_files file_commands c.args.words.now rows_behind)

pub returns-clause-few : goal.returns-clause-few
returns-clause-few c =
    subst (λ (found : Option Call). IfSome found (λ (call : Call). call.files < 16)) (sym c.call_in.ensures)
    (row_is (λ (call : Call). call.files < 16) file_commands (words_of c.args.words.now) rows_few)

pub returns-clause-runnable : goal.returns-clause-runnable
returns-clause-runnable c =
    subst (λ (found : Option Call). IfSome found (λ (call : Call). IsRunnable call.command)) (sym c.call_in.ensures)
    (row_is (λ (call : Call). IsRunnable call.command) file_commands (words_of c.args.words.now) rows_run)

pub returns-clause-own : goal.returns-clause-own
returns-clause-own c =
    subst (λ (found : Option Call). IfSome found (λ (call : Call). HasFiles call.command call.files)) (sym c.call_in.ensures)
    (row_is (λ (call : Call). HasFiles call.command call.files) file_commands (words_of c.args.words.now) rows_own)
