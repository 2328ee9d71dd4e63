use Rattle.std.proofs.Common.{◌≡◌, Ok, Err, sym, subst}
use Rattle.da_status.specs.declared.status.Status.{Status}
use Rattle.da_words.specs.declared.command.Command.{Command}
use Rattle.da_words.specs.Words.{words_of, call_of, HasFiles}
use Rattle.da_cli.specs.Run.{IsEarly}
use Rattle.da_cli.specs.Ran.{Ran}
use Rattle.da_cli.proofs.StreamedRanLemmas.{ran_streamed, early_streamed}
use Rattle.da_cli.proofs.running.answer_streamed.Goals as goal

-- both files were read to their ends
pub returns-in-Ok-clause-ran : goal.returns-in-Ok-clause-ran
returns-in-Ok-clause-ran g c =
    ran_streamed g.I.Inputs g.O.Sink c.args.words.now c.args.call c.args.inputs.now c.stream.new.inputs c.args.out.now c.stream.new.out (Ok c.in-Ok.status) c.requires.call c.requires.few (subst (λ (command : Command). HasFiles command c.args.call.files) c.requires.repair c.requires.own) c.requires.repair c.in-Ok.ensures

pub returns-in-Ok-clause-late : goal.returns-in-Ok-clause-late
returns-in-Ok-clause-late g c =
    early_streamed g.I.Inputs g.O.Sink c.args.words.now c.args.call c.args.inputs.now c.stream.new.inputs c.args.out.now c.stream.new.out (Ok c.in-Ok.status) c.requires.call c.in-Ok.ensures

-- they were not
pub returns-in-Err-clause-ran : goal.returns-in-Err-clause-ran
returns-in-Err-clause-ran g c =
    subst (λ (status : Status). Ran g.I.Inputs g.O.Sink (words_of c.args.words.now) c.args.inputs.now c.stream.new.inputs c.args.out.now c.stream.new.out status) (sym c.status_of.ensures)
    (ran_streamed g.I.Inputs g.O.Sink c.args.words.now c.args.call c.args.inputs.now c.stream.new.inputs c.args.out.now c.stream.new.out (Err c.in-Err.stop) c.requires.call c.requires.few (subst (λ (command : Command). HasFiles command c.args.call.files) c.requires.repair c.requires.own) c.requires.repair c.in-Err.ensures)

pub returns-in-Err-clause-late : goal.returns-in-Err-clause-late
returns-in-Err-clause-late g c =
    subst (λ (status : Status). IsEarly (call_of (words_of c.args.words.now)) (c.stream.new.out ≡ c.args.out.now) status) (sym c.status_of.ensures)
    (early_streamed g.I.Inputs g.O.Sink c.args.words.now c.args.call c.args.inputs.now c.stream.new.inputs c.args.out.now c.stream.new.out (Err c.in-Err.stop) c.requires.call c.in-Err.ensures)
