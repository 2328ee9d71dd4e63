use Rattle.std.proofs.Common.{◌≡◌, List, Vec, Global, Option, ℕ, sym, ap, subst}
use Rattle.da_words.specs.declared.words.Call.{Call}
use Rattle.da_cli.specs.Run.{IsEarly}
use Rattle.da_status.specs.declared.status.Status.{Status}
use Rattle.da_cli.specs.Limits.{file_limits}
use Rattle.da_words.specs.Words.{words_of}
use Rattle.da_files.specs.Contents.{contents_of}
use Rattle.da_commands.specs.Meaning.{Meaning}
use Rattle.da_cli.specs.Ran.{Ran}
use Rattle.da_status.proofs.EndLemmas.{ends_as}
use Rattle.da_cli.proofs.RunLemmas.{kept_limits, names_by}
use Rattle.da_cli.proofs.RanLemmas.{ran_over, ran_up_to}
use Rattle.da_cli.proofs.running.answer_gathered.Goals as goal

-- the files were read, and the command ended so
pub returns-in-Ok-clause-ran : goal.returns-in-Ok-clause-ran
returns-in-Ok-clause-ran g c =
    let read = c.in-Ok.ensures in
    let ends = ends_as _ (Meaning c.args.call.command (contents_of c.in-Ok.contents.items)) _ _ _ _ _ _
    (ap (λ (files : List (Vec ℕ Global)). Meaning c.args.call.command (contents_of files)) c.deref.ensures.value) c.execute.ensures.ends in
    ran_over g.I.Inputs g.O.Sink c.args.words.now c.args.call file_limits _ (contents_of c.in-Ok.contents.items) c.args.inputs.now c.gather.new.inputs _ _ c.execute.result
    c.requires.call c.requires.files (kept_limits c.args.call.command c.requires.gathered)
    (names_by c.args.words.now c.file_words.result.now c.args.call c.plain_count-plain.result c.plain_count-plain.ensures c.file_words.ensures.value c.requires.call)
    (record { contents = read.contents; stop = tt; faults = read.faults; within = read.within; last = read.last; picks = read.picks; idle = read.idle; files = read.files }) ends

-- the files were not read whole
pub returns-in-Err-clause-ran : goal.returns-in-Err-clause-ran
returns-in-Err-clause-ran g c =
    let read = c.in-Err.ensures in
    subst (λ (status : Status). Ran g.I.Inputs g.O.Sink (words_of c.args.words.now) c.args.inputs.now c.gather.new.inputs c.args.out.now c.args.out.now status)
    (sym c.status_of.ensures)
    (ran_up_to g.I.Inputs g.O.Sink c.args.words.now c.args.call file_limits _ c.args.inputs.now c.gather.new.inputs c.args.out.now c.in-Err.stop
    c.requires.call c.requires.files (kept_limits c.args.call.command c.requires.gathered)
    (names_by c.args.words.now c.file_words.result.now c.args.call c.plain_count-plain.result c.plain_count-plain.ensures c.file_words.ensures.value c.requires.call)
    (record { contents = read.contents; stop = read.stop; faults = read.faults; within = read.within; last = tt; picks = read.picks; idle = read.idle; files = read.files }))

pub returns-in-Ok-clause-late : goal.returns-in-Ok-clause-late
returns-in-Ok-clause-late g c =
    subst (λ (call : Option Call). IsEarly call (c.execute.new.out ≡ c.args.out.now) c.execute.result) c.requires.call
    (λ first e. c.execute.ensures.late first e)
