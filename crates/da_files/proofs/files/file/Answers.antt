use Rattle.std.proofs.Common.{arith, ◌∙◌}
use Rattle.da_files.proofs.ContentsLemmas.{file_some, file_none}
use Rattle.da_files.proofs.files.file.Goals as goal

pub returns-in-Some : goal.returns-in-Some
returns-in-Some c =
    c.deref.ensures.value ∙ file_some c.args.files.now c.args.i c.in-Some.file.now c.in-Some.ensures.lookup.3.0 c.in-Some.ensures.lookup.1

pub returns-in-None : goal.returns-in-None
returns-in-None c = file_none c.args.files.now c.args.i (omega (arith, c.in-None.ensures.lookup))
