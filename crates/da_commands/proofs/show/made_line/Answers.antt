use Rattle.da_wire.specs.Values.{values_of}
use Rattle.da_commands.specs.Show.{all_kinds, shown_as}
use Rattle.da_files.proofs.ValueLemmas.{first_is, none_is}
use Rattle.da_commands.proofs.Answering.ShowLemmas.{next_shown, shown-first, shown_found}
use Rattle.da_commands.proofs.show.made_line.Goals as goal

-- memory runs out in place of a frame alone
pub returns-in_default-clause-memory : goal.returns-in_default-clause-memory
returns-in_default-clause-memory c = shown_found (shown_as c.args.form) all_kinds c.args.bytes.now c.in_default.ensures.memory

-- no frame is left
pub returns-in_default-found-clause-line : goal.returns-in_default-found-clause-line
returns-in_default-found-clause-line c =
    none_is all_kinds c.args.bytes.now c.in-Ok.found c.in_default-found.is c.in-Ok.ensures.values

-- memory runs out for the line of a frame
pub returns-in_default-line-clause-memory : goal.returns-in_default-line-clause-memory
returns-in_default-line-clause-memory c =
    let bytes = c.args.bytes.now in
    let first = first_is all_kinds bytes c.in-Ok.found c.in-Some.frame c.in-Some.more c.in-Some.is c.in-Ok.ensures.values in
    shown-first (shown_as c.args.form) (values_of all_kinds bytes) (values_of all_kinds c.in-Some.more.now) c.in-Some.frame first

pub returns-clause-line : goal.returns-clause-line
returns-clause-line c =
    let bytes = c.args.bytes.now in
    let first = first_is all_kinds bytes c.in-Ok.found c.in-Some.frame c.in-Some.more c.in-Some.is c.in-Ok.ensures.values in
    next_shown (shown_as c.args.form) (values_of all_kinds bytes) (values_of all_kinds c.in-Some.more.now) c.in-Some.frame _ first c.in-Ok-line.ensures
