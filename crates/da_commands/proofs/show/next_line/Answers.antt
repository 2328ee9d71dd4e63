use Rattle.std.proofs.Common.{◌∙◌, ◌++◌, ℕ, List, ap}
use Rattle.da_wire.specs.Values.{values_of}
use Rattle.da_commands.specs.Show.{all_kinds, shown_as, shown_line}
use Rattle.da_commands.proofs.Answering.ShowLemmas.{brief_front, brief_some, next_shown, shown-first, shown_found}
use Rattle.da_commands.proofs.show.next_line.Goals as goal

-- memory runs out in place of a frame
pub returns-in_default-clause-memory : goal.returns-in_default-clause-memory
returns-in_default-clause-memory c =
    shown_found (shown_as c.args.form) all_kinds c.args.bytes.now (brief_some c.args.bytes.now c.in_default.ensures.memory)

-- memory runs out for the line of a frame
pub returns-in_default-put-clause-memory : goal.returns-in_default-put-clause-memory
returns-in_default-put-clause-memory c =
    let bytes = c.args.bytes.now in
    let first = brief_front bytes c.in-Ok.found c.in-Some.brief c.in-Some.more c.in-Some.is c.in-Ok.ensures.after c.in-Ok.ensures.shorter in
    shown-first (shown_as c.args.form) (values_of all_kinds bytes) (values_of all_kinds c.in-Some.more.now) first.0 first.1.1

-- the text was empty, and the line was put there
pub returns-clause-line : goal.returns-clause-line
returns-clause-line c =
    let shown = shown_as c.args.form in
    let bytes = c.args.bytes.now in
    let first = brief_front bytes c.in-Ok.found c.in-Some.brief c.in-Some.more c.in-Some.is c.in-Ok.ensures.after c.in-Ok.ensures.shorter in
    next_shown shown (values_of all_kinds bytes) (values_of all_kinds c.in-Some.more.now) first.0 _ first.1.1
    (c.in-Ok-put.ensures first.0 first.1.0 ∙ ap (λ (l : List ℕ). l ++ shown_line shown first.0) c.clear.ensures.bytes)
