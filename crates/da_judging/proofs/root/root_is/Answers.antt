use Rattle.da_judging.specs.Root.{Ties}
use Rattle.da_files.proofs.FormLemmas.{once_single}
use Rattle.da_judging.proofs.root.root_is.Goals as goal

-- the line is that of the header's refusal
pub returns-in-Ok : goal.returns-in-Ok
returns-in-Ok g c =
    once_single (Ties c.args.root.now) _ _ _ _ _ _ _ _ c.in-Ok.ensures.header (rw c.root_refusal.ensures at c.give_line.ensures)
