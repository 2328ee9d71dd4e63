use Rattle.one_answer.proofs.PlaceLemmas.{one_in_row}
use Rattle.one_answer.proofs.namespaces.find_twice.Goals as goal

-- the columns of a row hold what is found
pub returns-clause-answer : goal.returns-clause-answer
returns-clause-answer c =
    one_in_row c.args.one.now c.args.other.now c.args.namespace.now c.args.row c.find-first.result c.find-second.result c.requires.same
    c.find-first.ensures.found c.find-second.ensures.found c.find-first.ensures.columns c.find-second.ensures.columns
