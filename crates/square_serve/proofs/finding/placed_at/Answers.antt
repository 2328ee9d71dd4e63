use Rattle.square_serve.proofs.FindingLemmas.{absence_found, range_found}
use Rattle.square_serve.proofs.finding.placed_at.Goals as goal

-- where there are none, the absence
pub returns-then-count-eq0-clause-found : goal.returns-then-count-eq0-clause-found
returns-then-count-eq0-clause-found c = λ k row grid front is.
    absence_found k row c.args.columns.start c.args.columns.count grid front c.args.tree.now is c.make_absent-absent.result.leaf c.make_absent-absent.result.nodes
    c.if-count-eq0.true c.make_absent-absent.ensures.leaf c.make_absent-absent.ensures.nodes

-- else the range
pub returns-clause-found : goal.returns-clause-found
returns-clause-found c = λ k row grid front is.
    range_found k row c.args.columns.start c.args.columns.count grid front c.args.tree.now is c.make_range-nodes.result c.if-count-eq0.false c.make_range-nodes.ensures.nodes
