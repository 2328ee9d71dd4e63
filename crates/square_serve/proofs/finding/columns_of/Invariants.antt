use Rattle.std.proofs.Common.{map}
use Rattle.namespace_id.specs.Shares.{name_in}
use Rattle.square_serve.proofs.Serving.CountLemmas.{AreCounted}
use Rattle.square_serve.proofs.finding.columns_of.Given as goal

-- the namespaces of the columns so far are counted
abbrev pub invariant-loop-col : goal.invariant-loop-col
invariant-loop-col l = AreCounted l.namespace (map name_in l.shares) l.col l.columns.start l.columns.count
