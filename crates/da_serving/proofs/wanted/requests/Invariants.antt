use Rattle.std.proofs.Common.{◌≡◌, ◌++◌, length}
use Rattle.da_serving.specs.Wanted.{requests_bytes}
use Rattle.da_serving.proofs.wanted.requests.Given as goal

-- the requests for the cells before were appended
abbrev pub invariant-loop-cell : goal.invariant-loop-cell
invariant-loop-cell l = requests_bytes l.axis l.cells ≡ l.text.items ++ requests_bytes l.axis l.rest

-- how many cells are left
abbrev pub decreases-loop-cell : goal.decreases-loop-cell
decreases-loop-cell l = length l.rest
