use Rattle.std.proofs.Common.{◌≡◌, ◌++◌, replicate}
use Rattle.blob_commit.proofs.cutting.+put_cut.Given as goal

abbrev pub decreases-put_cut : goal.decreases-put_cut
decreases-put_cut l = l.levels

-- the widest sizes so far
abbrev pub invariant-loop : goal.invariant-loop
invariant-loop l = l.sizes ≡ l.fn.sizes ++ replicate l.counter l.width
