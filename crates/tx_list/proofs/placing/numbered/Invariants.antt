use Rattle.std.proofs.Common.{◌≡◌, ◌++◌, drop, map}
use Rattle.square_layout.proofs.CountLemmas.{lent}
use Rattle.tx_list.specs.Places.{numbered_from}
use Rattle.tx_list.specs.Steps.{numbered}
use Rattle.tx_list.proofs.placing.numbered.Given as goal

-- those that have a number, and those that are left with theirs, are all
abbrev pub invariant-loop-number : goal.invariant-loop-number
invariant-loop-number l = map numbered l.all.items ++ numbered_from l.number (drop l.number (lent l.blobs)) ≡ numbered_from 0 (lent l.blobs)
