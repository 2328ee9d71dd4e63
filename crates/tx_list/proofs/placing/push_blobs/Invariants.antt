use Rattle.std.proofs.Common.{◌≡◌, ◌++◌, take}
use Rattle.square_layout.proofs.CountLemmas.{lent}
use Rattle.tx_list.proofs.placing.push_blobs.Given as goal

-- those so far are there
abbrev pub invariant-loop-blob : goal.invariant-loop-blob
invariant-loop-blob l = lent l.all.items ≡ lent l.fn.all.items ++ take l.blob-index l.blobs
