use Rattle.std.proofs.Common.{◌≡◌, ◌≤◌, ◌+◌, ◌++◌, length, map}
use Rattle.std.specs.Vec.{vec_len, vec_capacity}
use Rattle.axis_roots.specs.Proved.{kept_message}
use Rattle.da_net.proofs.copies.claim_of.Given as goal

-- the samples so far are taken out, and there is capacity for the others
abbrev pub invariant-loop-proved : goal.invariant-loop-proved
invariant-loop-proved l = record {
  split : l.fn.proof.claim.cells ≡ l.messages.items ++ map kept_message l.proved-iterator.rest.items;
  room : vec_len l.messages + length l.proved-iterator.rest.items ≤ vec_capacity l.messages;
}
