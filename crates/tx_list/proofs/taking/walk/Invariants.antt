use Rattle.std.proofs.Common.{◌≡◌, ◌+◌, ◌≤◌, true, [], length}
use Rattle.std.specs.List.{AllByRecursion}
use Rattle.proto_fields.specs.Fields.{last_of, own_bytes}
use Rattle.tx_list.specs.Reads.{are_fields, payment_entries}
use Rattle.tx_list.specs.Walks.{with_entries, with_blobs, IsTakenEntry, IsTakenPayment}
use Rattle.tx_list.proofs.KeptLemmas.{IsKept}
use Rattle.tx_list.proofs.JudgeLemmas.{unchecked}
use Rattle.tx_list.proofs.taking.walk.Given as goal

-- the last type id and transaction so far, the checks of the blobs, each of which takes a byte, and those of a payment that is taken
abbrev pub invariant-loop-field : goal.invariant-loop-field
invariant-loop-field l = record {
  fields : are_fields l.rest ≡ are_fields l.fn.bytes;
  type_id : IsKept last_of (own_bytes 3) [] l.type_id l.fn.bytes l.rest;
  tx : IsKept last_of (own_bytes 1) [] l.tx l.fn.bytes l.rest;
  checked : IsKept (with_entries l.i) (own_bytes 2) unchecked l.checked l.fn.bytes l.rest;
  few : l.checked.count + length l.rest ≤ length l.fn.bytes;
  blobs : l.is_whole ≡ true → IsTakenPayment l.fn.bytes → IsKept with_blobs (own_bytes 2) [] l.blobs.items l.fn.bytes l.rest;
  taken : IsTakenPayment l.fn.bytes → AllByRecursion IsTakenEntry (payment_entries l.rest);
}

abbrev pub decreases-loop-field : goal.decreases-loop-field
decreases-loop-field l = length l.rest
