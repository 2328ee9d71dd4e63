use Rattle.std.proofs.Common.{◌≡◌, [], length}
use Rattle.proto_fields.specs.Fields.{last_of, own_bytes, own_numbers}
use Rattle.tx_list.specs.Reads.{are_fields}
use Rattle.tx_list.proofs.KeptLemmas.{IsKept}
use Rattle.tx_list.proofs.reading.read_blob.Given as goal

-- each part is the last so far
abbrev pub invariant-loop-field : goal.invariant-loop-field
invariant-loop-field l = record {
  fields : are_fields l.rest ≡ are_fields l.fn.entry;
  version : IsKept last_of (own_numbers 4) 0 l.blob.version l.fn.entry l.rest;
  id : IsKept last_of (own_bytes 1) [] l.blob.id.now l.fn.entry l.rest;
  bytes : IsKept last_of (own_bytes 2) [] l.blob.bytes.now l.fn.entry l.rest;
  share_version : IsKept last_of (own_numbers 3) 0 l.blob.share_version l.fn.entry l.rest;
  signer : IsKept last_of (own_bytes 5) [] l.blob.signer.now l.fn.entry l.rest;
}

abbrev pub decreases-loop-field : goal.decreases-loop-field
decreases-loop-field l = length l.rest
