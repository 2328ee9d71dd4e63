use Rattle.std.proofs.Common.{◌≡◌, ◌++◌, drop}
use Rattle.std.specs.List.{flat_map}
use Rattle.proto_fields.specs.Varints.{varint}
use Rattle.tx_list.proofs.wrapping.packed.Given as goal

-- the varints so far and those that are left are all
abbrev pub invariant-loop-place : goal.invariant-loop-place
invariant-loop-place l = l.bytes.items ++ flat_map varint (drop l.place-index l.places) ≡ flat_map varint l.places
