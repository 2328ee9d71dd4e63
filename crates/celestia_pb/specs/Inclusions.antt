-- nmt's message Proof, where it shows leaves: the first place in field 1, the one behind the last in field 2, the nodes from left to
-- right in fields 3, no leaf hash, and in field 5 that the parity namespace is passed over, which all of Celestia's trees do.
use Rattle.std.specs.Prelude.{ℕ, ◌+◌, ◌==◌, ◌&&◌, ◌||◌, Bool, true, List, ◌++◌, length, Option, Some, None, Result, Ok, Err, if◌then◌else◌}
use Rattle.namespace_id.specs.declared.digests.Digest.{Digest}
use Rattle.proto_fields.specs.Canonical.{number_text}
use Rattle.celestia_pb.specs.Reading.{then_read}
use Rattle.celestia_pb.specs.Messages.{number_left}
use Rattle.celestia_pb.specs.Digests.{digests_text, digests_at}

-- the message of so many leaves from a place on
abbrev pub inclusion_text : ℕ → ℕ → List Digest → List ℕ
inclusion_text start count nodes = number_text 1 start ++ (number_text 2 (start + count) ++ (digests_text 3 nodes ++ number_text 5 1))

-- ---- which numbers may be there

-- a first place: any, or the one that is wanted
abbrev pub is_place_stated : Option ℕ → ℕ → Bool
is_place_stated None start = true
is_place_stated (Some place) start = (start == 0) || (start == place)

-- the place that is the first one
abbrev pub place_stated : Option ℕ → ℕ → ℕ
place_stated None start = start
place_stated (Some place) start = place

-- the one behind the last
abbrev pub is_stop : ℕ → ℕ → ℕ → Bool
is_stop place count stop = (stop == 0) || (stop == place + count)

-- the flag
abbrev pub is_flag : ℕ → Bool
is_flag flag = (flag == 0) || (flag == 1)

-- whether all of them are there, and nothing else is
abbrev pub is_whole : ℕ → ℕ → ℕ → ℕ → ℕ → ℕ → Bool
is_whole place count start stop flag left = (left == 0) && ((start == place) && ((stop == place + count) && (flag == 1)))

-- ---- read

-- where the flag was read
abbrev pub inclusion_end : Option ℕ → ℕ → ℕ → ℕ → List Digest → ℕ → List ℕ → Result (ℕ × List Digest) ℕ
inclusion_end wanted count start stop nodes flag rest =
    if is_whole (place_stated wanted start) count start stop flag (length rest) then Ok (start, nodes) else Err (length rest)

-- where the nodes were read
abbrev pub inclusion_flag : Option ℕ → ℕ → ℕ → ℕ → List Digest → List ℕ → Result (ℕ × List Digest) ℕ
inclusion_flag wanted count start stop nodes bytes = then_read (inclusion_end wanted count start stop nodes) (number_left is_flag 5 bytes)

-- where the place behind the last was read
abbrev pub inclusion_nodes : Option ℕ → ℕ → ℕ → ℕ → ℕ → List ℕ → Result (ℕ × List Digest) ℕ
inclusion_nodes wanted count most start stop bytes = then_read (inclusion_flag wanted count start stop) (digests_at 3 most bytes)

-- where the first place was read
abbrev pub inclusion_stop : Option ℕ → ℕ → ℕ → ℕ → List ℕ → Result (ℕ × List Digest) ℕ
inclusion_stop wanted count most start bytes =
    then_read (inclusion_nodes wanted count most start) (number_left (is_stop (place_stated wanted start) count) 2 bytes)

-- the first place and the nodes of a proof of so many leaves, with at most so many nodes
abbrev pub inclusion_left : Option ℕ → ℕ → ℕ → List ℕ → Result (ℕ × List Digest) ℕ
inclusion_left wanted count most bytes = then_read (inclusion_stop wanted count most) (number_left (is_place_stated wanted) 1 bytes)
