-- The message NMTProof of one share of a row: its column in field 1, the one behind it in field 2, and the nodes from left to right in
-- fields 3. It has no leaf hash, and no flag: the parity namespace is passed over.
use Rattle.std.specs.Prelude.{ℕ, ◌+◌, ◌==◌, ◌&&◌, nat_lt, Bool, List, ◌++◌, length, Result, Ok, Err, if◌then◌else◌}
use Rattle.namespace_id.specs.declared.digests.Digest.{Digest}
use Rattle.namespace_id.specs.Sizes.{most_leaves, most_depth}
use Rattle.proto_fields.specs.Canonical.{number_text}
use Rattle.celestia_pb.specs.declared.share_path.SharePath.{SharePath}
use Rattle.celestia_pb.specs.Reading.{then_read}
use Rattle.celestia_pb.specs.Messages.{number_left}
use Rattle.celestia_pb.specs.Digests.{digests_text, digests_at}
use Rattle.celestia_pb.specs.Inclusions.{is_stop}

-- the message of a column and nodes
abbrev pub share_path_text : ℕ → List Digest → List ℕ
share_path_text col nodes = number_text 1 col ++ (number_text 2 (col + 1) ++ digests_text 3 nodes)

-- whether some square has this column
abbrev pub is_column : ℕ → Bool
is_column col = nat_lt col most_leaves

-- where the nodes were read
abbrev pub path_end : ℕ → ℕ → List Digest → List ℕ → Result SharePath ℕ
path_end col stop nodes rest = if (length rest == 0) && (stop == col + 1) then Ok (record { col = col; nodes = nodes }) else Err (length rest)

-- where the column behind was read
abbrev pub path_nodes : ℕ → ℕ → List ℕ → Result SharePath ℕ
path_nodes col stop bytes = then_read (path_end col stop) (digests_at 3 most_depth bytes)

-- where the column was read
abbrev pub path_stop : ℕ → List ℕ → Result SharePath ℕ
path_stop col bytes = then_read (path_nodes col) (number_left (is_stop col 1) 2 bytes)

-- the column and the nodes that a message has
abbrev pub share_path_left : List ℕ → Result SharePath ℕ
share_path_left bytes = then_read path_stop (number_left is_column 1 bytes)
