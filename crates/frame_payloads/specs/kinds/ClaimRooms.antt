-- Room for a fraud claim (docs/FORMATS.md, "Payloads").
use Rattle.std.specs.Prelude.{◌≤◌, List, Bool, Option, Some, None, if◌then◌else◌, Vec, vec_capacity}
use Rattle.std.specs.declared.alloc.Global.{Global}
use Rattle.namespace_id.specs.declared.digests.Digest.{Digest}
use Rattle.axis_roots.specs.declared.message.messages.Message.{Message}
use Rattle.frame_payloads.specs.kinds.Fraud.{most_cells, most_set_nodes}

-- the nodes of a set, where there is one
abbrev pub set_where : Bool → List Digest → Option (List Digest)
set_where has_set nodes = if has_set then Some nodes else None

-- there is capacity for the cells and the nodes of each claim of the grammar
pub record IsClaimRoom (cells : Vec Message Global) (nodes : Vec Digest Global) : Type 0 where
  pub cell_capacity : most_cells ≤ vec_capacity cells
  pub node_capacity : most_set_nodes ≤ vec_capacity nodes
