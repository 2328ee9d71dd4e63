-- The payload of a fraud claim (docs/FORMATS.md, "Payloads").
use Rattle.std.specs.Prelude.{ℕ, List, [], ◌∷◌, length, nat_lt, not, Option, Some, None, if◌then◌else◌, ◌==◌, Bool, true, false, ◌++◌, ◌||◌, ◌&&◌}
use Rattle.std.specs.Int.{w16, to_be_bytes}
use Rattle.std.specs.List.{list_all, list_any}
use Rattle.namespace_id.specs.Sizes.{share_size, greatest_width, most_depth}
use Rattle.namespace_id.specs.declared.cells.Axis.{Axis}
use Rattle.namespace_id.specs.declared.digests.Digest.{Digest}
use Rattle.namespace_id.specs.Cells.{crossing}
use Rattle.axis_roots.specs.declared.message.messages.Message.{Message}
use Rattle.axis_roots.specs.Messages.{position}
use Rattle.axis_roots.specs.Lines.{cell_on}
use Rattle.axis_roots.specs.Sets.{is_one_axis, is_along}
use Rattle.axis_roots.specs.Claims.{ClaimParts, is_on}
use Rattle.frame_payloads.specs.declared.kinds.fraud_set.SetFields.{SetFields}
use Rattle.frame_fields.specs.Fields.{◌>>=◌, big_endian_at, byte_at, string_at, axis_at, path_at, digest_list_at, digests_of, list_at, many_at, read_items}
use Rattle.frame_payloads.specs.codec.Texts.{axis_byte, path_bytes, list_bytes, digest_list}
use Rattle.frame_fields.specs.Messages.{message_front}
use Rattle.frame_payloads.specs.kinds.Message.{message_payload}

-- the forms of a claim, the byte in front of it: without a set, and with one
abbrev pub plain_form : ℕ
plain_form = 1

abbrev pub set_form : ℕ
set_form = 2

-- the most cells of a claim, as many as recover an axis of the greatest square
abbrev pub most_cells : ℕ
most_cells = greatest_width

-- the most nodes of a set, as many as open cells of an axis of the greatest square
abbrev pub most_set_nodes : ℕ
most_set_nodes = greatest_width

-- ---- what is written

-- the axis that is accused: its kind and its index
abbrev pub accused_bytes : Axis → ℕ → List ℕ
accused_bytes axis index = axis_byte axis ∷ to_be_bytes w16 index

-- the axis that is accused, and samples of its cells behind their count in two bytes
abbrev pub plain_payload : ClaimParts → List ℕ
plain_payload claim =
    plain_form ∷ accused_bytes claim.axis claim.index ++ list_bytes w16 message_payload claim.cells

-- what tells whether the set shows a cell: 1 where it does, 0 where the cell has a path along the crossing axis
abbrev pub cell_tag : Axis → Message → ℕ
cell_tag axis m = if is_along axis m then 1 else 0

-- a cell of a claim with a set: its position on the accused axis, its tag, its share, and its path where it has one
abbrev pub cell_payload : Axis → Message → List ℕ
cell_payload axis m =
    to_be_bytes w16 (position axis m.cell) ++ cell_tag axis m ∷ m.share.0
    ++ (if is_along axis m then [] else path_bytes m.path)

-- the axis that is accused, its cells behind their count, and the nodes of the set behind theirs
abbrev pub set_payload : ClaimParts → List Digest → List ℕ
set_payload claim nodes =
    set_form ∷ accused_bytes claim.axis claim.index ++ list_bytes w16 (cell_payload claim.axis) claim.cells
    ++ digest_list nodes

-- the payload of a claim, by whether it has a set
abbrev pub payload_by : ClaimParts → Option (List Digest) → List ℕ
payload_by claim None = plain_payload claim
payload_by claim (Some nodes) = set_payload claim nodes

-- the form, and what follows it
abbrev pub fraud_payload : ClaimParts → List ℕ
fraud_payload claim = payload_by claim claim.set

-- ---- what can be written

-- whether a cell of a claim with a set is on the accused axis, and has no path where the set shows it
abbrev pub is_cell_placed : ClaimParts → Message → Bool
is_cell_placed claim m = is_on claim m && (if is_along claim.axis m then length m.path == 0 else true)

-- whether the cells of a claim can be written beside its set, if it has one: each is placed, the set shows one at
-- least, and has no more nodes than can be counted
abbrev pub fits_form : ClaimParts → Option (List Digest) → Bool
fits_form claim None = true
fits_form claim (Some nodes) =
    list_all (is_cell_placed claim) claim.cells && list_any (is_along claim.axis) claim.cells
    && not (nat_lt most_set_nodes (length nodes))

-- whether a claim has no spelling: its cells don't fit its set, or it has more cells than can be written
abbrev pub is_unwritten : ClaimParts → Bool
is_unwritten claim = not (fits_form claim claim.set) || nat_lt most_cells (length claim.cells)

-- ---- what is read

-- a claim of this form at the front of bytes: the axis that it accuses, by its kind and its index, and the bytes after it
unfoldable pub accused_at : ℕ → List ℕ → Option ((Axis × ℕ) × List ℕ)
accused_at wanted bytes = do
  form ← byte_at bytes
  axis ← if form.0 == wanted then axis_at form.1 else None
  index ← big_endian_at w16 axis.1
  Some ((axis.0, index.0), index.1)

-- samples of cells behind their count
abbrev pub claim_cells_at : List ℕ → Option (List Message × List ℕ)
claim_cells_at bytes = list_at w16 most_cells message_front bytes

-- a claim without a set that is all of the bytes
unfoldable pub plain_at : List ℕ → Option ClaimParts
plain_at bytes = do
  accused ← accused_at plain_form bytes
  cells ← claim_cells_at accused.1
  if length cells.1 == 0
      then Some (record { axis = accused.0.0; index = accused.0.1; cells = cells.0; set = None })
      else None

-- the axis of a sample by its tag: 1 for the accused axis, 0 for the crossing one
unfoldable pub tag_at : Axis → List ℕ → Option (Axis × List ℕ)
tag_at axis bytes = do
  tag ← byte_at bytes
  if tag.0 == 0 then Some (crossing axis, tag.1) else
      if tag.0 == 1 then Some (axis, tag.1) else None

-- the path of a cell: none is written where the set shows it
abbrev pub cell_path_at : Bool → List ℕ → Option (List Digest × List ℕ)
cell_path_at true bytes = Some ([], bytes)
cell_path_at false bytes = path_at most_depth bytes

-- a cell of a claim with a set, on the axis that is accused
unfoldable pub set_cell_at : Axis → ℕ → List ℕ → Option (Message × List ℕ)
set_cell_at axis index bytes = do
  pos ← big_endian_at w16 bytes
  tag ← tag_at axis pos.1
  share ← string_at share_size tag.1
  path ← cell_path_at (is_one_axis axis tag.0) share.1
  Some (
    record {
      cell = cell_on axis index pos.0;
      axis = tag.0;
      share = record { 0 = share.0 };
      path = path.0;
    },
    path.1,
  )

-- cells of a claim with a set behind their count
abbrev pub set_cells_at : Axis → ℕ → List ℕ → Option (List Message × List ℕ)
set_cells_at axis index bytes = list_at w16 most_cells (set_cell_at axis index) bytes

-- a claim with a set that is all of the bytes; the set shows one cell at least
unfoldable pub with_set_at : List ℕ → Option ClaimParts
with_set_at bytes = do
  accused ← accused_at set_form bytes
  cells ← set_cells_at accused.0.0 accused.0.1 accused.1
  nodes ← digest_list_at most_set_nodes cells.1
  if (length nodes.1 == 0) && list_any (is_along accused.0.0) cells.0
      then Some (record { axis = accused.0.0; index = accused.0.1; cells = cells.0; set = Some nodes.0 })
      else None

-- what is read of two grammars: by the first, or else by the second
abbrev pub either : {A : Type 0} → Option A → Option A → Option A
either (Some x) other = Some x
either None other = other

-- a claim of one form or the other that is all of the bytes
abbrev pub fraud_at : List ℕ → Option ClaimParts
fraud_at bytes = either (plain_at bytes) (with_set_at bytes)

-- ---- a claim with a set where it lies

-- a claim with a set, of which the bytes of the cells and those of the nodes are known
abbrev pub set_seen : SetFields → ClaimParts
set_seen f = record {
  axis = f.axis;
  index = f.index;
  cells = read_items (many_at (set_cell_at f.axis f.index) f.cell_count f.cells.now);
  set = Some (digests_of f.node_count f.nodes.now);
}
