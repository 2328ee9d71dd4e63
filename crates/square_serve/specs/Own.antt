-- What a complete answer shows under a square's own header.
use Rattle.std.specs.Prelude.{◌≡◌, ◌⊎◌, ◌*◌, ℕ, List}
use Rattle.std.specs.List.{AllByRecursion, Contains}
use Rattle.namespace_id.specs.declared.cells.Axis.TheVariants.{Row}
use Rattle.namespace_id.specs.declared.namespaces.Namespace.{Namespace}
use Rattle.namespace_id.specs.declared.digests.Digest.{Digest}
use Rattle.nmt_tree.specs.Roots.{halvings}
use Rattle.nmt_proofs.specs.Parts.{Part}
use Rattle.nmt_proofs.specs.Openings.{Shown, opened, leaves_from, one_digest}
use Rattle.data_header.specs.Headers.{Roots}
use Rattle.square_layout.specs.Blocks.{SquareShares}
use Rattle.axis_roots.specs.declared.answers.Found.{Found}
use Rattle.axis_roots.specs.declared.answers.Found.TheVariants.{Range, Absence}
use Rattle.axis_roots.specs.declared.answers.NsEntry.{NsEntry}
use Rattle.axis_roots.specs.Grids.{IsHeaderOf}
use Rattle.axis_roots.specs.Own.{NamesAt, AgreesAt}
use Rattle.square_serve.specs.Shares.{namespace_shares}
use Rattle.square_serve.specs.Answers.{shown}

-- the parts that an entry shows of the tree over its row
abbrev pub entry_parts : Namespace → Found → List Shown
entry_parts name (Range start shares nodes) = leaves_from start name shares
entry_parts name (Absence pos leaf nodes) = one_digest pos leaf

-- the nodes of an entry
abbrev pub nodes_of : Found → List Digest
nodes_of (Range start shares nodes) = nodes
nodes_of (Absence pos leaf nodes) = nodes

-- the tree that an entry opens in a square of width k
abbrev pub entry_opened : ℕ → Namespace → Found → Part
entry_opened k name found = opened (halvings (2 * k)) 0 (entry_parts name found) (nodes_of found)

-- an entry and the square name a collision: the first two strings in which the tree that the entry opens and the
-- square's tree of that row differ
abbrev pub EntryNames : Namespace → SquareShares → NsEntry → Type 0
EntryNames name square entry = NamesAt (entry_opened square.k name entry.found) square Row entry.row

-- the tree that an entry opens agrees with the square's tree of that row, and they name no collision
abbrev pub EntryAgrees : Namespace → SquareShares → NsEntry → Type 0
EntryAgrees name square entry = AgreesAt (entry_opened square.k name entry.found) square Row entry.row

-- an entry of an answer and the square name a collision
abbrev pub AnswerNames : Namespace → SquareShares → List NsEntry → Type 0
AnswerNames name square answer = (entry : NsEntry) × Contains answer entry × EntryNames name square entry

-- an answer shows exactly the square's shares of the namespace, and no entry names a collision
pub record ShowsAll (name : Namespace) (square : SquareShares) (answer : List NsEntry) : Type 0 where
  pub shares : shown answer ≡ namespace_shares square name
  pub alike : AllByRecursion (EntryAgrees name square) answer

-- under the header of a square an answer shows exactly the square's shares of the namespace, or an entry and the square
-- name a collision
abbrev pub IsOwnAnswer : Roots → Namespace → List NsEntry → Type 0
IsOwnAnswer header name answer =
    (square : SquareShares) → IsHeaderOf header square
    → ShowsAll name square answer ⊎ AnswerNames name square answer
