-- namespace SQUARE REQUESTS: the shares of namespaces in a square, complete.
use Rattle.std.specs.Prelude.{◌≡◌, ℕ, List, Bool, not}
use Rattle.namespace_id.specs.declared.namespaces.Namespace as names
use Rattle.namespace_id.specs.Names.{is_parity}
use Rattle.data_header.specs.Headers.{Roots}
use Rattle.square_layout.specs.Blocks.{SquareShares}
use Rattle.axis_roots.specs.declared.answers.NsEntry.{NsEntry}
use Rattle.square_serve.specs.Shares.{namespace_shares}
use Rattle.square_serve.specs.Answers.{shown, IsComplete}
use Rattle.da_wire.specs.declared.frames.Frame.{Frame}
use Rattle.da_wire.specs.declared.frames.Frame.TheVariants.{Names}
use Rattle.da_status.specs.Outcome.{Relation}
use Rattle.da_files.specs.Frames.{square_in}
use Rattle.da_files.specs.Forms.{Over}
use Rattle.da_files.specs.Requests.{namespaces_in}
use Rattle.da_serving.specs.Serving.{requests_file, Serves}
use Rattle.da_files.specs.Contents.{square_file}

-- whether a namespace isn't PARITY, whose shares can't be asked for
abbrev pub is_other : names.Namespace → Bool
is_other name = not (is_parity name)

-- an answer is complete for a namespace under the header, and shows exactly its shares in the square
pub record IsAnswer (square : SquareShares) (header : Roots) (name : names.Namespace) (answer : List NsEntry) : Type 0 where
  pub complete : IsComplete header name answer
  pub shares : shown answer ≡ namespace_shares square name

-- the frames that a request for a namespace allows
abbrev pub AllowsNames : SquareShares → Roots → names.Namespace → Frame → Type 0
AllowsNames square header name frame =
    (answer : List NsEntry) × IsAnswer square header name answer × (frame ≡ Names name answer)

-- what namespace answers to a SQUARE that is a square: an N frame for each request, in their order
abbrev pub NamespaceOf : List (List ℕ) → Relation
NamespaceOf files = Over (square_in (square_file files))
    (λ square. Serves square is_other (AllowsNames square) (namespaces_in (requests_file files)))
