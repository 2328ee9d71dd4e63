-- What each step of a session does: a sample, a row or a column, and all of them.
use Rattle.std.specs.Prelude.{◌≡◌, ℕ, List, [], ◌∷◌, ◌++◌, Option, Some, None}
use Rattle.namespace_id.specs.declared.cells.Axis.{Axis}
use Rattle.namespace_id.specs.declared.cells.Cell.{Cell}
use Rattle.namespace_id.specs.declared.shares.Share.{Share}
use Rattle.data_header.specs.Headers.{Roots}
use Rattle.axis_roots.specs.declared.message.messages.Message.{Message}
use Rattle.axis_roots.specs.declared.message.proved.Proved.{Proved}
use Rattle.axis_roots.specs.Proved.{kept_message, IsUnder}
use Rattle.repair_queue.specs.declared.boards.Board.{Board}
use Rattle.repair_queue.specs.declared.tools.Tools.{Tools}
use Rattle.repair_queue.specs.declared.ending.Ending.{Ending}
use Rattle.repair_queue.specs.Lines.{AreFacts}
use Rattle.repair_queue.specs.Repairs.{IsEnd}
use Rattle.repair_queue.specs.Boards.{given_of, decided_of, IsGood, HoldsFor, AreAtRest}
use Rattle.repair_queue.specs.Tools.{AreTools}

-- a sample is kept, or its share was known
abbrev pub IsKeptOn : Roots → Board → Board → Message → Type 0
IsKeptOn header s t m =
    IsGood header t × ((ms : List Message) → HoldsFor header ms s → HoldsFor header (ms ++ m ∷ []) t)

-- a sample is taken in, or it ends the session
abbrev pub TakesMessage : Roots → Board → Board → Tools → Message → Option Ending → Type 0
TakesMessage header s t tools m None = IsKeptOn header s t m × AreTools header.k tools
TakesMessage header s t tools m (Some ended) = (ms : List Message) → HoldsFor header ms s → IsEnd header (ms ++ m ∷ []) ended

-- a row or a column is decided, or it ends the session
abbrev pub DecidesLine : Roots → Board → Board → Tools → Option Ending → Type 0
DecidesLine header s t tools None =
    IsGood header t × AreTools header.k tools × ((ms : List Message) → HoldsFor header ms s → HoldsFor header ms t)
DecidesLine header s t tools (Some ended) = (ms : List Message) → HoldsFor header ms s → IsEnd header ms ended

-- a line with the header's root is kept, or a share that is known contradicts it
abbrev pub SettlesLine : Roots → Board → Board → Tools → Axis → ℕ → List Share → Option Ending → Type 0
SettlesLine header s t tools axis i line None =
    IsGood header t × AreTools header.k tools
    × ((ms : List Message) → AreFacts header ms axis i line → HoldsFor header ms s → HoldsFor header ms t)
SettlesLine header s t tools axis i line (Some ended) =
    (ms : List Message) → AreFacts header ms axis i line → HoldsFor header ms s → IsEnd header ms ended

-- all that can be decided is, or something ends the session
abbrev pub Drains : Roots → Board → Board → Tools → Option Ending → Type 0
Drains header s t tools None =
    IsGood header t × AreTools header.k tools × AreAtRest header.k (given_of t) (decided_of t)
    × ((ms : List Message) → HoldsFor header ms s → HoldsFor header ms t)
Drains header s t tools (Some ended) = (ms : List Message) → HoldsFor header ms s → IsEnd header ms ended

-- both of a sample: it is taken in, and what it lets decide is
abbrev pub Steps : Roots → Board → Board → Tools → Message → Option Ending → Type 0
Steps header s t tools m None =
    IsGood header t × AreTools header.k tools × AreAtRest header.k (given_of t) (decided_of t)
    × ((ms : List Message) → HoldsFor header ms s → HoldsFor header (ms ++ m ∷ []) t)
Steps header s t tools m (Some ended) = (ms : List Message) → HoldsFor header ms s → IsEnd header (ms ++ m ∷ []) ended

-- a sample of a cell with this share, proved under the header
pub record IsMessageAt (header : Roots) (cell : Cell) (share : Share) (kept : Proved) : Type 0 where
  pub under : IsUnder header kept
  pub cell_is : (kept_message kept).cell ≡ cell
  pub share_is : (kept_message kept).share ≡ share
