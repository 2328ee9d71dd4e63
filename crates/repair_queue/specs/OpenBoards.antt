-- What holds of the fields of a session.
use Rattle.std.specs.Prelude.{◌≡◌, List, Option, Some, None, IsNone}
use Rattle.namespace_id.specs.Cells.{CellList}
use Rattle.data_header.specs.Headers.{Roots}
use Rattle.axis_roots.specs.declared.message.messages.Message.{Message}
use Rattle.repair_queue.specs.declared.boards.Board.{Board}
use Rattle.repair_queue.specs.declared.tools.Tools.{Tools}
use Rattle.repair_queue.specs.declared.ending.Ending.{Ending}
use Rattle.repair_queue.specs.Pools.{HasFullCapacity}
use Rattle.repair_queue.specs.Boards.{given_of, decided_of, IsGood, AreAtRest, HoldsFor}
use Rattle.repair_queue.specs.Repairs.{IsEnd}
use Rattle.repair_queue.specs.Tools.{AreTools}

-- what holds of the fields while nothing has ended a session: each row and column with k known cells is decided
abbrev pub IsOpenBoard : Roots → Board → Tools → Option Ending → Type 0
IsOpenBoard header b tools None = IsGood header b × AreTools header.k tools × AreAtRest header.k (given_of b) (decided_of b)
IsOpenBoard header b tools (Some ended) = Unit {0}

-- what is kept stands for samples, or what ended the session is an answer over them
abbrev pub KeepsFor : Roots → List Message → Board → Option Ending → Type 0
KeepsFor header ms b None = HoldsFor header ms b
KeepsFor header ms b (Some ended) = IsEnd header ms ended

-- a session that nothing has ended has memory for all samples that may come to be kept
abbrev pub HasBoardCapacity : Board → Option Ending → Type 0
HasBoardCapacity b end = IsNone end → HasFullCapacity b.pool

-- what holds of every session: its partial trees and the room of its cells are for its header
pub record IsSession (header trees : Roots) (b : Board) (tools : Tools) (end : Option Ending) (room : CellList) : Type 0 where
  pub partial : trees ≡ header
  pub open_board : IsOpenBoard header b tools end
  pub cells : room.k ≡ header.k
  pub capacity : HasBoardCapacity b end

-- what holds of every session that takes memory as samples come
pub record IsGrowing (header : Roots) (b : Board) (tools : Tools) (end : Option Ending) (room : CellList) : Type 0 where
  pub open_board : IsOpenBoard header b tools end
  pub cells : room.k ≡ header.k
