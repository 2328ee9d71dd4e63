-- A session that is fed.
use Rattle.std.proofs.Common.{◌≡◌, ◌∙◌, List, [], ◌∷◌, ◌++◌, map, true, false, refl, sym, ap}
use Rattle.std.specs.Prelude.{Option, Some, None, is_some}
use Rattle.std.proofs.lemmas.Bool.{true≢false}
use Rattle.std.proofs.lemmas.List.{append_assoc, map-append}
use Rattle.std.proofs.lemmas.List.Elements.{Contains-append_left}
use Rattle.data_header.specs.Headers.{Roots}
use Rattle.axis_roots.specs.declared.message.messages.Message.{Message}
use Rattle.axis_roots.specs.declared.message.proved.Proved.{Proved}
use Rattle.axis_roots.specs.Proved.{kept_message}
use Rattle.repair_queue.specs.declared.boards.Board.{Board}
use Rattle.repair_queue.specs.declared.tools.Tools.{Tools}
use Rattle.repair_queue.specs.declared.ending.Ending.{Ending}
use Rattle.repair_queue.specs.declared.ending.Ending.TheVariants as ended
use Rattle.repair_queue.specs.Repairs.{IsEnd}
use Rattle.repair_queue.specs.Boards.{given_of, decided_of, IsGood, AreAtRest, HoldsFor}
use Rattle.repair_queue.specs.Tools.{AreTools}
use Rattle.repair_queue.specs.Moves.{Steps}
use Rattle.repair_queue.specs.OpenBoards.{IsOpenBoard, HasBoardCapacity, KeepsFor}
use Rattle.repair_queue.specs.Pools.{HasPlace, HasFullCapacity}
use Rattle.repair_queue.proofs.Facts.GrowthLemmas.{fraud_grows, clash_grows}

-- a session that nothing ended
pub open_of : (header : Roots) (b : Board) (tools : Tools) (end : Option Ending) → is_some end ≡ false → IsOpenBoard header b tools end
    → IsGood header b × AreTools header.k tools × AreAtRest header.k (given_of b) (decided_of b)
open_of header b tools None is open_board = open_board
open_of header b tools (Some end) is open_board = absurd (true≢false is)

-- has a place for one sample more
pub open_place : (b : Board) (end : Option Ending) → is_some end ≡ false → HasBoardCapacity b end → (HasFullCapacity b.pool → HasPlace b.pool) → HasPlace b.pool
open_place b None is roomy place = place (roomy refl)
open_place b (Some end) is roomy place = absurd (true≢false is)

-- it stands for what it stood for
pub open_stands : (header : Roots) (ms : List Message) (b : Board) (end : Option Ending) → is_some end ≡ false → KeepsFor header ms b end
    → HoldsFor header ms b
open_stands header ms b None is keeps = keeps
open_stands header ms b (Some end) is keeps = absurd (true≢false is)

-- after a step
pub step_open : (header : Roots) (s t : Board) (tools : Tools) (m : Message) (result : Option Ending) → Steps header s t tools m result → IsOpenBoard header t tools result
step_open header s t tools m None steps = (steps.0, steps.1, steps.2)
step_open header s t tools m (Some end) steps = tt

pub step_keeps : (header : Roots) (s t : Board) (tools : Tools) (m : Message) (result : Option Ending) → Steps header s t tools m result
    → (ms : List Message) → HoldsFor header ms s → KeepsFor header (ms ++ m ∷ []) t result
step_keeps header s t tools m None steps ms stand = steps.3 ms stand
step_keeps header s t tools m (Some end) steps ms stand = steps ms stand

-- what ended a session stays an answer with one sample more
end_more : (header : Roots) (ms : List Message) (m : Message) (end : Ending) → IsEnd header ms end → IsEnd header (ms ++ m ∷ []) end
end_more header ms m (ended.Fraud proof) is = fraud_grows header ms (ms ++ m ∷ []) proof.claim (λ n at proved. Contains-append_left ms (m ∷ []) n at) is
end_more header ms m (ended.Clash clash) is = clash_grows header ms (ms ++ m ∷ []) clash.left clash.right (λ n at proved. Contains-append_left ms (m ∷ []) n at) is

pub ended_keeps : (header : Roots) (ms : List Message) (m : Message) (b : Board) (end : Option Ending) → is_some end ≡ true
    → KeepsFor header ms b end → KeepsFor header (ms ++ m ∷ []) b end
ended_keeps header ms m b None is keeps = absurd (true≢false (sym is))
ended_keeps header ms m b (Some end) is keeps = end_more header ms m end keeps

-- one sample more, at the end
pub one_more : (ms : List Message) (done : List Proved) (next : Proved)
    → ms ++ map kept_message done ++ kept_message next ∷ [] ≡ ms ++ map kept_message (done ++ next ∷ [])
one_more ms done next =
    append_assoc ms (map kept_message done) (kept_message next ∷ []) ∙ ap (λ (l : List Message). ms ++ l) (sym (map-append kept_message done (next ∷ [])))
