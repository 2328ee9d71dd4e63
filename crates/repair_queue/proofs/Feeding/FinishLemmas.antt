-- What a session is at first, and what it answers.
use Rattle.std.proofs.Common.{◌≡◌, ◌≢◌, ◌∙◌, ℕ, ◌*◌, List, [], ◌∷◌, length, Bool, ◌==◌, true, false, refl, sym, ap, subst, inl, inr}
use Rattle.std.specs.Prelude.{Option, Some, None}
use Rattle.std.specs.List.{Contains}
use Rattle.std.proofs.lemmas.Bool.{cases_Bool, true≢false, eqb-true}
use Rattle.std.proofs.lemmas.List.{nil_from_length}
use Rattle.namespace_id.specs.declared.cells.Cell.{Cell}
use Rattle.namespace_id.specs.declared.cells.Axis.TheVariants.{Row}
use Rattle.namespace_id.specs.declared.shares.Share.{Share}
use Rattle.namespace_id.specs.Cells.{is_in_square, is_original, CellList}
use Rattle.namespace_id.proofs.MemberLemmas.{contains_none}
use Rattle.data_header.specs.Headers.{Roots, AreRoots}
use Rattle.square_layout.specs.Blocks.{SquareShares}
use Rattle.axis_roots.specs.declared.message.messages.Message.{Message}
use Rattle.axis_roots.specs.Grids.{share_at}
use Rattle.axis_roots.proofs.Grids.NumberLemmas.{inside}
use Rattle.axis_roots.proofs.Grids.LaidLemmas.{original-inside}
use Rattle.repair_queue.specs.declared.boards.Board.{Board}
use Rattle.repair_queue.specs.declared.tools.Tools.{Tools}
use Rattle.repair_queue.specs.declared.ending.Ending.{Ending}
use Rattle.repair_queue.specs.declared.ending.Ending.TheVariants as ended
use Rattle.repair_queue.specs.declared.sessions.SessionState.TheVariants as state
use Rattle.repair_queue.specs.Closures.{Half, Fact}
use Rattle.repair_queue.specs.Settled.{IsSettled}
use Rattle.repair_queue.specs.Verdicts.{IsWhole, IsMissing}
use Rattle.repair_queue.specs.Boards.{given_of, decided_of, shared_of, is_found, IsGood, AreAtRest, HoldsFor}
use Rattle.repair_queue.specs.OpenBoards.{IsOpenBoard, KeepsFor}
use Rattle.repair_queue.specs.Views.{end_of}
use Rattle.repair_queue.specs.Sessions.{state_by, AreLeft, AreNotFound, AreOriginals}
use Rattle.repair_queue.proofs.Lines.LinedLemmas.{lined_by}
use Rattle.repair_queue.proofs.Feeding.AtRestLemmas.{lined_fact, found_half, half_found, decided_set, rest_settled}
use Rattle.repair_queue.proofs.Facts.VerdictLemmas.{all_decided, original_inside}
use Rattle.repair_queue.proofs.Facts.WholeLemmas.{whole_square}

-- a list is empty where its length was found to be 0
pub none_in : {A : Type 0} (xs : List A) (test : Bool) → test ≡ (length xs == 0) → test ≡ true → xs ≡ []
none_in xs test is t = nil_from_length xs (eqb-true (length xs) 0 (sym is ∙ t))

pub some_in : {A : Type 0} (xs : List A) (test : Bool) → test ≡ (length xs == 0) → test ≡ false → xs ≢ []
some_in [] test is f e = true≢false (sym is ∙ f)
some_in (x ∷ xs) test is f e = cc

module _ (header : Roots) (b : Board) (good : IsGood header b) (rest : AreAtRest header.k (given_of b) (decided_of b)) (ms : List Message)
    (stand : HoldsFor header ms b) where
  -- the samples are settled
  pub open_settled : IsSettled header ms
  open_settled = rest_settled header ms (given_of b) (decided_of b) (shared_of b) good.sound stand rest

  -- a known cell is recoverable
  known_half : (cell : Cell) → is_in_square header.k cell ≡ true → is_found (given_of b) (decided_of b) cell ≡ true → Half header ms cell
  known_half = found_half header ms (given_of b) (decided_of b) (shared_of b) good.sound stand

  -- and a recoverable one is known
  half_known : (cell : Cell) → Half header ms cell → is_found (given_of b) (decided_of b) cell ≡ true
  half_known = half_found header ms (given_of b) (decided_of b) (shared_of b) good.sound stand rest

  -- so the unknown cells are those that aren't recoverable
  pub left_over : (cells : CellList) → AreNotFound b cells → AreLeft header ms cells
  left_over cells are = record {
    width = are.width ∙ sym good.width;
    row_major = are.row_major;
    left = λ cell. (
      (λ at.
          let out = (are.left cell).0 at in (
            subst (λ (k : ℕ). is_in_square k cell ≡ true) (sym good.width) out.0,
            λ half. out.1 (half_known cell half),
          )),
      λ out.
          (are.left cell).1 (
            subst (λ (k : ℕ). is_in_square k cell ≡ true) good.width out.0,
            λ known. out.1 (known_half cell out.0 known),
          ),
    );
  }

  -- where there are some they are missing
  pub open_missing : (cells : CellList) → AreNotFound b cells → cells.list ≢ [] → IsMissing header ms cells
  open_missing cells are some =
      let left = left_over cells are in
      record { settled = open_settled; width = left.width; row_major = left.row_major; some = some; missing = left.left }

  module _ (cells : CellList) (are : AreNotFound b cells) (none : cells.list ≡ []) where
    -- where there are none all cells are recoverable
    all_half : (cell : Cell) → is_in_square header.k cell ≡ true → Half header ms cell
    all_half cell within = elim (cases_Bool (is_found (given_of b) (decided_of b) cell)) [
      | inl known ↦ known_half cell within known
      | inr unknown ↦
          let at : Contains cells.list cell =
          (are.left cell).1 (subst (λ (k : ℕ). is_in_square k cell ≡ true) good.width within, λ is. true≢false (sym is ∙ unknown)) in
          absurd (contains_none cell (subst (λ (l : List Cell). Contains l cell) none at))
    ]

    -- each original one lies on a decided row, and its share is a fact
    original_fact : (cell : Cell) → is_original header.k cell ≡ true → Fact header ms cell (shared_of b cell)
    original_fact cell within =
        let quarter = original-inside header.k cell within in
        let there : is_in_square header.k cell ≡ true = original_inside header.k cell quarter.0 quarter.1 in
        lined_fact header ms (given_of b) (decided_of b) (shared_of b) good.sound stand cell there
        (lined_by (decided_of b) Row cell (decided_set header ms (given_of b) (decided_of b) (shared_of b) good.sound stand rest Row cell.row
        (all_decided header ms all_half Row cell.row (inside header.k cell there).0)))

    -- so the shares of these are a whole square
    pub open_whole : AreRoots header → (shares : List Share) → AreOriginals b shares → IsWhole header ms (record { k = header.k; shares = shares })
    open_whole roots shares originals =
        let square : SquareShares = record { k = header.k; shares = shares } in
        whole_square header ms square roots
        (record { width = roots.width; count = originals.count ∙ ap (λ (k : ℕ). k * k) (sym good.width) })
        refl all_half open_settled (λ cell within.
        subst (λ (s : Share). Fact header ms cell s)
        (sym (subst (λ (k : ℕ). share_at k shares cell ≡ shared_of b cell) (sym good.width)
        (originals.are cell (subst (λ (k : ℕ). is_original k cell ≡ true) good.width within))))
        (original_fact cell within))

-- a list of the unknown cells of a session that nothing ended is for the header's width
pub left_width : (header : Roots) (b : Board) (tools : Tools) (end : Option Ending) → IsOpenBoard header b tools end → state_by (end_of end) ≡ state.Open
    → (cells : CellList) → AreNotFound b cells → cells.k ≡ header.k
left_width header b tools None held is cells are = are.width ∙ sym held.0.width
left_width header b tools (Some (ended.Fraud proof)) held is cells are = absurd cc
left_width header b tools (Some (ended.Clash clash)) held is cells are = absurd cc

-- and these cells are those that aren't recoverable
pub held_left : (header : Roots) (b : Board) (tools : Tools) (end : Option Ending) → IsOpenBoard header b tools end → state_by (end_of end) ≡ state.Open
    → (cells : CellList) → AreNotFound b cells → (ms : List Message) → KeepsFor header ms b end → AreLeft header ms cells
held_left header b tools None held is cells are ms stand = left_over header b held.0 held.2 ms stand cells are
held_left header b tools (Some (ended.Fraud proof)) held is cells are ms stand = absurd cc
held_left header b tools (Some (ended.Clash clash)) held is cells are ms stand = absurd cc
