-- A session as contracts see it keeps what its board keeps, and stands for the same samples.
use Rattle.std.proofs.Common.{◌≡◌, ◌∙◌, ℕ, zero, suc, ◌*◌, ◌<◌, List, [], ◌∷◌, ◌++◌, map, get_or, Bool, ◌||◌, true, false, refl, sym, ap, subst}
use Rattle.std.specs.Prelude.{Option, Some, None, is_some}
use Rattle.std.specs.List.{Contains}
use Rattle.namespace_id.specs.declared.cells.Cell.{Cell}
use Rattle.namespace_id.specs.declared.cells.Axis.{Axis}
use Rattle.namespace_id.specs.declared.cells.Axis.TheVariants.{Row, Col}
use Rattle.namespace_id.specs.Cells.{is_width}
use Rattle.namespace_id.specs.Lists.{ascending}
use Rattle.namespace_id.proofs.WidthLemmas.{is_width-pos}
use Rattle.data_header.specs.Headers.{Roots}
use Rattle.axis_roots.specs.declared.message.messages.Message.{Message}
use Rattle.axis_roots.specs.declared.message.proved.Proved.{Proved}
use Rattle.axis_roots.specs.Messages.{index, position}
use Rattle.axis_roots.specs.Openings.{IsProved}
use Rattle.axis_roots.specs.Proved.{kept_message}
use Rattle.axis_roots.specs.Lines.{cell_on}
use Rattle.axis_roots.specs.Grids.{share_at}
use Rattle.axis_roots.proofs.Grids.AxisLemmas.{cell_on-own}
use Rattle.axis_roots.proofs.Grids.NumberLemmas.{position-lt, index-lt}
use Rattle.axis_roots.proofs.Grids.WrittenLemmas.{on_axis_in_square}
use Rattle.repair_queue.specs.declared.boards.Board.{Board}
use Rattle.repair_queue.specs.declared.tools.Tools.{Tools}
use Rattle.repair_queue.specs.declared.ending.Ending.{Ending}
use Rattle.repair_queue.specs.declared.ending.Ending.TheVariants as ended
use Rattle.repair_queue.specs.declared.verdict.Verdict.{Verdict}
use Rattle.repair_queue.specs.Closures.{Fact, shown, IsDecided}
use Rattle.repair_queue.specs.Settled.{IsLineSettled}
use Rattle.repair_queue.specs.Repairs.{Shows, IsSlotted, IsEnd}
use Rattle.repair_queue.specs.Verdicts.{VerdictParts, IsVerdict}
use Rattle.repair_queue.specs.Answers.{verdict_parts, EndsAs}
use Rattle.repair_queue.specs.Tools.{AreTools}
use Rattle.repair_queue.specs.Places.{places_in}
use Rattle.repair_queue.specs.Boards.{is_lined, is_found, given_of, decided_of, shared_of, IsGood, AreAtRest, HoldsFor}
use Rattle.repair_queue.specs.Moves.{Steps}
use Rattle.repair_queue.specs.OpenBoards.{IsOpenBoard, KeepsFor}
use Rattle.repair_queue.specs.SessionParts.{SessionParts, message_kept, is_known, line_share, IsShownBy, KeepsShare, StandsOpen, SessionStands}
use Rattle.repair_queue.specs.Views.{certified_message, parts_by}
use Rattle.repair_queue.proofs.Facts.ChosenLemmas.{first_chosen, chosen-lt}
use Rattle.repair_queue.proofs.Facts.ClosureLemmas.{fact_half}
use Rattle.repair_queue.proofs.Places.TakenLemmas.{under_proved}
use Rattle.repair_queue.proofs.Counting.CountedLemmas.{nothing_rests}
use Rattle.repair_queue.proofs.Feeding.StandLemmas.{nothing_stands}
use Rattle.repair_queue.proofs.Lines.LinedLemmas.{lined_one, lined_on}
use Rattle.repair_queue.proofs.Feeding.AtRestLemmas.{lined_fact, found_half, half_found, decided_set, rest_settled}
use Rattle.repair_queue.proofs.Feeding.SessionLemmas.{open_stands, step_open, step_keeps, ended_keeps}

-- an entry of a list whose elements were mapped
map_at : {A B : Type 0} (f : A → B) (d : A) (xs : List A) (i : ℕ) → get_or (map f xs) i (f d) ≡ f (get_or xs i d)
map_at f d [] i = refl
map_at f d (x ∷ xs) zero = refl
map_at f d (x ∷ xs) (suc i) = map_at f d xs i

-- a sample is there where a certificate is
same_some : (slot : Option Proved) → is_some (certified_message slot) ≡ is_some slot
same_some (Some kept) = refl
same_some None = refl

-- the certificate of a sample that is there
of_some : (slot : Option Proved) (m : Message) → certified_message slot ≡ Some m → (kept : Proved) × (slot ≡ Some kept) × (kept_message kept ≡ m)
of_some (Some kept) m e = (kept, refl, cc)
of_some None m e = absurd cc

module _ (header : Roots) (b : Board) (good : IsGood header b) (end : Option Ending) where
  -- the sample that is seen of a cell is that of the certificate that is kept
  pub message_here : (axis : Axis) (cell : Cell) → message_kept (parts_by header b end) axis cell ≡ certified_message (given_of b axis cell)
  message_here axis cell =
      ap (λ (k : ℕ). get_or (map certified_message b.pool.given) (places_in k b.pool.places.rows b.pool.places.cols axis cell) None)
      (good.width ∙ sym good.parts.pool_width)
      ∙ map_at certified_message None b.pool.given (places_in b.pool.places.k b.pool.places.rows b.pool.places.cols axis cell)

  -- so is the share of a cell
  pub share_here : (cell : Cell) → line_share (parts_by header b end) cell ≡ shared_of b cell
  share_here cell = ap (λ (k : ℕ). share_at (2 * k) b.grid.shares cell) good.width

  -- and the known cells are those of the board
  pub known_here : (cell : Cell) → is_known (parts_by header b end) cell ≡ is_found (given_of b) (decided_of b) cell
  known_here cell =
      ap (λ (x : Bool). is_lined (decided_of b) cell || x || is_some (message_kept (parts_by header b end) Col cell))
      (ap is_some (message_here Row cell) ∙ same_some (given_of b Row cell))
      ∙ ap (λ (x : Bool). is_lined (decided_of b) cell || is_some (given_of b Row cell) || x)
      (ap is_some (message_here Col cell) ∙ same_some (given_of b Col cell))

module _ (header : Roots) (b : Board) (good : IsGood header b) (ms : List Message) where
  -- what the board keeps stands for samples for which the session stands
  pub stands_holds : (end : Option Ending) → StandsOpen (parts_by header b end) ms → HoldsFor header ms b
  stands_holds end stand = record {
    fed = λ axis cell kept off held. (stand.kept axis cell (kept_message kept) off (message_here header b good end axis cell ∙ ap certified_message held)).listed;
    facts = λ axis i pos hi hp on.
        subst (Fact header ms (cell_on axis i pos)) (share_here header b good end (cell_on axis i pos))
        (stand.shares (cell_on axis i pos) (on_axis_in_square header.k axis i pos hi hp) (lined_on (decided_of b) axis i pos on));
    lined = λ m at proved on.
        let one = lined_one (decided_of b) m.cell on in
        let axis : Axis = one.0 in
        let here : cell_on axis (index axis m.cell) (position axis m.cell) ≡ m.cell = cell_on-own axis m.cell in
        let d : IsDecided header ms axis (index axis m.cell) =
        (stand.decided axis (index axis m.cell) (index-lt header.k axis m.cell proved.inside)).0 one.1 in
        let x : IsLineSettled header ms axis (index axis m.cell) = stand.settled axis (index axis m.cell) d in
        let below : position axis m.cell < 2 * header.k = position-lt header.k axis m.cell proved.inside in
        let kept : Fact header ms m.cell (shared_of b m.cell) =
        subst (Fact header ms m.cell) (share_here header b good end m.cell) (stand.shares m.cell proved.inside on) in
        (x.only (position axis m.cell) below (shared_of b m.cell)).0 (subst (λ (c : Cell). Fact header ms c (shared_of b m.cell)) (sym here) kept)
        ∙ sym ((x.only (position axis m.cell) below m.share).0 (subst (λ (c : Cell). Fact header ms c m.share) (sym here) (shown m at proved)));
    shown = λ m at proved off.
        let keeps : KeepsShare (parts_by header b end) m.cell m.share =
        stand.shown m.cell m off (record { listed = at; proved = proved; cell_is = refl }) in
        let held = of_some (given_of b keeps.0 m.cell) keeps.1 (sym (message_here header b good end keeps.0 m.cell) ∙ keeps.2) in
        (keeps.0, record { kept = held.0; held = held.1; share_is = ap (λ (x : Message). x.share) held.2 ∙ keeps.3 });
  }

  module _ (rest : AreAtRest header.k (given_of b) (decided_of b)) (hold : HoldsFor header ms b) where
    -- a row or a column that is marked is decided
    set_decided : (axis : Axis) (i : ℕ) → i < 2 * header.k → decided_of b axis i ≡ true → IsDecided header ms axis i
    set_decided axis i within on = record {
      within = within;
      chosen = ascending 0 header.k;
      are_chosen = first_chosen header.k;
      halves = λ p at.
          fact_half header ms (cell_on axis i p) (shared_of b (cell_on axis i p))
          (hold.facts axis i p within (chosen-lt header.k (ascending 0 header.k) (first_chosen header.k) p at) on);
    }

    -- the sample of a certificate that is kept is one of them
    shown_by : (axis : Axis) (cell : Cell) (m : Message) → is_lined (decided_of b) cell ≡ false → certified_message (given_of b axis cell) ≡ Some m
        → IsShownBy header ms cell m
    shown_by axis cell m off e =
        let held = of_some (given_of b axis cell) m e in
        let kept : Proved = held.0 in
        let slotted : IsSlotted header axis cell kept = good.sound.slotted axis cell kept held.1 in
        subst (IsShownBy header ms cell) held.2 (record {
          listed = hold.fed axis cell kept off held.1;
          proved = under_proved header kept slotted.under;
          cell_is = slotted.cell_is;
        })

    -- a share that is shown is kept
    keeps_share : (end : Option Ending) (m : Message) → is_lined (decided_of b) m.cell ≡ false → Contains ms m → IsProved header m
        → KeepsShare (parts_by header b end) m.cell m.share
    keeps_share end m off at proved =
        let there = hold.shown m at proved off in
        let shows : Shows (given_of b there.0 m.cell) m.share = there.1 in
        (there.0, kept_message shows.kept, message_here header b good end there.0 m.cell ∙ ap certified_message shows.held, shows.share_is)

    -- the session stands for the samples for which its board's contents do
    pub holds_stands : (end : Option Ending) → StandsOpen (parts_by header b end) ms
    holds_stands end = record {
      known = λ cell inside. (
        (λ is. found_half header ms (given_of b) (decided_of b) (shared_of b) good.sound hold cell inside (sym (known_here header b good end cell) ∙ is)),
        λ half. known_here header b good end cell ∙ half_found header ms (given_of b) (decided_of b) (shared_of b) good.sound hold rest cell half,
      );
      settled = rest_settled header ms (given_of b) (decided_of b) (shared_of b) good.sound hold rest;
      decided = λ axis i within. (
        (λ on. set_decided axis i within on),
        λ d. decided_set header ms (given_of b) (decided_of b) (shared_of b) good.sound hold rest axis i d,
      );
      shares = λ cell inside on.
          subst (Fact header ms cell) (sym (share_here header b good end cell))
          (lined_fact header ms (given_of b) (decided_of b) (shared_of b) good.sound hold cell inside on);
      kept = λ axis cell m off e. shown_by axis cell m off (sym (message_here header b good end axis cell) ∙ e);
      shown = λ cell m off by.
          subst (λ (c : Cell). KeepsShare (parts_by header b end) c m.share) by.cell_is
          (keeps_share end m (subst (λ (c : Cell). is_lined (decided_of b) c ≡ false) (sym by.cell_is) off) by.listed by.proved);
    }

-- a session that stands for samples keeps what stands for them
pub stands_keeps : (header : Roots) (b : Board) (tools : Tools) (end : Option Ending) → IsOpenBoard header b tools end → (ms : List Message)
    → SessionStands (parts_by header b end) ms → KeepsFor header ms b end
stands_keeps header b tools None held ms stand = stands_holds header b held.0 ms None stand
stands_keeps header b tools (Some (ended.Fraud proof)) held ms stand = stand
stands_keeps header b tools (Some (ended.Clash pair)) held ms stand = stand

-- and the other way round
pub keeps_stands : (header : Roots) (b : Board) (tools : Tools) (end : Option Ending) → IsOpenBoard header b tools end → (ms : List Message)
    → KeepsFor header ms b end → SessionStands (parts_by header b end) ms
keeps_stands header b tools None held ms keeps = holds_stands header b held.0 ms held.2 keeps None
keeps_stands header b tools (Some (ended.Fraud proof)) held ms keeps = keeps
keeps_stands header b tools (Some (ended.Clash pair)) held ms keeps = keeps

-- ---- a session from its start to its end

-- at the start nothing has ended it, and it stands for no sample
pub new_open : (header : Roots) (b : Board) (tools : Tools) (k : ℕ) → k ≡ header.k → is_width k ≡ true → ((h : Roots) → h.k ≡ k → IsGood h b) → AreTools k tools
    → ((axis : Axis) (cell : Cell) → given_of b axis cell ≡ None) → ((axis : Axis) (i : ℕ) → decided_of b axis i ≡ false)
    → IsOpenBoard header b tools None × SessionStands (parts_by header b None) []
new_open header b tools k width wide good are empty undecided =
    let held : IsOpenBoard header b tools None = (
      good header (sym width),
      subst (λ (n : ℕ). AreTools n tools) width are,
      nothing_rests header.k (given_of b) (decided_of b) (subst (λ (n : ℕ). 0 < n) width (is_width-pos k wide)) empty undecided,
    ) in
    (held, keeps_stands header b tools None held [] (nothing_stands header (given_of b) (decided_of b) (shared_of b) empty undecided))

-- after a step it stands for one sample more
pub step_stands : (header : Roots) (old new : Board) (before after : Tools) (end result : Option Ending) (m : Message) → is_some end ≡ false
    → IsOpenBoard header old before end → Steps header old new after m result → (ms : List Message) → SessionStands (parts_by header old end) ms
    → SessionStands (parts_by header new result) (ms ++ m ∷ [])
step_stands header old new before after end result m is held steps ms stand =
    keeps_stands header new after result (step_open header old new after m result steps) (ms ++ m ∷ [])
    (step_keeps header old new after m result steps ms (open_stands header ms old end is (stands_keeps header old before end held ms stand)))

-- so does one that something ended before
pub ended_stands : (header : Roots) (b : Board) (tools : Tools) (end : Option Ending) (m : Message) → is_some end ≡ true
    → IsOpenBoard header b tools end → (ms : List Message) → SessionStands (parts_by header b end) ms → SessionStands (parts_by header b end) (ms ++ m ∷ [])
ended_stands header b tools end m is held ms stand =
    keeps_stands header b tools end held (ms ++ m ∷ []) (ended_keeps header ms m b end is (stands_keeps header b tools end held ms stand))

-- what ended a session is an answer
ended_verdict : (header : Roots) (ms : List Message) (end : Ending) (verdict : Verdict) → IsEnd header ms end → EndsAs end verdict
    → IsVerdict header ms (verdict_parts verdict)
ended_verdict header ms (ended.Fraud proof) verdict is as_it = subst (λ (v : VerdictParts). IsVerdict header ms v) (sym as_it) is
ended_verdict header ms (ended.Clash pair) verdict is as_it = subst (λ (v : VerdictParts). IsVerdict header ms v) (sym as_it) is

module _ (header : Roots) (b : Board) (tools : Tools) (end : Option Ending) (s : SessionParts) (view : parts_by header b end ≡ s)
    (held : IsOpenBoard header b tools end) (ms : List Message) (stand : SessionStands s ms) where
  -- what is kept where this ended it
  finish_keeps : (other : Option Ending) → end ≡ other → KeepsFor header ms b other
  finish_keeps other is =
      subst (λ (e : Option Ending). KeepsFor header ms b e) is
      (stands_keeps header b tools end held ms (subst (λ (x : SessionParts). SessionStands x ms) (sym view) stand))

  finish_header : (v : VerdictParts) → IsVerdict header ms v → IsVerdict s.header ms v
  finish_header v = subst (λ (h : Roots). IsVerdict h ms v) (ap (λ (x : SessionParts). x.header) view)

  -- where nothing did, what the board answers is an answer
  pub finish_open : (v : VerdictParts) → end ≡ None → (HoldsFor header ms b → IsVerdict header ms v) → IsVerdict s.header ms v
  finish_open v none answers = finish_header v (answers (finish_keeps None none))

  -- where something did, that is
  pub finish_ended : (e : Ending) (verdict : Verdict) → end ≡ Some e → EndsAs e verdict → IsVerdict s.header ms (verdict_parts verdict)
  finish_ended e verdict some as_it = finish_header (verdict_parts verdict) (ended_verdict header ms e verdict (finish_keeps (Some e) some) as_it)
