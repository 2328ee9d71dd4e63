-- What ends a session at a sample.
use Rattle.std.proofs.Common.{◌≡◌, ◌≢◌, ◌∙◌, ℕ, ◌*◌, ◌<◌, List, [], ◌∷◌, ◌++◌, length, take, drop, map, Bool, true, false, sym, ap, subst}
use Rattle.std.specs.Prelude.{Option, Some}
use Rattle.std.specs.Str.{bytes_eq}
use Rattle.std.proofs.lemmas.List.Elements.{Contains-append_left, Contains-push}
use Rattle.namespace_id.specs.declared.cells.Cell.{Cell}
use Rattle.namespace_id.specs.declared.cells.Axis.{Axis}
use Rattle.namespace_id.specs.declared.shares.Share.{Share}
use Rattle.namespace_id.proofs.StringLemmas.{front}
use Rattle.nmt_proofs.specs.Clashes.{clash_at}
use Rattle.data_header.specs.Headers.{Roots}
use Rattle.axis_roots.specs.declared.message.messages.Message.{Message}
use Rattle.axis_roots.specs.declared.message.proved.Proved.{Proved}
use Rattle.axis_roots.specs.Messages.{index, position}
use Rattle.axis_roots.specs.Own.{opened_by}
use Rattle.axis_roots.specs.Proved.{kept_message, IsUnder}
use Rattle.axis_roots.specs.Lines.{blank, entry, cell_on}
use Rattle.axis_roots.specs.Grids.{axis_shares, axis_cells}
use Rattle.axis_roots.proofs.Grids.AxisLemmas.{get_or-along, length-along, cell_on-own}
use Rattle.axis_roots.proofs.Grids.NumberLemmas.{index-lt, position-lt}
use Rattle.befp_maker.specs.Conflicts.{IsLineOf, IsAgainst}
use Rattle.repair_queue.specs.declared.boards.Board.{Board}
use Rattle.repair_queue.specs.declared.ending.Ending.{Ending}
use Rattle.repair_queue.specs.Closures.{Fact, shown}
use Rattle.repair_queue.specs.Settled.{along}
use Rattle.repair_queue.specs.Lines.{AreFacts}
use Rattle.repair_queue.specs.Repairs.{IsEnd, IsSlotted}
use Rattle.repair_queue.specs.Verdicts.{IsFoundClash}
use Rattle.repair_queue.specs.Boards.{given_of, decided_of, shared_of, is_lined, IsGood, HoldsFor}
use Rattle.repair_queue.proofs.Places.TakenLemmas.{under_proved}
use Rattle.repair_queue.proofs.Places.TakeFromLemmas.{apart_eq}
use Rattle.repair_queue.proofs.Facts.BesideLemmas.{AreBeside, two_messages}
use Rattle.repair_queue.proofs.Feeding.StandLemmas.{fact_more}

-- the line that is read of a decided row or column
pub grid_line : (header : Roots) (b : Board) → IsGood header b → (axis : Axis) (i : ℕ) → along header.k (shared_of b) axis i ≡ axis_shares b.grid.k b.grid.shares axis i
grid_line header b good axis i = ap (λ (k : ℕ). map (shared_of b) (axis_cells k axis i)) good.width

module _ (header : Roots) (b : Board) (good : IsGood header b) (message : Proved) (under : IsUnder header message) (m : Message) (is : m ≡ kept_message message)
    (axis : Axis) (on : decided_of b axis (index axis m.cell) ≡ true) (apart : shared_of b m.cell ≢ m.share)
    (i : ℕ) (at : i ≡ index axis m.cell) (read old : List Share) (was_read : read ≡ axis_shares b.grid.k b.grid.shares axis i)
    (n : ℕ) (whole : n ≡ length old) (long : length old ≡ 2 * header.k) where
  -- the line that is read is written over another one
  abbrev line : List Share
  line = take n (read ++ drop (length read) old)

  -- the index is that of the sample's cell
  own : i ≡ index axis (kept_message message).cell
  own = at ∙ ap (λ (x : Message). index axis x.cell) is

  within : i < 2 * header.k
  within =
      subst (λ (n : ℕ). n < 2 * header.k) (sym own) (index-lt header.k axis (kept_message message).cell (under_proved header message under).inside)

  decided : decided_of b axis i ≡ true
  decided = ap (decided_of b axis) at ∙ on

  line_is : line ≡ along header.k (shared_of b) axis i
  line_is =
      front read (drop (length read) old) n (ap length was_read ∙ length-along b.grid.k (shared_of b) axis i ∙ ap (λ (k : ℕ). 2 * k) (sym good.width) ∙ sym long ∙ sym whole)
      ∙ was_read ∙ sym (grid_line header b good axis i)

  -- the line is the header's
  pub taken_line : IsLineOf header axis i line
  taken_line = subst (IsLineOf header axis i) (sym line_is) (good.sound.lines axis i within decided)

  entry_is : (pos : ℕ) → pos < 2 * header.k → entry line pos ≡ shared_of b (cell_on axis i pos)
  entry_is pos below = ap (λ (l : List Share). entry l pos) line_is ∙ get_or-along header.k (shared_of b) axis i pos blank below

  -- the sample is against it
  pub taken_against : IsAgainst header axis i line message
  taken_against = record {
    under = under;
    on_axis = sym own;
    apart = λ e.
        let cell : Cell = (kept_message message).cell in
        let below : position axis cell < 2 * header.k = position-lt header.k axis cell (under_proved header message under).inside in
        let here : shared_of b (cell_on axis i (position axis cell)) ≡ shared_of b cell =
        ap (λ (n : ℕ). shared_of b (cell_on axis n (position axis cell))) own ∙ ap (shared_of b) (cell_on-own axis cell) in
        subst (λ (x : Message). shared_of b x.cell ≢ x.share) is apart (sym here ∙ sym (entry_is (position axis cell) below) ∙ sym e);
  }

  -- which ends the session
  pub taken_ends : (ended : Ending) → ((ms : List Message) → AreFacts header ms axis i line → Fact header ms (kept_message message).cell (kept_message message).share
      → IsEnd header ms ended) → (ms : List Message) → HoldsFor header ms b → IsEnd header (ms ++ kept_message message ∷ []) ended
  taken_ends ended ends ms stand =
      let mine : Message = kept_message message in
      ends (ms ++ mine ∷ [])
      (λ pos below.
      fact_more header ms mine (cell_on axis i pos) (entry line pos)
      (subst (Fact header ms (cell_on axis i pos)) (sym (entry_is pos below)) (stand.facts axis i pos within below decided)))
      (shown mine (Contains-push ms mine) (under_proved header message under))

-- a sample that was found to show another share, and then was taken out
pub out_apart : (slot : Option Proved) (kept out : Proved) (read : Message) (share : Share) (t : Bool) → slot ≡ Some kept → slot ≡ Some out → read ≡ kept_message kept
    → t ≡ bytes_eq read.share.0 share.0 → t ≡ false → (kept_message out).share ≢ share
out_apart slot kept out read share t held taken is test off e =
    let both : Some kept ≡ Some out = sym held ∙ taken in
    let same : kept ≡ out = cc in
    apart_eq read.share share t test off (ap (λ (x : Message). x.share) is ∙ ap (λ (x : Proved). (kept_message x).share) same ∙ e)

module _ (header : Roots) (b : Board) (good : IsGood header b) (message kept : Proved) (under : IsUnder header message) (m : Message) (is : m ≡ kept_message message)
    (held : given_of b m.axis m.cell ≡ Some kept) (apart : (kept_message kept).share ≢ m.share) (off : is_lined (decided_of b) m.cell ≡ false) where
  -- the sample that is kept is proved, along the same axis and of the same cell, and shows another share
  pub slotted : IsSlotted header m.axis m.cell kept
  slotted = good.sound.slotted m.axis m.cell kept held

  pub are_beside : AreBeside header (kept_message message) (kept_message kept)
  are_beside = record {
    first = under_proved header message under;
    second = under_proved header kept slotted.under;
    axis_is = slotted.axis_is ∙ ap (λ (x : Message). x.axis) is;
    cell_is = slotted.cell_is ∙ ap (λ (x : Message). x.cell) is;
    apart = subst (λ (x : Message). (kept_message kept).share ≢ x.share) is apart;
  }

  -- their collision ends the session
  pub beside_clash : (left right : List ℕ) → clash_at (opened_by header.k (kept_message message)) (opened_by header.k (kept_message kept)) ≡ Some (left, right)
      → (ms : List Message) → HoldsFor header ms b → IsFoundClash header (ms ++ kept_message message ∷ []) left right
  beside_clash left right found ms stand =
      two_messages header (kept_message message) (kept_message kept) are_beside (ms ++ kept_message message ∷ []) left right (Contains-push ms (kept_message message))
      (Contains-append_left ms (kept_message message ∷ []) (kept_message kept) (stand.fed m.axis m.cell kept off held)) found
