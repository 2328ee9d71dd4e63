-- Samples of known cells, for what ends a session.
use Rattle.std.proofs.Common.{◌≡◌, ◌≢◌, ◌∙◌, ℕ, List, cond, Bool, true, false, refl, sym, ap, subst, inl, inr}
use Rattle.std.specs.Prelude.{Some, None}
use Rattle.std.proofs.lemmas.Bool.{true≢false}
use Rattle.namespace_id.specs.declared.cells.Cell.{Cell}
use Rattle.namespace_id.specs.declared.cells.Axis.{Axis}
use Rattle.namespace_id.specs.declared.cells.Axis.TheVariants.{Row, Col}
use Rattle.namespace_id.specs.declared.shares.Share.{Share}
use Rattle.namespace_id.specs.Cells.{is_in_square}
use Rattle.data_header.specs.Headers.{Roots}
use Rattle.axis_roots.specs.declared.message.messages.Message.{Message}
use Rattle.axis_roots.specs.declared.message.proved.Proved.{Proved}
use Rattle.axis_roots.specs.Messages.{index}
use Rattle.axis_roots.specs.Proved.{kept_message}
use Rattle.axis_roots.specs.Grids.{axis_shares}
use Rattle.axis_roots.proofs.Grids.NumberLemmas.{index-lt}
use Rattle.befp_maker.specs.Conflicts.{IsLineOf}
use Rattle.repair_queue.specs.declared.boards.Board.{Board}
use Rattle.repair_queue.specs.Closures.{Fact}
use Rattle.repair_queue.specs.Settled.{along}
use Rattle.repair_queue.specs.Slots.{Kept, Flags, IsKnown, IsEmptied}
use Rattle.repair_queue.specs.Boards.{Shared, is_lined, is_found, share_of_first, found_share, given_of, decided_of, shared_of, IsSound, HoldsFor}
use Rattle.repair_queue.specs.Judging.{IsReadable, IsOtherMessage}
use Rattle.repair_queue.specs.Moves.{IsMessageAt}
use Rattle.repair_queue.proofs.Places.PlaceLemmas.{same_slot}
use Rattle.repair_queue.proofs.Lines.LinedLemmas.{found_how}
use Rattle.repair_queue.proofs.Feeding.AtRestLemmas.{lined_fact, shown_fact}

-- of a known cell on no decided row or column a sample is kept
pub known_given : (slot : Kept) (flag : Flags) (cell : Cell) → is_found slot flag cell ≡ true → is_lined flag cell ≡ false → IsKnown slot cell
known_given slot flag cell found off = elim (found_how slot flag cell found) [
  | inl on ↦ absurd (true≢false (sym on ∙ off))
  | inr known ↦ known
]

-- the line of the decided row or column of a cell has the header's root
pub line_there : (header : Roots) (b : Board) (axis : Axis) (cell : Cell) → IsReadable header b → is_in_square header.k cell ≡ true
    → decided_of b axis (index axis cell) ≡ true → IsLineOf header axis (index axis cell) (axis_shares b.grid.k b.grid.shares axis (index axis cell))
line_there header b axis cell readable within on =
    subst (λ (k : ℕ). IsLineOf header axis (index axis cell) (along k (shared_of b) axis (index axis cell))) readable.width
    (readable.sound.lines axis (index axis cell) (index-lt header.k axis cell within) on)

-- a sample that was taken
pub taken_message : (header : Roots) (slot : Kept) (flag : Flags) (shares : Shared) (cell : Cell) (kept : Proved) (axis : Axis) → IsSound header slot flag shares
    → slot axis cell ≡ Some kept → is_lined flag cell ≡ false → (kept_message kept).share ≡ share_of_first (slot Row cell) (slot Col cell)
    → IsMessageAt header cell (found_share slot flag shares cell) kept
taken_message header slot flag shares cell kept axis sound held off share =
    let s = sound.slotted axis cell kept held in record {
      under = s.under;
      cell_is = s.cell_is;
      share_is = share ∙ sym (ap (λ (b : Bool). cond b (shares cell) (share_of_first (slot Row cell) (slot Col cell))) off);
    }

-- what is left is sound
pub emptied_sound : (header : Roots) (old new : Kept) (flag : Flags) (shares : Shared) (axis : Axis) (cell : Cell) → IsEmptied old new axis cell
    → IsSound header old flag shares → IsSound header new flag shares
emptied_sound header old new flag shares axis cell emptied sound = record {
  slotted = λ other d kept e. elim (same_slot other axis d cell) [
    | inl (ea, ed) ↦
        let none : None ≡ Some kept = sym emptied.here ∙ sym (ap (λ (a : Axis). new a d) ea ∙ ap (new axis) ed) ∙ e in absurd cc
    | inr apart ↦ sound.slotted other d kept (sym (emptied.elsewhere other d apart) ∙ e)
  ];
  lines = sound.lines;
}

-- another sample that was taken
pub other_taken : (header : Roots) (b : Board) (cell : Cell) (share : Share) (kept : Proved) → IsReadable header b → is_lined (decided_of b) cell ≡ false
    → (axis : Axis) × (given_of b axis cell ≡ Some kept) → (kept_message kept).share ≢ share → IsOtherMessage header b cell share kept
other_taken header b cell share kept readable off held apart =
    let s = readable.sound.slotted held.0 cell kept held.1 in record { under = s.under; cell_is = s.cell_is; other = apart; known = inl (off, held) }

-- and a fact
pub other_fact : (header : Roots) (ms : List Message) (b : Board) (cell : Cell) (share : Share) (kept : Proved) → is_in_square header.k cell ≡ true → IsReadable header b
    → HoldsFor header ms b → IsOtherMessage header b cell share kept → Fact header ms (kept_message kept).cell (kept_message kept).share
other_fact header ms b cell share kept inside readable stand o =
    subst (λ (c : Cell). Fact header ms c (kept_message kept).share) (sym o.cell_is) (elim o.known [
      | inl (off, (axis, held)) ↦
          shown_fact header ms (given_of b) (decided_of b) (shared_of b) readable.sound stand axis cell (kept_message kept).share off
          (record { kept = kept; held = held; share_is = refl })
      | inr (on, same) ↦
          subst (Fact header ms cell) (sym same) (lined_fact header ms (given_of b) (decided_of b) (shared_of b) readable.sound stand cell inside on)
    ])
