use Rattle.std.proofs.Common.{◌≡◌, ◌∙◌, ℕ, List, Bool, Some, get_or, slice_get, sym, subst, ⊎_elim, arith}
use Rattle.std.proofs.lemmas.Bool.{cases_lt}
use Rattle.std.proofs.lemmas.Option.{slice_get_within, slice_get-get_or, get_or_from_slice_get}
use Rattle.namespace_id.specs.declared.cells.Cell.{Cell}
use Rattle.namespace_id.specs.Cells.{is_in_square}
use Rattle.namespace_id.proofs.RoomLemmas.{all_each}
use Rattle.light_node.specs.Nodes.{is_marked}
use Rattle.light_node.proofs.ListLemmas.{listed_at}
use Rattle.light_node.proofs.marks.first_unmarked.Goals as goal

-- the cell that was read is the one that stands there
read_there : (k : ℕ) (shown : List Bool) (cells : List Cell) (i : ℕ) (none cell : Cell) (mark : Bool)
    → is_marked k shown (get_or cells i none) ≡ mark → slice_get cells i ≡ Some cell → is_marked k shown cell ≡ mark
read_there k shown cells i none cell mark read at =
    subst (λ (x : Cell). is_marked k shown x ≡ mark) (get_or_from_slice_get cells i cell none at) read

-- each cell of the list is one of the square
pub is_marked-requires-clause-cell : goal.is_marked-requires-clause-cell
is_marked-requires-clause-cell c =
    all_each (is_in_square c.args.k) c.args.cells.now c.requires.inside _ (listed_at c.args.cells.now c.loop-next.next _
    (slice_get-get_or c.args.cells.now c.loop-next.next _ c.loop-next-test.true))

-- one more is marked
pub loop-next-preserved : goal.loop-next-preserved
loop-next-preserved c = record {
  within = omega arith;
  before = λ i cell below e. ⊎_elim
      (λ l. c.loop-next.invariant.before i cell l e)
      (λ l.
      let is : i ≡ c.loop-next.next = omega arith in
      read_there c.args.k c.args.shown.now c.args.cells.now c.loop-next.next _ cell _
      (sym c.is_marked.ensures ∙ c.if-is_marked.true)
      (subst (λ (j : ℕ). slice_get c.args.cells.now j ≡ Some cell) is e))
      (cases_lt i c.loop-next.next);
}

-- the next one isn't
pub returns-else-is_marked-clause-unmarked : goal.returns-else-is_marked-clause-unmarked
returns-else-is_marked-clause-unmarked c = λ cell e.
    read_there c.args.k c.args.shown.now c.args.cells.now c.loop-next.next _ cell _
    (sym c.is_marked.ensures ∙ c.if-is_marked.false) e

-- or there is none
pub returns-after-loop-next-clause-unmarked : goal.returns-after-loop-next-clause-unmarked
returns-after-loop-next-clause-unmarked c = λ cell e.
    absurd (omega (arith, slice_get_within c.args.cells.now c.loop-next.next cell e))
