use Rattle.std.proofs.Common.{ℕ, List, get_or, ap, ◌∙◌, ◌+◌, ◌/◌, arith, drop}
use Rattle.std.proofs.lemmas.List.{get_or-replicate}
use Rattle.std.specs.Prelude.{bit_xor}
use Rattle.gf_cantor.specs.Field.{combine}
use Rattle.gf_cantor.proofs.RowLemmas.{entries, row_taken, row_passed, rows_done}
use Rattle.gf_cantor.proofs.word_rows.products.Goals as goal
use Rattle.gf_cantor.proofs.word_rows.products.Goals.{then-left-eq1, else-left-eq1}

-- no row is added yet
pub loop-j-init : goal.loop-j-init
loop-j-init c i h = ap (λ x. bit_xor x (combine (entries i) c.args.by)) (get_or-replicate 128 i 0 0 h)

-- the row is added where the factor's bit is set
pub loop-j-preserved : goal.loop-j-preserved
loop-j-preserved c i h = elim c.if-left-eq1.branch [
  | then-left-eq1 w ↦
      ap (λ (l : List ℕ). bit_xor (get_or l i 0) (combine (drop (c.loop-j.j + 1) (entries i)) (c.loop-j.left / 2))) w.sums-is
      ∙ ap (λ x. bit_xor x (combine (drop (c.loop-j.j + 1) (entries i)) (c.loop-j.left / 2))) (w.add_row.ensures i h)
      ∙ row_taken i c.loop-j.j c.loop-j.left _ _ c.loop-j-test.true (omega (arith, w.if-left-eq1.true)) (c.loop-j.invariant i h)
  | else-left-eq1 w ↦
      ap (λ (l : List ℕ). bit_xor (get_or l i 0) (combine (drop (c.loop-j.j + 1) (entries i)) (c.loop-j.left / 2))) w.sums-is
      ∙ row_passed i c.loop-j.j c.loop-j.left _ _ c.loop-j-test.true (omega (arith, w.if-left-eq1.false)) (c.loop-j.invariant i h)
]

-- the sums of all rows
pub returns : goal.returns
returns c i h = rows_done i c.loop-j.j c.loop-j.left _ c.args.by h (omega arith) c.loop-j-test.false c.loop-j.auto.j-end (c.loop-j.invariant i h)
