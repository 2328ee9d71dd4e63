use Rattle.std.proofs.Common.{◌≡◌, ◌∙◌, ℕ, true, true≢false, refl, sym, subst, inl, inr}
use Rattle.namespace_id.specs.Cells.{is_in_square}
use Rattle.repair_queue.proofs.Feeding.JudgeLemmas.{line_there, other_taken}
use Rattle.repair_queue.proofs.judging.message_other.Goals as goal

-- all parts are for the header's width
pub decided_through-requires : goal.decided_through-requires
decided_through-requires c = record {
  cell = subst (λ (k : ℕ). is_in_square k c.args.cell ≡ true) (c.requires.readable.width ∙ sym c.requires.readable.marks_width) c.requires.cell;
}

pub take_other-requires-clause-cell : goal.take_other-requires-clause-cell
take_other-requires-clause-cell c =
    subst (λ (k : ℕ). is_in_square k c.args.cell ≡ true) (c.requires.readable.width ∙ sym c.requires.readable.pool_width)
    c.requires.cell

-- the line of a decided row or column has the header's root
pub make-requires-clause-line : goal.make-requires-clause-line
make-requires-clause-line c =
    line_there c.args.header.now c.args.board.now c.in-Some.axis c.args.cell c.requires.readable c.requires.cell c.in-Some.ensures.some.0

-- it shows the share of that line
pub returns-in-Some-clause-message : goal.returns-in-Some-clause-message
returns-in-Some-clause-message c = record {
  under = c.make.ensures.under;
  cell_is = c.make.ensures.cell;
  other = λ e. elim c.requires.apart [
    | inl on ↦ on.1 (sym c.make.ensures.share ∙ e)
    | inr off ↦ true≢false (sym c.in-Some.ensures.some.1 ∙ off.0)
  ];
  known = inr (c.in-Some.ensures.some.1, c.make.ensures.share);
}

-- else a sample shows another share
pub take_other-requires-clause-other : goal.take_other-requires-clause-other
take_other-requires-clause-other c = elim c.requires.apart [
  | inl on ↦ absurd (true≢false (sym on.0 ∙ c.in-None.ensures.none refl))
  | inr off ↦ off.1
]

-- the sample that was taken
pub returns-in-None-clause-message : goal.returns-in-None-clause-message
returns-in-None-clause-message c =
    other_taken c.args.header.now c.args.board.now c.args.cell c.args.share.now c.take_other.result c.requires.readable (c.in-None.ensures.none refl) c.take_other.ensures.kept c.take_other.ensures.share
