use Rattle.std.proofs.Common.{◌∙◌, ℕ, List, Ok, Some, inr, ap, subst}
use Rattle.da_conversing.specs.Squares.{HasSquare}
use Rattle.da_conversing.specs.Courses.{GoesOn}
use Rattle.da_conversing.proofs.holding.answer_hold.Goals as goal

-- SQUARE is a square
pub returns-in-Ok-square_of-clause-course : goal.returns-in-Ok-square_of-clause-course
returns-in-Ok-square_of-clause-course g c =
    inr (inr (
      c.in-Ok-square_of.square,
      c.square_of.new.inputs,
      subst (λ (name : List ℕ). HasSquare (g.I.Inputs.files c.args.inputs.now) name (Ok c.in-Ok-square_of.square)) c.in-Ok.ensures c.in-Ok-square_of.ensures.square,
      (c.in-Ok-square_of.ensures.picked ∙ ap (λ (name : List ℕ). Some name) c.in-Ok.ensures, c.in-Ok-square_of.ensures.picks),
      c.in-Ok-square_of.ensures.files,
      subst (λ (name : List ℕ). GoesOn g.I.Inputs g.O.Sink c.square_of.new.inputs c.answer_square.new.inputs c.args.out.now c.answer_square.new.out c.in-Ok-square_of.square name c.answer_square.result)
          c.in-Ok-word_at.ensures c.answer_square.ensures.course,
    ))
