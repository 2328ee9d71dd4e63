use Rattle.da_talk.proofs.talking.answer_piece.Goals as goal

-- the talk ended within the piece
pub returns-in-Err-clause-tells : goal.returns-in-Err-clause-tells
returns-in-Err-clause-tells g c = λ old first s. c.in-Err.ensures.tells old first (c.loop-rest.invariant.tells old first s)
