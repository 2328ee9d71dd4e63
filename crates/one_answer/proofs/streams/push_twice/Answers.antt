use Rattle.one_answer.proofs.StreamLemmas.{one_push}
use Rattle.one_answer.proofs.streams.push_twice.Goals as goal

-- the bytes and the piece decide both
pub returns : goal.returns
returns c = λ bytes stands stood.
    let one = one_push bytes c.args.piece.now c.push-first.result.0 c.push-second.result.0 c.push-first.result.1 c.push-second.result.1
    c.push-first.ensures.within c.push-second.ensures.within (c.push-first.ensures.stands bytes stands).fits (c.push-second.ensures.stands bytes stood).fits
    (c.push-first.ensures.answer bytes stands) (c.push-second.ensures.answer bytes stood) in
    λ i. (one.0 i, one.1 i)
