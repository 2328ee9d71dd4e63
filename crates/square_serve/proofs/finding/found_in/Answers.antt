use Rattle.std.proofs.Common.{◌∙◌}
use Rattle.std.proofs.lemmas.Result.{IfOk-weaker}
use Rattle.square_serve.proofs.FindingLemmas.{among_front}
use Rattle.square_serve.proofs.finding.found_in.Goals as goal

-- the shares are those of the row
pub returns : goal.returns
returns c = λ k row grid is.
    IfOk-weaker c.with_shares.result _ _
    (λ found says. says ∙ among_front k row grid c.args.shares.now c.place_in.result is.shares c.place_in.ensures.columns ∙ c.place_in.ensures.found k row grid is)
    c.with_shares.ensures
