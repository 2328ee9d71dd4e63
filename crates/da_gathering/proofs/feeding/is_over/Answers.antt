use Rattle.std.proofs.Common.{◌∙◌, sym}
use Rattle.da_gathering.proofs.SessionLemmas.{over_open}
use Rattle.da_gathering.proofs.feeding.is_over.Goals as goal

-- an open one is over where all cells follow
pub returns-in-Open : goal.returns-in-Open
returns-in-Open c = λ ms stand.
    over_open c.session_laws.ensures.known c.args.session.now c.has_all.result (sym c.state.ensures ∙ c.in-Open.is) ms stand (c.has_all.ensures ms stand)
