use Rattle.std.proofs.Common.{subst}
use Rattle.data_header.specs.Headers.{AreRoots}
use Rattle.befp_verify.proofs.UnprovedLemmas.{none_refused}
use Rattle.befp_verify.proofs.CauseLemmas.{one_cause}
use Rattle.befp_verify.proofs.verifying.cause_law.Goals as goal

pub returns : goal.returns
returns c = λ claim.
    let roots : AreRoots c.args.header.now = subst AreRoots c.header.view_is c.header.invariant in
    one_cause c.args.header.now claim
    (none_refused c.args.header.now claim (λ m. c.message_laws.ensures.refusal c.args.header.now m roots) 0 claim.cells)
    (λ accepts. c.claim_laws.ensures.apart c.args.header.now.k claim _ roots.width (c.claim_laws.ensures.inside c.args.header.now claim accepts.set_shape accepts.proved) accepts.bad)
