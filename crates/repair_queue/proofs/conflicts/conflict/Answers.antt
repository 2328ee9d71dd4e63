use Rattle.std.proofs.Common.{List, subst}
use Rattle.namespace_id.specs.declared.shares.Share.{Share}
use Rattle.befp_maker.specs.Conflicts.{IsProofAgainst, IsClashAgainst}
use Rattle.repair_queue.proofs.Facts.ConflictLemmas.{against_fraud, against_clash}
use Rattle.repair_queue.proofs.conflicts.conflict.Goals as goal

-- the fraud proof is one of facts
pub returns-in-Ok : goal.returns-in-Ok
returns-in-Ok c = λ ms facts fact.
    against_fraud c.args.header.now ms c.args.axis c.args.index c.args.tools.now.line.items c.args.other c.in-Ok.proof
    (subst (λ (line : List Share). IsProofAgainst c.args.header.now c.args.axis c.args.index line c.args.other c.in-Ok.proof) c.deref.ensures.value c.in-Ok.ensures.proof)
    facts fact

-- or the collision is that of trees that are known
pub returns-in-Err : goal.returns-in-Err
returns-in-Err c = λ ms facts fact.
    against_clash c.args.header.now ms c.args.axis c.args.index c.args.tools.now.line.items c.args.other c.in-Err.clash.left c.in-Err.clash.right
    c.requires.line c.requires.other
    (subst (λ (line : List Share). IsClashAgainst c.args.header.now c.args.axis c.args.index line c.args.other c.in-Err.clash.left c.in-Err.clash.right)
    c.deref.ensures.value c.in-Err.ensures.clash) facts fact
