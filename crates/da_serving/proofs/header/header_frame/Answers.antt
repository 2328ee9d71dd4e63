use Rattle.std.proofs.Common.{List, subst}
use Rattle.namespace_id.specs.declared.digests.Digest.{Digest}
use Rattle.namespace_id.specs.Digests.{AreDigests}
use Rattle.da_serving.proofs.HeaderLemmas.{sized_header}
use Rattle.da_serving.proofs.header.header_frame.Goals as goal

-- its roots are digests
pub returns-clause-size : goal.returns-clause-size
returns-clause-size c =
    sized_header c.args.header _ _ _ c.header.view_is c.header.invariant
    (subst (λ (l : List Digest). AreDigests l) c.deref.ensures.value c.digests_law.ensures)
    (subst (λ (l : List Digest). AreDigests l) c.deref-2.ensures.value c.digests_law-2.ensures)
