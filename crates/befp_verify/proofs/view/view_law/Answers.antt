use Rattle.std.proofs.Common.{◌≡◌, ◌∙◌, List, length, get_or, ap, subst, arith}
use Rattle.std.proofs.lemmas.List.Elements.{All-more}
use Rattle.std.specs.Prelude.{IfSome}
use Rattle.namespace_id.proofs.ElementLemmas.{all_passed}
use Rattle.namespace_id.specs.Digests.{AreDigests}
use Rattle.axis_roots.specs.declared.message.messages.Message.{Message}
use Rattle.axis_roots.specs.Messages.{IsMessage}
use Rattle.axis_roots.specs.Claims.{ClaimParts}
use Rattle.befp_verify.proofs.view.view_law.Goals as goal

pub loop-message-preserved : goal.loop-message-preserved
loop-message-preserved c =
    let cells : c.claim.inside.cells.now ≡ c.args.claim.now.cells = ap (λ (claim : ClaimParts). claim.cells) c.claim.view_is in
    All-more IsMessage c.args.claim.now.cells c.loop-message.message-index c.message-item.result
    (omega (arith, ap length cells)) c.loop-message.invariant
    (subst IsMessage (c.message-item.is
    ∙ ap (λ (l : List Message). get_or l c.loop-message.message-index c.message-item.result) cells) c.message_law.ensures)

pub returns : goal.returns
returns c =
    let cells : c.claim.inside.cells.now ≡ c.args.claim.now.cells = ap (λ (claim : ClaimParts). claim.cells) c.claim.view_is in
    record {
      index_bytes = omega (arith, ap (λ (claim : ClaimParts). claim.index) c.claim.view_is);
      messages = all_passed IsMessage c.args.claim.now.cells c.loop-message.message-index
          (omega (arith, ap length cells)) c.loop-message.invariant;
      digests = subst (λ (claim : ClaimParts). IfSome claim.set AreDigests) c.claim.view_is c.set_law.ensures;
    }
