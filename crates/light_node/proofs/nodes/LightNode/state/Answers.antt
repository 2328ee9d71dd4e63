use Rattle.std.proofs.Common.{◌∙◌, sym}
use Rattle.light_node.proofs.StateLemmas.{claim_there, claim_missing, next_waits, none_waits}
use Rattle.light_node.proofs.nodes.LightNode.state.Goals as goal

-- a claim is kept
pub returns-then-is_some : goal.returns-then-is_some
returns-then-is_some g c = λ plan events stands.
    claim_there c.args.self.now.header events c.claim.result (sym c.is_some.ensures ∙ c.if-is_some.true)
    (c.claim.ensures plan events stands)

-- none is, and a cell is waited for
pub returns-then-is_some-2 : goal.returns-then-is_some-2
returns-then-is_some-2 g c = λ plan events stands. (
  claim_missing c.args.self.now.header events c.claim.result (sym c.is_some.ensures ∙ c.if-is_some.false)
      (c.claim.ensures plan events stands),
  next_waits c.args.self.now.header plan events c.next_wanted.result (sym c.is_some-2.ensures ∙ c.if-is_some-2.true)
      (c.next_wanted.ensures plan events stands),
)

-- or none is
pub returns : goal.returns
returns g c = λ plan events stands. (
  claim_missing c.args.self.now.header events c.claim.result (sym c.is_some.ensures ∙ c.if-is_some.false)
      (c.claim.ensures plan events stands),
  none_waits c.args.self.now.header plan events c.next_wanted.result (sym c.is_some-2.ensures ∙ c.if-is_some-2.false)
      (c.next_wanted.ensures plan events stands),
)
