use Rattle.std.proofs.Common.{◌∙◌, sym, ap}
use Rattle.square_serve.specs.Answers.{shown}
use Rattle.square_serve.specs.Serving.{HeldParts, answer_for}
use Rattle.square_serve.proofs.Serving.AnswerLemmas.{answer_shares}
use Rattle.square_serve.proofs.held.Held.namespace.Goals as goal

pub returns-clause-shares : goal.returns-clause-shares
returns-clause-shares c = λ square holds.
    ap shown (c.in_ok-entries.ensures.entries ∙ ap (λ (held : HeldParts). answer_for held c.args.namespace.now) c.self.view_is)
    ∙ answer_shares c.args.self.now square c.args.namespace.now c.held_law.ensures.held holds c.namespace_law.ensures (sym c.if-is_parity.ensures)
