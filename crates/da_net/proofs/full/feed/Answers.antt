use Rattle.std.proofs.Common.{◌≡◌, ◌∙◌, ◌∷◌, ◌++◌, [], ℕ, length, refl, sym, ap, subst}
use Rattle.data_header.specs.Headers.{Roots}
use Rattle.axis_roots.specs.Proved.{kept_message}
use Rattle.repair_queue.specs.Verdicts.{IsVerdict, IsFraud}
use Rattle.repair_queue.specs.Answers.{verdict_parts}
use Rattle.da_net.specs.Nodes.{HasSpareClaim}
use Rattle.da_net.proofs.FullLemmas.{accepted_count, fed_ended}
use Rattle.da_net.proofs.full.feed.Goals as goal

-- a fraud proof has as many samples as there is capacity for
pub end_of-requires-clause-room : goal.end_of-requires-clause-room
end_of-requires-clause-room c = λ claim e.
    let fed = c.requires.fed in
    let header : c.feed.new.self.header ≡ c.args.header.now = c.feed.ensures.header ∙ c.requires.header in
    let ms = fed.0 ++ kept_message c.args.proved ∷ [] in
    let found : IsFraud c.feed.new.self.header ms claim =
    subst (IsVerdict c.feed.new.self.header ms) e (c.finish.ensures.verdict ms (c.feed.ensures.stands fed.0 fed.1)) in
    let count : length claim.cells ≡ c.args.header.now.k =
    accepted_count c.feed.new.self.header claim found.accepts ∙ ap (λ (h : Roots). h.k) header in
    subst (λ (n : ℕ). HasSpareClaim n c.args.room.now) (sym count) c.requires.room

-- the session goes on
pub returns-in-Open : goal.returns-in-Open
returns-in-Open c = record {
  fed = λ fed stands. (
    record {
      header_is = c.feed.ensures.header ∙ c.requires.header;
      goes_on = sym c.in-Open.ensures.state;
      stands = c.feed.ensures.stands fed stands;
    },
    refl,
  );
}

-- or it ended
pub returns-in-Fraud : goal.returns-in-Fraud
returns-in-Fraud c = record {
  fed = λ fed stands.
      let ms = fed ++ kept_message c.args.proved ∷ [] in
      fed_ended c.args.header.now ms c.args.room.now c.end_of.new.room (verdict_parts c.finish.result) c.end_of.result c.end_of.ensures.ends c.end_of.ensures.room
      (subst (λ (h : Roots). IsVerdict h ms (verdict_parts c.finish.result)) (c.feed.ensures.header ∙ c.requires.header)
      (c.finish.ensures.verdict ms (c.feed.ensures.stands fed stands)));
}
