use Rattle.std.proofs.Common.{subst, rules}
use Rattle.data_header.specs.Headers.{Roots}
use Rattle.repair_queue.specs.Verdicts.{IsVerdict}
use Rattle.repair_queue.specs.Answers.{verdict_parts}
use Rattle.da_demo.specs.Sessions.{proved_of, second_messages}
use Rattle.da_demo.proofs.sessions.second_session.Goals as goal

-- the verdict is one over what was fed
pub returns : goal.returns
returns c =
    let fed = c.in_ok-gathered.ensures in
    record {
      header = c.in_ok-header.header;
      own = search rules;
      verdict = verdict_parts c.finish.result;
      answers = subst (λ (h : Roots). IsVerdict h (proved_of c.in_ok-header.header (second_messages c.args.grid.now.k c.args.grid.now.shares)) (verdict_parts c.finish.result))
          fed.under (c.finish.ensures.verdict _ fed.fed);
      told = c.tell-outcome.ensures.outcome;
      judged = search rules;
    }
