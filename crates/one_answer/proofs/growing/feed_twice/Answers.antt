use Rattle.std.proofs.Common.{◌++◌, ◌∷◌, [], subst}
use Rattle.axis_roots.specs.declared.message.messages.Message.{Message}
use Rattle.axis_roots.specs.Proved.{kept_message}
use Rattle.repair_queue.specs.SessionParts.{SessionStands}
use Rattle.one_answer.proofs.LightLemmas.{on_both}
use Rattle.one_answer.proofs.growing.feed_twice.Goals as goal

-- both stand for the longer list, where no memory ran out
pub returns : goal.returns
returns c = λ ms stands stood.
    on_both c.feed-first.result c.feed-second.result c.feed-first.ensures.stands c.feed-second.ensures.stands (λ on also.
    c.finish_twice-verdicts.ensures (ms ++ kept_message c.args.message ∷ []) (on ms stands)
    (subst (λ (m : Message). SessionStands c.feed-second.new.self (ms ++ m ∷ [])) c.requires.copy (also ms stood)))
