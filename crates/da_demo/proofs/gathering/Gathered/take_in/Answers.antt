use Rattle.std.proofs.Common.{◌∙◌, [], ◌∷◌, ◌++◌, refl, subst}
use Rattle.axis_roots.specs.declared.message.messages.Message.{Message}
use Rattle.repair_queue.specs.SessionParts.{SessionStands}
use Rattle.da_demo.specs.Sessions.{proved_of}
use Rattle.da_demo.proofs.GatheredLemmas.{take_lie, take_kept}
use Rattle.da_demo.proofs.gathering.Gathered.take_in.Goals as goal

-- it is proved
pub returns-in_ok-feed-in-Some-clause-gathered : goal.returns-in_ok-feed-in-Some-clause-gathered
returns-in_ok-feed-in-Some-clause-gathered c = λ ms before.
    let known = c.in-Some.ensures in
    let header = c.args.header.now in
    take_kept header ms c.args.message c.args.self.now _ before known.holds (c.feed.ensures.header ∙ c.requires.header)
    (subst (λ (m : Message). SessionStands c.feed.new.self (proved_of header ms ++ m ∷ [])) known.message
    (c.in_ok-feed-in-Some.ensures.stands (proved_of header ms) before.fed)) refl refl

-- it isn't proved
pub returns-in-None-clause-gathered : goal.returns-in-None-clause-gathered
returns-in-None-clause-gathered c = λ ms before.
    take_lie c.args.header.now ms c.args.message c.args.self.now _ before (c.in-None.ensures.fails refl) refl refl refl
