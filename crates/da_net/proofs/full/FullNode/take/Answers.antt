use Rattle.std.proofs.Common.{◌∙◌, ◌++◌, ◌∷◌, [], refl, sym, subst, true≢false}
use Rattle.std.specs.Prelude.{Option}
use Rattle.axis_roots.specs.declared.message.messages.Message.{Message}
use Rattle.repair_queue.specs.SessionParts.{SessionParts}
use Rattle.da_net.specs.declared.items.Item.TheVariants as item
use Rattle.da_net.specs.declared.full.Fed.TheVariants.{On, Ended}
use Rattle.da_net.specs.Networks.{messages_of}
use Rattle.da_net.specs.Nodes.{HasSpareClaim, IsFullNode, ComesOfFeeding}
use Rattle.da_net.proofs.FullLemmas.{session_of, full_ended, full_refused, taken_on, taken_end, room_end, none_rejects}
use Rattle.da_net.proofs.full.FullNode.take.Goals as goal

-- the session of an open node stands for its samples
pub feed-requires-clause-fed : goal.feed-requires-clause-fed
feed-requires-clause-fed c =
    let items = c.requires.node.0 in
    let both = session_of c.args.header.now items c.args.self.now c.in-Some.session (sym c.is_some.ensures ∙ c.if-is_some.false) (sym c.in-Some.ensures.value) c.requires.node.1 in
    (messages_of items, both.0.stands)

-- and is the header's
pub feed-requires-clause-header : goal.feed-requires-clause-header
feed-requires-clause-header c =
    (session_of c.args.header.now c.requires.node.0 c.args.self.now c.in-Some.session (sym c.is_some.ensures ∙ c.if-is_some.false)
    (sym c.in-Some.ensures.value) c.requires.node.1).0.header_is

-- an open node has a room
pub feed-requires-clause-room : goal.feed-requires-clause-room
feed-requires-clause-room c = c.requires.room (none_rejects c.args.self.now.end (sym c.is_some.ensures ∙ c.if-is_some.false))

-- it ended before
pub returns-then-is_some-clause-stands : goal.returns-then-is_some-clause-stands
returns-then-is_some-clause-stands c = λ items is.
    full_ended c.args.header.now items c.args.message c.args.self.now (sym c.is_some.ensures ∙ c.if-is_some.true) is

-- the sample isn't proved
pub returns-in_default-clause-stands : goal.returns-in_default-clause-stands
returns-in_default-clause-stands c = λ items is.
    full_refused c.args.header.now items c.args.message c.args.self.now
    (λ proved. true≢false (sym (c.in_default.ensures.accepts.1 proved))) is

-- the session goes on
pub returns-in-On-clause-stands : goal.returns-in-On-clause-stands
returns-in-On-clause-stands c = λ items is.
    subst (λ (s : Option SessionParts). IsFullNode c.args.header.now (items ++ item.Message c.args.message ∷ []) (record { session = s; end = c.args.self.now.end }))
    (sym c.replace.ensures.after)
    ((taken_on c.args.header.now items c.args.message c.args.self.now c.in-Some.session (sym c.is_some.ensures ∙ c.if-is_some.false)
    (sym c.in-Some.ensures.value) c.args.room.now c.feed.new.room is c.in-On.session
    (λ fed stands. subst (λ (m : Message). ComesOfFeeding c.args.header.now (fed ++ m ∷ []) c.args.room.now c.feed.new.room (On c.in-On.session)) c.in-Ok.ensures.message
    (c.in-On.ensures.fed fed stands))).0)

pub returns-in-On-clause-room : goal.returns-in-On-clause-room
returns-in-On-clause-room c = λ not.
    subst (HasSpareClaim c.args.header.now.k) (sym (taken_on c.args.header.now c.requires.node.0 c.args.message c.args.self.now c.in-Some.session
    (sym c.is_some.ensures ∙ c.if-is_some.false)
    (sym c.in-Some.ensures.value) c.args.room.now c.feed.new.room c.requires.node.1 c.in-On.session
    (λ fed stands. subst (λ (m : Message). ComesOfFeeding c.args.header.now (fed ++ m ∷ []) c.args.room.now c.feed.new.room (On c.in-On.session)) c.in-Ok.ensures.message
    (c.in-On.ensures.fed fed stands))).1) (c.requires.room not)

-- or it ended
pub returns-in-Ended-clause-stands : goal.returns-in-Ended-clause-stands
returns-in-Ended-clause-stands c = λ items is.
    taken_end c.args.header.now items c.args.message c.args.self.now c.in-Some.session (sym c.is_some.ensures ∙ c.if-is_some.false)
    (sym c.in-Some.ensures.value) c.args.room.now c.feed.new.room is c.take.new.self c.in-Ended.end
    (λ fed stands. subst (λ (m : Message). ComesOfFeeding c.args.header.now (fed ++ m ∷ []) c.args.room.now c.feed.new.room (Ended c.in-Ended.end)) c.in-Ok.ensures.message
    (c.in-Ended.ensures.fed fed stands))

pub returns-in-Ended-clause-room : goal.returns-in-Ended-clause-room
returns-in-Ended-clause-room c =
    room_end c.args.header.now c.requires.node.0 c.args.message c.args.self.now c.in-Some.session (sym c.is_some.ensures ∙ c.if-is_some.false)
    (sym c.in-Some.ensures.value) c.args.room.now c.feed.new.room c.requires.node.1 c.in-Ended.end
    (λ fed stands. subst (λ (m : Message). ComesOfFeeding c.args.header.now (fed ++ m ∷ []) c.args.room.now c.feed.new.room (Ended c.in-Ended.end)) c.in-Ok.ensures.message
    (c.in-Ended.ensures.fed fed stands))
    (c.requires.room (none_rejects c.args.self.now.end (sym c.is_some.ensures ∙ c.if-is_some.false)))

-- an open session ends nothing
pub returns-in-On-clause-keeps : goal.returns-in-On-clause-keeps
returns-in-On-clause-keeps c = λ rejects. refl

pub returns-in-On-clause-clashes : goal.returns-in-On-clause-clashes
returns-in-On-clause-clashes c = λ clashes. refl

-- nothing had ended it before
pub returns-in-Ended-clause-keeps : goal.returns-in-Ended-clause-keeps
returns-in-Ended-clause-keeps c = λ rejects.
    absurd (none_rejects c.args.self.now.end (sym c.is_some.ensures ∙ c.if-is_some.false) rejects)
