use Rattle.std.proofs.Common.{◌∙◌, [], ◌∷◌, ◌++◌, List, Option, Some, append-nil, sym, subst, ap}
use Rattle.blob_feed.specs.declared.followers.Last.{Last}
use Rattle.blob_feed.specs.Filters.{wanted_by}
use Rattle.blob_feed.specs.Feeds.{headed}
use Rattle.blob_feed.specs.Followers.{Feed, FollowerParts, FollowerStands, last_feed}
use Rattle.blob_feed.proofs.StandLemmas.{stands_headed}
use Rattle.blob_feed.proofs.followers.Follower.header.Goals as goal

-- behind another height
pub returns-in-Some-clause-stands : goal.returns-in-Some-clause-stands
returns-in-Some-clause-stands g c = λ items stands.
    let wants = wanted_by g.F.Filter.answers c.args.self.now.filter in
    let stood = subst (λ (n : FollowerParts g.row.F.Denot). FollowerStands wants n items) (sym c.self.view_is) stands in
    subst (λ (l : Option Last). FollowerStands wants
    (record { filter = c.self.inside.filter; past = c.put_feed.new.past.items; last = l })
    (items ++ headed c.args.header ∷ []))
    (sym (c.replace.ensures.after
    ∙ ap (λ (f : Feed). Some (record { header = c.args.header; feed = f })) c.new.ensures))
    (stands_headed wants c.self.inside.filter c.self.inside.past.items c.self.inside.last c.put_feed.new.past.items
    items c.args.header
    (c.put_feed.ensures ∙ ap (λ (l : List Feed). l ++ c.in-Some.before.feed ∷ []) c.reserve.ensures.items
    ∙ ap (λ (l : Option Last). c.self.inside.past.items ++ last_feed l) (sym c.in-Some.is ∙ c.replace.ensures.value))
    stood)

-- the first height
pub returns-in_default-clause-stands : goal.returns-in_default-clause-stands
returns-in_default-clause-stands g c = λ items stands.
    let wants = wanted_by g.F.Filter.answers c.args.self.now.filter in
    let stood = subst (λ (n : FollowerParts g.row.F.Denot). FollowerStands wants n items) (sym c.self.view_is) stands in
    subst (λ (l : Option Last). FollowerStands wants
    (record { filter = c.self.inside.filter; past = c.reserve.new.self.items; last = l })
    (items ++ headed c.args.header ∷ []))
    (sym (c.replace.ensures.after
    ∙ ap (λ (f : Feed). Some (record { header = c.args.header; feed = f })) c.new.ensures))
    (stands_headed wants c.self.inside.filter c.self.inside.past.items c.self.inside.last c.reserve.new.self.items items
    c.args.header
    (◌∙◌ {A = List Feed} c.reserve.ensures.items (sym (append-nil c.self.inside.past.items))
    ∙ ap (λ (l : Option Last). c.self.inside.past.items ++ last_feed l) (sym c.in_default.is ∙ c.replace.ensures.value))
    stood)
