use Rattle.std.proofs.Common.{◌∙◌, ◌∷◌, [], ◌++◌, sym, ap, subst}
use Rattle.blob_feed.specs.Filters.{wanted_by}
use Rattle.blob_feed.specs.Feeds.{answered}
use Rattle.blob_feed.specs.Followers.{FollowerParts, FollowerStands}
use Rattle.one_answer.proofs.followers.answered_twice.Goals as goal

-- both stand for the items with the answer behind
pub returns : goal.returns
returns g c = λ items stands done.
    let item = answered (record { name = c.args.namespace.now; answer = c.args.answer.now }) in
    let stood = subst (λ (p : FollowerParts g.row.F.Denot). FollowerStands (wanted_by g.F.Filter.answers p.filter) p items) (sym c.requires.same) stands in
    let filters = ap (λ (p : FollowerParts g.row.F.Denot). p.filter) c.requires.same ∙ sym c.in-Ok.ensures.filter in
    c.entries_twice.ensures (items ++ item ∷ [])
    (subst (λ (f : g.row.F.Denot). FollowerStands (wanted_by g.F.Filter.answers f) c.answer.new.self (items ++ item ∷ []))
    (sym c.in-Ok.ensures.filter) (c.in-Ok.ensures.stands tt items stands))
    (subst (λ (f : g.row.F.Denot). FollowerStands (wanted_by g.F.Filter.answers f) c.answer-2.new.self (items ++ item ∷ [])) filters
    (c.in-Ok-answer.ensures.stands tt items stood))
