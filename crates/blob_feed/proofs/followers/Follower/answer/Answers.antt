use Rattle.std.proofs.Common.{◌≡◌, ◌∙◌, ◌↔◌, None, false, ◌∷◌, [], ◌++◌, Option, Some, IsErrOf, sym, subst, ap}
use Rattle.std.proofs.lemmas.Result.{on_ok_weaker}
use Rattle.namespace_id.specs.Names.{namespace_refusal}
use Rattle.blob_feed.specs.declared.entries.FollowError.TheVariants.{NotBlob, Unwanted, NoMemory}
use Rattle.blob_feed.specs.declared.followers.Last.{Last}
use Rattle.blob_feed.specs.Filters.{wanted_by}
use Rattle.blob_feed.specs.Feeds.{answered}
use Rattle.blob_feed.specs.Followers.{FollowerParts, FollowerStands, IsAnswerRefusedFor}
use Rattle.blob_feed.proofs.StandLemmas.{last_entered, stands_answered, same_last}
use Rattle.blob_feed.proofs.followers.Follower.answer.Goals as goal

-- what is entered is the last height's entry
pub returns-clause-entered : goal.returns-clause-entered
returns-clause-entered g c = on_ok_weaker c.take.result
    (last_entered c.self.inside.filter c.self.inside.past.items c.in-Some.last c.take.new.last c.args.namespace.now
    c.args.answer.now) c.take.ensures.entered

-- the refusals are those at the last height
pub returns-clause-refused : goal.returns-clause-refused
returns-clause-refused g c = λ last is why other.
    let here : c.in-Some.last ≡ last = same_last c.in-Some.last last
    (sym c.in-Some.is ∙ ap (λ (n : FollowerParts g.row.F.Denot). n.last) c.self.view_is ∙ is) in
    subst (λ (n : FollowerParts g.row.F.Denot). IsErrOf c.take.result why
    ↔ IsAnswerRefusedFor (g.F.Filter.answers n.filter c.args.namespace.now) last c.args.namespace.now c.args.answer.now why)
    c.self.view_is
    (subst (λ (l : Last). IsErrOf c.take.result why
    ↔ IsAnswerRefusedFor (g.F.Filter.answers c.self.inside.filter c.args.namespace.now) l c.args.namespace.now
    c.args.answer.now why) here (c.take.ensures.refused why other))

-- the first two, whatever the answer is
pub returns-clause-not_blob : goal.returns-clause-not_blob
returns-clause-not_blob g c = λ why. c.take.ensures.refused (NotBlob why) (λ (e : NotBlob why ≡ NoMemory). cc)

pub returns-clause-unwanted : goal.returns-clause-unwanted
returns-clause-unwanted g c =
    subst (λ (n : FollowerParts g.row.F.Denot). IsErrOf c.take.result Unwanted
    ↔ ((namespace_refusal c.args.namespace.now.0 ≡ None) × g.F.Filter.answers n.filter c.args.namespace.now false))
    c.self.view_is (c.take.ensures.refused Unwanted (λ (e : Unwanted ≡ NoMemory). cc))

-- the follower stands for one more answer
pub returns-clause-stands : goal.returns-clause-stands
returns-clause-stands g c = λ had items stands.
    let stood = subst (λ (n : FollowerParts g.row.F.Denot). FollowerStands (wanted_by g.F.Filter.answers n.filter) n items)
    (sym c.self.view_is) stands in
    subst (λ (n : FollowerParts g.row.F.Denot). FollowerStands (wanted_by g.F.Filter.answers n.filter)
    (record { filter = c.self.inside.filter; past = c.self.inside.past.items; last = Some c.take.new.last })
    (items ++ answered (record { name = c.args.namespace.now; answer = c.args.answer.now }) ∷ [])) c.self.view_is
    (stands_answered (wanted_by g.F.Filter.answers c.self.inside.filter) c.self.inside.filter c.self.inside.past.items
    c.in-Some.last c.take.new.last items (record { name = c.args.namespace.now; answer = c.args.answer.now })
    (record { name = c.namespace_law.ensures; entries = c.answer_law.ensures }) (c.take.ensures.fed had)
    c.take.ensures.header
    (subst (λ (l : Option Last). FollowerStands (wanted_by g.F.Filter.answers c.self.inside.filter)
    (record { filter = c.self.inside.filter; past = c.self.inside.past.items; last = l }) items) c.in-Some.is stood))
