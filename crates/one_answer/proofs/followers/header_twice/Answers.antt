use Rattle.std.proofs.Common.{◌∙◌, ◌∷◌, [], ◌++◌, sym, ap, subst}
use Rattle.data_header.specs.Headers.{Roots}
use Rattle.blob_feed.specs.Filters.{wanted_by}
use Rattle.blob_feed.specs.Feeds.{headed}
use Rattle.blob_feed.specs.Followers.{FollowerParts, FollowerStands}
use Rattle.one_answer.proofs.followers.header_twice.Goals as goal

-- both stand for the items with the header behind
pub returns : goal.returns
returns g c = λ items stands done.
    let stood = subst (λ (p : FollowerParts g.row.F.Denot). FollowerStands (wanted_by g.F.Filter.answers p.filter) p items) (sym c.requires.same) stands in
    let filters = ap (λ (p : FollowerParts g.row.F.Denot). p.filter) c.requires.same ∙ sym c.in-Ok.ensures.filter in
    c.entries_twice.ensures (items ++ headed c.args.header ∷ [])
    (subst (λ (f : g.row.F.Denot). FollowerStands (wanted_by g.F.Filter.answers f) c.header.new.self (items ++ headed c.args.header ∷ []))
    (sym c.in-Ok.ensures.filter) (c.in-Ok.ensures.stands items stands))
    (subst (λ (f : g.row.F.Denot). FollowerStands (wanted_by g.F.Filter.answers f) c.header-2.new.self (items ++ headed c.args.header ∷ [])) filters
    (subst (λ (h : Roots). FollowerStands (wanted_by g.F.Filter.answers c.args.other.now.filter) c.header-2.new.self (items ++ headed h ∷ []))
    c.requires.copy (c.in-Ok-header.ensures.stands items stood)))
