use Rattle.std.proofs.Common.{[], None, sym, subst, List}
use Rattle.blob_feed.specs.Filters.{wanted_by}
use Rattle.blob_feed.specs.Followers.{Feed, FollowerStands}
use Rattle.blob_feed.proofs.StandLemmas.{stands_new}
use Rattle.blob_feed.proofs.followers.Follower.new.Goals as goal

-- it has no heights
pub returns-clause-stands : goal.returns-clause-stands
returns-clause-stands g c =
    subst (λ (past : List Feed). FollowerStands (wanted_by g.F.Filter.answers c.args.filter)
    (record { filter = c.args.filter; past = past; last = None }) []) (sym c.new.ensures.items)
    (stands_new (wanted_by g.F.Filter.answers c.args.filter) c.args.filter)
