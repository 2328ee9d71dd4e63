use Rattle.std.proofs.Common.{sym, subst}
use Rattle.std.specs.Option.{option_map}
use Rattle.blob_feed.specs.Filters.{wanted_by}
use Rattle.blob_feed.specs.Feeds.{FeedsAt, read_of}
use Rattle.blob_feed.specs.Followers.{kept_at, FollowerStands}
use Rattle.one_answer.proofs.followers.entries_twice.Goals as goal

-- the items have one feed
pub returns : goal.returns
returns g c = λ items stands stood n name.
    let stood_so = subst (λ (f : g.row.F.Denot). FollowerStands (wanted_by g.F.Filter.answers f) c.args.other.now items) (sym c.requires.filter) stood in
    c.feed_laws.ensures.once c.args.one.now.filter items n name _ _ (c.feed_laws.ensures.feed c.args.one.now items stands n name)
    (subst (λ (f : g.row.F.Denot). FeedsAt (wanted_by g.F.Filter.answers f) items n name (option_map read_of (kept_at c.args.other.now n name)))
    c.requires.filter (c.feed_laws.ensures.feed c.args.other.now items stood_so n name))
