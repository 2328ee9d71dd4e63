use Rattle.std.proofs.Common.{Option, sym, subst}
use Rattle.std.specs.Option.{option_map}
use Rattle.blob_feed.specs.declared.entries.Entry.{Entry}
use Rattle.blob_feed.specs.Filters.{wanted_by}
use Rattle.blob_feed.specs.Feeds.{FeedsAt, heights_of, read_of}
use Rattle.blob_feed.specs.Followers.{feeds_of}
use Rattle.blob_feed.proofs.FedLemmas.{fed_at}
use Rattle.blob_feed.proofs.followers.Follower.entry.Goals as goal

-- what is kept there is what the list feeds
pub returns-clause-stands : goal.returns-clause-stands
returns-clause-stands g c = λ items stands.
    subst (λ (o : Option Entry). FeedsAt (wanted_by g.F.Filter.answers c.args.self.now.filter) items c.args.height
    c.args.namespace.now (option_map read_of o)) (sym c.find.ensures)
    (fed_at (wanted_by g.F.Filter.answers c.args.self.now.filter) (feeds_of c.args.self.now) (heights_of items)
    stands.feeds c.args.height c.args.namespace.now)
