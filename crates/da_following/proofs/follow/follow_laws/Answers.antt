use Rattle.std.proofs.Common.{refl, subst}
use Rattle.blob_feed.specs.Feeds.{FeedsAt}
use Rattle.da_following.specs.Follow.{each_once, items_in}
use Rattle.da_following.proofs.EachOnceLemmas.{wanted_by_list}
use Rattle.da_following.proofs.FedByLemmas.{fed_is}
use Rattle.da_following.proofs.FeedOnceLemmas.{follows_once}
use Rattle.da_following.proofs.FeedItemLemmas.{items_fit}
use Rattle.da_following.proofs.FeedStatusLemmas.{follows_done, follows_waits}
use Rattle.da_following.proofs.follow.follow_laws.Goals as goal

-- there is one feed
pub returns-clause-once : goal.returns-clause-once
returns-clause-once c = λ wanted items.
    follows_once wanted items (λ number name one other. c.feed_laws.ensures.once (each_once wanted) items number name one other)

-- what heights feed is the feed
pub returns-clause-fed : goal.returns-clause-fed
returns-clause-fed c = λ wanted items none.
    fed_is (each_once wanted) wanted refl none (λ height name. c.feed_laws.ensures.first (each_once wanted) height name) items

-- it is what the square's shares are read as, or names a collision
pub returns-clause-own : goal.returns-clause-own
returns-clause-own c = λ wanted answers feed number name read header square fits is has.
    c.feed_laws.ensures.own (each_once wanted) (items_in answers) number name read header square
    (items_fit c.value_laws.ensures.values c.value_laws.ensures.bad answers fits)
    (subst (FeedsAt _ (items_in answers) number name) has (wanted_by_list wanted (items_in answers) feed is number name))

-- at each place something is had
pub returns-clause-done : goal.returns-clause-done
returns-clause-done c = λ wanted items feed w status is follows.
    follows_done wanted items (λ number name one other. c.feed_laws.ensures.once (each_once wanted) items number name one other) feed w status is follows

-- at so many nothing is
pub returns-clause-waits : goal.returns-clause-waits
returns-clause-waits c = λ wanted items feed w status is follows.
    follows_waits wanted items (λ number name one other. c.feed_laws.ensures.once (each_once wanted) items number name one other) feed w status is follows
