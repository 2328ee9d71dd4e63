use Rattle.std.proofs.Common.{slice_get, subst}
use Rattle.namespace_id.specs.Names.{IsNamespace}
use Rattle.square_layout.specs.Layout.{has_name, block_square}
use Rattle.std.specs.List.{filter}
use Rattle.blob_feed.specs.Filters.{wanted_by}
use Rattle.blob_feed.specs.Feeds.{heights_of}
use Rattle.blob_feed.specs.Followers.{feeds_of}
use Rattle.blob_feed.proofs.FedLemmas.{fed_at}
use Rattle.blob_feed.proofs.OnceLemmas.{fed_once}
use Rattle.blob_feed.proofs.StayLemmas.{fed_stays}
use Rattle.blob_feed.proofs.FirstLemmas.{first_fed}
use Rattle.blob_feed.proofs.OwnLemmas.{own_at, blobs_at}
use Rattle.blob_feed.proofs.SquareLemmas.{block_read}
use Rattle.blob_feed.proofs.laws.feed_laws.Goals as goal

-- the feeds go along with the heights
pub returns-clause-feed : goal.returns-clause-feed
returns-clause-feed g c = λ follower items stands number name.
    fed_at (wanted_by g.F.Filter.answers follower.filter) (feeds_of follower) (heights_of items) stands.feeds number name

-- the first complete answer is one
pub returns-clause-once : goal.returns-clause-once
returns-clause-once g c = λ rule items number name one other.
    fed_once (wanted_by g.F.Filter.answers rule) (slice_get (heights_of items) number) name one other

-- it is found answer by answer
pub returns-clause-first : goal.returns-clause-first
returns-clause-first g c = λ rule height name wanted blob.
    first_fed c.answer_laws.ensures.refusal height.header name (wanted_by g.F.Filter.answers rule) wanted blob height.answers

-- it stays the first
pub returns-clause-stays : goal.returns-clause-stays
returns-clause-stays g c = λ rule items later number name read.
    fed_stays (wanted_by g.F.Filter.answers rule) items later number name read

-- it shows exactly the square's shares, or names a collision
pub returns-clause-own : goal.returns-clause-own
returns-clause-own g c = λ rule items number name read header square are fed has own.
    own_at c.answer_laws.ensures.own (wanted_by g.F.Filter.answers rule) items number name read header square are fed
    has own

-- the layout has exactly the blobs of the namespace
pub returns-clause-joined : goal.returns-clause-joined
returns-clause-joined g c = λ block name passes is named.
    block_read c.share_laws.ensures.blobs c.share_laws.ensures.units c.share_laws.ensures.padding block name named
    (c.size_laws.ensures.square block passes) (c.size_laws.ensures.shares block is)
    (subst IsNamespace c.reserved_namespaces.ensures.primary_reserved_padding c.namespace_law.ensures)
    (c.share_laws.ensures.ordered block passes is)
    c.join_laws.ensures.blobs (c.order_laws.ensures.stable name block.blobs)

-- both together
pub returns-clause-block : goal.returns-clause-block
returns-clause-block g c = λ rule items number name read header block are fed has own passes is.
    blobs_at c.answer_laws.ensures.own (wanted_by g.F.Filter.answers rule) items number name read header
    (block_square block) (filter (has_name name) block.blobs) are fed has own
    (λ named. returns-clause-joined g c block name passes is named)
