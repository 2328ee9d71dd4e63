use Rattle.std.proofs.Common.{◌∙◌, inl, inr}
use Rattle.std.specs.List.{Contains}
use Rattle.share_split.specs.Walks.{blobs_joined}
use Rattle.tx_list.specs.Lists.{square_of_list}
use Rattle.blob_feed.specs.Feeds.{shares_in}
use Rattle.da_following.specs.Follow.{items_in}
use Rattle.da_following.specs.Listed.{listed_blobs}
use Rattle.da_following.proofs.ListedLemmas.{fed_blob, shown_read, read_or, named_read}
use Rattle.da_following.proofs.listed.listed_laws.Goals as goal

-- the shares are the blobs, with padding
pub returns-clause-read : goal.returns-clause-read
returns-clause-read c = λ list name fits are blob.
    named_read (square_of_list list) name (listed_blobs list name) (c.square_laws.ensures.square list fits) (c.namespace_laws.ensures.order list name are blob)

-- a complete answer shows these shares, or names a collision
pub returns-clause-answers : goal.returns-clause-answers
returns-clause-answers c = λ header list name answer own are named blob entries complete.
    let square = square_of_list list in
    elim (c.answer_laws.ensures.own header name answer named entries complete square own) [
      | inl all ↦
          inl (shown_read name square answer all
          ∙ named_read square name (listed_blobs list name) own.whole (c.namespace_laws.ensures.order list name are blob))
      | inr clash ↦ inr clash
    ]

-- what is told is what these shares are read as, or a collision is named
pub returns-clause-followed : goal.returns-clause-followed
returns-clause-followed c = λ wanted answers feed number name read header list fits is has at own are.
    let square = square_of_list list in
    let blob = fed_blob (Contains wanted) (items_in answers) feed number name read is has in
    read_or read (blobs_joined (shares_in square name)) (listed_blobs list name)
    (named_read square name (listed_blobs list name) own.whole (c.namespace_laws.ensures.order list name are blob))
    (c.follow_laws.ensures.own wanted answers feed number name read header square fits is has at own)
