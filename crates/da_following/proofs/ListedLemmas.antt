-- What is read of a namespace's shares in a square, and of answers that show them.
use Rattle.std.proofs.Common.{◌≡◌, ◌∙◌, ℕ, List, map, Option, Some, None, Ok, true, slice_get, sym, ap, subst, inl, inr}
use Rattle.std.specs.Prelude.{◌⊎◌}
use Rattle.std.specs.List.{filter}
use Rattle.namespace_id.specs.declared.namespaces.Namespace.{Namespace}
use Rattle.namespace_id.specs.declared.shares.Share.{Share}
use Rattle.namespace_id.specs.declared.cells.Cell.{Cell}
use Rattle.namespace_id.specs.Names.{is_blob_namespace}
use Rattle.share_split.specs.Blobs.{NamedBytes}
use Rattle.share_split.specs.Joined.{AreBlobs}
use Rattle.share_split.specs.Walks.{blobs_from, blobs_joined}
use Rattle.share_split.proofs.Reading.BlobRead.{pieces_read}
use Rattle.square_layout.specs.Blocks.{SquareShares, IsSquare}
use Rattle.axis_roots.specs.declared.answers.NsEntry.{NsEntry}
use Rattle.square_serve.specs.Shares.{is_named}
use Rattle.square_serve.specs.Own.{ShowsAll}
use Rattle.blob_feed.specs.Feeds.{Height, heights_of, Item, Read, IsFedIn, IsFeedOf, shares_in, shares_shown}
use Rattle.da_following.specs.Follow.{RunFeed}
use Rattle.blob_feed.proofs.RowLemmas.{shares_in_square}

-- shares that are blobs are read as these
blobs_read : (shares : List Share) (blobs : List NamedBytes) → AreBlobs shares blobs → blobs_joined shares ≡ Ok blobs
blobs_read shares blobs are = ap (blobs_from 0 None) are.parts ∙ pieces_read 0 are.pieces are.are_pieces ∙ ap Ok (sym are.shown)

-- what a height has is of a namespace of a blob
fed_in_blob : (wants : Namespace → Type 0) (height : Option Height) (name : Namespace) (read : Read) → IsFedIn wants height name (Some read)
    → is_blob_namespace name.0 ≡ true
fed_in_blob wants None name read fed = absurd cc
fed_in_blob wants (Some height) name read (wanted, blob, first) = blob

-- so is what a feed has
pub fed_blob : (wants : Namespace → Type 0) (items : List Item) (feed : RunFeed) (number : ℕ) (name : Namespace) (read : Read) → IsFeedOf wants items feed
    → feed number name ≡ Some read → is_blob_namespace name.0 ≡ true
fed_blob wants items feed number name read is has =
    fed_in_blob wants (slice_get (heights_of items) number) name read
    (subst (IsFedIn wants (slice_get (heights_of items) number) name) has (is number name))

-- an answer that shows all shares of a namespace is read as they are
pub shown_read : (name : Namespace) (square : SquareShares) (answer : List NsEntry) → ShowsAll name square answer
    → blobs_joined (shares_shown answer) ≡ blobs_joined (shares_in square name)
shown_read name square answer all = ap (λ (l : List (Cell × Share)). blobs_joined (map (λ p. p.1) l)) all.shares

-- where a square's shares are read as some blobs, what is read as these shares are, or else a collision is named, is those blobs
pub read_or : {C : Type 0} (read own : Read) (blobs : List NamedBytes) → own ≡ Ok blobs → (read ≡ own) ⊎ C → (read ≡ Ok blobs) ⊎ C
read_or read own blobs are (inl same) = inl (same ∙ are)
read_or read own blobs are (inr clash) = inr clash

-- the shares of a namespace in a square are read as the blobs that they are
pub named_read : (square : SquareShares) (name : Namespace) (blobs : List NamedBytes) → IsSquare square → AreBlobs (filter (is_named name) square.shares) blobs
    → blobs_joined (shares_in square name) ≡ Ok blobs
named_read square name blobs whole are = ap blobs_joined (shares_in_square square name whole) ∙ blobs_read (filter (is_named name) square.shares) blobs are
