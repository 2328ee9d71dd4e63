-- For what a follower stands after one more header or answer.
use Rattle.std.proofs.Common.{◌≡◌, ◌∙◌, List, [], ◌∷◌, ◌++◌, Bool, if◌then◌else◌, Option, Some, None, refl, sym, ap, subst}
use Rattle.std.specs.List.{AllZip}
use Rattle.std.specs.Option.{option_map}
use Rattle.namespace_id.specs.declared.namespaces.Namespace.{Namespace}
use Rattle.namespace_id.proofs.ZipLemmas.{zip_push}
use Rattle.data_header.specs.Headers.{Roots}
use Rattle.axis_roots.specs.declared.answers.NsEntry.{NsEntry}
use Rattle.blob_feed.specs.declared.followers.Last.{Last}
use Rattle.blob_feed.specs.Feeds.{NamedAnswer, Item, headed, answered, IsNamedAnswer, IsItem, Height, with_answer, heights_of}
use Rattle.blob_feed.specs.Followers.{Feed, AreFed, FollowerStands, IsEntered, IsLastEntry, entry_in, kept_in, last_feed, last_header}
use Rattle.blob_feed.proofs.HeightLemmas.{heights_headed, heights_answered}
use Rattle.blob_feed.proofs.ZipLemmas.{last_pushed, zip_split, Split}
use Rattle.blob_feed.proofs.NameLemmas.{same_refl}
use Rattle.blob_feed.proofs.FedLemmas.{none_fed}
use Rattle.nmt_proofs.proofs.Parts.ListLemmas.{each-append}

-- the header of the last height
header_pushed : (heights : List Height) (last : Height) → last_header (heights ++ last ∷ []) ≡ Some last.header
header_pushed heights last = ap (λ (o : Option Height). option_map (λ (h : Height). h.header) o) (last_pushed heights last)

-- two headers that are both one are one
pub same_header : (a b : Roots) → Some a ≡ Some b → a ≡ b
same_header a b e = cc

-- and two last heights
pub same_last : (a b : Last) → Some a ≡ Some b → a ≡ b
same_last a b e = cc

-- what is entered at the last height is its entry
pub last_entered : {F : Type 0} (filter : F) (past : List Feed) (old new : Last) (name : Namespace)
    (answer : List NsEntry) → IsEntered old.feed new.feed name answer
    → IsLastEntry (record { filter = filter; past = past; last = Some new }) name answer
last_entered filter past old new name answer entered = record {
  entry = entered.entry;
  kept = ap (λ (feed : Option Feed). kept_in feed name) (last_pushed past new.feed) ∙ entered.entries name
      ∙ ap (λ (same : Bool). if same then Some entered.entry else entry_in old.feed name) (same_refl name);
  read = entered.read;
}

module _ {F : Type 0} (wants : Namespace → Type 0) where
  -- a new follower stands for nothing
  pub stands_new : (filter : F) → FollowerStands wants (record { filter = filter; past = []; last = None }) []
  unfolding heights_of
  stands_new filter = record { are_items = tt; feeds = tt; header = refl }

  -- the next height
  pub stands_headed : (filter : F) (past : List Feed) (last : Option Last) (next : List Feed) (items : List Item)
      (header : Roots) → next ≡ past ++ last_feed last
      → FollowerStands wants (record { filter = filter; past = past; last = last }) items
      → FollowerStands wants (record { filter = filter; past = next; last = Some (record { header = header; feed = [] }) })
      (items ++ headed header ∷ [])
  stands_headed filter past last next items header is stands =
      let height : Height = record { header = header; answers = [] } in
      record {
        are_items = each-append IsItem items (headed header ∷ []) stands.are_items (tt, tt);
        feeds = subst (λ (hs : List Height). AllZip (AreFed wants) (next ++ [] ∷ []) hs) (sym (heights_headed items header))
            (subst (λ (fs : List Feed). AllZip (AreFed wants) (fs ++ [] ∷ []) (heights_of items ++ height ∷ [])) (sym is)
            (zip_push (AreFed wants) (past ++ last_feed last) (heights_of items) [] height stands.feeds
            (none_fed wants header)));
        header = sym (header_pushed (heights_of items) height) ∙ ap last_header (sym (heights_headed items header));
      }

  -- an answer at the last height
  pub stands_answered : (filter : F) (past : List Feed) (old new : Last) (items : List Item) (given : NamedAnswer)
      → IsNamedAnswer given
      → ((height : Height) → old.header ≡ height.header → AreFed wants old.feed height
      → AreFed wants new.feed (with_answer height given)) → new.header ≡ old.header
      → FollowerStands wants (record { filter = filter; past = past; last = Some old }) items
      → FollowerStands wants (record { filter = filter; past = past; last = Some new }) (items ++ answered given ∷ [])
  stands_answered filter past old new items given is fed same stands =
      let parts : Split (AreFed wants) past old.feed (heights_of items) =
      zip_split (AreFed wants) past old.feed (heights_of items) stands.feeds in
      let heights : heights_of (items ++ answered given ∷ []) ≡ parts.front ++ with_answer parts.last given ∷ [] =
      heights_answered items given parts.front parts.last parts.parts in
      let header : old.header ≡ parts.last.header = same_header old.header parts.last.header
      (stands.header ∙ ap last_header parts.parts ∙ header_pushed parts.front parts.last) in
      record {
        are_items = each-append IsItem items (answered given ∷ []) stands.are_items (is, tt);
        feeds = subst (AllZip (AreFed wants) (past ++ new.feed ∷ [])) (sym heights)
            (zip_push (AreFed wants) past parts.front new.feed (with_answer parts.last given) parts.along
            (fed parts.last header parts.ends));
        header = ap (λ (h : Roots). Some h) (same ∙ header)
            ∙ sym (header_pushed parts.front (with_answer parts.last given)) ∙ ap last_header (sym heights);
      }
