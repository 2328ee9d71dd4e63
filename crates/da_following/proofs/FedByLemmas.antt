-- What heights feed of the namespaces that are wanted is the feed.
use Rattle.std.proofs.Common.{◌≡◌, ◌∙◌, List, Bool, true, false, true≢false, Option, Some, None, if◌then◌else◌, slice_get, refl, sym, subst}
use Rattle.std.specs.List.{list_any, Contains}
use Rattle.namespace_id.specs.declared.namespaces.Namespace.{Namespace}
use Rattle.namespace_id.specs.Names.{is_blob_namespace}
use Rattle.blob_feed.specs.Feeds.{Item, Height, heights_of, IsFedAt, IsFedIn, IsFeedOf}
use Rattle.blob_feed.specs.Followers.{is_name}
use Rattle.blob_feed.specs.Firsts.{first_read}
use Rattle.da_files.specs.Requests.{failing_from}
use Rattle.da_following.specs.Follow.{is_followed, each_once}
use Rattle.da_following.specs.Heights.{read_at, fed_by}
use Rattle.da_files.proofs.RequestLemmas.{all_pass}
use Rattle.da_following.proofs.EachOnceLemmas.{wanted_listed, wanted_as}
use Rattle.da_following.proofs.FeedStatusLemmas.{each_name}

-- a namespace is found among these
abbrev IsFound : List Namespace → Namespace → Type 0
IsFound names name = list_any (is_name name) names ≡ true

-- where no namespace that is asked for fails, each is one of a blob
are_blobs : (names wanted : List Namespace) → names ≡ each_once wanted → failing_from is_followed 0 wanted ≡ None
    → (name : Namespace) → IsFound names name → is_blob_namespace name.0 ≡ true
are_blobs names wanted same none name found =
    (each_name (λ (n : Namespace). is_followed n ≡ true) wanted).0 (all_pass is_followed 0 wanted none) name
    (wanted_listed name wanted (subst (λ (l : List Namespace). IsFound l name) same found))

module _ (names : List Namespace) (blobs : (name : Namespace) → IsFound names name → is_blob_namespace name.0 ≡ true)
    (first : (height : Height) (name : Namespace) → IsFound names name → is_blob_namespace name.0 ≡ true
    → IsFedAt (IsFound names) height name (first_read height.header name height.answers)) where
  -- at a height, if there is such a height, by whether the namespace is found
  fed_in : (o : Option Height) (name : Namespace) (b : Bool) → list_any (is_name name) names ≡ b
      → IsFedIn (IsFound names) o name (if b then read_at o name else None)
  fed_in None name true e = refl
  fed_in None name false e = refl
  fed_in (Some height) name true e = first height name e (blobs name e)
  fed_in (Some height) name false e = λ found blob. absurd (true≢false (sym found ∙ e))

  -- it is the feed of the namespaces that are found
  fed_found : (items : List Item) → IsFeedOf (IsFound names) items (fed_by names (heights_of items))
  fed_found items = λ number name. fed_in (slice_get (heights_of items) number) name (list_any (is_name name) names) refl

-- what heights feed of the namespaces that are asked for, each once, is their feed
pub fed_is : (names wanted : List Namespace) → names ≡ each_once wanted → failing_from is_followed 0 wanted ≡ None
    → ((height : Height) (name : Namespace) → list_any (is_name name) names ≡ true → is_blob_namespace name.0 ≡ true
    → IsFedAt (λ (n : Namespace). list_any (is_name n) names ≡ true) height name (first_read height.header name height.answers))
    → (items : List Item) → IsFeedOf (Contains wanted) items (fed_by names (heights_of items))
fed_is names wanted same none first items =
    wanted_as names wanted same items (fed_by names (heights_of items)) (fed_found names (are_blobs names wanted same none) first items)
