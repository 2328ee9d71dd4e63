-- There is one output for a feed, and one feed.
use Rattle.std.proofs.Common.{◌≡◌, ◌∙◌, ℕ, true, List, sym, ap}
use Rattle.std.specs.declared.option.Option.{Option}
use Rattle.std.specs.List.{list_any}
use Rattle.namespace_id.specs.declared.namespaces.Namespace.{Namespace}
use Rattle.blob_feed.specs.Feeds.{Item, FeedsAt, Read}
use Rattle.blob_feed.specs.Followers.{is_name}
use Rattle.da_status.specs.declared.status.Status.{Status}
use Rattle.da_following.specs.Follow.{each_once, RunFeed, run_places, feed_lines, missing_count, feed_status, Follows}
use Rattle.da_following.proofs.EachOnceLemmas.{wanted_by_list}

-- there is one output and one status
pub follows_once : (wanted : List Namespace) (items : List Item)
    → ((number : ℕ) (name : Namespace) (one other : Option Read)
    → FeedsAt (λ (n : Namespace). list_any (is_name n) (each_once wanted) ≡ true) items number name one
    → FeedsAt (λ (n : Namespace). list_any (is_name n) (each_once wanted) ≡ true) items number name other → one ≡ other)
    → (w v : List ℕ) (status ended : Status) → Follows wanted items w status → Follows wanted items v ended
    → (w ≡ v) × (status ≡ ended)
follows_once wanted items once w v status ended (feed, is, lines, stopped) (other, was, told, halted) =
    let places = run_places wanted items in
    let same : feed ≡ other = λ i number name.
    once number name (feed number name) (other number name) (wanted_by_list wanted items feed is number name)
    (wanted_by_list wanted items other was number name) i in (
      lines ∙ ap (λ (f : RunFeed). feed_lines f places) same ∙ sym told,
      stopped ∙ ap (λ (f : RunFeed). feed_status (missing_count f places)) same ∙ sym halted,
    )
