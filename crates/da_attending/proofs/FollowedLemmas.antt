-- What a talk says of a file that follow takes is what follow writes of it, in another order.
use Rattle.std.proofs.Common.{◌≡◌, ◌∙◌, ℕ, ◌≤◌, List, ◌++◌, length, None, refl, sym, ap, subst, arith}
use Rattle.std.specs.Prelude.{min}
use Rattle.std.specs.List.{Contains}
use Rattle.namespace_id.specs.declared.namespaces.Namespace.{Namespace}
use Rattle.da_io.specs.Faults.{max_count}
use Rattle.blob_feed.specs.Feeds.{Item, heights_of, IsFeedOf}
use Rattle.da_wire.specs.Frames.{frames_of}
use Rattle.da_status.specs.declared.status.Status.{Status}
use Rattle.da_files.specs.Requests.{failing_from}
use Rattle.da_following.specs.Follow.{is_followed, each_once, items_in, RunFeed, run_places, feed_lines, missing_count, feed_status, Follows}
use Rattle.da_following.specs.Heights.{fed_by}
use Rattle.da_attending.specs.Attended.{items_of, count_missing}
use Rattle.da_attending.specs.Orders.{AreLinesOf}
use Rattle.da_attending.specs.Laws.{SaysFollowed}
use Rattle.da_attending.proofs.OnceLemmas.{once_sorted}
use Rattle.da_attending.proofs.OffsetLemmas.{takes_files}
use Rattle.da_attending.proofs.ToldLemmas.{says_lines}

-- up to the greatest count it is the count
counted : (n : ℕ) → n ≤ max_count → min n max_count ≡ n
counted n h = omega (arith, h)

module _ (fed : (wanted : List Namespace) (items : List Item) → failing_from is_followed 0 wanted ≡ None
    → IsFeedOf (Contains wanted) items (fed_by (each_once wanted) (heights_of items)))
    (once : (wanted : List Namespace) (items : List Item) (w v : List ℕ) (one other : Status) → Follows wanted items w one → Follows wanted items v other
    → (w ≡ v) × (one ≡ other)) where
  pub says_followed : SaysFollowed
  says_followed wanted bytes w status kept ended said text none whole follows so ends =
      let names : List Namespace = each_once wanted in
      let items : List Item = items_in bytes in
      let feed : RunFeed = fed_by names (heights_of items) in
      let same : items_of (frames_of bytes) ≡ items = (takes_files bytes whole).1 in
      let is = fed wanted items none in
      let both = once wanted items w (feed_lines feed (run_places wanted items)) status (feed_status (missing_count feed (run_places wanted items))) follows (feed, is, refl, refl) in
      record {
        feed = feed;
        is = is;
        written = both.0;
        lines = subst (λ (l : List Item). AreLinesOf (fed_by names (heights_of l)) names (length (heights_of l)) (said ++ text)) same
            (says_lines names kept ended (frames_of bytes) said text (once_sorted wanted) so ends);
        status_is = λ few.
            ends.counted ∙ ap (λ (l : List Item). feed_status (min (count_missing names l) max_count)) same
            ∙ ap feed_status (counted (count_missing names items) few) ∙ sym both.1;
      }
