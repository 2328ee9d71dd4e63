-- The lines of a feed: what was told, and what is left to tell.
use Rattle.std.proofs.Common.{◌≡◌, ◌∙◌, ℕ, zero, suc, ◌+◌, List, [], ◌++◌, length, sym, ap, arith, append_assoc, append-nil}
use Rattle.std.specs.List.{filter}
use Rattle.std.proofs.lemmas.Grind.{flat_map-append}
use Rattle.std.proofs.lemmas.List.{length-append}
use Rattle.std.proofs.lemmas.List.Elements.{filter-append}
use Rattle.namespace_id.specs.declared.namespaces.Namespace.{Namespace}
use Rattle.da_following.specs.declared.feed_lines.FeedText.{FeedText}
use Rattle.da_following.specs.Follow.{RunFeed, FeedPlace, place_text, read_text, places_at, places_from, feed_lines, is_place_missing, missing_count, IsFeedText, HasFeedMore}

-- of heights the last one comes last
pub places_last : (wanted : List Namespace) (first count : ℕ)
    → places_from wanted first (count + 1) ≡ places_from wanted first count ++ places_at wanted (first + count)
places_last wanted first zero =
    append-nil (places_at wanted first) ∙ ap (places_at wanted) (let e : first ≡ first + 0 = omega arith in e)
places_last wanted first (suc count) =
    let next : first + 1 + count ≡ first + suc count = omega arith in
    ap (places_from wanted first) (let e : suc count + 1 ≡ suc (count + 1) = omega arith in e)
    ∙ ap (λ (l : List FeedPlace). places_at wanted first ++ l) (places_last wanted (first + 1) count ∙ ap (λ (n : ℕ). places_from wanted (first + 1) count ++ places_at wanted n) next)
    ∙ sym (append_assoc (places_at wanted first) (places_from wanted (first + 1) count) (places_at wanted (first + suc count)))

module _ (feed : RunFeed) where
  -- so much is left to tell: what was told and what is left are all
  pub record IsLeft (all : List FeedPlace) (start : FeedText) (rest : List FeedPlace) (now : FeedText) : Type 0 where
    pub lines : start.text.items ++ feed_lines feed all ≡ now.text.items ++ feed_lines feed rest
    pub missing : start.missing + missing_count feed all ≡ now.missing + missing_count feed rest

  -- the lines of some places and of others
  pub lines_both : (front back : List FeedPlace) → feed_lines feed (front ++ back) ≡ feed_lines feed front ++ feed_lines feed back
  lines_both front back = flat_map-append (λ place. place_text place.0 place.1 ++ read_text (feed place.0 place.1)) front back

  -- and how many of them say that there is nothing
  pub missing_both : (front back : List FeedPlace)
      → missing_count feed (front ++ back) ≡ missing_count feed front + missing_count feed back
  missing_both front back =
      ap length (filter-append (is_place_missing feed) front back)
      ∙ length-append (filter (is_place_missing feed) front) (filter (is_place_missing feed) back)

  -- the next places were told
  pub left_less : (all places rest after : List FeedPlace) (start old new : FeedText) → IsLeft all start rest old
      → rest ≡ places ++ after → HasFeedMore feed places old new → IsLeft all start after new
  left_less all places rest after start old new left next more = record {
    lines = left.lines ∙ ap (λ (l : List FeedPlace). old.text.items ++ feed_lines feed l) next
        ∙ ap (λ (l : List ℕ). old.text.items ++ l) (lines_both places after)
        ∙ sym (append_assoc old.text.items (feed_lines feed places) (feed_lines feed after))
        ∙ ap (λ (l : List ℕ). l ++ feed_lines feed after) (sym more.lines);
    missing = let both = ap (missing_count feed) next ∙ missing_both places after in
        omega (arith, left.missing, both, more.missing);
  }

  -- nothing was told
  pub none_told : (wanted : List Namespace) (told : FeedText) → told.text.items ≡ [] → told.missing ≡ 0 → IsFeedText feed (places_from wanted 0 0) told
  none_told wanted told empty none = record { lines = empty; missing = none }

  -- one height more was told
  pub told_more : (wanted : List Namespace) (count : ℕ) (old new : FeedText) → IsFeedText feed (places_from wanted 0 count) old
      → HasFeedMore feed (places_at wanted count) old new → IsFeedText feed (places_from wanted 0 (count + 1)) new
  told_more wanted count old new told more =
      let last : places_from wanted 0 (count + 1) ≡ places_from wanted 0 count ++ places_at wanted count =
      places_last wanted 0 count ∙ ap (λ (n : ℕ). places_from wanted 0 count ++ places_at wanted n) (let e : 0 + count ≡ count = omega arith in e) in
      record {
        lines = more.lines ∙ ap (λ (l : List ℕ). l ++ feed_lines feed (places_at wanted count)) told.lines
            ∙ sym (lines_both (places_from wanted 0 count) (places_at wanted count)) ∙ ap (feed_lines feed) (sym last);
        missing = more.missing ∙ ap (λ (n : ℕ). n + missing_count feed (places_at wanted count)) told.missing
            ∙ sym (missing_both (places_from wanted 0 count) (places_at wanted count)) ∙ ap (missing_count feed) (sym last);
      }
