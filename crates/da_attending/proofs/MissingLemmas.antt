-- Of how many namespaces nothing is had.
use Rattle.std.proofs.Common.{◌≡◌, ◌∙◌, ℕ, zero, suc, ◌+◌, ◌<◌, Bool, true, false, cond, List, [], ◌∷◌, ◌++◌, length, length-append, Option, Some, None, slice_get, is_some, is_none, if◌then◌else◌, refl, ap, ap₂, arith}
use Rattle.std.specs.Prelude.{not}
use Rattle.std.specs.List.{filter, AllByRecursion}
use Rattle.namespace_id.specs.declared.namespaces.Namespace.{Namespace}
use Rattle.blob_feed.specs.Feeds.{Height}
use Rattle.blob_feed.specs.Firsts.{first_read}
use Rattle.blob_feed.proofs.ZipLemmas.{get_behind}
use Rattle.da_following.specs.Follow.{RunFeed, FeedPlace, places_at, places_from, is_place_missing, missing_count}
use Rattle.da_following.specs.Heights.{read_at, fed_by}
use Rattle.da_following.proofs.FeedLineLemmas.{places_last, missing_both}
use Rattle.da_following.proofs.FeedStatusLemmas.{each_place, each_name}
use Rattle.da_attending.specs.Attended.{missing_at}
use Rattle.da_attending.specs.Attenders.{is_listed, unknown, places_missing}

-- ---- lists

-- two tests that agree at each of some elements keep the same
pub filter_alike : {X : Type 0} (p q : X → Bool) (xs : List X) → AllByRecursion (λ (x : X). p x ≡ q x) xs → filter p xs ≡ filter q xs
filter_alike {X} p q [] all = refl
filter_alike {X} p q (x ∷ xs) all = ap₂ (λ (b : Bool) (l : List X). cond b (x ∷ l) l) all.0 (filter_alike p q xs all.1)

-- one more is kept of both lists, or of none
kept_by : {A B : Type 0} (b : Bool) (x : A) (xs : List A) (y : B) (ys : List B) → length xs ≡ length ys
    → length (cond b (x ∷ xs) xs) ≡ length (cond b (y ∷ ys) ys)
kept_by true x xs y ys e = ap suc e
kept_by false x xs y ys e = e

-- as many places of a height pass a test as namespaces pass it there
count_at : (p : FeedPlace → Bool) (names : List Namespace) (number : ℕ)
    → length (filter p (places_at names number)) ≡ length (filter (λ (n : Namespace). p (number, n)) names)
count_at p [] number = refl
count_at p (name ∷ names) number =
    kept_by (p (number, name)) (number, name) (filter p (places_at names number)) name (filter (λ (n : Namespace). p (number, n)) names)
    (count_at p names number)

-- what stands before an end of a list
pub get_before : {X : Type 0} (xs ys : List X) (k : ℕ) → k < length xs → slice_get (xs ++ ys) k ≡ slice_get xs k
get_before [] ys k below = absurd (omega (arith, below))
get_before (x ∷ xs) ys zero below = refl
get_before (x ∷ xs) ys (suc k) below = get_before xs ys k (omega (arith, below))

-- a fact that holds of each namespace that is listed holds of each of them
pub of_each : (names : List Namespace) (Q : Namespace → Type 0) → ((name : Namespace) → is_listed names name ≡ true → Q name) → AllByRecursion Q names
of_each names Q holds = (each_name Q names).1 holds

-- ---- feeds

-- feeds that are alike at places miss as much there
alike_missing : (feed other : RunFeed) (places : List FeedPlace) → AllByRecursion (λ (p : FeedPlace). is_place_missing feed p ≡ is_place_missing other p) places
    → missing_count feed places ≡ missing_count other places
alike_missing feed other places all = ap (λ (l : List FeedPlace). length l) (filter_alike (is_place_missing feed) (is_place_missing other) places all)

module _ (names : List Namespace) (front : List Height) (last : Height) where
  -- what is fed below a height stays with it
  pub fed_below : (number : ℕ) (name : Namespace) → number < length front
      → fed_by names (front ++ last ∷ []) number name ≡ fed_by names front number name
  fed_below number name below =
      ap (λ (o : Option Height). if is_listed names name then read_at o name else None) (get_before front (last ∷ []) number below)

  -- what is fed there
  pub fed_here : (name : Namespace) → is_listed names name ≡ true
      → fed_by names (front ++ last ∷ []) (length front) name ≡ first_read last.header name last.answers
  fed_here name found =
      ap (λ (b : Bool). if b then read_at (slice_get (front ++ last ∷ []) (length front)) name else None) found
      ∙ ap (λ (o : Option Height). read_at o name) (get_behind front last [])

  -- with one height more nothing is had at its places besides
  pub missing_more : places_missing names (front ++ last ∷ []) ≡ places_missing names front + length (missing_at names (Some last))
  missing_more =
      let all : List Height = front ++ last ∷ [] in
      let feed : RunFeed = fed_by names all in
      let count : ℕ = length front in
      let zeroth : 0 + count ≡ count = omega arith in
      let below : missing_count feed (places_from names 0 count) ≡ places_missing names front =
      alike_missing feed (fed_by names front) (places_from names 0 count)
      ((each_place (λ (p : FeedPlace). is_place_missing feed p ≡ is_place_missing (fed_by names front) p) names 0 count).1
      (λ number from less. of_each names (λ (n : Namespace). is_place_missing feed (number, n) ≡ is_place_missing (fed_by names front) (number, n))
      (λ name found. ap (λ r. not (is_some r)) (fed_below number name (omega (arith, less)))))) in
      let here : missing_count feed (places_at names count) ≡ length (missing_at names (Some last)) =
      count_at (is_place_missing feed) names count
      ∙ ap (λ (l : List Namespace). length l)
      (filter_alike (λ (n : Namespace). is_place_missing feed (count, n)) (λ (n : Namespace). is_none (first_read last.header n last.answers)) names
      (of_each names (λ (n : Namespace). is_place_missing feed (count, n) ≡ is_none (first_read last.header n last.answers))
      (λ name found. ap (λ r. not (is_some r)) (fed_here name found)))) in
      ap (λ (n : ℕ). missing_count feed (places_from names 0 n)) (length-append front (last ∷ []))
      ∙ ap (missing_count feed) (places_last names 0 count)
      ∙ missing_both feed (places_from names 0 count) (places_at names (0 + count))
      ∙ ap (λ (n : ℕ). missing_count feed (places_from names 0 count) + missing_count feed (places_at names n)) zeroth
      ∙ ap₂ (λ (a b : ℕ). a + b) below here

-- the namespaces that aren't known are those of which nothing is had
pub unknown_is : (names known : List Namespace) (last : Height)
    → ((name : Namespace) → is_listed names name ≡ true → is_listed known name ≡ is_some (first_read last.header name last.answers))
    → unknown known names ≡ missing_at names (Some last)
unknown_is names known last is =
    filter_alike (λ (n : Namespace). not (is_listed known n)) (λ (n : Namespace). is_none (first_read last.header n last.answers)) names
    (of_each names (λ (n : Namespace). not (is_listed known n) ≡ is_none (first_read last.header n last.answers)) (λ name found. ap not (is name found)))
