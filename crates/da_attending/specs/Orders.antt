-- In which order the lines of a talk about namespaces come, beside those of follow.
use Rattle.std.specs.Prelude.{◌≡◌, ℕ, ◌+◌, List, [], ◌∷◌, ◌++◌, length}
use Rattle.std.specs.List.{AllByRecursion}
use Rattle.std.specs.List.Sorted.{IsPermutation}
use Rattle.namespace_id.specs.declared.namespaces.Namespace.{Namespace}
use Rattle.da_following.specs.Follow.{RunFeed, FeedPlace, places_at, feed_lines}

-- the places of heights from a number on, at each the namespaces in an order of its own
unfoldable pub places_by : ℕ → List (List Namespace) → List FeedPlace
places_by number [] = []
places_by number (order ∷ later) = places_at order number ++ places_by (number + 1) later

-- these are the lines of a feed at so many heights: at each of them those of these namespaces, in some order
pub record AreLinesOf (feed : RunFeed) (names : List Namespace) (count : ℕ) (text : List ℕ) : Type 0 where
  pub orders : List (List Namespace)
  pub count_is : length orders ≡ count
  pub of : AllByRecursion (λ order. IsPermutation order names) orders
  pub lines : text ≡ feed_lines feed (places_by 0 orders)
