-- Namespaces, each once, ascend.
use Rattle.std.proofs.Common.{◌≡◌, ◌∙◌, List, [], ◌∷◌, refl, ap, Ordering, Less, Equal, Greater}
use Rattle.std.specs.Ordering.{match_ordering, ordering_reverse}
use Rattle.std.specs.Cmp.Lexicographic.{nat_list_cmp_total}
use Rattle.std.specs.List.{fold, AllByRecursion}
use Rattle.std.specs.List.Sorted.{IsStrictlySortedBy}
use Rattle.std.specs.BTreeSet.{insert_key}
use Rattle.namespace_id.specs.declared.namespaces.Namespace.{Namespace}
use Rattle.namespace_id.specs.Names.{namespace_cmp}
use Rattle.da_following.specs.Follow.{each_once}

-- what holds of keys and of one more holds with it at its place
all_inserted : (P : Namespace → Type 0) (key : Namespace) (keys : List Namespace) → P key → AllByRecursion P keys
    → AllByRecursion P (insert_key namespace_cmp keys key)
all_inserted P key [] is all = (is, tt)
all_inserted P key (first ∷ keys) is all = by (namespace_cmp key first) (all_inserted P key keys is all.1)
  where
    by : (o : Ordering) → AllByRecursion P (insert_key namespace_cmp keys key)
        → AllByRecursion P (match_ordering o (key ∷ first ∷ keys) (first ∷ keys) (first ∷ insert_key namespace_cmp keys key))
    by Less rest = (is, all)
    by Equal rest = all
    by Greater rest = (all.0, rest)

-- what is below one is below those after it
below_all : (key first : Namespace) (keys : List Namespace) → namespace_cmp key first ≡ Less
    → AllByRecursion (λ (other : Namespace). namespace_cmp first other ≡ Less) keys → AllByRecursion (λ (other : Namespace). namespace_cmp key other ≡ Less) keys
below_all key first [] below all = tt
below_all key first (next ∷ keys) below all = (nat_list_cmp_total.trans key.0 first.0 next.0 below all.0, below_all key first keys below all.1)

-- one more at its place leaves them ascending
inserted_sorted : (key : Namespace) (keys : List Namespace) → IsStrictlySortedBy namespace_cmp keys
    → IsStrictlySortedBy namespace_cmp (insert_key namespace_cmp keys key)
unfolding IsStrictlySortedBy
inserted_sorted key [] sorted = (tt, tt)
inserted_sorted key (first ∷ keys) sorted = by (namespace_cmp key first) refl (inserted_sorted key keys sorted.1)
  where
    by : (o : Ordering) → namespace_cmp key first ≡ o → IsStrictlySortedBy namespace_cmp (insert_key namespace_cmp keys key)
        → IsStrictlySortedBy namespace_cmp (match_ordering o (key ∷ first ∷ keys) (first ∷ keys) (first ∷ insert_key namespace_cmp keys key))
    by Less e rest = ((e, below_all key first keys e sorted.0), sorted)
    by Equal e rest = sorted
    by Greater e rest = (
      all_inserted (λ (other : Namespace). namespace_cmp first other ≡ Less) key keys (nat_list_cmp_total.antisymm first.0 key.0 ∙ ap ordering_reverse e) sorted.0,
      rest,
    )

-- so do all of them
all_sorted : (keys wanted : List Namespace) → IsStrictlySortedBy namespace_cmp keys
    → IsStrictlySortedBy namespace_cmp (fold (insert_key namespace_cmp) keys wanted)
all_sorted keys [] sorted = sorted
all_sorted keys (first ∷ wanted) sorted = all_sorted (insert_key namespace_cmp keys first) wanted (inserted_sorted first keys sorted)

-- namespaces, each once, ascend
pub once_sorted : (wanted : List Namespace) → IsStrictlySortedBy namespace_cmp (each_once wanted)
unfolding IsStrictlySortedBy
once_sorted wanted = all_sorted [] wanted tt
