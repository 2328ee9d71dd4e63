-- Sorting borrowed blobs by their namespaces gives them in the order in which they stand in a square.
use Rattle.std.proofs.Common.{true, false, if◌then◌else◌, ◌≡◌, ◌∙◌, ◌+◌, Bool, true, List, [], ◌∷◌, get_or, map, not, is_lt, is_le, Bor, Ordering, Less, Equal, Greater, refl, sym, ap, arith, inl, inr}
use Rattle.std.proofs.lemmas.Bool.{cases_Bool, and_parts, and_from}
use Rattle.std.specs.List.{AllByRecursion}
use Rattle.std.specs.Ordering.{ordering_reverse}
use Rattle.std.specs.List.Sorted.{ties, IsSortedByKey, IsStableByKey}
use Rattle.std.proofs.lemmas.Cmp.{nat_list_cmp_total}
use Rattle.namespace_id.specs.declared.namespaces.Namespace.{Namespace}
use Rattle.namespace_id.specs.Names.{is_at_most, namespace_cmp}
use Rattle.namespace_id.proofs.OrderLemmas.{at_most_trans, at_most_total}
use Rattle.share_split.specs.Blobs.{NamedBytes}
use Rattle.square_layout.specs.Layout.{put_in, in_order}
use Rattle.square_layout.proofs.SortingLemmas.{Ranks, Rises, put_by, order_by, sorted_is, Rises-from_neighbours}

-- a comparison the other way round is not below where it is not above
turned : (o : Ordering) → not (is_lt (ordering_reverse o)) ≡ is_le o
turned Less = refl
turned Equal = refl
turned Greater = refl

-- one is at most another where the other isn't below it
at_most_is : (a b : Namespace) → not (is_lt (namespace_cmp b a)) ≡ is_at_most a b
at_most_is a b = ap (λ (o : Ordering). not (is_lt o)) (nat_list_cmp_total.antisymm b.0 a.0) ∙ turned (namespace_cmp a b)

-- what has a namespace is ranked by it: whether the namespace of one is not above that of another
abbrev pub at_most_by : {X : Type 0} → (X → Namespace) → X → X → Bool
at_most_by name a b = is_at_most (name a) (name b)

-- and whether neither has the smaller namespace
abbrev pub level_by : {X : Type 0} → (X → Namespace) → X → X → Bool
level_by name = ties (λ a b. is_lt (namespace_cmp (name a) (name b)))

names_rank : {X : Type 0} (name : X → Namespace) → Ranks (at_most_by name) (level_by name)
names_rank name = record {
  total = λ x y. at_most_total (name x) (name y);
  trans = λ x y z. at_most_trans (name x) (name y) (name z);
  parts = λ x y h. (let both = and_parts (not (is_lt (namespace_cmp (name x) (name y)))) (not (is_lt (namespace_cmp (name y) (name x)))) h in
      (sym (at_most_is (name x) (name y)) ∙ both.1, sym (at_most_is (name y) (name x)) ∙ both.0));
  from = λ x y h k. and_from (not (is_lt (namespace_cmp (name x) (name y)))) (not (is_lt (namespace_cmp (name y) (name x))))
      (at_most_is (name y) (name x) ∙ k) (at_most_is (name x) (name y) ∙ h);
}

-- a stable sort by namespaces is a sort by insertion
pub sorted_by_name : {X : Type 0} (name : X → Namespace) (xs ys : List X) → IsSortedByKey name namespace_cmp ys → IsStableByKey name namespace_cmp xs ys
    → ys ≡ order_by (at_most_by name) xs
sorted_by_name name xs ys up same =
    let rises : Rises (at_most_by name) ys = Rises-from_neighbours (names_rank name) ys (λ k d h. sym (at_most_is (name (get_or ys k d)) (name (get_or ys (k + 1) d))) ∙ ap not (up k d (omega arith) h)) in
    sorted_is (names_rank name) xs ys rises same

-- ---- borrowed blobs

-- the namespace of a borrowed blob
abbrev pub name_of : Bor NamedBytes → Namespace
name_of blob = blob.now.namespace

-- whether it is not above that of another
abbrev named_at_most : Bor NamedBytes → Bor NamedBytes → Bool
named_at_most = at_most_by name_of

-- putting a borrowed blob among others is putting the blob
map-put_by : (x : Bor NamedBytes) (ys : List (Bor NamedBytes)) → map (λ b. b.now) (put_by named_at_most x ys) ≡ put_in x.now (map (λ b. b.now) ys)
unfolding put_by put_in
map-put_by x [] = refl
map-put_by x (y ∷ ys) = elim (cases_Bool (named_at_most x y)) [
  | inl h ↦ rw h refl
  | inr h ↦ rw h (ap (λ (l : List NamedBytes). y.now ∷ l) (map-put_by x ys))
]

-- ordering borrowed blobs is ordering the blobs
map-order_by : (xs : List (Bor NamedBytes)) → map (λ b. b.now) (order_by named_at_most xs) ≡ in_order (map (λ b. b.now) xs)
unfolding order_by in_order
map-order_by [] = refl
map-order_by (x ∷ xs) = map-put_by x (order_by named_at_most xs) ∙ ap (put_in x.now) (map-order_by xs)

-- a stable sort by namespaces gives the blobs in order
pub sorted_in_order : (xs ys : List (Bor NamedBytes)) → IsSortedByKey name_of namespace_cmp ys → IsStableByKey name_of namespace_cmp xs ys
    → map (λ b. b.now) ys ≡ in_order (map (λ b. b.now) xs)
sorted_in_order xs ys up same = ap (map (λ (b : Bor NamedBytes). b.now)) (sorted_by_name name_of xs ys up same) ∙ map-order_by xs

-- what holds of each blob holds of each in order
pub All-put_in : (P : NamedBytes → Type 0) (blob : NamedBytes) (blobs : List NamedBytes) → P blob → AllByRecursion P blobs → AllByRecursion P (put_in blob blobs)
unfolding put_in
All-put_in P blob [] h k = (h, tt)
All-put_in P blob (other ∷ others) h k = elim (is_at_most blob.namespace other.namespace) as (λ b. AllByRecursion P (if b then blob ∷ other ∷ others else other ∷ put_in blob others)) [
  | true ↦ (h, k)
  | false ↦ (k.0, All-put_in P blob others h k.1)
]

-- what holds of each blob holds of each of them in order
pub All-in_order : (P : NamedBytes → Type 0) (blobs : List NamedBytes) → AllByRecursion P blobs → AllByRecursion P (in_order blobs)
unfolding in_order
All-in_order P [] h = tt
All-in_order P (blob ∷ blobs) h = All-put_in P blob (in_order blobs) h.0 (All-in_order P blobs h.1)

-- what holds of each blob after one was put among them holds of it and of each of them
All-from_put_in : (P : NamedBytes → Type 0) (blob : NamedBytes) (blobs : List NamedBytes) → AllByRecursion P (put_in blob blobs) → P blob × AllByRecursion P blobs
unfolding put_in
All-from_put_in P blob [] h = (h.0, tt)
All-from_put_in P blob (other ∷ others) h = by (is_at_most blob.namespace other.namespace) (All-from_put_in P blob others) h
  where
    by : (b : Bool) → (AllByRecursion P (put_in blob others) → P blob × AllByRecursion P others)
        → AllByRecursion P (if b then blob ∷ other ∷ others else other ∷ put_in blob others) → P blob × AllByRecursion P (other ∷ others)
    by true later h = h
    by false later h = let rest = later h.1 in (rest.0, (h.0, rest.1))

-- what holds of each of them in order holds of each
pub All-from_order : (P : NamedBytes → Type 0) (blobs : List NamedBytes) → AllByRecursion P (in_order blobs) → AllByRecursion P blobs
unfolding in_order
All-from_order P [] h = tt
All-from_order P (blob ∷ blobs) h = let parts = All-from_put_in P blob (in_order blobs) h in (parts.0, All-from_order P blobs parts.1)
