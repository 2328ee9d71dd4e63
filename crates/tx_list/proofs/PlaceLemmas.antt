-- Blobs with their numbers in order, and the places that are written at these numbers.
use Rattle.std.proofs.Common.{true, false, if◌then◌else◌, ◌≡◌, ◌≢◌, ◌∙◌, ℕ, zero, suc, ◌+◌, ◌<◌, ◌≤◌, ◌==◌, List, [], ◌∷◌, ◌++◌, length, take, drop, map, replicate, get_or, set, refl, sym, ap, ap₂, subst, arith, inl, inr, add-one, drop-cons, append_assoc}
use Rattle.std.proofs.Math.Seq.{take-append_seam}
use Rattle.std.proofs.lemmas.Bool.{cases_Bool, eqb-true, eq-eqb}
use Rattle.std.proofs.lemmas.List.{drop-map, drop_all, length-map, map-append, append-nil, length-replicate, length-set, get_or-replicate, get_or-set_same, get_or-set_other, ext_get_or}
use Rattle.std.specs.List.Sorted.{IsSortedByKey, IsStableByKey}
use Rattle.namespace_id.specs.declared.namespaces.Namespace.{Namespace}
use Rattle.namespace_id.specs.Names.{is_at_most, namespace_cmp}
use Rattle.share_split.specs.Blobs.{NamedBytes}
use Rattle.square_layout.specs.Blocks.{HaveBytes}
use Rattle.square_layout.specs.Layout.{put_in, in_order, share_count_of, start_after, end_of}
use Rattle.std.specs.List.{AllByRecursion}
use Rattle.square_layout.proofs.PlaceLemmas.{end_of-ge}
use Rattle.square_layout.proofs.SortingLemmas.{put_by, order_by}
use Rattle.square_layout.proofs.BlobOrderLemmas.{at_most_by, sorted_by_name, All-in_order}
use Rattle.tx_list.specs.declared.placing.NumberedBlob.{NumberedBlob}
use Rattle.tx_list.specs.Steps.{numbered, unnumbered, put_places}
use Rattle.tx_list.specs.Places.{Numbered, numbered_from, put_numbered, order_numbered, BlobPlace, places_from, place_of, places_of, ordered}

-- ---- lists that are walked

-- what is left of a list that is seen so begins with the next one
pub drop-seen : {A B : Type 0} (f : A → B) (xs : List A) (i : ℕ) (x : A) → i < length xs → x ≡ get_or xs i x
    → drop i (map f xs) ≡ f x ∷ drop (i + 1) (map f xs)
drop-seen {A = A} {B = B} f xs i x h is =
    drop-map f i xs
    ∙ ap (map f) (drop-cons xs i x h)
    ∙ ap₂ (λ (y : A) (l : List B). f y ∷ l) (sym is) (sym (drop-map f (suc i) xs))
    ∙ ap (λ (n : ℕ). f x ∷ drop n (map f xs)) (sym (add-one i))

-- nothing is left
pub drop-seen_all : {A B : Type 0} (f : A → B) (xs : List A) (i : ℕ) → length xs ≤ i → drop i (map f xs) ≡ []
drop-seen_all f xs i h = drop_all i (map f xs) (omega (arith, h, length-map xs f))

-- ---- their numbers

-- one more has its number
pub numbered_on : (one : NumberedBlob) (left others : List NamedBytes) (out new : List NumberedBlob) (whole : List Numbered) → left ≡ one.blob.now ∷ others
    → new ≡ out ++ one ∷ [] → map numbered out ++ numbered_from one.number left ≡ whole
    → map numbered new ++ numbered_from (one.number + 1) others ≡ whole
unfolding numbered_from
numbered_on one left others out new whole is n so_far =
    ap₂ (λ (l : List NumberedBlob) (i : ℕ). map numbered l ++ numbered_from i others) n (add-one one.number)
    ∙ ap (λ (l : List Numbered). l ++ numbered_from (suc one.number) others) (map-append numbered out (one ∷ []))
    ∙ append_assoc (map numbered out) (numbered one ∷ []) (numbered_from (suc one.number) others)
    ∙ sym (ap (λ (l : List NamedBytes). map numbered out ++ numbered_from one.number l) is) ∙ so_far

-- each has its number
pub numbered_all : (i : ℕ) (left : List NamedBytes) (out : List NumberedBlob) (whole : List Numbered) → left ≡ []
    → map numbered out ++ numbered_from i left ≡ whole → map numbered out ≡ whole
unfolding numbered_from
numbered_all i left out whole none so_far =
    sym (append-nil (map numbered out)) ∙ sym (ap (λ (l : List NamedBytes). map numbered out ++ numbered_from i l) none) ∙ so_far

-- numbers from one on are at least this, and below it and how many there are
numbers_below : (from most : ℕ) (blobs : List NamedBytes) → from + length blobs ≤ most → AllByRecursion (λ one. one.number < most) (numbered_from from blobs)
unfolding numbered_from
numbers_below from most [] h = tt
numbers_below from most (blob ∷ blobs) h = (omega (arith, h), numbers_below (suc from) most blobs (omega (arith, h)))

-- what holds of each of some numbered blobs holds of each in order
All-put : (P : Numbered → Type 0) (one : Numbered) (others : List Numbered) → P one → AllByRecursion P others → AllByRecursion P (put_numbered one others)
unfolding put_numbered
All-put P one [] h all = (h, tt)
All-put P one (other ∷ others) h all = elim (is_at_most one.blob.namespace other.blob.namespace) as (λ b. AllByRecursion P (if b then one ∷ other ∷ others else other ∷ put_numbered one others)) [
  | true ↦ (h, all)
  | false ↦ (all.0, All-put P one others h all.1)
]

All-order : (P : Numbered → Type 0) (all : List Numbered) → AllByRecursion P all → AllByRecursion P (order_numbered all)
unfolding order_numbered
All-order P [] h = tt
All-order P (one ∷ others) h = All-put P one (order_numbered others) h.0 (All-order P others h.1)

-- the numbers of blobs in order are below their count
pub ordered_below : (blobs : List NamedBytes) (order : List Numbered) (most : ℕ) → order ≡ ordered blobs → length blobs ≤ most
    → AllByRecursion (λ one. one.number < most) order
ordered_below blobs order most is few =
    subst (λ (l : List Numbered). AllByRecursion (λ one. one.number < most) l) (sym is)
    (All-order (λ (one : Numbered). one.number < most) (numbered_from 0 blobs) (numbers_below 0 most blobs (omega (arith, few))))

-- ---- their order

-- the namespace of a numbered blob
abbrev pub name_of : NumberedBlob → Namespace
name_of one = one.blob.now.namespace

map-put_by : (one : NumberedBlob) (others : List NumberedBlob)
    → map numbered (put_by (at_most_by name_of) one others) ≡ put_numbered (numbered one) (map numbered others)
unfolding put_by put_numbered
map-put_by one [] = refl
map-put_by one (other ∷ others) = elim (cases_Bool (at_most_by name_of one other)) [
  | inl h ↦ rw h refl
  | inr h ↦ rw h (ap (λ (l : List Numbered). numbered other ∷ l) (map-put_by one others))
]

map-order_by : (all : List NumberedBlob) → map numbered (order_by (at_most_by name_of) all) ≡ order_numbered (map numbered all)
unfolding order_by order_numbered
map-order_by [] = refl
map-order_by (one ∷ others) = map-put_by one (order_by (at_most_by name_of) others) ∙ ap (put_numbered (numbered one)) (map-order_by others)

-- a stable sort by namespaces gives numbered blobs in order
pub sorted_numbered : (xs ys : List NumberedBlob) → IsSortedByKey name_of namespace_cmp ys → IsStableByKey name_of namespace_cmp xs ys
    → map numbered ys ≡ order_numbered (map numbered xs)
sorted_numbered xs ys up same = ap (map numbered) (sorted_by_name name_of xs ys up same) ∙ map-order_by xs

map-put_numbered : (one : Numbered) (others : List Numbered) → unnumbered (put_numbered one others) ≡ put_in one.blob (unnumbered others)
unfolding put_numbered put_in
map-put_numbered one [] = refl
map-put_numbered one (other ∷ others) = elim (cases_Bool (is_at_most one.blob.namespace other.blob.namespace)) [
  | inl h ↦ rw h refl
  | inr h ↦ rw h (ap (λ (l : List NamedBytes). other.blob ∷ l) (map-put_numbered one others))
]

map-order_numbered : (all : List Numbered) → unnumbered (order_numbered all) ≡ in_order (unnumbered all)
unfolding order_numbered in_order
map-order_numbered [] = refl
map-order_numbered (one ∷ others) = map-put_numbered one (order_numbered others) ∙ ap (put_in one.blob) (map-order_numbered others)

map-numbered : (i : ℕ) (blobs : List NamedBytes) → unnumbered (numbered_from i blobs) ≡ blobs
unfolding numbered_from
map-numbered i [] = refl
map-numbered i (blob ∷ blobs) = ap (λ (l : List NamedBytes). blob ∷ l) (map-numbered (suc i) blobs)

-- numbered blobs in order are the blobs in order
pub numbered_in_order : (blobs : List NamedBytes) → unnumbered (order_numbered (numbered_from 0 blobs)) ≡ in_order blobs
numbered_in_order blobs = map-order_numbered (numbered_from 0 blobs) ∙ ap in_order (map-numbered 0 blobs)

-- so each has bytes, and they end where these do
pub ordered_some : (blobs : List NamedBytes) (order : List Numbered) → order ≡ ordered blobs → HaveBytes blobs → HaveBytes (unnumbered order)
ordered_some blobs order is some =
    subst (λ (l : List Numbered). HaveBytes (unnumbered l)) (sym is)
    (subst HaveBytes (sym (numbered_in_order blobs)) (All-in_order (λ (blob : NamedBytes). 1 ≤ length blob.bytes) blobs some))

pub ordered_fits : (end most : ℕ) (blobs : List NamedBytes) (order : List Numbered) → order ≡ ordered blobs → end_of end (in_order blobs) ≤ most
    → end_of end (unnumbered order) ≤ most
ordered_fits end most blobs order is few =
    subst (λ (l : List NamedBytes). end_of end l ≤ most) (sym (ap unnumbered is ∙ numbered_in_order blobs)) few

-- the first of what is left has bytes, and so have the others
pub some-next : (one : Numbered) (left others : List Numbered) → left ≡ one ∷ others → HaveBytes (unnumbered left)
    → (1 ≤ length one.blob.bytes) × HaveBytes (unnumbered others)
some-next one left others is h = let both : HaveBytes (unnumbered (one ∷ others)) = subst (λ (l : List Numbered). HaveBytes (unnumbered l)) is h in both

-- its number is below the count, and so are theirs
pub numbers-next : (most : ℕ) (one : Numbered) (left others : List Numbered) → left ≡ one ∷ others → AllByRecursion (λ x. x.number < most) left
    → (one.number < most) × AllByRecursion (λ x. x.number < most) others
numbers-next most one left others is h =
    let both : AllByRecursion (λ x. x.number < most) (one ∷ others) = subst (λ (l : List Numbered). AllByRecursion (λ x. x.number < most) l) is h in both

-- it ends within what there is room for, and so do they
pub fits-next : (end most : ℕ) (one : Numbered) (left others : List Numbered) → left ≡ one ∷ others → end_of end (unnumbered left) ≤ most
    → (start_after end one.blob + share_count_of one.blob ≤ most) × (end_of (start_after end one.blob + share_count_of one.blob) (unnumbered others) ≤ most)
unfolding end_of
fits-next end most one left others is h =
    let next : ℕ = start_after end one.blob + share_count_of one.blob in
    let rest : end_of next (unnumbered others) ≤ most = subst (λ (l : List Numbered). end_of end (unnumbered l) ≤ most) is h in
    (omega (arith, rest, end_of-ge next (unnumbered others)), rest)

-- ---- places that are written at their numbers

pub length-put_places : (places : List BlobPlace) (starts : List ℕ) → length (put_places places starts) ≡ length starts
unfolding put_places
length-put_places [] starts = refl
length-put_places (place ∷ places) starts =
    length-put_places places (set starts place.number place.start) ∙ length-set starts place.number place.start

-- a place at a number, after one was written
set-at : (i : ℕ) (place : BlobPlace) (starts : List ℕ) → i < length starts
    → get_or (set starts place.number place.start) i 0 ≡ (if place.number == i then place.start else get_or starts i 0)
set-at i place starts h = elim (cases_Bool (place.number == i)) [
  | inl same ↦ (let e : place.number ≡ i = eqb-true place.number i same in
      rw same (ap (λ (n : ℕ). get_or (set starts n place.start) i 0) e ∙ get_or-set_same starts i place.start 0 h))
  | inr differs ↦ (let ne : i ≢ place.number = λ e. absurd (let clash : true ≡ false = sym (eq-eqb place.number i (sym e)) ∙ differs in cc) in
      rw differs (get_or-set_other starts place.number i place.start 0 ne))
]

-- after all were written it is the place beside the number
put_places-at : (i : ℕ) (places : List BlobPlace) (starts : List ℕ) → i < length starts
    → get_or (put_places places starts) i 0 ≡ place_of (get_or starts i 0) i places
unfolding put_places place_of
put_places-at i [] starts h = refl
put_places-at i (place ∷ places) starts h =
    put_places-at i places (set starts place.number place.start) (omega (arith, h, length-set starts place.number place.start))
    ∙ ap (λ (found : ℕ). place_of found i places) (set-at i place starts h)

pub length-places_of : (i count : ℕ) (places : List BlobPlace) → length (places_of i count places) ≡ count
unfolding places_of
length-places_of i zero places = refl
length-places_of i (suc count) places = ap suc (length-places_of (suc i) count places)

pub get_or-places_of : (i count j : ℕ) (places : List BlobPlace) → j < count → get_or (places_of i count places) j 0 ≡ place_of 0 (i + j) places
unfolding places_of
get_or-places_of i zero j places h = absurd (omega (arith, h))
get_or-places_of i (suc count) zero places h = ap (λ (n : ℕ). place_of 0 n places) (omega arith)
get_or-places_of i (suc count) (suc j) places h =
    get_or-places_of (suc i) count j places (omega (arith, h)) ∙ ap (λ (n : ℕ). place_of 0 n places) (omega arith)

-- so all places are those beside their numbers
pub put_places_are : (count : ℕ) (places : List BlobPlace) → put_places places (replicate count 0) ≡ places_of 0 count places
put_places_are count places =
    let zeros : List ℕ = replicate count 0 in
    let size : length zeros ≡ count = length-replicate {A = ℕ} count 0 in
    let long : length (put_places places zeros) ≡ count = length-put_places places zeros ∙ size in
    ext_get_or 0 (put_places places zeros) (places_of 0 count places) (long ∙ sym (length-places_of 0 count places))
    (λ i h. (let lt : i < count = omega (arith, h, long) in
    let none : get_or zeros i 0 ≡ 0 = get_or-replicate count i 0 0 lt in
    put_places-at i places zeros (omega (arith, lt, size))
    ∙ ap (λ (found : ℕ). place_of found i places) none
    ∙ ap (λ (n : ℕ). place_of 0 n places) (omega arith) ∙ sym (get_or-places_of 0 count i places lt)))

-- a list that was lent whole and came back with other values
pub lent_whole : (len : ℕ) (new old : List ℕ) → length new ≡ len → take len (new ++ drop (length new) old) ≡ new
lent_whole len new old size = ap (λ (n : ℕ). take n (new ++ drop (length new) old)) (sym size) ∙ take-append_seam new (drop (length new) old)

-- one place more is written
pub put_on : (end next start : ℕ) (one : Numbered) (left others : List Numbered) (starts new whole : List ℕ) → left ≡ one ∷ others
    → start ≡ start_after end one.blob → next ≡ start_after end one.blob + share_count_of one.blob → new ≡ set starts one.number start
    → put_places (places_from end left) starts ≡ whole → put_places (places_from next others) new ≡ whole
unfolding put_places places_from
put_on end next start one left others starts new whole is s e n so_far =
    ap₂ (λ (x : ℕ) (l : List ℕ). put_places (places_from x others) l) e (n ∙ ap (set starts one.number) s)
    ∙ sym (ap (λ (l : List Numbered). put_places (places_from end l) starts) is) ∙ so_far

-- none is left
pub put_none : (end : ℕ) (left : List Numbered) (starts whole : List ℕ) → left ≡ [] → put_places (places_from end left) starts ≡ whole → starts ≡ whole
unfolding put_places places_from
put_none end left starts whole is so_far = sym (ap (λ (l : List Numbered). put_places (places_from end l) starts) is) ∙ so_far
