-- The status of the lines of a feed.
use Rattle.std.proofs.Common.{◌≡◌, ◌∙◌, ℕ, zero, suc, ◌+◌, ◌<◌, ◌≤◌, ◌≢◌, Bool, true, false, cond, List, [], ◌∷◌, ◌++◌, length, refl, sym, ap, subst, arith, ⊎_elim, ◌↔◌}
use Rattle.std.specs.Prelude.{◌==◌, not, is_some}
use Rattle.std.specs.declared.option.Option.{Option}
use Rattle.std.specs.List.{filter, list_any, AllByRecursion, Contains}
use Rattle.std.proofs.lemmas.Bool.{cases_eq, eqb-true, eqb-false, not-false}
use Rattle.std.proofs.lemmas.List.Elements.{All-contains, All-from_recursion, recursion_from_All}
use Rattle.std.proofs.lemmas.Map.Views.{Contains-from_any, All-from_any}
use Rattle.namespace_id.specs.declared.namespaces.Namespace.{Namespace}
use Rattle.blob_feed.specs.Feeds.{Item, heights_of, FeedsAt, IsFeedOf, Read}
use Rattle.blob_feed.specs.Followers.{is_name}
use Rattle.blob_feed.proofs.NameLemmas.{same_name}
use Rattle.da_status.specs.declared.status.Status.{Status}
use Rattle.da_status.specs.declared.status.Status.TheVariants.{Done, Waiting}
use Rattle.da_following.specs.Follow.{each_once, RunFeed, FeedPlace, places_at, places_from, run_places, feed_lines, is_place_missing, missing_count, HasAll, feed_status, Follows}
use Rattle.da_following.proofs.EachOnceLemmas.{name_laws, wanted_there, wanted_found}
use Rattle.da_following.proofs.FeedOnceLemmas.{follows_once}

-- ---- places at which nothing is had

-- of elements none passes a test exactly where the first fails it and none of the others passes it
none_by : {A : Type 0} (b : Bool) (x : A) (xs : List A) → (length (cond b (x ∷ xs) xs) ≡ 0) ↔ ((b ≡ false) × (length xs ≡ 0))
none_by true x xs = (λ e. absurd (omega (arith, e)), λ h. absurd cc)
none_by false x xs = (λ e. (refl, e), λ h. h.1)

-- none passes it exactly where each fails it
none_passes : {A : Type 0} (test : A → Bool) (xs : List A) → (length (filter test xs) ≡ 0) ↔ AllByRecursion (λ (x : A). test x ≡ false) xs
none_passes test [] = (λ e. tt, λ h. refl)
none_passes test (x ∷ xs) =
    let first = none_by (test x) x (filter test xs) in
    let rest = none_passes test xs in
    (λ e. let h = first.0 e in (h.0, rest.0 h.1), λ h. first.1 (h.0, rest.1 h.1))

module _ (P : FeedPlace → Type 0) where
  -- a fact holds of a height with each namespace, and of more places
  at_height : (names : List Namespace) (number : ℕ) (more : List FeedPlace) → AllByRecursion P (places_at names number ++ more)
      ↔ (AllByRecursion (λ (name : Namespace). P (number, name)) names × AllByRecursion P more)
  at_height [] number more = (λ h. (tt, h), λ h. h.1)
  at_height (name ∷ names) number more =
      let rest = at_height names number more in
      (λ h. let later = rest.0 h.1 in ((h.0, later.0), later.1), λ h. (h.0.0, rest.1 (h.0.1, h.1)))

  -- it holds of the first height, or of a later one
  from_first : (names : List Namespace) (first count number : ℕ) → AllByRecursion (λ (name : Namespace). P (first, name)) names
      → ((n : ℕ) → first + 1 ≤ n → n < first + 1 + count → AllByRecursion (λ (name : Namespace). P (n, name)) names)
      → first ≤ number → number < first + suc count → AllByRecursion (λ (name : Namespace). P (number, name)) names
  from_first names first count number here later from below =
      ⊎_elim (λ (e : first ≡ number). subst (λ (n : ℕ). AllByRecursion (λ (name : Namespace). P (n, name)) names) e here)
      (λ (other : first ≢ number). later number (omega (arith, from, other)) (omega (arith, below))) (cases_eq first number)

  -- it holds of all places exactly where it holds of each height with each namespace
  pub each_place : (names : List Namespace) (first count : ℕ) → AllByRecursion P (places_from names first count)
      ↔ ((number : ℕ) → first ≤ number → number < first + count → AllByRecursion (λ (name : Namespace). P (number, name)) names)
  each_place names first zero = (λ h number from below. absurd (omega (arith, from, below)), λ h. tt)
  each_place names first (suc count) =
      let both = at_height names first (places_from names (first + 1) count) in
      let rest = each_place names (first + 1) count in (
        λ h number from below. let parts = both.0 h in from_first names first count number parts.0 (rest.0 parts.1) from below,
        λ h. both.1 (
          h first (omega arith) (omega arith),
          rest.1 (λ number from below. h number (omega (arith, from)) (omega (arith, below))),
        ),
      )

-- a fact holds of each of some namespaces exactly where it holds of each that is found among them
pub each_name : (Q : Namespace → Type 0) (names : List Namespace) → AllByRecursion Q names
    ↔ ((name : Namespace) → list_any (is_name name) names ≡ true → Q name)
each_name Q names = (
  λ h name found. All-contains Q names name (All-from_recursion Q names h) (Contains-from_any same_name name names found),
  λ h. recursion_from_All Q names (All-from_any name_laws Q names h),
)

-- something is had at each place exactly where each wanted namespace has something at each height
all_had : (feed : RunFeed) (wanted : List Namespace) (count : ℕ) → (missing_count feed (places_from (each_once wanted) 0 count) ≡ 0) ↔ HasAll feed wanted count
all_had feed wanted count =
    let P : FeedPlace → Type 0 = λ place. is_place_missing feed place ≡ false in
    let names = each_once wanted in
    let none = none_passes (is_place_missing feed) (places_from names 0 count) in
    let places = each_place P names 0 count in (
      λ e number name below there.
          not-false (is_some (feed number name))
          ((each_name (λ (n : Namespace). P (number, n)) names).0 (places.0 (none.0 e) number (omega arith) (omega (arith, below))) name
          (wanted_found name wanted there)),
      λ h. none.1 (places.1 (λ number from below. (each_name (λ (n : Namespace). P (number, n)) names).1
          (λ name found. ap not (h number name (omega (arith, below)) (wanted_there name wanted found))))),
    )

-- ---- the status

-- lines are done exactly where none says that there is nothing
done_by : (b : Bool) (missing : ℕ) → (missing == 0) ≡ b → (cond b Done (Waiting missing) ≡ Done) ↔ (missing ≡ 0)
done_by true missing e = (λ d. eqb-true missing 0 e, λ z. refl)
done_by false missing e = (λ d. absurd cc, λ z. absurd (eqb-false missing 0 e z))

-- they wait for so many exactly where so many say it
waits_by : (b : Bool) (missing n : ℕ) → (missing == 0) ≡ b → (cond b Done (Waiting missing) ≡ Waiting n) ↔ ((1 ≤ n) × (missing ≡ n))
waits_by true missing n e = (λ d. absurd cc, λ h. absurd (omega (arith, eqb-true missing 0 e, h.0, h.1)))
waits_by false missing n e = (
  λ d. let same : missing ≡ n = cc in let some : missing ≢ 0 = eqb-false missing 0 e in (omega (arith, same, some), same),
  λ h. ap Waiting h.1,
)

module _ (wanted : List Namespace) (items : List Item)
    (once : (number : ℕ) (name : Namespace) (one other : Option Read)
    → FeedsAt (λ (n : Namespace). list_any (is_name n) (each_once wanted) ≡ true) items number name one
    → FeedsAt (λ (n : Namespace). list_any (is_name n) (each_once wanted) ≡ true) items number name other → one ≡ other)
    (feed : RunFeed) (w : List ℕ) (status : Status) (is : IsFeedOf (Contains wanted) items feed) (follows : Follows wanted items w status) where
  -- the status is that of the one feed
  status_is : status ≡ feed_status (missing_count feed (run_places wanted items))
  status_is = (follows_once wanted items once w (feed_lines feed (run_places wanted items)) status _ follows (feed, is, refl, refl)).1

  -- a run is done exactly where each wanted namespace has something at each height
  pub follows_done : (status ≡ Done) ↔ HasAll feed wanted (length (heights_of items))
  follows_done =
      let missing = missing_count feed (run_places wanted items) in
      let done = done_by (missing == 0) missing refl in
      let had = all_had feed wanted (length (heights_of items)) in
      (λ e. had.0 (done.0 (sym status_is ∙ e)), λ h. status_is ∙ done.1 (had.1 h))

  -- it waits for so many exactly where nothing is had at so many places
  pub follows_waits : (n : ℕ) → (status ≡ Waiting n) ↔ ((1 ≤ n) × (missing_count feed (run_places wanted items) ≡ n))
  follows_waits n =
      let missing = missing_count feed (run_places wanted items) in
      let waits = waits_by (missing == 0) missing n refl in (λ e. waits.0 (sym status_is ∙ e), λ h. status_is ∙ waits.1 h)
