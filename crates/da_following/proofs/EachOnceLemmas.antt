-- The namespaces that are wanted, each once, and what is fed of them.
use Rattle.std.proofs.Common.{◌≡◌, ◌∙◌, Bool, true, false, ◌||◌, List, [], ◌∷◌, Some, None, Result, Ok, Err, refl, sym, ap, subst, IsOk, IsTrue, is_err, ◌↔◌, true≢false, Ordering, Less, Equal, Greater}
use Rattle.std.specs.Prelude.{slice_get}
use Rattle.std.specs.declared.option.Option.{Option}
use Rattle.std.specs.Ordering.{is_eq, match_ordering}
use Rattle.std.specs.List.{fold, list_any, Contains}
use Rattle.std.specs.BTreeSet.{insert_key}
use Rattle.std.proofs.Math.Bool.{or-false, or_self_left, or_assoc, or_comm}
use Rattle.std.specs.Cmp.{IsEquivalence}
use Rattle.std.proofs.lemmas.Cmp.{on_equiv, eq_by_cmp_equiv, nat_list_cmp_total}
use Rattle.std.proofs.lemmas.Map.Views.{Contains-from_any, list_any-from_Contains}
use Rattle.namespace_id.specs.declared.namespaces.Namespace.{Namespace}
use Rattle.namespace_id.specs.Names.{namespace_cmp}
use Rattle.blob_feed.specs.Feeds.{Item, Height, heights_of, IsFedIn, IsFeedOf, Read}
use Rattle.blob_feed.specs.Followers.{is_name}
use Rattle.blob_feed.proofs.NameLemmas.{same_name}
use Rattle.da_following.specs.Follow.{each_once, RunFeed}

-- which namespaces compare as one is an equivalence
pub name_laws : IsEquivalence is_name
name_laws = on_equiv (λ (n : Namespace). n.0) (eq_by_cmp_equiv nat_list_cmp_total)

-- of three tests two change places
or_swap : (a b d : Bool) → (a || (b || d)) ≡ (b || (a || d))
or_swap a b d = sym (or_assoc a b d) ∙ ap (λ (x : Bool). x || d) (or_comm a b) ∙ or_assoc b a d

module _ (name : Namespace) where
  -- a namespace that was put at its place is found besides the others, by how it compares to the first
  inserted_by : (key first : Namespace) (keys : List Namespace) (o : Ordering) → namespace_cmp key first ≡ o
      → list_any (is_name name) (insert_key namespace_cmp keys key) ≡ (is_name name key || list_any (is_name name) keys)
      → list_any (is_name name) (match_ordering o (key ∷ first ∷ keys) (first ∷ keys) (first ∷ insert_key namespace_cmp keys key))
      ≡ (is_name name key || (is_name name first || list_any (is_name name) keys))
  inserted_by key first keys Less e behind = refl
  inserted_by key first keys Equal e behind =
      ap (λ (n : Namespace). is_name name n || list_any (is_name name) keys) (sym (same_name key first (ap is_eq e)))
      ∙ sym (or_self_left (is_name name key) (list_any (is_name name) keys))
      ∙ ap (λ (n : Namespace). is_name name key || (is_name name n || list_any (is_name name) keys)) (same_name key first (ap is_eq e))
  inserted_by key first keys Greater e behind =
      ap (λ (b : Bool). is_name name first || b) behind
      ∙ or_swap (is_name name first) (is_name name key) (list_any (is_name name) keys)

  -- it is found besides the others
  inserted : (key : Namespace) (keys : List Namespace)
      → list_any (is_name name) (insert_key namespace_cmp keys key) ≡ (is_name name key || list_any (is_name name) keys)
  inserted key [] = refl
  inserted key (first ∷ keys) = inserted_by key first keys (namespace_cmp key first) refl (inserted key keys)

  -- so are all that were put at their places one after another
  inserted_all : (keys wanted : List Namespace) → list_any (is_name name) (fold (insert_key namespace_cmp) keys wanted)
      ≡ (list_any (is_name name) keys || list_any (is_name name) wanted)
  inserted_all keys [] = sym (or-false (list_any (is_name name) keys))
  inserted_all keys (first ∷ wanted) =
      inserted_all (insert_key namespace_cmp keys first) wanted
      ∙ ap (λ (b : Bool). b || list_any (is_name name) wanted) (inserted first keys)
      ∙ or_assoc (is_name name first) (list_any (is_name name) keys) (list_any (is_name name) wanted)
      ∙ or_swap (is_name name first) (list_any (is_name name) keys) (list_any (is_name name) wanted)

  -- a namespace that is found among those that are wanted, each once, is found among those that are wanted
  pub wanted_listed : (wanted : List Namespace) → list_any (is_name name) (each_once wanted) ≡ true → list_any (is_name name) wanted ≡ true
  wanted_listed wanted found = sym (inserted_all [] wanted) ∙ found

  -- so it is wanted
  pub wanted_there : (wanted : List Namespace) → list_any (is_name name) (each_once wanted) ≡ true → Contains wanted name
  wanted_there wanted found = Contains-from_any same_name name wanted (wanted_listed wanted found)

  -- and the other way
  pub wanted_found : (wanted : List Namespace) → Contains wanted name → list_any (is_name name) (each_once wanted) ≡ true
  wanted_found wanted there = inserted_all [] wanted ∙ list_any-from_Contains name_laws name wanted there

module _ (wants other : Namespace → Type 0) (there : (name : Namespace) → wants name → other name)
    (back : (name : Namespace) → other name → wants name) where
  -- what a height has is the same where the same is wanted
  fed_as : (height : Option Height) (name : Namespace) (read : Option Read) → IsFedIn wants height name read
      → IsFedIn other height name read
  fed_as None name read fed = fed
  fed_as (Some height) name None none = λ wanted blob. none (back name wanted) blob
  fed_as (Some height) name (Some read) (wanted, blob, given) = (there name wanted, blob, given)

  -- so is a feed
  feed_as : (items : List Item) (feed : RunFeed) → IsFeedOf wants items feed → IsFeedOf other items feed
  feed_as items feed is = λ number name. fed_as (slice_get (heights_of items) number) name (feed number name) (is number name)

-- the same, at one place
pub wanted_as : (names wanted : List Namespace) → names ≡ each_once wanted → (items : List Item) (feed : RunFeed)
    → IsFeedOf (λ (name : Namespace). list_any (is_name name) names ≡ true) items feed → IsFeedOf (Contains wanted) items feed
wanted_as names wanted same items feed is =
    feed_as (λ (name : Namespace). list_any (is_name name) names ≡ true) (Contains wanted)
    (λ name found. wanted_there name wanted (subst (λ (l : List Namespace). list_any (is_name name) l ≡ true) same found))
    (λ name there. subst (λ (l : List Namespace). list_any (is_name name) l ≡ true) (sym same) (wanted_found name wanted there))
    items feed is

-- and the other way
pub wanted_by_list : (wanted : List Namespace) (items : List Item) (feed : RunFeed) → IsFeedOf (Contains wanted) items feed
    → IsFeedOf (λ (name : Namespace). list_any (is_name name) (each_once wanted) ≡ true) items feed
wanted_by_list wanted items feed is =
    feed_as (Contains wanted) (λ (name : Namespace). list_any (is_name name) (each_once wanted) ≡ true)
    (λ name there. wanted_found name wanted there) (λ name found. wanted_there name wanted found) items feed is

-- a call that failed means that a test fails, where it succeeds exactly where the test passes
pub fails_by : {T E : Type 0} (r : Result T E) (b : Bool) → (IsOk r ↔ IsTrue b) → is_err r ≡ true → b ≡ false
fails_by (Ok x) b law e = absurd cc
fails_by (Err x) false law e = refl
fails_by (Err x) true law e = absurd (true≢false (sym (law.1 refl)))

-- and one that didn't that it passes
pub passes_by : {T E : Type 0} (r : Result T E) (b : Bool) → (IsOk r ↔ IsTrue b) → is_err r ≡ false → b ≡ true
passes_by (Ok x) b law e = law.0 refl
passes_by (Err x) b law e = absurd cc
