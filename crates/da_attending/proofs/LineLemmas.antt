-- What is said to headers and answers are the lines of what they feed.
use Rattle.std.proofs.Common.{◌≡◌, ◌∙◌, ℕ, suc, ◌+◌, ◌<◌, Bool, true, false, true≢false, ◌||◌, cond, List, [], ◌∷◌, ◌++◌, length, length-append, Option, Some, None, is_some, is_none, if◌then◌else◌, refl, sym, ap, ap₂, subst, subst₂, arith, append_assoc, append-nil, inl, inr}
use Rattle.std.specs.Prelude.{◌⊎◌}
use Rattle.std.specs.List.{filter, flat_map, AllByRecursion}
use Rattle.std.specs.List.Sorted.{IsPermutation, IsStrictlySortedBy}
use Rattle.std.specs.Option.{option_or}
use Rattle.std.specs.declared.cmp.Ordering.{Ordering}
use Rattle.std.specs.declared.cmp.Ordering.TheVariants.{Less}
use Rattle.std.specs.Ordering.{is_eq}
use Rattle.std.proofs.lemmas.Bool.{cases_Bool, or_right}
use Rattle.std.proofs.lemmas.List.Sorted.{IsPermutation-refl, IsPermutation-sym, IsPermutation-trans, IsPermutation-cons, IsPermutation-middle, IsPermutation-pop_more}
use Rattle.namespace_id.specs.declared.namespaces.Namespace.{Namespace}
use Rattle.namespace_id.specs.Names.{namespace_cmp}
use Rattle.data_header.specs.Headers.{Roots}
use Rattle.blob_feed.specs.Feeds.{NamedAnswer, Item, headed, answered, Height, with_answer, heights_of, Read}
use Rattle.blob_feed.specs.Followers.{is_name}
use Rattle.blob_feed.specs.Firsts.{first_read}
use Rattle.blob_feed.proofs.NameLemmas.{same_name, same_refl}
use Rattle.blob_feed.proofs.FirstLemmas.{first_more}
use Rattle.da_following.specs.Follow.{RunFeed, FeedPlace, place_text, read_text, places_at, feed_lines}
use Rattle.da_following.specs.Heights.{read_at, fed_by}
use Rattle.da_following.proofs.FeedLineLemmas.{lines_both}
use Rattle.da_following.proofs.KeptLemmas.{or_none}
use Rattle.da_attending.specs.Attended.{has_items, fits, had, missing_at, height_lines, news, height_missing, reply_to}
use Rattle.da_attending.specs.Attenders.{is_listed}
use Rattle.da_attending.specs.Orders.{places_by, AreLinesOf}
use Rattle.da_attending.proofs.HeightLemmas.{heights_answered, heights_headed, at_last}
use Rattle.da_attending.proofs.MissingLemmas.{filter_alike, of_each, fed_below, fed_here}
use Rattle.da_attending.proofs.StandLemmas.{other_none}

-- ---- lists

-- a namespace that is below others is none of them
apart_from : (name : Namespace) (others : List Namespace) → AllByRecursion (λ (other : Namespace). namespace_cmp name other ≡ Less) others
    → is_listed others name ≡ false
apart_from name [] all = refl
apart_from name (other ∷ others) all =
    ap₂ (λ (o : Ordering) (b : Bool). is_eq o || b) all.0 (apart_from name others all.1)

-- it isn't one that is
apart : (name other : Namespace) (names : List Namespace) → is_listed names name ≡ false → is_listed names other ≡ true → is_name name other ≡ false
apart name other names none there = elim (cases_Bool (is_name name other)) [
  | inl e ↦ absurd (true≢false (sym there ∙ subst (λ (n : Namespace). is_listed names n ≡ false) (same_name name other e) none))
  | inr e ↦ e
]

-- one that stands before others is taken out of them behind one that is kept, or that isn't
less_by : (b : Bool) (name first : Namespace) (some less : List Namespace) → IsPermutation some (name ∷ less)
    → IsPermutation (cond b (first ∷ some) some) (name ∷ cond b (first ∷ less) less)
less_by true name first some less h =
    IsPermutation-trans (first ∷ some) (first ∷ name ∷ less) (name ∷ first ∷ less) (IsPermutation-cons first some (name ∷ less) h)
    (IsPermutation-middle (first ∷ []) name less)
less_by false name first some less h = h

-- a test that no longer passes at one of namespaces, each of which stands there once, keeps the others
less_one : (p q : Namespace → Bool) (name : Namespace) (names : List Namespace) → IsStrictlySortedBy namespace_cmp names
    → is_listed names name ≡ true → p name ≡ true → q name ≡ false
    → ((other : Namespace) → is_listed names other ≡ true → is_name name other ≡ false → q other ≡ p other)
    → IsPermutation (filter p names) (name ∷ filter q names)
unfolding IsStrictlySortedBy
less_one p q name [] sorted found passes fails same = absurd cc
less_one p q name (first ∷ names) sorted found passes fails same = elim (cases_Bool (is_name name first)) [
  | inl e ↦
      let is : name ≡ first = same_name name first e in
      let alone : is_listed names name ≡ false =
      subst (λ (n : Namespace). is_listed names n ≡ false) (sym is) (apart_from first names sorted.0) in
      let rest : filter q names ≡ filter p names = filter_alike q p names (of_each names (λ (n : Namespace). q n ≡ p n)
      (λ other there. same other (or_right (is_name other first) (is_listed names other) there) (apart name other names alone there))) in
      subst (λ (n : Namespace). IsPermutation (cond (p n) (n ∷ filter p names) (filter p names)) (name ∷ cond (q n) (n ∷ filter q names) (filter q names))) is
      (subst₂ (λ (b c : Bool). IsPermutation (cond b (name ∷ filter p names) (filter p names)) (name ∷ cond c (name ∷ filter q names) (filter q names)))
      (sym passes) (sym fails)
      (subst (λ (l : List Namespace). IsPermutation (name ∷ filter p names) (name ∷ l)) (sym rest) (IsPermutation-refl (name ∷ filter p names))))
  | inr e ↦
      let kept : q first ≡ p first = same first (ap (λ (b : Bool). b || is_listed names first) (same_refl first)) e in
      let there : is_listed names name ≡ true = ap (λ (b : Bool). b || is_listed names name) (sym e) ∙ found in
      let rest = less_one p q name names sorted.1 there passes fails
      (λ other listed. same other (or_right (is_name other first) (is_listed names other) listed)) in
      subst (λ (b : Bool). IsPermutation (cond (p first) (first ∷ filter p names) (filter p names)) (name ∷ cond b (first ∷ filter q names) (filter q names)))
      (sym kept) (less_by (p first) name first (filter p names) (filter q names) rest)
]

-- ---- lines of places

module _ (feed other : RunFeed) where
  -- feeds that are alike at a height have the same lines there
  alike_at : (number : ℕ) (names : List Namespace) → AllByRecursion (λ (n : Namespace). feed number n ≡ other number n) names
      → feed_lines feed (places_at names number) ≡ feed_lines other (places_at names number)
  alike_at number [] all = refl
  alike_at number (name ∷ names) all =
      ap₂ (λ (read : Option Read) (l : List ℕ). (place_text number name ++ read_text read) ++ l) all.0 (alike_at number names all.1)

  -- for all namespaces
  always_at : (number : ℕ) (names : List Namespace) → ((name : Namespace) → feed number name ≡ other number name)
      → feed_lines feed (places_at names number) ≡ feed_lines other (places_at names number)
  always_at number names same = alike_at number names (of_each names (λ (n : Namespace). feed number n ≡ other number n) (λ name found. same name))

  -- and at heights one after another
  alike_by : (first : ℕ) (orders : List (List Namespace))
      → ((number : ℕ) (name : Namespace) → number < first + length orders → feed number name ≡ other number name)
      → feed_lines feed (places_by first orders) ≡ feed_lines other (places_by first orders)
  unfolding places_by
  alike_by first [] same = refl
  alike_by first (order ∷ later) same =
      lines_both feed (places_at order first) (places_by (first + 1) later)
      ∙ ap₂ (λ (a b : List ℕ). a ++ b) (always_at first order (λ name. same first name (omega arith)))
      (alike_by (first + 1) later (λ number name below. same number name (omega (arith, below))))
      ∙ sym (lines_both other (places_at order first) (places_by (first + 1) later))

-- one height more
places_more : (first : ℕ) (orders : List (List Namespace)) (order : List Namespace)
    → places_by first (orders ++ order ∷ []) ≡ places_by first orders ++ places_at order (first + length orders)
unfolding places_by
places_more first [] order = append-nil (places_at order first) ∙ ap (places_at order) (let e : first ≡ first + 0 = omega arith in e)
places_more first (one ∷ later) order =
    let next : first + 1 + length later ≡ first + suc (length later) = omega arith in
    ap (λ (l : List FeedPlace). places_at one first ++ l) (places_more (first + 1) later order
    ∙ ap (λ (n : ℕ). places_by (first + 1) later ++ places_at order n) next)
    ∙ sym (append_assoc (places_at one first) (places_by (first + 1) later) (places_at order (first + suc (length later))))

-- more namespaces at a height
places_both : (number : ℕ) (names more : List Namespace) → places_at (names ++ more) number ≡ places_at names number ++ places_at more number
places_both number [] more = refl
places_both number (name ∷ names) more = ap (λ (l : List FeedPlace). (number, name) ∷ l) (places_both number names more)

-- the lines of places where nothing is had
none_lines : (feed : RunFeed) (number : ℕ) (names : List Namespace) → AllByRecursion (λ (n : Namespace). feed number n ≡ None) names
    → feed_lines feed (places_at names number) ≡ flat_map (λ (n : Namespace). height_lines number n None) names
none_lines feed number [] all = refl
none_lines feed number (name ∷ names) all =
    ap₂ (λ (read : Option Read) (l : List ℕ). (place_text number name ++ read_text read) ++ l) all.0 (none_lines feed number names all.1)

-- a fact holds of those that pass a test where it holds of each that passes it
of_kept : (p : Namespace → Bool) (Q : Namespace → Type 0) (names : List Namespace)
    → AllByRecursion (λ (n : Namespace). p n ≡ true → Q n) names → AllByRecursion Q (filter p names)
of_kept p Q [] all = tt
of_kept p Q (name ∷ names) all = by (p name) refl (of_kept p Q names all.1)
  where
    by : (b : Bool) → p name ≡ b → AllByRecursion Q (filter p names) → AllByRecursion Q (cond b (name ∷ filter p names) (filter p names))
    by true e rest = (all.0 e, rest)
    by false e rest = rest

-- nothing is had where it is none
none_of : (read : Option Read) → is_none read ≡ true → read ≡ None
none_of None e = refl
none_of (Some read) e = absurd cc

-- something stays with more
some_stays : (one other : Option Read) → is_some one ≡ true → option_or one other ≡ one
some_stays None other e = absurd cc
some_stays (Some read) other e = refl

-- ---- what was said so far

-- of the heights behind the lines of all namespaces were said, and of that under way those of the namespaces that came to be known,
-- in the order in which they came
pub record SaidAt (names : List Namespace) (items : List Item) (said : List ℕ) : Type 0 where
  pub front : List Height
  pub last : Height
  pub parts : heights_of items ≡ front ++ last ∷ []
  pub orders : List (List Namespace)
  pub count : length orders ≡ length front
  pub of : AllByRecursion (λ (order : List Namespace). IsPermutation order names) orders
  pub came : List Namespace
  pub all : IsPermutation names (came ++ missing_at names (Some last))
  pub known : AllByRecursion (λ (n : Namespace). (is_listed names n ≡ true) × (is_some (first_read last.header n last.answers) ≡ true)) came
  pub lines : said ≡ feed_lines (fed_by names (front ++ last ∷ [])) (places_by 0 orders ++ places_at came (length front))

-- nothing was said before the first header
abbrev pub HasSaid : List Namespace → List Item → List ℕ → Type 0
HasSaid names items said = ((items ≡ []) × (said ≡ [])) ⊎ SaidAt names items said

-- the lines of the feed of headers and answers
abbrev pub AreLines : List Namespace → List Item → List ℕ → Type 0
AreLines names items text = AreLinesOf (fed_by names (heights_of items)) names (length (heights_of items)) text

module _ (names : List Namespace) where
  -- a fact of each of some orders, and of one more
  of_more : (orders : List (List Namespace)) (order : List Namespace) → AllByRecursion (λ (o : List Namespace). IsPermutation o names) orders
      → IsPermutation order names → AllByRecursion (λ (o : List Namespace). IsPermutation o names) (orders ++ order ∷ [])
  of_more [] order all is = (is, tt)
  of_more (first ∷ orders) order all is = (all.0, of_more orders order all.1 is)

  -- with the missing lines of the height under way all lines were said
  closed : (items : List Item) (said : List ℕ) → SaidAt names items said → AreLines names items (said ++ height_missing names items)
  closed items said s =
      let heights : List Height = s.front ++ s.last ∷ [] in
      let feed : RunFeed = fed_by names heights in
      let number : ℕ = length s.front in
      let at = at_last items s.front s.last s.parts in
      let missing : List Namespace = missing_at names (Some s.last) in
      let order : List Namespace = s.came ++ missing in
      let zeroth : 0 + length s.orders ≡ number = omega (arith, s.count) in
      let none : AllByRecursion (λ (n : Namespace). feed number n ≡ None) missing =
      of_kept (λ (n : Namespace). is_none (first_read s.last.header n s.last.answers)) (λ (n : Namespace). feed number n ≡ None) names
      (of_each names (λ (n : Namespace). is_none (first_read s.last.header n s.last.answers) ≡ true → feed number n ≡ None)
      (λ name found e. fed_here names s.front s.last name found ∙ none_of (first_read s.last.header name s.last.answers) e)) in
      let told : height_missing names items ≡ feed_lines feed (places_at missing number) =
      ap₂ (λ (k : ℕ) (o : Option Height). flat_map (λ (n : Namespace). height_lines k n None) (missing_at names o)) at.number at.way
      ∙ sym (none_lines feed number missing none) in
      let places : places_by 0 (s.orders ++ order ∷ []) ≡ (places_by 0 s.orders ++ places_at s.came number) ++ places_at missing number =
      places_more 0 s.orders order ∙ ap (λ (n : ℕ). places_by 0 s.orders ++ places_at order n) zeroth
      ∙ ap (λ (l : List FeedPlace). places_by 0 s.orders ++ l) (places_both number s.came missing)
      ∙ sym (append_assoc (places_by 0 s.orders) (places_at s.came number) (places_at missing number)) in
      let long : length (s.orders ++ order ∷ []) ≡ length (heights_of items) =
      length-append s.orders (order ∷ []) ∙ ap (λ (n : ℕ). n + 1) s.count ∙ sym (length-append s.front (s.last ∷ []))
      ∙ ap (λ (l : List Height). length l) (sym s.parts) in
      record {
        orders = s.orders ++ order ∷ [];
        count_is = long;
        of = of_more s.orders order s.of (IsPermutation-sym names order s.all);
        lines = ap₂ (λ (a b : List ℕ). a ++ b) s.lines told
            ∙ sym (lines_both feed (places_by 0 s.orders ++ places_at s.came number) (places_at missing number))
            ∙ ap (feed_lines feed) (sym places)
            ∙ ap (λ (l : List Height). feed_lines (fed_by names l) (places_by 0 (s.orders ++ order ∷ []))) (sym s.parts);
      }

  -- before the first header there are none
  none_closed : (items : List Item) (said : List ℕ) → items ≡ [] → said ≡ [] → AreLines names items (said ++ height_missing names items)
  unfolding heights_of places_by
  none_closed items said none nothing =
      subst₂ (λ (l : List Item) (t : List ℕ). AreLines names l (t ++ height_missing names l)) (sym none) (sym nothing)
      (record { orders = []; count_is = refl; of = tt; lines = refl })

  -- so it is in any case
  pub all_said : (items : List Item) (said : List ℕ) → HasSaid names items said → AreLines names items (said ++ height_missing names items)
  all_said items said (inl h) = none_closed items said h.0 h.1
  all_said items said (inr s) = closed items said s

  -- all pass a test that always passes
  all_kept : (p : Namespace → Bool) (l : List Namespace) → ((n : Namespace) → p n ≡ true) → filter p l ≡ l
  all_kept p [] always = refl
  all_kept p (n ∷ l) always = ap₂ (λ (b : Bool) (k : List Namespace). cond b (n ∷ k) k) (always n) (all_kept p l always)

  -- a header more
  pub said_headed : (items : List Item) (header : Roots) (said : List ℕ) → HasSaid names items said
      → HasSaid names (items ++ headed header ∷ []) (said ++ height_missing names items)
  unfolding places_by
  said_headed items header said h =
      let lines = all_said items said h in
      let heights : List Height = heights_of items in
      let made : Height = record { header = header; answers = [] } in
      inr (record {
        front = heights;
        last = made;
        parts = heights_headed items header;
        orders = lines.orders;
        count = lines.count_is;
        of = lines.of;
        came = [];
        all = subst (λ (l : List Namespace). IsPermutation names l)
            (sym (all_kept (λ (n : Namespace). is_none (first_read header n [])) names (λ n. refl))) (IsPermutation-refl names);
        known = tt;
        lines = lines.lines
            ∙ alike_by (fed_by names heights) (fed_by names (heights ++ made ∷ [])) 0 lines.orders
            (λ number name below. sym (fed_below names heights made number name (omega (arith, below, lines.count_is))))
            ∙ ap (feed_lines (fed_by names (heights ++ made ∷ []))) (sym (append-nil (places_by 0 lines.orders)));
      })

  -- ---- an answer more

  -- what holds of each of some namespaces and of one more holds of each of them
  all_end : (P : Namespace → Type 0) (l : List Namespace) (n : Namespace) → AllByRecursion P l → P n → AllByRecursion P (l ++ n ∷ [])
  all_end P [] n all is = (is, tt)
  all_end P (first ∷ l) n all is = (all.0, all_end P l n all.1 is)

  -- what follows of each holds of each
  all_map : (P Q : Namespace → Type 0) → ((n : Namespace) → P n → Q n) → (l : List Namespace) → AllByRecursion P l → AllByRecursion Q l
  all_map P Q f [] all = tt
  all_map P Q f (n ∷ l) all = (f n all.0, all_map P Q f l all.1)

  module _ (items : List Item) (given : NamedAnswer) (said : List ℕ) (s : SaidAt names items said) where
    -- what was had of a namespace, and what the answer brings
    abbrev before : Namespace → Option Read
    before name = first_read s.last.header name s.last.answers

    abbrev more : Namespace → Option Read
    more name = first_read s.last.header name (given ∷ [])

    abbrev old_feed : RunFeed
    old_feed = fed_by names (s.front ++ s.last ∷ [])

    abbrev new_feed : RunFeed
    new_feed = fed_by names (s.front ++ with_answer s.last given ∷ [])

    -- both together
    now_is : (name : Namespace) → first_read s.last.header name (s.last.answers ++ given ∷ []) ≡ option_or (before name) (more name)
    now_is name = first_more s.last.header name s.last.answers given

    -- what was had stays
    kept_feed : (n : Namespace) → (is_listed names n ≡ true) × (is_some (before n) ≡ true) → old_feed (length s.front) n ≡ new_feed (length s.front) n
    kept_feed n h =
        fed_here names s.front s.last n h.0
        ∙ sym (fed_here names s.front (with_answer s.last given) n h.0 ∙ now_is n ∙ some_stays (before n) (more n) h.1)

    -- so do the lines that were said
    lines_stay : feed_lines old_feed (places_by 0 s.orders ++ places_at s.came (length s.front))
        ≡ feed_lines new_feed (places_by 0 s.orders ++ places_at s.came (length s.front))
    lines_stay =
        lines_both old_feed (places_by 0 s.orders) (places_at s.came (length s.front))
        ∙ ap₂ (λ (a b : List ℕ). a ++ b)
        (alike_by old_feed new_feed 0 s.orders (λ n name below.
        fed_below names s.front s.last n name (omega (arith, below, s.count))
        ∙ sym (fed_below names s.front (with_answer s.last given) n name (omega (arith, below, s.count)))))
        (alike_at old_feed new_feed (length s.front) s.came
        (all_map (λ (n : Namespace). (is_listed names n ≡ true) × (is_some (before n) ≡ true))
        (λ (n : Namespace). old_feed (length s.front) n ≡ new_feed (length s.front) n) kept_feed s.came s.known))
        ∙ sym (lines_both new_feed (places_by 0 s.orders) (places_at s.came (length s.front)))

    -- what is had of a namespace is had with the answer
    had_still : (n : Namespace) → (is_listed names n ≡ true) × (is_some (before n) ≡ true)
        → (is_listed names n ≡ true) × (is_some (first_read s.last.header n (s.last.answers ++ given ∷ [])) ≡ true)
    had_still n h = (h.0, ap is_some (now_is n ∙ some_stays (before n) (more n) h.1) ∙ h.1)

    known_still : AllByRecursion (λ (n : Namespace). (is_listed names n ≡ true) × (is_some (first_read s.last.header n (s.last.answers ++ given ∷ [])) ≡ true)) s.came
    known_still = all_map (λ (n : Namespace). (is_listed names n ≡ true) × (is_some (before n) ≡ true))
        (λ (n : Namespace). (is_listed names n ≡ true) × (is_some (first_read s.last.header n (s.last.answers ++ given ∷ [])) ≡ true)) had_still s.came s.known

    -- the reply by what is had
    replied : reply_to names items (answered given)
        ≡ (if is_listed names given.name then news (length s.front) given.name (before given.name) (option_or (before given.name) (more given.name)) else [])
    replied =
        let was = at_last items s.front s.last s.parts in
        let at = at_last (items ++ answered given ∷ []) s.front (with_answer s.last given) (heights_answered items given s.front s.last s.parts) in
        ap (λ (k : ℕ). if is_listed names given.name then news k given.name (had items given.name) (had (items ++ answered given ∷ []) given.name) else []) was.number
        ∙ ap₂ (λ (o p : Option Read). if is_listed names given.name then news (length s.front) given.name o p else [])
        (ap (λ (o : Option Height). read_at o given.name) was.way) (ap (λ (o : Option Height). read_at o given.name) at.way ∙ now_is given.name)

    -- nothing came to be had
    same_said : ((n : Namespace) → is_listed names n ≡ true → option_or (before n) (more n) ≡ before n) → reply_to names items (answered given) ≡ []
        → SaidAt names (items ++ answered given ∷ []) (said ++ reply_to names items (answered given))
    same_said same none = record {
      front = s.front;
      last = with_answer s.last given;
      parts = heights_answered items given s.front s.last s.parts;
      orders = s.orders;
      count = s.count;
      of = s.of;
      came = s.came;
      all = subst (λ (l : List Namespace). IsPermutation names (s.came ++ l))
          (sym (filter_alike (λ (n : Namespace). is_none (first_read s.last.header n (s.last.answers ++ given ∷ []))) (λ (n : Namespace). is_none (before n)) names
          (of_each names (λ (n : Namespace). is_none (first_read s.last.header n (s.last.answers ++ given ∷ [])) ≡ is_none (before n))
          (λ n found. ap is_none (now_is n ∙ same n found))))) s.all;
      known = known_still;
      lines = ap (λ (l : List ℕ). said ++ l) none ∙ append-nil said ∙ s.lines ∙ lines_stay;
    }

    -- something came to be had of a namespace
    new_said : IsStrictlySortedBy namespace_cmp names → is_listed names given.name ≡ true → before given.name ≡ None
        → (read : Read) → more given.name ≡ Some read
        → SaidAt names (items ++ answered given ∷ []) (said ++ reply_to names items (answered given))
    new_said sorted listed none read some =
        let number : ℕ = length s.front in
        let name : Namespace = given.name in
        let now : first_read s.last.header name (s.last.answers ++ given ∷ []) ≡ Some read = now_is name ∙ ap₂ option_or none some in
        let fed : new_feed number name ≡ Some read = fed_here names s.front (with_answer s.last given) name listed ∙ now in
        let reply : reply_to names items (answered given) ≡ height_lines number name (Some read) =
        replied ∙ ap (λ (b : Bool). if b then news number name (before name) (option_or (before name) (more name)) else []) listed
        ∙ ap₂ (λ (o p : Option Read). news number name o (option_or o p)) none some in
        let line : height_lines number name (Some read) ≡ feed_lines new_feed ((number, name) ∷ []) =
        sym (append-nil (height_lines number name (Some read))) ∙ ap (λ (o : Option Read). height_lines number name o ++ []) (sym fed) in
        record {
          front = s.front;
          last = with_answer s.last given;
          parts = heights_answered items given s.front s.last s.parts;
          orders = s.orders;
          count = s.count;
          of = s.of;
          came = s.came ++ name ∷ [];
          all = IsPermutation-pop_more names s.came (missing_at names (Some s.last)) (missing_at names (Some (with_answer s.last given))) name s.all
              (less_one (λ (n : Namespace). is_none (before n)) (λ (n : Namespace). is_none (first_read s.last.header n (s.last.answers ++ given ∷ []))) name names sorted listed
              (ap is_none none) (ap is_none now)
              (λ other found e. ap is_none (now_is other ∙ ap (option_or (before other)) (other_none s.last.header given other e) ∙ sym (or_none (before other)))));
          known = all_end (λ (n : Namespace). (is_listed names n ≡ true) × (is_some (first_read s.last.header n (s.last.answers ++ given ∷ [])) ≡ true)) s.came name
              known_still (listed, ap is_some now);
          lines = ap₂ (λ (a b : List ℕ). a ++ b) (s.lines ∙ lines_stay) (reply ∙ line)
              ∙ sym (lines_both new_feed (places_by 0 s.orders ++ places_at s.came number) ((number, name) ∷ []))
              ∙ ap (feed_lines new_feed) (append_assoc (places_by 0 s.orders) (places_at s.came number) ((number, name) ∷ [])
              ∙ ap (λ (l : List FeedPlace). places_by 0 s.orders ++ l) (sym (places_both number s.came (name ∷ []))));
        }

    -- where the answer brings nothing, all stays
    nothing_more : (n : Namespace) → more n ≡ None → option_or (before n) (more n) ≡ before n
    nothing_more n none = ap (option_or (before n)) none ∙ sym (or_none (before n))

    -- of another namespace it brings nothing, and of its own it may be that nothing is brought, or something is had
    stays : (more given.name ≡ None) ⊎ (is_some (before given.name) ≡ true) → (n : Namespace) → option_or (before n) (more n) ≡ before n
    stays either n = elim (cases_Bool (is_name given.name n)) [
      | inl e ↦ subst (λ (m : Namespace). option_or (before m) (more m) ≡ before m) (same_name given.name n e) (own either)
      | inr e ↦ nothing_more n (other_none s.last.header given n e)
    ]
      where
        own : (more given.name ≡ None) ⊎ (is_some (before given.name) ≡ true) → option_or (before given.name) (more given.name) ≡ before given.name
        own (inl none) = nothing_more given.name none
        own (inr some) = some_stays (before given.name) (more given.name) some

    -- by what was had, and what the answer brings
    said_by_read : IsStrictlySortedBy namespace_cmp names → is_listed names given.name ≡ true → (o m : Option Read) → before given.name ≡ o → more given.name ≡ m
        → SaidAt names (items ++ answered given ∷ []) (said ++ reply_to names items (answered given))
    said_by_read sorted listed (Some read) m had brings =
        same_said (λ n found. stays (inr (ap is_some had)) n)
        (replied ∙ ap (λ (b : Bool). if b then news (length s.front) given.name (before given.name) (option_or (before given.name) (more given.name)) else []) listed
        ∙ ap (λ (o : Option Read). news (length s.front) given.name o (option_or o (more given.name))) had)
    said_by_read sorted listed None None had brings =
        same_said (λ n found. stays (inl brings) n)
        (replied ∙ ap (λ (b : Bool). if b then news (length s.front) given.name (before given.name) (option_or (before given.name) (more given.name)) else []) listed
        ∙ ap₂ (λ (o p : Option Read). news (length s.front) given.name o (option_or o p)) had brings)
    said_by_read sorted listed None (Some read) had brings = new_said sorted listed had read brings

    -- so what was said and the reply are what is due so far
    more_said : IsStrictlySortedBy namespace_cmp names
        → SaidAt names (items ++ answered given ∷ []) (said ++ reply_to names items (answered given))
    more_said sorted = elim (cases_Bool (is_listed names given.name)) [
      | inl there ↦ said_by_read sorted there (before given.name) (more given.name) refl refl
      | inr missing ↦ same_said (λ n found. nothing_more n (other_none s.last.header given n (apart given.name n names missing found)))
          (replied ∙ ap (λ (b : Bool). if b then news (length s.front) given.name (before given.name) (option_or (before given.name) (more given.name)) else []) missing)
    ]

  -- an answer that fits
  pub said_answered : IsStrictlySortedBy namespace_cmp names → (items : List Item) (given : NamedAnswer) (said : List ℕ) → HasSaid names items said
      → has_items items ≡ true → HasSaid names (items ++ answered given ∷ []) (said ++ reply_to names items (answered given))
  said_answered sorted items given said (inl h) fit = absurd (true≢false (sym fit ∙ ap (λ (l : List Item). has_items l) h.0))
  said_answered sorted items given said (inr s) fit = inr (more_said items given said s sorted)

  -- a header or an answer that fits, and its reply
  pub said_more : IsStrictlySortedBy namespace_cmp names → (items : List Item) (item : Item) (said text : List ℕ) → HasSaid names items said
      → fits items (Some item) ≡ true → text ≡ reply_to names items item → HasSaid names (items ++ item ∷ []) (said ++ text)
  said_more sorted items (headed header) said text h fit reply =
      subst (λ (t : List ℕ). HasSaid names (items ++ headed header ∷ []) (said ++ t)) (sym reply) (said_headed items header said h)
  said_more sorted items (answered given) said text h fit reply =
      subst (λ (t : List ℕ). HasSaid names (items ++ answered given ∷ []) (said ++ t)) (sym reply) (said_answered sorted items given said h fit)
