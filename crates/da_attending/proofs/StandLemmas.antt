-- What an attender keeps stands for headers and answers, and for one more.
use Rattle.std.proofs.Common.{◌≡◌, ◌∙◌, ℕ, ◌+◌, ◌-◌, ◌≤◌, Bool, true, false, ◌&&◌, ◌||◌, List, [], ◌∷◌, ◌++◌, length, length-append, Option, Some, None, is_some, if◌then◌else◌, refl, sym, ap, ap₂, subst, arith, inl, inr}
use Rattle.std.specs.Prelude.{not, min}
use Rattle.std.specs.List.{flat_map}
use Rattle.std.specs.Option.{option_map, option_or}
use Rattle.std.proofs.lemmas.Bool.{cases_Bool}
use Rattle.std.proofs.lemmas.Option.{same_Some, none-some as none_some}
use Rattle.namespace_id.specs.declared.namespaces.Namespace.{Namespace}
use Rattle.data_header.specs.Headers.{Roots}
use Rattle.da_io.specs.Faults.{max_count}
use Rattle.blob_feed.specs.Feeds.{NamedAnswer, Item, headed, answered, Height, with_answer, heights_of, Read}
use Rattle.blob_feed.specs.Followers.{is_name}
use Rattle.blob_feed.specs.Firsts.{first_read}
use Rattle.blob_feed.proofs.NameLemmas.{same_name}
use Rattle.blob_feed.proofs.FirstLemmas.{first_more}
use Rattle.da_following.specs.Follow.{place_text}
use Rattle.da_following.specs.Heights.{said, first_said, read_at}
use Rattle.da_following.proofs.KeptLemmas.{said_other}
use Rattle.da_attending.specs.Attended.{has_items, height_under_way, height_number, had, missing_at, height_lines, news, height_missing, count_missing, reply_to}
use Rattle.da_attending.specs.Attenders.{is_listed, unknown, places_missing, AttendParts, IsFreshAttender, AttenderStands, new_text}
use Rattle.da_attending.proofs.HeightLemmas.{ends_in, parted, heights_answered, heights_headed, way_none, behind_none, at_last}
use Rattle.da_attending.proofs.MissingLemmas.{missing_more, unknown_is}

-- ---- small facts

-- of nothing alone nothing is made
none_made : {A B : Type 0} (f : A → B) (o : Option A) → option_map f o ≡ None → o ≡ None
none_made f None e = refl
none_made f (Some x) e = absurd cc

-- something is made of something
some_made : {A B : Type 0} (f : A → B) (o : Option A) (y : B) → option_map f o ≡ Some y → is_some o ≡ true
some_made f None y e = absurd cc
some_made f (Some x) y e = refl

-- one or else the other is something where one of them is
some_or : {A : Type 0} (one other : Option A) → is_some (option_or one other) ≡ (is_some one || is_some other)
some_or None other = refl
some_or (Some x) other = refl

-- a count that stopped stays so
min_step : (a b most : ℕ) → min (min a most + b) most ≡ min (a + b) most
min_step a b most = omega arith

-- or with what holds, and with what doesn't
or_true : (b : Bool) → (b || true) ≡ true
or_true true = refl
or_true false = refl

or_false : (b : Bool) → (b || false) ≡ b
or_false true = refl
or_false false = refl

-- where a height began there is a header
not_empty : (items : List Item) (front : List Height) (last : Height) → heights_of items ≡ front ++ last ∷ [] → has_items items ≡ true
unfolding heights_of
not_empty [] front last e = absurd (ends_in front last e)
not_empty (item ∷ items) front last e = refl

-- ---- the height under way of what an attender stands for

module _ (now : AttendParts) (items : List Item) (stands : AttenderStands now items) where
  -- with no header no height began
  pub none_began : now.header ≡ None → heights_of items ≡ []
  none_began none = elim (parted (heights_of items)) [
    | inl e ↦ e
    | inr more ↦ absurd (none_some more.1.header (sym none ∙ stands.header
        ∙ ap (option_map (λ (h : Height). h.header)) (at_last items more.0 more.1 more.2).way))
  ]

  -- with a header one did
  pub began : (header : Roots) → now.header ≡ Some header
      → (front : List Height) × (last : Height) × (heights_of items ≡ front ++ last ∷ []) × (last.header ≡ header)
  began header some = elim (parted (heights_of items)) [
    | inl e ↦ absurd (none_some header (sym (stands.header ∙ ap (option_map (λ (h : Height). h.header)) (way_none items e)) ∙ some))
    | inr more ↦ (
      more.0,
      more.1,
      more.2,
      same_Some more.1.header header (sym (stands.header
          ∙ ap (option_map (λ (h : Height). h.header)) (at_last items more.0 more.1 more.2).way) ∙ some),
    )
  ]

  -- with no header nothing is missing
  pub none_told : now.header ≡ None → [] ≡ height_missing now.names items
  none_told none =
      ap (λ (o : Option Height). flat_map (λ (n : Namespace). height_lines (height_number items) n None) (missing_at now.names o))
      (sym (way_none items (none_began none)))

  -- and the count is that of all heights
  pub none_counted : now.header ≡ None → now.missing ≡ min (count_missing now.names items) max_count
  none_counted none =
      stands.missing ∙ ap (λ (l : List Height). min (places_missing now.names l) max_count) (behind_none items (none_began none))

  -- the namespaces that aren't known are those of which nothing is had
  unknown_now : (header : Roots) → now.header ≡ Some header → unknown now.known now.names ≡ missing_at now.names (height_under_way items)
  unknown_now header some =
      let b = began header some in
      let at = at_last items b.0 b.1 b.2 in
      unknown_is now.names now.known b.1 (λ name found. stands.known name found ∙ ap (λ (o : Option Height). is_some (read_at o name)) at.way)
      ∙ ap (missing_at now.names) (sym at.way)

  -- with a header their lines are told
  pub some_told : (header : Roots) → now.header ≡ Some header → (number : ℕ) → number ≡ now.heights - 1
      → flat_map (λ (n : Namespace). height_lines number n None) (unknown now.known now.names) ≡ height_missing now.names items
  some_told header some number is =
      ap₂ (λ (k : ℕ) (l : List Namespace). flat_map (λ (n : Namespace). height_lines k n None) l)
      (is ∙ ap (λ (k : ℕ). k - 1) stands.heights) (unknown_now header some)

  -- and counted
  pub some_counted : (header : Roots) → now.header ≡ Some header → (count : ℕ) → count ≡ length (unknown now.known now.names)
      → min (now.missing + count) max_count ≡ min (count_missing now.names items) max_count
  some_counted header some count is =
      let b = began header some in
      let at = at_last items b.0 b.1 b.2 in
      let all : count_missing now.names items ≡ places_missing now.names b.0 + length (missing_at now.names (Some b.1)) =
      ap (places_missing now.names) b.2 ∙ missing_more now.names b.0 b.1 in
      let before : now.missing ≡ min (places_missing now.names b.0) max_count =
      stands.missing ∙ ap (λ (l : List Height). min (places_missing now.names l) max_count) at.before in
      let here : count ≡ length (missing_at now.names (Some b.1)) =
      is ∙ ap (λ (l : List Namespace). length l) (unknown_now header some ∙ ap (missing_at now.names) at.way) in
      ap₂ (λ (a c : ℕ). min (a + c) max_count) before here
      ∙ min_step (places_missing now.names b.0) (length (missing_at now.names (Some b.1))) max_count
      ∙ ap (λ (n : ℕ). min n max_count) (sym all)

  -- behind a header there is something
  pub not_first : (header : Roots) → now.header ≡ Some header → has_items items ≡ true
  not_first header some =
      let b = began header some in
      not_empty items b.0 b.1 b.2

-- nothing stands for nothing
pub stands_fresh : (now : AttendParts) → IsFreshAttender now → AttenderStands now []
unfolding heights_of
stands_fresh now fresh = record {
  led = λ none. refl;
  header = fresh.header;
  heights = fresh.heights;
  known = λ name found. ap (λ (l : List Namespace). is_listed l name) fresh.known;
  missing = fresh.missing;
}

-- ---- a header more

pub stands_headed : (old new : AttendParts) (items : List Item) (header : Roots) → AttenderStands old items → length (heights_of items) + 1 ≤ max_count
    → new.names ≡ old.names → new.known ≡ [] → new.header ≡ Some header → new.heights ≡ min (old.heights + 1) max_count
    → new.missing ≡ min (count_missing old.names items) max_count → AttenderStands new (items ++ headed header ∷ [])
stands_headed old new items header stands few names known is heights missing =
    let made : Height = record { header = header; answers = [] } in
    let parts : heights_of (items ++ headed header ∷ []) ≡ heights_of items ++ made ∷ [] = heights_headed items header in
    let at = at_last (items ++ headed header ∷ []) (heights_of items) made parts in
    let long : length (heights_of (items ++ headed header ∷ [])) ≡ length (heights_of items) + 1 =
    ap (λ (l : List Height). length l) parts ∙ length-append (heights_of items) (made ∷ []) in
    record {
      led = λ none. absurd (ends_in (heights_of items) made (sym none ∙ parts));
      header = is ∙ sym (ap (option_map (λ (h : Height). h.header)) at.way);
      heights = omega (arith, stands.heights, long, few, heights);
      known = λ name found. ap (λ (l : List Namespace). is_listed l name) known
          ∙ ap (λ (o : Option Height). is_some (read_at o name)) (sym at.way);
      missing = missing ∙ ap₂ (λ (n : List Namespace) (l : List Height). min (places_missing n l) max_count) (sym names) (sym at.before);
    }

-- ---- an answer more

module _ (header : Roots) (given : NamedAnswer) where
  -- what an answer brings of its namespace
  abbrev brought : Option Read
  brought = first_read header given.name (given ∷ [])

  -- it brings nothing of another
  pub other_none : (name : Namespace) → is_name given.name name ≡ false → first_read header name (given ∷ []) ≡ None
  other_none name e = none_made said (first_read header name (given ∷ [])) (said_other header given name e)

  other_read : (name : Namespace) → is_name given.name name ≡ false → is_some (first_read header name (given ∷ [])) ≡ false
  other_read name e = ap is_some (other_none name e)

  -- so much is known of each namespace then as is had of it
  abbrev pub IsMore : List Namespace → List Namespace → List Namespace → Type 0
  IsMore names old new = (name : Namespace) → is_listed names name ≡ true
      → is_listed new name ≡ (is_listed old name || is_some (first_read header name (given ∷ [])))

  -- nothing is known besides, by whether the namespace is wanted, and known already
  same_by : (wanted known : Bool) → (if wanted && not known then first_said header given.name (given ∷ []) else None) ≡ None → wanted ≡ true
      → known ≡ (known || is_some brought)
  same_by false known none e = absurd cc
  same_by true true none e = refl
  same_by true false none e = sym (ap is_some (none_made said brought none))

  pub more_none : (old : AttendParts) → new_text old header given ≡ None → IsMore old.names old.known old.known
  more_none old none = λ name found. elim (cases_Bool (is_name given.name name)) [
    | inl e ↦ subst (λ (n : Namespace). is_listed old.known n ≡ (is_listed old.known n || is_some (first_read header n (given ∷ []))))
        (same_name given.name name e)
        (same_by (is_listed old.names given.name) (is_listed old.known given.name) none
        (subst (λ (n : Namespace). is_listed old.names n ≡ true) (sym (same_name given.name name e)) found))
    | inr e ↦ sym (ap (λ (b : Bool). is_listed old.known name || b) (other_read name e) ∙ or_false (is_listed old.known name))
  ]

  -- the namespace of the answer is known besides
  brought_by : (wanted known : Bool) (text : List ℕ) → (if wanted && not known then first_said header given.name (given ∷ []) else None) ≡ Some text
      → is_some brought ≡ true
  brought_by false known text some = absurd cc
  brought_by true true text some = absurd cc
  brought_by true false text some = some_made said brought text some

  pub more_some : (old : AttendParts) (text : List ℕ) (new : List Namespace) → new_text old header given ≡ Some text
      → ((name : Namespace) → is_listed new name ≡ (if is_name given.name name then true else is_listed old.known name))
      → IsMore old.names old.known new
  more_some old text new some is = λ name found. elim (cases_Bool (is_name given.name name)) [
    | inl e ↦ is name ∙ ap (λ (b : Bool). if b then true else is_listed old.known name) e
        ∙ sym (ap (λ (b : Bool). is_listed old.known name || b)
        (subst (λ (n : Namespace). is_some (first_read header n (given ∷ [])) ≡ true) (same_name given.name name e)
        (brought_by (is_listed old.names given.name) (is_listed old.known given.name) text some)) ∙ or_true (is_listed old.known name))
    | inr e ↦ is name ∙ ap (λ (b : Bool). if b then true else is_listed old.known name) e
        ∙ sym (ap (λ (b : Bool). is_listed old.known name || b) (other_read name e) ∙ or_false (is_listed old.known name))
  ]

  -- what is written of the namespace of an answer, by how its lines go on, if they do
  abbrev pub text_with : ℕ → Option (List ℕ) → List ℕ
  text_with number None = []
  text_with number (Some lines) = place_text number given.name ++ lines

  -- it is the news
  news_by : (number : ℕ) (before now : Option Read)
      → text_with number (if true && not (is_some before) then option_map said now else None) ≡ news number given.name before (option_or before now)
  news_by number None None = refl
  news_by number None (Some read) = refl
  news_by number (Some read) None = refl
  news_by number (Some read) (Some other) = refl

  -- by whether the namespace is wanted
  reply_by : (wanted known : Bool) (number : ℕ) (before : Option Read) → (wanted ≡ true → known ≡ is_some before)
      → text_with number (if wanted && not known then first_said header given.name (given ∷ []) else None)
      ≡ (if wanted then news number given.name before (option_or before brought) else [])
  reply_by false known number before same = refl
  reply_by true known number before same =
      ap (λ (b : Bool). text_with number (if true && not b then first_said header given.name (given ∷ []) else None)) (same refl)
      ∙ news_by number before brought

  module _ (old : AttendParts) (items : List Item) (stands : AttenderStands old items) (some : old.header ≡ Some header) where
    -- what is had of a namespace with the answer
    had_more : (name : Namespace) → had (items ++ answered given ∷ []) name ≡ option_or (had items name) (first_read header name (given ∷ []))
    had_more name =
        let b = began old items stands header some in
        let was = at_last items b.0 b.1 b.2 in
        let at = at_last (items ++ answered given ∷ []) b.0 (with_answer b.1 given) (heights_answered items given b.0 b.1 b.2) in
        ap (λ (o : Option Height). read_at o name) at.way
        ∙ first_more b.1.header name b.1.answers given
        ∙ ap₂ (λ (o : Option Read) (h : Roots). option_or o (first_read h name (given ∷ [])))
        (sym (ap (λ (o : Option Height). read_at o name) was.way)) b.3

    -- what is due to the answer
    pub reply_answered : (number : ℕ) → number ≡ old.heights - 1
        → text_with number (new_text old header given) ≡ reply_to old.names items (answered given)
    reply_answered number is =
        reply_by (is_listed old.names given.name) (is_listed old.known given.name) number (had items given.name) (stands.known given.name)
        ∙ ap₂ (λ (n : ℕ) (o : Option Read). if is_listed old.names given.name then news n given.name (had items given.name) o else [])
        (is ∙ ap (λ (k : ℕ). k - 1) stands.heights) (sym (had_more given.name))

    -- an attender that took it
    pub stands_answered : (new : AttendParts) → new.names ≡ old.names → new.header ≡ old.header → new.heights ≡ old.heights
        → new.missing ≡ old.missing → IsMore old.names old.known new.known → AttenderStands new (items ++ answered given ∷ [])
    stands_answered new names head heights missing known =
        let b = began old items stands header some in
        let was = at_last items b.0 b.1 b.2 in
        let parts : heights_of (items ++ answered given ∷ []) ≡ b.0 ++ with_answer b.1 given ∷ [] = heights_answered items given b.0 b.1 b.2 in
        let at = at_last (items ++ answered given ∷ []) b.0 (with_answer b.1 given) parts in
        let more : length (heights_of (items ++ answered given ∷ [])) ≡ length b.0 + 1 =
        ap (λ (l : List Height). length l) parts ∙ length-append b.0 (with_answer b.1 given ∷ []) in
        let long : length (heights_of items) ≡ length b.0 + 1 = ap (λ (l : List Height). length l) b.2 ∙ length-append b.0 (b.1 ∷ []) in
        record {
          led = λ none. absurd (ends_in b.0 (with_answer b.1 given) (sym none ∙ parts));
          header = head ∙ some ∙ sym (ap (option_map (λ (h : Height). h.header)) at.way ∙ ap (λ (h : Roots). Some h) b.3);
          heights = heights ∙ stands.heights ∙ long ∙ sym more;
          known = λ name found.
              let there : is_listed old.names name ≡ true = subst (λ (l : List Namespace). is_listed l name ≡ true) names found in
              known name there
              ∙ ap (λ (t : Bool). t || is_some (first_read header name (given ∷ []))) (stands.known name there)
              ∙ sym (ap is_some (had_more name) ∙ some_or (had items name) (first_read header name (given ∷ [])));
          missing = missing ∙ stands.missing
              ∙ ap₂ (λ (n : List Namespace) (l : List Height). min (places_missing n l) max_count) (sym names) (was.before ∙ sym at.before);
        }
