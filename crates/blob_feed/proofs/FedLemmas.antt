-- What a height has of a namespace, with one more answer.
use Rattle.std.proofs.Common.{◌≡◌, ◌∙◌, ◌↔◌, ℕ, zero, suc, List, [], ◌∷◌, ◌++◌, append_assoc, Bool, true, false, true≢false, Option, Some, None, is_some, slice_get, refl, sym, ap, subst, inl, inr, if◌then◌else◌, arith}
use Rattle.std.specs.List.{AllZip}
use Rattle.std.specs.Option.{option_map}
use Rattle.std.proofs.lemmas.List.Elements.{Contains-push_cases}
use Rattle.namespace_id.specs.declared.namespaces.Namespace.{Namespace}
use Rattle.namespace_id.specs.Names.{is_blob_namespace, namespace_refusal, IsNamespace}
use Rattle.share_split.specs.Walks.{blobs_joined}
use Rattle.data_header.specs.Headers.{Roots}
use Rattle.axis_roots.specs.declared.answers.NsEntry.{NsEntry}
use Rattle.square_serve.specs.Answers.{IsComplete, answer_refusal}
use Rattle.blob_feed.specs.declared.entries.Entry.{Entry}
use Rattle.blob_feed.specs.declared.entries.FollowError.{FollowError}
use Rattle.blob_feed.specs.declared.entries.FollowError.TheVariants.{NotBlob, Unwanted, Refused, Twice, NoMemory}
use Rattle.blob_feed.specs.declared.followers.Last.{Last}
use Rattle.blob_feed.specs.Filters.{IsFilter, wanted_by}
use Rattle.blob_feed.specs.Feeds.{NamedAnswer, Height, with_answer, NoneComplete, IsFirstComplete, IsFedAt, IsFedIn, Read, read_of, shares_shown}
use Rattle.blob_feed.specs.Followers.{Feed, AreFed, IsNew, IsEntered, IsAnswerRefusedFor, entry_in, is_name, kept_in}
use Rattle.blob_feed.proofs.NameLemmas.{same_name, same_refl}

module _ (wants : Namespace → Type 0) where
  -- a new height has nothing
  pub none_fed : (header : Roots) → AreFed wants [] (record { header = header; answers = [] })
  none_fed header = λ name wanted blob answer at. absurd (omega (arith, at.1))

  -- at each height
  pub fed_at : (feeds : List Feed) (heights : List Height) → AllZip (AreFed wants) feeds heights
      → (number : ℕ) (name : Namespace)
      → IsFedIn wants (slice_get heights number) name (option_map read_of (kept_in (slice_get feeds number) name))
  fed_at [] [] all number name = refl
  fed_at [] (height ∷ heights) all number name = absurd all
  fed_at (feed ∷ feeds) [] all number name = absurd all
  fed_at (feed ∷ feeds) (height ∷ heights) all zero name = all.0 name
  fed_at (feed ∷ feeds) (height ∷ heights) all (suc number) name = fed_at feeds heights all.1 number name

-- an answer with its namespace
abbrev pub given_for : Namespace → List NsEntry → NamedAnswer
given_for name answer = record { name = name; answer = answer }

-- an answer for another namespace, or one that isn't complete, is not the first complete one
none_answered : (header : Roots) (name : Namespace) (answers : List NamedAnswer) (given : NamedAnswer)
    → ((answer : List NsEntry) → given ≡ record { name = name; answer = answer } → IsComplete header name answer → ⊥)
    → NoneComplete header name answers → NoneComplete header name (answers ++ given ∷ [])
none_answered header name answers given other none = λ answer at complete.
    elim (Contains-push_cases answers given (record { name = name; answer = answer }) at) [
      | inl before ↦ none answer before complete
      | inr e ↦ other answer e complete
    ]

-- the first complete answer stays the first
first_answered : (header : Roots) (name : Namespace) (answers : List NamedAnswer) (given : NamedAnswer)
    (answer : List NsEntry) → IsFirstComplete header name answers answer
    → IsFirstComplete header name (answers ++ given ∷ []) answer
first_answered header name answers given answer first = record {
  before = first.before;
  after = first.after ++ given ∷ [];
  parts = ap (λ (l : List NamedAnswer). l ++ given ∷ []) first.parts
      ∙ append_assoc first.before (record { name = name; answer = answer } ∷ first.after) (given ∷ []);
  complete = first.complete;
  none = first.none;
}

module _ (wants : Namespace → Type 0) (height : Height) (given : NamedAnswer) where
  -- an answer that brings a namespace nothing leaves what the height has of it
  pub fed_kept : (name : Namespace) (read : Option Read) → IsFedAt wants height name read
      → (read ≡ None → wants name → is_blob_namespace name.0 ≡ true → (answer : List NsEntry)
      → given ≡ record { name = name; answer = answer } → IsComplete height.header name answer → ⊥)
      → IsFedAt wants (with_answer height given) name read
  fed_kept name None fed other = λ wanted blob.
      none_answered height.header name height.answers given (other refl wanted blob) (fed wanted blob)
  fed_kept name (Some read) (wanted, blob, (answer, first, is)) other =
      (wanted, blob, (answer, first_answered height.header name height.answers given answer first, is))

  -- the first complete answer
  pub fed_first : wants given.name → is_blob_namespace given.name.0 ≡ true
      → IsComplete height.header given.name given.answer → IsFedAt wants height given.name None
      → (read : Read) → read ≡ blobs_joined (shares_shown given.answer)
      → IsFedAt wants (with_answer height given) given.name (Some read)
  fed_first wanted blob complete fed read is = (
    wanted,
    blob,
    (
      given.answer,
      record {
        before = height.answers;
        after = [];
        parts = refl;
        complete = complete;
        none = fed wanted blob;
      },
      is,
    ),
  )

-- none is no value
none_some : {X : Type 0} (x : X) (o : Option X) → o ≡ None → o ≡ Some x → ⊥
none_some x None e f = cc
none_some x (Some y) e f = cc

-- an entry that is there isn't read as none
not_none : (o : Option Entry) → is_some o ≡ true → option_map read_of o ≡ None → ⊥
not_none None e f = true≢false (sym e)
not_none (Some x) e f = none_some (read_of x) (Some (read_of x)) f refl

-- no entry
none_there : (o : Option Entry) → is_some o ≡ false → o ≡ None
none_there None e = refl
none_there (Some x) e = absurd (true≢false e)

-- two answers with their namespaces that are one are for one namespace
same_for : (a b : Namespace) (x y : List NsEntry) → given_for a x ≡ given_for b y → a ≡ b
same_for a b x y e = ap (λ (given : NamedAnswer). given.name) e

-- and are one answer
pub same_answer : (a b : Namespace) (x y : List NsEntry) → given_for a x ≡ given_for b y → x ≡ y
same_answer a b x y e = ap (λ (given : NamedAnswer). given.answer) e

module _ {F : Type 0} (can_ask : F → Namespace → Type 0) (answers : F → Namespace → Bool → Type 0) (filter : F)
    (kept : IsFilter can_ask answers filter) (last : Last) (name : Namespace) (named : IsNamespace name)
    (passes : (namespace_refusal name.0 ≡ None) ↔ (is_blob_namespace name.0 ≡ true))
    (answer : List NsEntry) (law : (header : Roots)
    → (answer_refusal header name answer ≡ None) ↔ IsComplete header name answer) where
  -- an answer that is refused isn't the first complete one of a namespace that is wanted
  not_first : (why : FollowError) → IsAnswerRefusedFor (answers filter name) last name answer why
      → option_map read_of (entry_in last.feed name) ≡ None → answers filter name true
      → is_blob_namespace name.0 ≡ true → IsComplete last.header name answer → ⊥
  not_first (NotBlob why) refused none wanted blob complete =
      none_some why (namespace_refusal name.0) (passes.1 blob) refused
  not_first Unwanted (passed, unwanted) none wanted blob complete = (kept name named).1 wanted unwanted
  not_first (Refused why) (passed, asked, refused) none wanted blob complete =
      none_some why (answer_refusal last.header name answer) ((law last.header).1 complete) refused
  not_first Twice (passed, asked, whole, there) none wanted blob complete =
      not_none (entry_in last.feed name) there none
  not_first NoMemory refused none wanted blob complete = refused

  -- so it changes nothing
  pub refused_fed : (why : FollowError) → IsAnswerRefusedFor (answers filter name) last name answer why
      → (height : Height) → last.header ≡ height.header → AreFed (wanted_by answers filter) last.feed height
      → AreFed (wanted_by answers filter) last.feed (with_answer height (record { name = name; answer = answer }))
  refused_fed why refused height same fed = λ other.
      fed_kept (wanted_by answers filter) height (record { name = name; answer = answer }) other
      (option_map read_of (entry_in last.feed other)) (fed other)
      (λ none wanted blob also is complete.
      let here : name ≡ other = same_for name other answer also is in
      let also_is : answer ≡ also = same_answer name other answer also is in
      not_first why refused
      (subst (λ (n : Namespace). option_map read_of (entry_in last.feed n) ≡ None) (sym here) none)
      (subst (λ (n : Namespace). answers filter n true) (sym here) wanted)
      (subst (λ (n : Namespace). is_blob_namespace n.0 ≡ true) (sym here) blob)
      (subst (λ (h : Roots). IsComplete h name answer) (sym same)
      (subst (λ (n : Namespace). IsComplete height.header n answer) (sym here)
      (subst (λ (a : List NsEntry). IsComplete height.header other a) (sym also_is) complete))))

  -- one that is entered is the first complete one
  pub entered_fed : IsNew (answers filter name) last name answer → (feed : Feed)
      → IsEntered last.feed feed name answer
      → (height : Height) → last.header ≡ height.header → AreFed (wanted_by answers filter) last.feed height
      → AreFed (wanted_by answers filter) feed (with_answer height (record { name = name; answer = answer }))
  entered_fed new feed entered height same fed = λ other. by_name other (is_name name other) refl
    where
      given : NamedAnswer
      given = record { name = name; answer = answer }

      by_name : (other : Namespace) (b : Bool) → is_name name other ≡ b
          → IsFedAt (wanted_by answers filter) (with_answer height given) other (option_map read_of (entry_in feed other))
      by_name other true e =
          let here : name ≡ other = same_name name other e in
          let there : entry_in feed name ≡ Some entered.entry = entered.entries name
          ∙ ap (λ (t : Bool). if t then Some entered.entry else entry_in last.feed name) (same_refl name) in
          subst (λ (n : Namespace). IsFedAt (wanted_by answers filter) (with_answer height given) n
          (option_map read_of (entry_in feed n))) here
          (subst (λ (o : Option Entry). IsFedAt (wanted_by answers filter) (with_answer height given) name
          (option_map read_of o)) (sym there)
          (fed_first (wanted_by answers filter) height given new.wanted (passes.0 new.blob)
          (subst (λ (h : Roots). IsComplete h name answer) same ((law last.header).0 new.complete))
          (subst (λ (o : Option Entry). IsFedAt (wanted_by answers filter) height name (option_map read_of o))
          (none_there (entry_in last.feed name) new.first) (fed name))
          (read_of entered.entry) entered.read))
      by_name other false e =
          let there : entry_in feed other ≡ entry_in last.feed other = entered.entries other
          ∙ ap (λ (t : Bool). if t then Some entered.entry else entry_in last.feed other) e in
          subst (λ (o : Option Entry). IsFedAt (wanted_by answers filter) (with_answer height given) other
          (option_map read_of o)) (sym there)
          (fed_kept (wanted_by answers filter) height given other (option_map read_of (entry_in last.feed other))
          (fed other) (λ none wanted blob also is complete.
          let here : name ≡ other = same_for name other answer also is in
          true≢false (sym (same_refl name) ∙ subst (λ (n : Namespace). is_name name n ≡ false) (sym here) e)))
