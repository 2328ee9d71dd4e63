-- The frames of bytes beside the headers and answers that follow reads of them.
use Rattle.std.proofs.Common.{◌≡◌, ◌≢◌, ◌∙◌, ℕ, ◌+◌, ◌<◌, ◌≤◌, Bool, true, false, ◌&&◌, ◌||◌, cond, eqb, ltb, List, [], ◌∷◌, ◌++◌, length, take, drop, Option, None, Some, Result, Ok, Err, refl, sym, ap, ap₂, subst, arith, inl, inr, eqb-true, ltb-false, length-drop, length-append, length-take}
use Rattle.std.specs.Prelude.{◌⊎◌, slice_index}
use Rattle.std.specs.Option.{option_map}
use Rattle.std.specs.List.{filter_map, cons_option, AllByRecursion}
use Rattle.std.proofs.lemmas.Bool.{cases_Bool, eqb-false}
use Rattle.std.proofs.lemmas.Option.{none-some as none_some}
use Rattle.namespace_id.specs.declared.namespaces.Namespace.{Namespace}
use Rattle.data_header.specs.Headers.{Roots}
use Rattle.axis_roots.specs.declared.answers.NsEntry.{NsEntry}
use Rattle.blob_feed.specs.Feeds.{NamedAnswer, Item, headed, answered}
use Rattle.frame_fields.specs.Fields.{◌>>=◌}
use Rattle.frame_payloads.specs.Payloads.{max_payload}
use Rattle.frame_payloads.specs.kinds.Header.{header_at}
use Rattle.frame_payloads.specs.kinds.Names.{names_at}
use Rattle.frame_payloads.proofs.Fields.Readers.{bind_some}
use Rattle.da_wire.specs.declared.frames.Frame.{Frame}
use Rattle.da_wire.specs.declared.frames.Frame.TheVariants.{Header, Names}
use Rattle.da_wire.specs.declared.frames.FrameError.{FrameError}
use Rattle.da_wire.specs.declared.frames.FrameError.TheVariants.{Truncated, BadKind, TooLong}
use Rattle.da_wire.specs.Spelling.{frame}
use Rattle.da_wire.specs.Reading.{Raw, promised, raw_of, is_kind, value_at, is_among, tested_raw}
use Rattle.da_wire.specs.Frames.{raw_in, frames_of, frames_bytes}
use Rattle.da_wire.specs.Values.{value_in}
use Rattle.da_wire.specs.Walks.{walk_from, stop_from}
use Rattle.da_wire.proofs.RawLemmas.{tests_failed, frame_at, length-frame}
use Rattle.da_wire.proofs.FrameListLemmas.{raw_found, raw_missed}
use Rattle.da_wire.proofs.ValueListLemmas.{value_found, value_missed, frame_missed}
use Rattle.da_wire.proofs.WalkLemmas.{stop_on, walk_on, stop_here, walk_stop, stop_end}
use Rattle.da_following.specs.Follow.{feed_kinds, item_of}
use Rattle.da_attending.specs.Attended.{item_in}
use Rattle.da_attending.proofs.HandedLemmas.{differ, header_is, answer_is, other_is}

-- ---- a frame at the front

-- what is known of it
record IsFirst (bytes : List ℕ) (f : Raw) : Type 0 where
  long : 5 ≤ length bytes
  kind : slice_index bytes 0 ≡ f.kind
  size : f.size ≡ length (frame f.kind f.payload)

first_is : (bytes : List ℕ) (f : Raw) → raw_of 0 bytes ≡ Ok f → IsFirst bytes f
unfolding raw_of
first_is bytes f e =
    let t = tests_failed (ltb (length bytes) 5) (ltb max_payload (promised bytes)) (ltb (length bytes) (5 + promised bytes)) (Truncated 0) (TooLong 0) (Truncated 0) (frame_at bytes) f e in
    let long : 5 ≤ length bytes = ltb-false (length bytes) 5 t.0 in
    let whole : 5 + promised bytes ≤ length bytes = ltb-false (length bytes) (5 + promised bytes) t.2 in
    let payload : length (take (promised bytes) (drop 5 bytes)) ≡ promised bytes = omega (arith, whole, length-take (promised bytes) (drop 5 bytes), length-drop 5 bytes) in
    record {
      long = long;
      kind = ap (λ (g : Raw). g.kind) t.3;
      size = ap (λ (g : Raw). g.size) (sym t.3) ∙ ap (λ (n : ℕ). 5 + n) (sym payload) ∙ ap (λ (g : Raw). 5 + length g.payload) t.3
          ∙ sym (length-frame f.kind f.payload);
    }

-- a test of the kind that passes reads what stands there
tested_by : (a b c : Bool) (x y : FrameError) (r : Result Raw FrameError) → a ≡ false → b ≡ true → c ≡ true
    → cond a (Err x) (cond (b && c) r (Err y)) ≡ r
tested_by true b c x y r p q s = absurd cc
tested_by false false c x y r p q s = absurd cc
tested_by false true false x y r p q s = absurd cc
tested_by false true true x y r p q s = refl

not_empty : (bytes : List ℕ) → 5 ≤ length bytes → eqb (length bytes) 0 ≡ false
not_empty bytes long = elim (cases_Bool (eqb (length bytes) 0)) [
  | inl e ↦ let none : length bytes ≡ 0 = eqb-true (length bytes) 0 e in absurd (omega (arith, none, long))
  | inr e ↦ e
]

tested : (bytes : List ℕ) (f : Raw) → raw_of 0 bytes ≡ Ok f → is_kind f.kind ≡ true → is_among feed_kinds f.kind ≡ true
    → tested_raw (is_among feed_kinds) 0 bytes ≡ Ok f
unfolding tested_raw
tested bytes f e kind among =
    let first = first_is bytes f e in
    tested_by (eqb (length bytes) 0) (is_kind (slice_index bytes 0)) (is_among feed_kinds (slice_index bytes 0)) (Truncated 0) (BadKind 0) (raw_of 0 bytes)
    (not_empty bytes first.long) (ap is_kind first.kind ∙ kind) (ap (is_among feed_kinds) first.kind ∙ among)
    ∙ e

-- where none stands there, none of a kind does
missed_by : (a b : Bool) (x y e : FrameError) (r : Result Raw FrameError) → r ≡ Err e → (why : FrameError) × (cond a (Err x) (cond b r (Err y)) ≡ Err why)
missed_by true b x y e r is = (x, refl)
missed_by false true x y e r is = (e, is)
missed_by false false x y e r is = (y, refl)

missed : (bytes : List ℕ) (e : FrameError) → raw_of 0 bytes ≡ Err e → value_in feed_kinds bytes ≡ None
unfolding tested_raw
missed bytes e is =
    let m = missed_by (eqb (length bytes) 0) (is_kind (slice_index bytes 0) && is_among feed_kinds (slice_index bytes 0)) (Truncated 0) (BadKind 0) e (raw_of 0 bytes) is in
    frame_missed feed_kinds bytes m.0 m.1

-- nor where its kind is none of these
other_by : (a b c : Bool) (x y : FrameError) (r : Result Raw FrameError) → c ≡ false → (why : FrameError) × (cond a (Err x) (cond (b && c) r (Err y)) ≡ Err why)
other_by true b c x y r none = (x, refl)
other_by false true true x y r none = absurd cc
other_by false true false x y r none = (y, refl)
other_by false false c x y r none = (y, refl)

other_missed : (bytes : List ℕ) → is_among feed_kinds (slice_index bytes 0) ≡ false → value_in feed_kinds bytes ≡ None
unfolding tested_raw
other_missed bytes none =
    let m = other_by (eqb (length bytes) 0) (is_kind (slice_index bytes 0)) (is_among feed_kinds (slice_index bytes 0)) (Truncated 0) (BadKind 0) (raw_of 0 bytes) none in
    frame_missed feed_kinds bytes m.0 m.1

-- ---- by its kind

-- the kind of a frame: that of headers, that of answers, or another
kinds_of : (k : ℕ) → (k ≡ 72) ⊎ ((k ≡ 78) ⊎ ((k ≢ 72) × (k ≢ 78)))
kinds_of k = elim (cases_Bool (eqb k 72)) [
  | inl e ↦ inl (eqb-true k 72 e)
  | inr e ↦ elim (cases_Bool (eqb k 78)) [
    | inl f ↦ inr (inl (eqb-true k 78 f))
    | inr f ↦ inr (inr (apart k 72 e, apart k 78 f))
  ]
]
  where
    apart : (a b : ℕ) → eqb a b ≡ false → a ≢ b
    apart a b e same = eqb-false a b e same

-- another is none of these
among_none : (k : ℕ) → k ≢ 72 → k ≢ 78 → is_among feed_kinds k ≡ false
among_none k h n = ap₂ (λ (a b : Bool). a || (b || false)) (differ 72 k (λ e. h (sym e))) (differ 78 k (λ e. n (sym e)))

-- a frame that is a header or an answer has a value
header_read : (o : Option Roots) → option_map headed o ≡ None → option_map Header o ≡ None
header_read None e = refl
header_read (Some header) e = absurd cc

answer_read : (o : Option (Namespace × List NsEntry)) → option_map (λ (n : Namespace × List NsEntry). answered (record { name = n.0; answer = n.1 })) o ≡ None
    → option_map (λ (n : Namespace × List NsEntry). Names n.0 n.1) o ≡ None
answer_read None e = refl
answer_read (Some names) e = absurd cc

no_header_value : (payload : List ℕ) → (value_at 72 payload >>= item_of) ≡ None → value_at 72 payload ≡ None
unfolding value_at
no_header_value payload e = header_read (header_at payload) (sym (header_is payload) ∙ e)

no_answer_value : (payload : List ℕ) → (value_at 78 payload >>= item_of) ≡ None → value_at 78 payload ≡ None
unfolding value_at
no_answer_value payload e = answer_read (names_at payload) (sym (answer_is payload) ∙ e)

-- a frame that is neither is passed over by none: no value is found
pub none_found : (bytes : List ℕ) (f : Raw) → raw_of 0 bytes ≡ Ok f → item_in f ≡ None → value_in feed_kinds bytes ≡ None
none_found bytes f e none = elim (kinds_of f.kind) [
  | inl h ↦ value_missed feed_kinds bytes f (tested bytes f e (ap is_kind h) (ap (is_among feed_kinds) h))
      (ap (λ (k : ℕ). value_at k f.payload) h ∙ no_header_value f.payload (ap (λ (k : ℕ). value_at k f.payload >>= item_of) (sym h) ∙ none))
  | inr other ↦ elim other [
    | inl n ↦ value_missed feed_kinds bytes f (tested bytes f e (ap is_kind n) (ap (is_among feed_kinds) n))
        (ap (λ (k : ℕ). value_at k f.payload) n ∙ no_answer_value f.payload (ap (λ (k : ℕ). value_at k f.payload >>= item_of) (sym n) ∙ none))
    | inr neither ↦ other_missed bytes (ap (is_among feed_kinds) (first_is bytes f e).kind ∙ among_none f.kind neither.0 neither.1)
  ]
]

-- one that is has its value
pub some_found : (bytes : List ℕ) (f : Raw) (item : Item) → raw_of 0 bytes ≡ Ok f → item_in f ≡ Some item
    → (value : Frame) × (value_in feed_kinds bytes ≡ Some (value, f.size)) × (item_of value ≡ Some item)
some_found bytes f item e some =
    let v = bind_some (value_at f.kind f.payload) item_of item some in
    elim (kinds_of f.kind) [
      | inl h ↦ (v.0, value_found feed_kinds bytes f v.0 (tested bytes f e (ap is_kind h) (ap (is_among feed_kinds) h)) v.1, v.2)
      | inr other ↦ elim other [
        | inl n ↦ (v.0, value_found feed_kinds bytes f v.0 (tested bytes f e (ap is_kind n) (ap (is_among feed_kinds) n)) v.1, v.2)
        | inr neither ↦ absurd (none_some item (sym (other_is f.kind f.payload neither.0 neither.1) ∙ some))
      ]
    ]

-- a header is of its kind
pub headed_kind : (f : Raw) (header : Roots) → item_in f ≡ Some (headed header) → f.kind ≡ 72
headed_kind f header some = elim (kinds_of f.kind) [
  | inl h ↦ h
  | inr other ↦ elim other [
    | inl n ↦ absurd (no_headed (names_at f.payload) header (sym (answer_is f.payload) ∙ ap (λ (k : ℕ). value_at k f.payload >>= item_of) (sym n) ∙ some))
    | inr neither ↦ absurd (none_some (headed header) (sym (other_is f.kind f.payload neither.0 neither.1) ∙ some))
  ]
]
  where
    no_headed : (o : Option (Namespace × List NsEntry)) (header : Roots)
        → option_map (λ (n : Namespace × List NsEntry). answered (record { name = n.0; answer = n.1 })) o ≡ Some (headed header) → ⊥
    no_headed None header e = absurd cc
    no_headed (Some names) header e = absurd cc

-- and so is an answer
pub answered_kind : (f : Raw) (given : NamedAnswer) → item_in f ≡ Some (answered given) → f.kind ≡ 78
answered_kind f given some = elim (kinds_of f.kind) [
  | inl h ↦ absurd (no_answered (header_at f.payload) given (sym (header_is f.payload) ∙ ap (λ (k : ℕ). value_at k f.payload >>= item_of) (sym h) ∙ some))
  | inr other ↦ elim other [
    | inl n ↦ n
    | inr neither ↦ absurd (none_some (answered given) (sym (other_is f.kind f.payload neither.0 neither.1) ∙ some))
  ]
]
  where
    no_answered : (o : Option Roots) (given : NamedAnswer) → option_map headed o ≡ Some (answered given) → ⊥
    no_answered None given e = absurd cc
    no_answered (Some header) given e = absurd cc

-- ---- walks

-- each frame is a header or an answer
abbrev pub HasItem : Raw → Type 0
HasItem f = (item : Item) × (item_in f ≡ Some item)

-- a walk that finds a frame first, or none
front_by : (bytes : List ℕ) (r : Result Raw FrameError) → raw_of 0 bytes ≡ r → (f : Raw) (later : List Raw) → frames_of bytes ≡ f ∷ later
    → (raw_of 0 bytes ≡ Ok f) × (frames_of (drop f.size bytes) ≡ later)
front_by bytes (Err why) e f later are =
    let none : frames_of bytes ≡ [] = walk_stop raw_in bytes (raw_missed 0 bytes why e) in
    absurd (cons_none f later (sym none ∙ are))
  where
    cons_none : (g : Raw) (l : List Raw) → [] ≡ g ∷ l → ⊥
    cons_none g l e = absurd cc
front_by bytes (Ok g) e f later are =
    let first = first_is bytes g e in
    let some : 0 < g.size = omega (arith, first.size, length-frame g.kind g.payload) in
    let on : frames_of bytes ≡ g ∷ frames_of (drop g.size bytes) = walk_on raw_in bytes g g.size (raw_found 0 bytes g e) some (omega (arith, first.long)) in
    let both : g ∷ frames_of (drop g.size bytes) ≡ f ∷ later = sym on ∙ are in
    let same : g ≡ f = cc in
    let rest : frames_of (drop g.size bytes) ≡ later = cc in
    (subst (λ (h : Raw). raw_of 0 bytes ≡ Ok h) same e, subst (λ (h : Raw). frames_of (drop h.size bytes) ≡ later) same rest)

pub front : (bytes : List ℕ) (f : Raw) (later : List Raw) → frames_of bytes ≡ f ∷ later
    → (raw_of 0 bytes ≡ Ok f) × (frames_of (drop f.size bytes) ≡ later)
front bytes f later are = front_by bytes (raw_of 0 bytes) refl f later are

-- the first byte is the kind of the first frame
pub first_byte : (bytes : List ℕ) (f : Raw) (later : List Raw) → frames_of bytes ≡ f ∷ later → slice_index bytes 0 ≡ f.kind
first_byte bytes f later are = (first_is bytes f (front bytes f later are).0).kind

-- behind frames that are headers and answers comes one that is neither: there follow refuses
pub stops_at : (frames : List Raw) (at : ℕ) (bytes : List ℕ) (f : Raw) (later : List Raw) → frames_of bytes ≡ frames ++ f ∷ later
    → AllByRecursion HasItem frames → item_in f ≡ None → stop_from (value_in feed_kinds) 0 at bytes ≡ Some (at + length (frames_bytes frames))
stops_at [] at bytes f later are all none =
    let here = front bytes f later are in
    let first = first_is bytes f here.0 in
    let same : at ≡ at + 0 = omega arith in
    stop_here (value_in feed_kinds) at bytes (none_found bytes f here.0 none) (omega (arith, first.long)) ∙ ap (λ (n : ℕ). Some n) same
stops_at (g ∷ frames) at bytes f later are all none =
    let here = front bytes g (frames ++ f ∷ later) are in
    let first = first_is bytes g here.0 in
    let value = some_found bytes g all.0.0 here.0 all.0.1 in
    let some : 0 < g.size = omega (arith, first.size, length-frame g.kind g.payload) in
    let sum : at + g.size + length (frames_bytes frames) ≡ at + length (frame g.kind g.payload ++ frames_bytes frames) =
    omega (arith, first.size, length-append (frame g.kind g.payload) (frames_bytes frames)) in
    stop_on (value_in feed_kinds) at bytes value.0 g.size value.1 some (omega (arith, first.long))
    ∙ stops_at frames (at + g.size) (drop g.size bytes) f later here.1 all.1 none
    ∙ ap (λ (n : ℕ). Some n) sum

-- where a frame stands at the front, there are frames
pub not_first : (bytes : List ℕ) (g : Raw) → raw_of 0 bytes ≡ Ok g → frames_of bytes ≡ [] → ⊥
not_first bytes g e none =
    let first = first_is bytes g e in
    let some : 0 < g.size = omega (arith, first.size, length-frame g.kind g.payload) in
    let on = walk_on raw_in bytes g g.size (raw_found 0 bytes g e) some (omega (arith, first.long)) in
    none_cons g (frames_of (drop g.size bytes)) (sym none ∙ on)
  where
    none_cons : (f : Raw) (l : List Raw) → [] ≡ f ∷ l → ⊥
    none_cons f l e = absurd cc

-- no frame stands where no bytes are
empty_refused : raw_of 0 [] ≡ Err (Truncated 0)
unfolding raw_of
empty_refused = refl

-- of headers and answers alone follow reads as much as there is
ends_by : (at : ℕ) (bytes : List ℕ) (r : Result Raw FrameError) → raw_of 0 bytes ≡ r → frames_of bytes ≡ []
    → (stop_from (value_in feed_kinds) 0 at bytes ≡ stop_from raw_in 0 at bytes) × (walk_from (value_in feed_kinds) 0 bytes ≡ [])
ends_by at [] r e none = (
  stop_end (value_in feed_kinds) at [] (omega arith) ∙ sym (stop_end raw_in at [] (omega arith)),
  walk_stop (value_in feed_kinds) [] (missed [] (Truncated 0) empty_refused),
)
ends_by at (b ∷ bytes) (Err why) e none = (
  stop_here (value_in feed_kinds) at (b ∷ bytes) (missed (b ∷ bytes) why e) (omega arith)
      ∙ sym (stop_here raw_in at (b ∷ bytes) (raw_missed 0 (b ∷ bytes) why e) (omega arith)),
  walk_stop (value_in feed_kinds) (b ∷ bytes) (missed (b ∷ bytes) why e),
)
ends_by at (b ∷ bytes) (Ok g) e none = absurd (not_first (b ∷ bytes) g e none)

pub in_step : (frames : List Raw) (at : ℕ) (bytes : List ℕ) → frames_of bytes ≡ frames → AllByRecursion HasItem frames
    → (stop_from (value_in feed_kinds) 0 at bytes ≡ stop_from raw_in 0 at bytes)
    × (filter_map item_of (walk_from (value_in feed_kinds) 0 bytes) ≡ filter_map item_in frames)
in_step [] at bytes are all =
    let end = ends_by at bytes (raw_of 0 bytes) refl are in
    (end.0, ap (filter_map item_of) end.1)
in_step (g ∷ frames) at bytes are all =
    let here = front bytes g frames are in
    let first = first_is bytes g here.0 in
    let value = some_found bytes g all.0.0 here.0 all.0.1 in
    let some : 0 < g.size = omega (arith, first.size, length-frame g.kind g.payload) in
    let long : 0 < length bytes = omega (arith, first.long) in
    let rest = in_step frames (at + g.size) (drop g.size bytes) here.1 all.1 in (
      stop_on (value_in feed_kinds) at bytes value.0 g.size value.1 some long ∙ rest.0
          ∙ sym (stop_on raw_in at bytes g g.size (raw_found 0 bytes g here.0) some long),
      ap (filter_map item_of) (walk_on (value_in feed_kinds) bytes value.0 g.size value.1 some long)
          ∙ ap₂ (λ (o : Option Item) (l : List Item). cons_option o l) (value.2 ∙ sym all.0.1) rest.1,
    )

-- where follow takes all, each frame is a header or an answer
pub all_items : (frames : List Raw) (at : ℕ) (bytes : List ℕ) → frames_of bytes ≡ frames → stop_from (value_in feed_kinds) 0 at bytes ≡ None
    → AllByRecursion HasItem frames
all_items [] at bytes are whole = tt
all_items (g ∷ frames) at bytes are whole =
    let here = front bytes g frames are in
    let first = first_is bytes g here.0 in
    let long : 0 < length bytes = omega (arith, first.long) in
    by here first long (item_in g) refl (λ rest. all_items frames (at + g.size) (drop g.size bytes) here.1 rest)
  where
    by : (raw_of 0 bytes ≡ Ok g) × (frames_of (drop g.size bytes) ≡ frames) → IsFirst bytes g → 0 < length bytes → (o : Option Item) → item_in g ≡ o
        → (stop_from (value_in feed_kinds) 0 (at + g.size) (drop g.size bytes) ≡ None → AllByRecursion HasItem frames) → AllByRecursion HasItem (g ∷ frames)
    by here first long None none again =
        absurd (none_some at (sym whole ∙ stop_here (value_in feed_kinds) at bytes (none_found bytes g here.0 none) long))
    by here first long (Some item) some again =
        let value = some_found bytes g item here.0 some in
        let size : 0 < g.size = omega (arith, first.size, length-frame g.kind g.payload) in
        ((item, some), again (sym (stop_on (value_in feed_kinds) at bytes value.0 g.size value.1 size long) ∙ whole))
