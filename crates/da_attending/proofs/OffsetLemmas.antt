-- Where a talk about namespaces ends, and where follow refuses.
use Rattle.std.proofs.Common.{◌≡◌, ◌∙◌, ℕ, ◌+◌, Bool, true, false, true≢false, eqb, cond, List, [], ◌∷◌, ◌++◌, length, drop, Option, None, Some, Result, Ok, Err, refl, sym, ap, subst, arith, ltb, inl, inr}
use Rattle.std.specs.Prelude.{⊤}
use Rattle.std.specs.List.{cons_option, AllByRecursion}
use Rattle.std.proofs.lemmas.Option.{same_Some, none-some as none_some}
use Rattle.namespace_id.specs.declared.namespaces.Namespace.{Namespace}
use Rattle.data_header.specs.Headers.{Roots}
use Rattle.blob_feed.specs.Feeds.{Item, headed, answered}
use Rattle.frame_payloads.specs.Payloads.{max_payload}
use Rattle.da_wire.specs.declared.frames.FrameError.{FrameError}
use Rattle.da_wire.specs.declared.frames.FrameError.TheVariants.{Truncated, TooLong}
use Rattle.da_wire.specs.Reading.{Raw, promised, raw_of}
use Rattle.da_wire.specs.Frames.{raw_in, frames_of, frames_bytes, bad_frame}
use Rattle.da_wire.specs.Streams.{offset_of, err_of, refusal_at}
use Rattle.da_wire.specs.Values.{bad_value}
use Rattle.da_wire.proofs.RawLemmas.{frame_at}
use Rattle.da_wire.proofs.FrameListLemmas.{raw_missed}
use Rattle.da_wire.proofs.WalkLemmas.{stop_here, stop_end}
use Rattle.da_status.specs.declared.status.Status.{Status}
use Rattle.da_following.specs.Follow.{feed_kinds, begins_with_answer, bad_feed}
use Rattle.da_talk.specs.Talks.{IsBad}
use Rattle.da_talk.specs.Spoken.{AreReplies, begun, told, IsUnfit}
use Rattle.da_attending.specs.Attended.{has_items, item_in, items_of, fits, attending}
use Rattle.da_attending.specs.Laws.{TakesFiles, NamesUnfit, NamesBad}
use Rattle.da_attending.proofs.FileLemmas.{HasItem, headed_kind, answered_kind, first_byte, not_first, stops_at, in_step, all_items}

-- ---- frames that were replied to

-- a fact of each of some frames, and of one more
all_end : (P : Raw → Type 0) (frames : List Raw) (f : Raw) → AllByRecursion P frames → P f → AllByRecursion P (frames ++ f ∷ [])
all_end P [] f all is = (is, tt)
all_end P (first ∷ frames) f all is = (all.0, all_end P frames f all.1 is)

-- the first of them fits in front of any
abbrev pub FirstFits : List Raw → Type 0
FirstFits [] = ⊤
FirstFits (f ∷ frames) = fits [] (item_in f) ≡ true

-- one more behind some changes nothing of the first
first_stays : (frames : List Raw) (f : Raw) → FirstFits frames → fits (items_of frames) (item_in f) ≡ true → FirstFits (frames ++ f ∷ [])
first_stays [] f first fit = fit
first_stays (g ∷ frames) f first fit = first

-- frames that were replied to are headers and answers, and the first fits in front of any
pub told_fits : (names : List Namespace) (kept : Status) (frames : List Raw) (said : List ℕ) → AreReplies (attending names) kept frames said
    → AllByRecursion HasItem frames × FirstFits frames
told_fits names kept frames said (begun text is) = (tt, tt)
told_fits names kept frames said (told before f some text so replies) =
    let h = told_fits names kept before some so in (
      all_end HasItem before f h.0 (replies.item, replies.is),
      first_stays before f h.1 (ap (fits (items_of before)) replies.is ∙ replies.fit),
    )

-- behind a header or an answer there is one
items_some : (frames : List Raw) (f : Raw) → HasItem f → has_items (items_of (f ∷ frames)) ≡ true
items_some frames f h = ap (λ (o : Option Item). has_items (cons_option o (items_of frames))) h.1

-- what fits in front of any is a header
fits_headed : (o : Option Item) (item : Item) → o ≡ Some item → fits [] o ≡ true → (header : Roots) × (o ≡ Some (headed header))
fits_headed None item is fit = absurd cc
fits_headed (Some (headed header)) item is fit = (header, refl)
fits_headed (Some (answered given)) item is fit = absurd (true≢false (sym fit))

-- bytes whose first frame is a header don't begin with an answer
no_answer_first : (bytes : List ℕ) (f : Raw) (later : List Raw) → frames_of bytes ≡ f ∷ later → HasItem f → fits [] (item_in f) ≡ true
    → begins_with_answer bytes ≡ false
no_answer_first bytes f later are h fit =
    let head = fits_headed (item_in f) h.0 h.1 fit in
    ap (λ (k : ℕ). eqb k 78) (first_byte bytes f later are ∙ headed_kind f head.0 head.1)

-- where they don't, follow refuses where no value stands
feed_by : (bytes : List ℕ) (b : Bool) → begins_with_answer bytes ≡ b → b ≡ false → bad_feed bytes ≡ bad_value feed_kinds bytes
feed_by bytes b e none = ap (λ (c : Bool). cond c (Some 0) (bad_value feed_kinds bytes)) (e ∙ none)

-- where the first place is the beginning, they may
feed_first : (bytes : List ℕ) → bad_value feed_kinds bytes ≡ Some 0 → bad_feed bytes ≡ Some 0
feed_first bytes e = by (begins_with_answer bytes)
  where
    by : (b : Bool) → cond b (Some 0) (bad_value feed_kinds bytes) ≡ Some 0
    by true = refl
    by false = e

-- behind frames that were replied to follow refuses where no value stands
behind_told : (frames later : List Raw) (bytes : List ℕ) (at : ℕ) → frames_of bytes ≡ frames ++ later → AllByRecursion HasItem frames → FirstFits frames
    → at ≡ length (frames_bytes frames) → bad_value feed_kinds bytes ≡ Some at → bad_feed bytes ≡ Some at
behind_told [] later bytes at are all first place stop =
    subst (λ (n : ℕ). bad_feed bytes ≡ Some n) (sym place) (feed_first bytes (stop ∙ ap (λ (n : ℕ). Some n) place))
behind_told (f ∷ frames) later bytes at are all first place stop =
    feed_by bytes (begins_with_answer bytes) refl (no_answer_first bytes f (frames ++ later) are all.0 first) ∙ stop

-- with no header or answer there is no frame
no_frames : (frames : List Raw) → AllByRecursion HasItem frames → has_items (items_of frames) ≡ false → frames ≡ []
no_frames [] all none = refl
no_frames (f ∷ frames) all none = absurd (true≢false (sym (items_some frames f all.0) ∙ none))

-- ---- a frame that doesn't fit

unfit_by : (names : List Namespace) (kept : Status) (heard said : List ℕ) (at : ℕ) (s : IsUnfit (attending names) kept heard said at)
    → (o : Option Item) → item_in s.frame ≡ o → bad_feed heard ≡ Some at
unfit_by names kept heard said at s None none =
    let h = told_fits names kept s.frames said s.told in
    let place : 0 + length (frames_bytes s.frames) ≡ at = omega (arith, s.place) in
    behind_told s.frames (s.frame ∷ s.later) heard at s.are h.0 h.1 s.place
    (stops_at s.frames 0 heard s.frame s.later s.are h.0 none ∙ ap (λ (n : ℕ). Some n) place)
unfit_by names kept heard said at s (Some (headed header)) is =
    absurd (true≢false (sym (ap (fits (items_of s.frames)) is) ∙ s.refused))
unfit_by names kept heard said at s (Some (answered given)) is =
    let h = told_fits names kept s.frames said s.told in
    let none : s.frames ≡ [] = no_frames s.frames h.0 (sym (ap (fits (items_of s.frames)) is) ∙ s.refused) in
    let are : frames_of heard ≡ s.frame ∷ s.later = s.are ∙ ap (λ (l : List Raw). l ++ s.frame ∷ s.later) none in
    let begins : begins_with_answer heard ≡ true = ap (λ (k : ℕ). eqb k 78) (first_byte heard s.frame s.later are ∙ answered_kind s.frame given is) in
    let place : 0 ≡ at = sym (s.place ∙ ap (λ (l : List Raw). length (frames_bytes l)) none) in
    ap (λ (c : Bool). cond c (Some 0) (bad_value feed_kinds heard)) begins ∙ ap (λ (n : ℕ). Some n) place

pub names_unfit : NamesUnfit
names_unfit names kept heard said at s = unfit_by names kept heard said at s (item_in s.frame) refl

-- ---- a place at which no frame stands

-- a refusal of a frame names its place
names_place : (at : ℕ) (a b c : Bool) (f : Raw) (e : FrameError) → cond a (Err (Truncated at)) (cond b (Err (TooLong at)) (cond c (Err (Truncated at)) (Ok f))) ≡ Err e
    → offset_of e ≡ at
names_place at true b c f e is = let same : Truncated at ≡ e = cc in ap offset_of (sym same)
names_place at false true c f e is = let same : TooLong at ≡ e = cc in ap offset_of (sym same)
names_place at false false true f e is = let same : Truncated at ≡ e = cc in ap offset_of (sym same)
names_place at false false false f e is = absurd cc

raw_names : (at : ℕ) (bytes : List ℕ) (e : FrameError) → raw_of at bytes ≡ Err e → offset_of e ≡ at
unfolding raw_of
raw_names at bytes e is =
    names_place at (ltb (length bytes) 5) (ltb max_payload (promised bytes)) (ltb (length bytes) (5 + promised bytes)) (frame_at bytes) e is

-- so the first refusal names the first bad place
err_some : (r : Result Raw FrameError) (e : FrameError) → err_of r ≡ Some e → r ≡ Err e
err_some (Ok f) e is = absurd cc
err_some (Err why) e is = let same : why ≡ e = cc in ap (λ (x : FrameError). Err x) same

refused_at : (bytes : List ℕ) (o : Option ℕ) (e : FrameError) → refusal_at bytes o ≡ Some e → o ≡ Some (offset_of e)
refused_at bytes None e is = absurd cc
refused_at bytes (Some at) e is = ap (λ (n : ℕ). Some n) (sym (raw_names at (drop at bytes) e (err_some (raw_of at (drop at bytes)) e is)))

bad_place : (heard : List ℕ) (rest : Option (List ℕ)) (at : ℕ) → IsBad heard rest at → bad_frame heard ≡ Some at
bad_place heard rest at (inl long) = refused_at heard (bad_frame heard) (TooLong at) long
bad_place heard rest at (inr cut) = refused_at heard (bad_frame heard) (Truncated at) cut.0

-- it is the beginning where there is no frame
bad_first : (bytes : List ℕ) (at : ℕ) → frames_of bytes ≡ [] → bad_frame bytes ≡ Some at → at ≡ 0
bad_first [] at none bad = absurd (none_some at (sym (stop_end raw_in 0 [] (omega arith)) ∙ bad))
bad_first (b ∷ bytes) at none bad = by (raw_of 0 (b ∷ bytes)) refl
  where
    by : (r : Result Raw FrameError) → raw_of 0 (b ∷ bytes) ≡ r → at ≡ 0
    by (Err why) e = sym (same_Some 0 at (sym (stop_here raw_in 0 (b ∷ bytes) (raw_missed 0 (b ∷ bytes) why e) (omega arith)) ∙ bad))
    by (Ok f) e = absurd (not_first (b ∷ bytes) f e none)

bad_by : (frames : List Raw) (heard : List ℕ) (at : ℕ) → frames_of heard ≡ frames → AllByRecursion HasItem frames → FirstFits frames
    → bad_frame heard ≡ Some at → bad_feed heard ≡ Some at
bad_by [] heard at are all first bad =
    let step = in_step [] 0 heard are tt in
    let zeroth : at ≡ 0 = bad_first heard at are bad in
    subst (λ (n : ℕ). bad_feed heard ≡ Some n) (sym zeroth) (feed_first heard (step.0 ∙ bad ∙ ap (λ (n : ℕ). Some n) zeroth))
bad_by (f ∷ frames) heard at are all first bad =
    feed_by heard (begins_with_answer heard) refl (no_answer_first heard f frames are all.0 first) ∙ (in_step (f ∷ frames) 0 heard are all).0 ∙ bad

pub names_bad : NamesBad
names_bad names kept heard said rest at so bad =
    let h = told_fits names kept (frames_of heard) said so in
    bad_by (frames_of heard) heard at refl h.0 h.1 (bad_place heard rest at bad)

-- ---- a file that follow takes

-- its parts
takes_by : (bytes : List ℕ) (b : Bool) → begins_with_answer bytes ≡ b → cond b (Some 0) (bad_value feed_kinds bytes) ≡ None
    → (begins_with_answer bytes ≡ false) × (bad_value feed_kinds bytes ≡ None)
takes_by bytes true e none = absurd cc
takes_by bytes false e none = (e, none)

-- what holds of each of frames holds of one of them, and of those before it
of_middle : (P : Raw → Type 0) (before later : List Raw) (f : Raw) → AllByRecursion P (before ++ f ∷ later) → AllByRecursion P before × P f
of_middle P [] later f all = (tt, all.0)
of_middle P (g ∷ before) later f all = let rest = of_middle P before later f all.1 in ((all.0, rest.0), rest.1)

-- each frame fits behind those before it, where they don't begin with an answer
fits_by : (bytes : List ℕ) → begins_with_answer bytes ≡ false → (before later : List Raw) (f : Raw) → frames_of bytes ≡ before ++ f ∷ later
    → AllByRecursion HasItem before → (o : Option Item) (item : Item) → item_in f ≡ o → o ≡ Some item → fits (items_of before) o ≡ true
fits_by bytes begins before later f are all None item is some = absurd cc
fits_by bytes begins before later f are all (Some (headed header)) item is some = refl
fits_by bytes begins [] later f are all (Some (answered given)) item is some =
    absurd (true≢false (sym (ap (λ (k : ℕ). eqb k 78) (first_byte bytes f later are ∙ answered_kind f given is)) ∙ begins))
fits_by bytes begins (g ∷ before) later f are all (Some (answered given)) item is some = items_some before g all.0

pub takes_files : TakesFiles
takes_files bytes whole =
    let parts = takes_by bytes (begins_with_answer bytes) refl whole in
    let all = all_items (frames_of bytes) 0 bytes refl parts.1 in
    let step = in_step (frames_of bytes) 0 bytes refl all in (
      sym step.0 ∙ parts.1,
      sym step.1,
      λ before later f are.
          let each = of_middle HasItem before later f (subst (λ (l : List Raw). AllByRecursion HasItem l) are all) in
          fits_by bytes parts.0 before later f are each.0 (item_in f) each.1.0 refl each.1.1,
    )
