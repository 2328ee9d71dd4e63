-- What the commands show and json answer.
use Rattle.std.proofs.Common.{◌≡◌, ◌∙◌, ℕ, ◌<◌, Bool, true, false, List, [], ◌∷◌, ◌++◌, length, drop, None, Some, IsSome, Result, Err, cond, Bor, ◌↔◌, refl, sym, ap, subst, inr, arith, append-nil, eqb-true}
use Rattle.std.specs.declared.option.Option.{Option}
use Rattle.std.specs.Option.{option_map, option_map_or}
use Rattle.std.specs.List.{list_all}
use Rattle.std.specs.Result.{is_ok}
use Rattle.std.specs.Prelude.{◌-◌, ◌==◌, ◌&&◌, ◌||◌, slice_index, IfSome}
use Rattle.std.proofs.lemmas.Bool.{and_parts}
use Rattle.std.proofs.lemmas.List.{length-append, length-drop}
use Rattle.da_io.specs.Faults.{CountsFault}
use Rattle.da_io.specs.Sinks.{WritesAll}
use Rattle.da_wire.specs.declared.frames.Frame.{Frame}
use Rattle.da_wire.specs.declared.frames.FrameError.{FrameError}
use Rattle.da_wire.specs.declared.frames.FrameError.TheVariants.{Truncated, BadKind}
use Rattle.namespace_id.specs.Answers.{Gives}
use Rattle.frame_fields.specs.Fields.{◌>>=◌}
use Rattle.da_wire.specs.declared.briefs.Brief.{Brief}
use Rattle.da_wire.specs.Briefs.{brief_kinds, brief_of, brief_and_rest}
use Rattle.da_wire.specs.Reading.{Raw, is_kind, raw_of, value_of, is_among, tested_raw}
use Rattle.da_wire.specs.Frames.{ok_of}
use Rattle.da_wire.specs.Walks.{walk_from}
use Rattle.da_wire.specs.Values.{value_in, values_of}
use Rattle.da_wire.proofs.WalkLemmas.{walk_on}
use Rattle.da_status.specs.declared.status.Status.{Status}
use Rattle.da_status.specs.declared.status.Status.TheVariants.{Done, NoMemory, WriteFault}
use Rattle.da_status.specs.Statuses.{status_kind}
use Rattle.da_status.specs.Outcome.{Ends}
use Rattle.da_commands.specs.Show.{all_kinds, shown_line, shown_bytes, ShowsFrames}
use Rattle.da_status.proofs.EndLemmas.{IsAnswer, status_answers, ends_output, ends_after}
use Rattle.da_status.proofs.WriteLemmas.{Written}

-- ---- the frames

-- what is shown comes with a complete output
pub shows_answers : (shown : Frame → List ℕ) (frames : List Frame) (w : List ℕ) (status : Status) → ShowsFrames shown frames w status → IsAnswer (status_kind status)
shows_answers shown frames w status shows = status_answers status Done shows.1 tt

-- the next frame's line comes next
pub next_shown : (shown : Frame → List ℕ) (values later : List Frame) (frame : Frame) (text : List ℕ) → values ≡ frame ∷ later → text ≡ shown_line shown frame
    → shown_bytes shown values ≡ text ++ shown_bytes shown later
next_shown shown values later frame text parts is =
    ap (shown_bytes shown) parts ∙ ap (λ (l : List ℕ). l ++ shown_bytes shown later) (sym is)

-- of a frame at least the line feed is shown
shown-some : (shown : Frame → List ℕ) (frame : Frame) (later : List Frame) → 0 < length (shown_bytes shown (frame ∷ later))
shown-some shown frame later =
    omega (arith, length-append (shown_line shown frame) (shown_bytes shown later), length-append (shown frame) (10 ∷ []))

-- of frames of which there is a first one something is shown
pub shown-first : (shown : Frame → List ℕ) (values later : List Frame) (frame : Frame) → values ≡ frame ∷ later → 0 < length (shown_bytes shown values)
shown-first shown values later frame parts = subst (λ (l : List Frame). 0 < length (shown_bytes shown l)) (sym parts) (shown-some shown frame later)

-- the same, by what is found at the front
shown_by : (shown : Frame → List ℕ) (kinds rest : List ℕ) (o : Option (Frame × ℕ)) → IsSome o
    → 0 < length (shown_bytes shown (option_map_or (λ (x : Frame × ℕ). x.0 ∷ walk_from (value_in kinds) (x.1 - 1) rest) o []))
shown_by shown kinds rest None some = absurd cc
shown_by shown kinds rest (Some x) some = shown-some shown x.0 (walk_from (value_in kinds) (x.1 - 1) rest)

-- where a value is found something is shown
pub shown_found : (shown : Frame → List ℕ) (kinds bytes : List ℕ) → IsSome (value_in kinds bytes) → 0 < length (shown_bytes shown (values_of kinds bytes))
unfolding walk_from tested_raw
shown_found shown kinds [] some = absurd cc
shown_found shown kinds (byte ∷ rest) some = shown_by shown kinds rest (value_in kinds (byte ∷ rest)) some

-- ---- what is brief of the frame at the front

-- a kind that is the first of a few, or one of the others, is one of those among which all of these are
among_by : (b : Bool) (k kind : ℕ) (few many : List ℕ) → (k == kind) ≡ b → is_among many k ≡ true → (is_among few kind ≡ true → is_among many kind ≡ true)
    → (b || is_among few kind) ≡ true → is_among many kind ≡ true
among_by true k kind few many is first later e = subst (λ (n : ℕ). is_among many n ≡ true) (eqb-true k kind is) first
among_by false k kind few many is first later e = later e

-- a kind that is one of a few is one of those among which all of these are
among_wider : (few many : List ℕ) (kind : ℕ) → list_all (is_among many) few ≡ true → is_among few kind ≡ true → is_among many kind ≡ true
among_wider [] many kind all e = absurd cc
among_wider (k ∷ few) many kind all e =
    let parts = and_parts (is_among many k) (list_all (is_among many) few) all in
    among_by (k == kind) k kind few many refl parts.0 (among_wider few many kind parts.1) e

-- what passes a test passes one that more kinds pass
wider : (short there narrow wide : Bool) (read : Result Raw FrameError) (e f : FrameError) (x : Frame × ℕ) → (narrow ≡ true → wide ≡ true)
    → ok_of (value_of 0 (cond short (Err e) (cond (there && narrow) read (Err f)))) ≡ Some x
    → ok_of (value_of 0 (cond short (Err e) (cond (there && wide) read (Err f)))) ≡ Some x
wider true there narrow wide read e f x more h = h
wider false false narrow wide read e f x more h = h
wider false true false wide read e f x more h = absurd cc
wider false true true wide read e f x more h =
    subst (λ (w : Bool). ok_of (value_of 0 (cond w read (Err f))) ≡ Some x) (sym (more refl)) h

-- a value of these kinds that is found is found among all kinds
brief_found : (bytes : List ℕ) (x : Frame × ℕ) → value_in brief_kinds bytes ≡ Some x → value_in all_kinds bytes ≡ Some x
unfolding tested_raw
brief_found bytes x h =
    let kind : ℕ = slice_index bytes 0 in
    wider (length bytes == 0) (is_kind kind) (is_among brief_kinds kind) (is_among all_kinds kind) (raw_of 0 bytes) (Truncated 0) (BadKind 0) x
    (among_wider brief_kinds all_kinds kind refl) h

-- a value of which this is brief, and the first of all
abbrev pub IsFirstBrief : List ℕ → List ℕ → Brief → Frame → Type 0
IsFirstBrief bytes more brief value =
    (brief_of value ≡ Some brief) × (values_of all_kinds bytes ≡ value ∷ values_of all_kinds more)

-- what comes of a value at the front, and its length
abbrev after_front : List ℕ → Option (Frame × ℕ) → Option (Brief × List ℕ)
after_front bytes found =
    ◌>>=◌ {A = Frame × List ℕ} (option_map (λ x. (x.0, drop x.1 bytes)) found) (λ v. option_map (λ b. (b, v.1)) (brief_of v.0))

module _ (bytes more : List ℕ) (brief : Brief) (shorter : length more < length bytes) where
  -- by what is brief of the value that is found at the front
  first_by : (x : Frame × ℕ) (o : Option Brief) → value_in brief_kinds bytes ≡ Some x → brief_of x.0 ≡ o
      → ◌≡◌ {A = Option (Brief × List ℕ)} (option_map (λ (b : Brief). (b, drop x.1 bytes)) o) (Some (brief, more))
      → (value : Frame) × IsFirstBrief bytes more brief value
  first_by x None at is e = absurd cc
  first_by x (Some b) at is e =
      let same : b ≡ brief = ap (λ (o : Option (Brief × List ℕ)). option_map_or (λ (y : Brief × List ℕ). y.0) o brief) e in
      let rest : drop x.1 bytes ≡ more = ap (λ (o : Option (Brief × List ℕ)). option_map_or (λ (y : Brief × List ℕ). y.1) o more) e in
      let left : length (drop x.1 bytes) ≡ length more = ap (λ (l : List ℕ). length l) rest in
      let some : 0 < x.1 = omega (arith, length-drop x.1 bytes, left, shorter) in
      let later = walk_on (value_in all_kinds) bytes x.0 x.1 (brief_found bytes x at) some (omega (arith, shorter)) in
      (x.0, (is ∙ ap (λ (c : Brief). Some c) same, later ∙ ap (λ (l : List ℕ). x.0 ∷ values_of all_kinds l) rest))

  -- by the value that is found at the front
  front_by : (o : Option (Frame × ℕ)) → value_in brief_kinds bytes ≡ o → after_front bytes o ≡ Some (brief, more) → (value : Frame) × IsFirstBrief bytes more brief value
  front_by None at e = absurd cc
  front_by (Some x) at e = first_by x (brief_of x.0) at refl e

  -- what is found at the front is brief of the first frame
  brief_first : brief_and_rest bytes ≡ Some (brief, more) → (value : Frame) × IsFirstBrief bytes more brief value
  brief_first e = front_by (value_in brief_kinds bytes) refl e

-- the same of what a call answered
pub brief_front : (bytes : List ℕ) (found : Option (Brief × Bor (List ℕ))) (brief : Brief) (more : Bor (List ℕ)) → found ≡ Some (brief, more)
    → Gives (λ (x : Brief × Bor (List ℕ)). (x.0, x.1.now)) found (brief_and_rest bytes)
    → IfSome found (λ (x : Brief × Bor (List ℕ)). length x.1.now < length bytes)
    → (value : Frame) × IsFirstBrief bytes more.now brief value
brief_front bytes found brief more is after shorter =
    let front : brief_and_rest bytes ≡ Some (brief, more.now) =
    subst (λ (o : Option (Brief × Bor (List ℕ))). Gives (λ (x : Brief × Bor (List ℕ)). (x.0, x.1.now)) o (brief_and_rest bytes)) is after in
    let less : length more.now < length bytes =
    subst (λ (o : Option (Brief × Bor (List ℕ))). IfSome o (λ (x : Brief × Bor (List ℕ)). length x.1.now < length bytes)) is shorter in
    brief_first bytes more.now brief less front

-- where something is found at the front, so is a value
some_by : (bytes : List ℕ) (o : Option (Frame × ℕ)) → value_in brief_kinds bytes ≡ o → IsSome (after_front bytes o) → IsSome (value_in all_kinds bytes)
some_by bytes None at some = absurd cc
some_by bytes (Some x) at some = subst (λ (o : Option (Frame × ℕ)). IsSome o) (sym (brief_found bytes x at)) refl

pub brief_some : (bytes : List ℕ) → IsSome (brief_and_rest bytes) → IsSome (value_in all_kinds bytes)
brief_some bytes some = some_by bytes (value_in brief_kinds bytes) refl some

-- ---- endings

module _ (shown : Frame → List ℕ) (frames : List Frame) (old new : Option (List ℕ)) (before now : ℕ) (Same : Type 0) where
  -- all frames were shown
  pub shows_done : (rest : List Frame) → Written old new (shown_bytes shown frames) (shown_bytes shown rest) → rest ≡ [] → now ≡ before → (IsSome old ↔ IsSome new)
      → Ends (ShowsFrames shown frames) old new before now Same Done
  shows_done rest w none counted told =
      let whole : shown_bytes shown frames ≡ w.0 = w.2 ∙ ap (λ (l : List Frame). w.0 ++ shown_bytes shown l) none ∙ append-nil w.0 in
      ends_output (ShowsFrames shown frames) w.0 Done old new before now Same refl (sym whole, refl) w.1 counted told

  -- memory ran out before the next frame was shown
  pub shows_memory : (rest : List ℕ) → Written old new (shown_bytes shown frames) rest → 0 < length rest → now ≡ before → (IsSome old ↔ IsSome new)
      → Ends (ShowsFrames shown frames) old new before now Same NoMemory
  shows_memory rest w more counted told = record {
    leaves = (w.0, w.1, inr (shown_bytes shown frames, Done, (refl, refl), (rest, more, w.2)));
    faults = counted;
    told = told;
    untouched = tt;
    own = tt;
  }

module _ (shown : Frame → List ℕ) (frames : List Frame) (old mid new : Option (List ℕ)) (before now later : ℕ) (Same : Type 0) (held rest : List ℕ) where
  -- what was held was given to the output, and then the run ended
  pub shows_after : {T E : Type 0} (wrote : Result T E) (status : Status) → Written old mid (shown_bytes shown frames) (held ++ rest) → now ≡ before
      → (IsSome old ↔ IsSome mid) → (IsSome mid ↔ IsSome new) → WritesAll mid new held wrote → CountsFault now later wrote
      → (Written old new (shown_bytes shown frames) rest → later ≡ before → (IsSome old ↔ IsSome new) → Ends (ShowsFrames shown frames) old new before later Same status)
      → Ends (ShowsFrames shown frames) old new before later Same (cond (is_ok wrote) status WriteFault)
  shows_after wrote status w counted told also taken faults ends =
      let both : IsSome old ↔ IsSome new = (λ s. also.0 (told.0 s), λ s. told.1 (also.1 s)) in
      ends_after (ShowsFrames shown frames) (shown_bytes shown frames) rest held Done old mid new before now later Same wrote status (refl, refl) w counted both taken faults
      (λ v counts. ends v counts both)
