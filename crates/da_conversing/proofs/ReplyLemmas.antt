-- Replies to requests of one kind, and what the command writes that answers a file of them.
use Rattle.std.proofs.Common.{◌≡◌, ◌∙◌, ℕ, zero, suc, ◌-◌, Bool, true, false, cond, List, [], ◌∷◌, Option, Some, None, IsSome, Ok, refl, sym, ap, subst, eqb, eqb-true, length, arith}
use Rattle.std.specs.Prelude.{slice_index, ⊤}
use Rattle.std.specs.Option.{option_map, option_map_or}
use Rattle.std.specs.List.{AllByRecursion, filter_map, cons_option}
use Rattle.std.proofs.lemmas.Option.{same_Some, none-some}
use Rattle.std.proofs.Math.Bool.{or-false}
use Rattle.da_wire.specs.declared.frames.Frame.{Frame}
use Rattle.da_wire.specs.declared.frames.FrameError.TheVariants.{Truncated, BadKind}
use Rattle.da_wire.specs.Spelling.{spelling}
use Rattle.da_wire.specs.Reading.{Raw, is_kind, is_among, raw_of, value_at, tested_raw, tested_frame}
use Rattle.da_wire.specs.Frames.{raw_in, frames_of}
use Rattle.da_wire.specs.Values.{value_in, values_of, bad_value}
use Rattle.da_wire.specs.Walks.{walk_from, stop_from}
use Rattle.da_wire.proofs.RawLemmas.{ok_some}
use Rattle.da_wire.proofs.FrameLemmas.{tests_held, raw_some}
use Rattle.da_wire.proofs.KindLemmas.{tested_kind}
use Rattle.da_wire.proofs.FrameListLemmas.{raw_found}
use Rattle.da_serving.specs.Choices.{FramesOf}
use Rattle.da_talk.specs.Replies.{replies_from, due}

-- ---- values, and the frames whose values they are

-- frames of these kinds that have these values, in the same order
abbrev pub AreValues : List ℕ → List Raw → List Frame → Type 0
AreValues kinds [] [] = ⊤
AreValues kinds [] (value ∷ values) = ⊥
AreValues kinds (raw ∷ frames) [] = ⊥
AreValues kinds (raw ∷ frames) (value ∷ values) =
    (value_at raw.kind raw.payload ≡ Some value) × (is_among kinds raw.kind ≡ true) × AreValues kinds frames values

-- where a value is found, the frame is found that has it
value_raw : (kinds bytes : List ℕ) (value : Frame) (size : ℕ) → value_in kinds bytes ≡ Some (value, size)
    → (raw : Raw) × (raw_in bytes ≡ Some (raw, size)) × (value_at raw.kind raw.payload ≡ Some value) × (is_among kinds raw.kind ≡ true)
unfolding tested_raw
value_raw kinds bytes value size e =
    let first : ℕ = slice_index bytes 0 in
    let r = raw_some 0 (tested_raw (is_among kinds) 0 bytes) value size (ok_some (tested_frame (is_among kinds) 0 bytes) (value, size) e) in
    let raw : Raw = r.0 in
    let read : raw_of 0 bytes ≡ Ok raw =
    (tests_held (eqb (length bytes) 0) (is_kind first) (is_among kinds first) (Truncated 0) (BadKind 0) (raw_of 0 bytes) raw r.1).1 in
    let all : raw.size ≡ size = omega (arith, r.3) in
    (raw, raw_found 0 bytes raw read ∙ ap (λ (n : ℕ). Some (raw, n)) all, r.2, tested_kind (is_among kinds) 0 bytes raw r.1)

-- by what stands at the front
values_here : (kinds : List ℕ) (at byte : ℕ) (bytes : List ℕ) (o : Option (Frame × ℕ)) → value_in kinds (byte ∷ bytes) ≡ o
    → ((skip next : ℕ) → stop_from (value_in kinds) skip next bytes ≡ None → AreValues kinds (walk_from raw_in skip bytes) (walk_from (value_in kinds) skip bytes))
    → stop_from (value_in kinds) 0 at (byte ∷ bytes) ≡ None
    → AreValues kinds (walk_from raw_in 0 (byte ∷ bytes)) (walk_from (value_in kinds) 0 (byte ∷ bytes))
unfolding walk_from stop_from
values_here kinds at byte bytes None e on none =
    let bad : stop_from (value_in kinds) 0 at (byte ∷ bytes) ≡ Some at =
    ap (λ (o : Option (Frame × ℕ)). option_map_or (λ x. stop_from (value_in kinds) (x.1 - 1) (suc at) bytes) o (Some at)) e in
    absurd (none-some at (sym none ∙ bad))
values_here kinds at byte bytes (Some x) e on none =
    let raw = value_raw kinds (byte ∷ bytes) x.0 x.1 e in
    let stop : stop_from (value_in kinds) 0 at (byte ∷ bytes) ≡ stop_from (value_in kinds) (x.1 - 1) (suc at) bytes =
    ap (λ (o : Option (Frame × ℕ)). option_map_or (λ y. stop_from (value_in kinds) (y.1 - 1) (suc at) bytes) o (Some at)) e in
    let values : walk_from (value_in kinds) 0 (byte ∷ bytes) ≡ x.0 ∷ walk_from (value_in kinds) (x.1 - 1) bytes =
    ap (λ (o : Option (Frame × ℕ)). option_map_or (λ y. y.0 ∷ walk_from (value_in kinds) (y.1 - 1) bytes) o []) e in
    let frames : walk_from raw_in 0 (byte ∷ bytes) ≡ raw.0 ∷ walk_from raw_in (x.1 - 1) bytes =
    ap (λ (o : Option (Raw × ℕ)). option_map_or (λ y. y.0 ∷ walk_from raw_in (y.1 - 1) bytes) o []) raw.1 in
    subst (λ (fs : List Raw). AreValues kinds fs (walk_from (value_in kinds) 0 (byte ∷ bytes))) (sym frames)
    (subst (λ (vs : List Frame). AreValues kinds (raw.0 ∷ walk_from raw_in (x.1 - 1) bytes) vs) (sym values)
    (raw.2, raw.3, on (x.1 - 1) (suc at) (sym stop ∙ none)))

-- in a file that is a list of such values
are_values : (kinds : List ℕ) (skip at : ℕ) (bytes : List ℕ) → stop_from (value_in kinds) skip at bytes ≡ None
    → AreValues kinds (walk_from raw_in skip bytes) (walk_from (value_in kinds) skip bytes)
unfolding walk_from stop_from
are_values kinds skip at [] none = tt
are_values kinds (suc skip) at (byte ∷ bytes) none = are_values kinds skip (suc at) bytes none
are_values kinds zero at (byte ∷ bytes) none =
    values_here kinds at byte bytes (value_in kinds (byte ∷ bytes)) refl (λ skip next stop. are_values kinds skip next bytes stop) none

-- ---- requests of one kind

module _ {A : Type 0} (Allows : A → Frame → Type 0) (request_of : Frame → Option A) (Good : A → Type 0) (kinds : List ℕ) (answer : ℕ → Raw → List ℕ) where
  -- the reply to a request is the spelling of a frame that it allows
  pub record IsTold (raw : Raw) (value : Frame) : Type 0 where
    pub request : A
    pub asks : request_of value ≡ Some request
    pub told : (number : ℕ) → Good request → (frame : Frame) × Allows request frame × (spelling frame ≡ Some (answer number raw))

  -- so it is for each frame of these kinds
  abbrev pub TellsEach : Type 0
  TellsEach = (raw : Raw) (value : Frame) → value_at raw.kind raw.payload ≡ Some value → is_among kinds raw.kind ≡ true → IsTold raw value

  -- the replies to frames that are all requests
  told_all : TellsEach → (frames : List Raw) (values : List Frame) (number : ℕ) → AreValues kinds frames values → AllByRecursion Good (filter_map request_of values)
      → FramesOf Allows (filter_map request_of values) (replies_from answer number frames)
  unfolding FramesOf
  told_all each [] [] number are good = refl
  told_all each [] (value ∷ values) number are good = absurd are
  told_all each (raw ∷ frames) [] number are good = absurd are
  told_all each (raw ∷ frames) (value ∷ values) number are good =
      let one = each raw value are.0 are.1 in
      let later : List A = filter_map request_of values in
      let parts : filter_map request_of (value ∷ values) ≡ one.request ∷ later = ap (λ (o : Option A). cons_option o later) one.asks in
      let goods : AllByRecursion Good (one.request ∷ later) = subst (AllByRecursion Good) parts good in
      let frame = one.told number goods.0 in
      subst (λ (requests : List A). FramesOf Allows requests (replies_from answer number (raw ∷ frames))) (sym parts)
      (frame.0, answer number raw, replies_from answer (suc number) frames, frame.1, frame.2, refl, told_all each frames values (suc number) are.2 goods.1)

  -- the replies to the bytes of a file of requests
  pub told_due : TellsEach → (bytes : List ℕ) → bad_value kinds bytes ≡ None → AllByRecursion Good (filter_map request_of (values_of kinds bytes))
      → FramesOf Allows (filter_map request_of (values_of kinds bytes)) (due answer bytes)
  told_due each bytes none good = told_all each (frames_of bytes) (values_of kinds bytes) 0 (are_values kinds 0 0 bytes none) good

-- ---- spellings

-- what has a spelling is spelled so
pub spelled_so : (none long : Bool) (text : List ℕ) → IsSome (cond none None (cond long None (Some text))) → cond none None (cond long None (Some text)) ≡ Some text
spelled_so true long text some = absurd cc
spelled_so false true text some = absurd cc
spelled_so false false text some = refl

-- the value behind a map
pub mapped : {A B : Type 0} (make : A → B) (o : Option A) (made : B) → option_map make o ≡ Some made → (value : A) × (o ≡ Some value) × (made ≡ make value)
mapped make None made e = absurd cc
mapped make (Some value) made e = (value, refl, sym (same_Some (make value) made e))

-- a frame of one kind is of it
pub of_kind : (kind other : ℕ) → is_among (kind ∷ []) other ≡ true → other ≡ kind
of_kind kind other e = sym (eqb-true kind other (sym (or-false (eqb kind other)) ∙ e))
