-- Readers of one kind: what stands at the front, and the one frame that all of the bytes are.
use Rattle.std.proofs.Common.{◌≡◌, ◌∙◌, ℕ, ◌+◌, ◌-◌, ◌≤◌, Bool, true, false, eqb, ltb, ◌&&◌, cond, List, [], ◌∷◌, length, take, drop, Option, None, Some, Result, Ok, Err, refl, sym, ap, arith, le-ltb}
use Rattle.std.specs.Prelude.{⊤, slice_index}
use Rattle.std.specs.Option.{option_map, option_map_or}
use Rattle.std.proofs.lemmas.List.{take_rest}
use Rattle.da_wire.specs.declared.frames.Frame.{Frame}
use Rattle.da_wire.specs.declared.frames.FrameError.{FrameError}
use Rattle.da_wire.specs.declared.frames.FrameError.TheVariants.{Truncated, BadKind, TooLong, BadPayload, Trailing, NoMemory}
use Rattle.frame_payloads.specs.Payloads.{max_payload}
use Rattle.da_wire.specs.Reading.{Raw, promised, raw_of, is_kind, value_at, valued, value_of, is_among, tested_raw, tested_frame, ended, only_of}
use Rattle.da_wire.specs.Values.{value_in, value_and_rest, values_of}
use Rattle.da_wire.specs.Single.{single, of_payload}
use Rattle.da_wire.proofs.RawLemmas.{frame_at}
use Rattle.da_wire.proofs.ValueListLemmas.{held_front}
use Rattle.da_wire.proofs.WalkLemmas.{walk_on, walk_stop}
use Rattle.da_wire.proofs.KindLemmas.{one_kind}

-- ---- what stands at the front

module _ (kind : ℕ) (bytes : List ℕ) (f : Raw) (front : tested_raw (is_among (kind ∷ [])) 0 bytes ≡ Ok f) where
  -- the bytes after the frame
  abbrev rest : List ℕ
  rest = take (length bytes - f.size) (drop f.size bytes)

  -- the value of a frame of the kind, and its length
  kind_front : value_in (kind ∷ []) bytes ≡ option_map (λ (v : Frame). (v, f.size)) (value_at kind f.payload)
  kind_front =
      held_front (kind ∷ []) bytes f front ∙ ap (λ (k : ℕ). option_map (λ (v : Frame). (v, f.size)) (value_at k f.payload)) (one_kind kind bytes f front)

  -- the value at the front, if there is one, and the bytes after it
  after_by : (o : Option Frame) → value_in (kind ∷ []) bytes ≡ option_map (λ (v : Frame). (v, f.size)) o → value_and_rest (kind ∷ []) bytes ≡ option_map (λ (v : Frame). (v, rest)) o
  after_by None e = ap (option_map (λ (x : Frame × ℕ). (x.0, drop x.1 bytes))) e
  after_by (Some v) e = ap (option_map (λ (x : Frame × ℕ). (x.0, drop x.1 bytes))) e ∙ ap (λ (l : List ℕ). Some (v, l)) (sym (take_rest bytes f.size))

  pub front_after : value_and_rest (kind ∷ []) bytes ≡ option_map (λ (v : Frame). (v, rest)) (value_at kind f.payload)
  front_after = after_by (value_at kind f.payload) kind_front

  -- the value at the front, if there is one, and those after it
  values_by : (o : Option Frame) → value_in (kind ∷ []) bytes ≡ option_map (λ (v : Frame). (v, f.size)) o → 5 ≤ f.size → f.size ≤ length bytes
      → values_of (kind ∷ []) bytes ≡ option_map_or (λ (v : Frame). v ∷ values_of (kind ∷ []) rest) o []
  values_by None e five within = walk_stop (value_in (kind ∷ [])) bytes e
  values_by (Some v) e five within =
      walk_on (value_in (kind ∷ [])) bytes v f.size e (omega (arith, five)) (omega (arith, five, within))
      ∙ ap (λ (l : List ℕ). v ∷ values_of (kind ∷ []) l) (sym (take_rest bytes f.size))

  pub front_values : 5 ≤ f.size → f.size ≤ length bytes
      → values_of (kind ∷ []) bytes ≡ option_map_or (λ (v : Frame). v ∷ values_of (kind ∷ []) rest) (value_at kind f.payload) []
  front_values five within = values_by (value_at kind f.payload) kind_front five within

-- ---- the one frame that all of the bytes are

-- a frame that ends no earlier than the bytes is all of them
whole : (size : ℕ) (f : Raw) (o : Option Frame) → size ≤ f.size → ended size (valued 0 f o) ≡ option_map_or Ok o (Err (BadPayload 0))
whole size f None h = refl
whole size f (Some v) h = ap (λ (b : Bool). cond b (Err (Trailing (0 + f.size))) (Ok v)) (le-ltb (0 + f.size) size (omega (arith, h)))

-- what is read of the one frame of a kind is what its payload holds
pub only_is : (kind : ℕ) (bytes : List ℕ) (f : Raw) → tested_raw (is_among (kind ∷ [])) 0 bytes ≡ Ok f → length bytes ≤ f.size
    → only_of bytes (kind ∷ []) ≡ of_payload kind f.payload
only_is kind bytes f e h =
    ap (λ (r : Result Raw FrameError). ended (length bytes) (value_of 0 r)) e
    ∙ ap (λ (k : ℕ). ended (length bytes) (valued 0 f (value_at k f.payload))) (one_kind kind bytes f e)
    ∙ whole (length bytes) f (value_at kind f.payload) h

-- ---- no refusal is being out of memory

-- an answer that is not out of memory
abbrev pub IsNotFull : {X : Type 0} → Result X FrameError → Type 0
IsNotFull (Ok x) = ⊤
IsNotFull (Err e) = e ≡ NoMemory → ⊥

-- what is read of the framing
framing : (a b c : Bool) (f : Raw) → IsNotFull (cond a (Err (Truncated 0)) (cond b (Err (TooLong 0)) (cond c (Err (Truncated 0)) (Ok f))))
framing true b c f = λ e. cc
framing false true c f = λ e. cc
framing false false true f = λ e. cc
framing false false false f = tt

-- what is read behind the test of a kind
behind_test : (none passes : Bool) (read : Result Raw FrameError) → IsNotFull read → IsNotFull (cond none (Err (Truncated 0)) (cond passes read (Err (BadKind 0))))
behind_test true passes read h = λ e. cc
behind_test false true read h = h
behind_test false false read h = λ e. cc

-- what is read of a payload
valued_by : (f : Raw) (o : Option Frame) → IsNotFull (valued 0 f o)
valued_by f None = λ e. cc
valued_by f (Some v) = tt

-- what is read of a frame
of_frame : (r : Result Raw FrameError) → IsNotFull r → IsNotFull (value_of 0 r)
of_frame (Err e) h = h
of_frame (Ok f) h = valued_by f (value_at f.kind f.payload)

-- what is read of a frame with nothing behind it
behind : (b : Bool) (at : ℕ) (value : Frame) → IsNotFull {X = Frame} (cond b (Err (Trailing at)) (Ok value))
behind true at value = λ e. cc
behind false at value = tt

-- what is read of all of the bytes
of_all : (size : ℕ) (r : Result (Frame × ℕ) FrameError) → IsNotFull r → IsNotFull (ended size r)
of_all size (Err e) h = h
of_all size (Ok x) h = behind (ltb x.1 size) x.1 x.0

-- what is read of one frame
pub only_not_full : (bytes kinds : List ℕ) → IsNotFull (only_of bytes kinds)
unfolding raw_of tested_raw
only_not_full bytes kinds =
    let first : ℕ = slice_index bytes 0 in
    of_all (length bytes) (tested_frame (is_among kinds) 0 bytes)
    (of_frame (tested_raw (is_among kinds) 0 bytes)
    (behind_test (eqb (length bytes) 0) (is_kind first && is_among kinds first) (raw_of 0 bytes)
    (framing (ltb (length bytes) 5) (ltb max_payload (promised bytes)) (ltb (length bytes) (5 + promised bytes)) (frame_at bytes))))

-- what is read of a frame's value
value_by : {A : Type 0} (o : Option A) → IsNotFull (option_map_or Ok o (Err (BadKind 0)))
value_by None = λ e. cc
value_by (Some a) = tt

-- what is read of one frame of a kind
pub single_not_full : {A : Type 0} (value : Frame → Option A) (read : Result Frame FrameError) → IsNotFull read → IsNotFull (single value read)
single_not_full value (Err e) h = h
single_not_full value (Ok frame) h = value_by (value frame)
