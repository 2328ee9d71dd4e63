-- A frame that is read is what the bytes at the front spell, and a frame that was written is read.
use Rattle.std.proofs.Common.{◌≡◌, ◌∙◌, ℕ, zero, suc, ◌+◌, ◌<◌, ◌≤◌, Bool, false, cond, List, [], ◌∷◌, ◌++◌, length, take, drop, Some, Result, Ok, Err, refl, sym, ap, ap₂, subst, arith, length-take-le, ltb-false, le-ltb, lt-ltb, get_or}
use Rattle.std.specs.Int.{w32, to_be_bytes, from_be_bytes}
use Rattle.std.specs.Prelude.{slice_index}
use Rattle.std.proofs.lemmas.List.{take_at, take-append-drop, length-append, length-drop, take-take, take-append-le, drop-append-le}
use Rattle.std.proofs.lemmas.Option.{same_Some}
use Rattle.std.proofs.Math.Seq.{take-nil}
use Rattle.namespace_id.specs.Bytes.{AreBytes}
use Rattle.namespace_id.proofs.StringLemmas.{AreBytes-take, AreBytes-drop}
use Rattle.da_wire.specs.declared.frames.FrameError.TheVariants.{Truncated, TooLong}
use Rattle.da_wire.specs.Spelling.{frame}
use Rattle.frame_payloads.specs.Payloads.{max_payload}
use Rattle.da_wire.specs.Reading.{Raw, promised, raw_of}
use Rattle.da_wire.specs.Frames.{ok_of, IsRaw}
use Rattle.frame_payloads.proofs.Fields.Numbers.{wide32}
use Rattle.frame_payloads.proofs.Fields.Strings.{AreBytes-rest}

-- what a reader gave that did not refuse
pub ok_some : {A E : Type 0} (r : Result A E) (x : A) → ok_of r ≡ Some x → r ≡ Ok x
ok_some (Ok y) x e = ap (λ z. Ok z) (same_Some y x e)
ok_some (Err why) x e = absurd cc

-- ---- three tests that must fail

-- where a frame is answered, none of the three refusals held
pub tests_failed : {A E : Type 0} (a b c : Bool) (x y z : E) (w v : A) → ◌≡◌ {A = Result A E} (cond a (Err x) (cond b (Err y) (cond c (Err z) (Ok w)))) (Ok v)
    → (a ≡ false) × (b ≡ false) × (c ≡ false) × (w ≡ v)
tests_failed false false false x y z w v e = (refl, refl, refl, cc)
tests_failed a b c x y z w v e = absurd cc

-- fewer than five bytes are no frame
pub raw_short : (at : ℕ) (bytes : List ℕ) → length bytes < 5 → raw_of at bytes ≡ Err (Truncated at)
unfolding raw_of
raw_short at bytes h = rw (lt-ltb (length bytes) 5 h) refl

-- a length above the limit is none
pub raw_long : (at : ℕ) (bytes : List ℕ) → 5 ≤ length bytes → max_payload < promised bytes → raw_of at bytes ≡ Err (TooLong at)
unfolding raw_of
raw_long at bytes h k = rw (le-ltb (length bytes) 5 h, lt-ltb max_payload (promised bytes) k) refl

-- a payload that isn't all there is none
pub raw_cut : (at : ℕ) (bytes : List ℕ) → 5 ≤ length bytes → promised bytes ≤ max_payload → length bytes < 5 + promised bytes → raw_of at bytes ≡ Err (Truncated at)
unfolding raw_of
raw_cut at bytes h k l = rw (le-ltb (length bytes) 5 h, le-ltb max_payload (promised bytes) k, lt-ltb (length bytes) (5 + promised bytes) l) refl

-- the frame that the bytes at the front are
abbrev pub frame_at : List ℕ → Raw
frame_at bytes = record { kind = get_or bytes 0 0; payload = take (promised bytes) (drop 5 bytes); size = 5 + promised bytes }

-- bytes that hold the payload that their head states are a frame, whatever follows
pub raw_whole : (at : ℕ) (bytes : List ℕ) → promised bytes ≤ max_payload → 5 + promised bytes ≤ length bytes → raw_of at bytes ≡ Ok (frame_at bytes)
unfolding raw_of
raw_whole at bytes k l =
    rw (le-ltb (length bytes) 5 (omega (arith, l)), le-ltb max_payload (promised bytes) k, le-ltb (length bytes) (5 + promised bytes) l) refl

-- and no other bytes are one
raw_is : (at : ℕ) (bytes : List ℕ) (f : Raw) → raw_of at bytes ≡ Ok f → (promised bytes ≤ max_payload) × (5 + promised bytes ≤ length bytes) × (frame_at bytes ≡ f)
unfolding raw_of
raw_is at bytes f e =
    let t = tests_failed _ _ _ _ _ _ _ f e in
    (ltb-false _ _ t.1, ltb-false _ _ t.2, t.3)

-- ---- written

-- the frame whose payload is at the front of these bytes
abbrev raw : ℕ → ℕ → List ℕ → Raw
raw kind size behind = record { kind = kind; payload = take size behind; size = 5 + size }

-- the frame of any kind that has this payload
abbrev framed : ℕ → List ℕ → Raw
framed kind payload = record { kind = kind; payload = payload; size = 5 + length payload }

-- a frame has five bytes more than its payload
pub length-frame : (kind : ℕ) (payload : List ℕ) → length (frame kind payload) ≡ 5 + length payload
length-frame kind payload =
    let four : length (to_be_bytes w32 (length payload)) ≡ 4 = refl in
    omega (arith, length-append (to_be_bytes w32 (length payload)) payload, four)

-- a frame whose payload is within the limit is read, whatever follows it
pub raw_again : (at kind : ℕ) (payload rest : List ℕ) → length payload ≤ max_payload → raw_of at (frame kind payload ++ rest) ≡ Ok (framed kind payload)
raw_again at kind payload rest few =
    let bytes : List ℕ = frame kind payload ++ rest in
    let size : promised bytes ≡ length payload = wide32.again (length payload) (omega (arith, few)) in
    let len : length bytes ≡ 5 + length payload + length rest = omega (arith, length-append (frame kind payload) rest, length-frame kind payload) in
    raw_whole at bytes (omega (arith, size, few)) (omega (arith, size, len))
    ∙ ap (λ (n : ℕ). Ok (raw kind n (payload ++ rest))) size
    ∙ ap (λ (l : List ℕ). Ok (record { kind = kind; payload = l; size = 5 + length payload })) (take_at payload rest (length payload) refl)

-- ---- read

-- the frame at the front of bytes, and the bytes after it
pub record IsRawFront (bytes : List ℕ) (f : Raw) : Type 0 where
  pub rest : List ℕ
  pub parts : bytes ≡ frame f.kind f.payload ++ rest
  pub is : IsRaw f
  pub payload_fits : AreBytes f.payload
  pub rest_fits : AreBytes rest

-- a length in four bytes and so many bytes
sized : (after : List ℕ) (n : ℕ) → AreBytes after → 4 + n ≤ length after → n ≡ from_be_bytes w32 (take 4 after)
    → (length (take n (drop 4 after)) ≡ n) × (after ≡ to_be_bytes w32 (length (take n (drop 4 after))) ++ take n (drop 4 after) ++ drop n (drop 4 after))
sized after n fits long is =
    let front : length (take 4 after) ≡ 4 = length-take-le 4 after (omega arith) in
    let len : length (take n (drop 4 after)) ≡ n = length-take-le n (drop 4 after) (omega (arith, length-drop 4 after)) in
    let spelled : to_be_bytes w32 (length (take n (drop 4 after))) ≡ take 4 after = ap (to_be_bytes w32) (len ∙ is) ∙ wide32.back (take 4 after) front (AreBytes-take 4 after fits) in
    let behind : take n (drop 4 after) ++ drop n (drop 4 after) ≡ drop 4 after = take-append-drop n (drop 4 after) in
    let both : to_be_bytes w32 (length (take n (drop 4 after))) ++ take n (drop 4 after) ++ drop n (drop 4 after) ≡ take 4 after ++ drop 4 after =
    ap₂ (λ (x y : List ℕ). x ++ y) spelled behind in
    let all : take 4 after ++ drop 4 after ≡ after = take-append-drop 4 after in
    (len, sym (both ∙ all))

-- bytes that begin with a kind, a length within the limit and so many bytes begin with a frame
raw_front : (kind : ℕ) (after : List ℕ) (n : ℕ) → AreBytes (kind ∷ after) → n ≤ max_payload → 5 + n ≤ length (kind ∷ after) → n ≡ from_be_bytes w32 (take 4 after)
    → IsRawFront (kind ∷ after) (raw kind n (drop 4 after))
raw_front kind after n fits few long is =
    let after_fits : AreBytes after = AreBytes-rest kind after fits in
    let behind_fits : AreBytes (drop 4 after) = AreBytes-drop 4 after after_fits in
    let s = sized after n after_fits (omega arith) is in
    let len : length (take n (drop 4 after)) ≡ n = s.0 in
    record {
      rest = drop n (drop 4 after);
      parts = ap (λ (l : List ℕ). kind ∷ l) s.1;
      is = record { kind = fits 0; payload = omega (arith, len); size = omega (arith, len) };
      payload_fits = AreBytes-take n (drop 4 after) behind_fits;
      rest_fits = AreBytes-drop n (drop 4 after) behind_fits;
    }

-- bytes at whose front a frame of any kind is read begin with its bytes
pub raw_takes : (at : ℕ) (bytes : List ℕ) (f : Raw) → AreBytes bytes → raw_of at bytes ≡ Ok f → IsRawFront bytes f
raw_takes at [] f fits e = let long = (raw_is at [] f e).1 in absurd (omega (arith, long))
raw_takes at (kind ∷ after) f fits e =
    let r = raw_is at (kind ∷ after) f e in
    subst (λ (g : Raw). IsRawFront (kind ∷ after) g) r.2 (raw_front kind after (promised (kind ∷ after)) fits r.0 r.1 refl)

-- the kind of a frame is its first byte
pub raw_first : (at : ℕ) (bytes : List ℕ) (f : Raw) → raw_of at bytes ≡ Ok f → slice_index bytes 0 ≡ f.kind
raw_first at bytes f e = ap (λ (g : Raw). g.kind) (raw_is at bytes f e).2

-- ---- bytes after a frame, and bytes that are none

-- the length that a head states is that of any front of five bytes
pub promised-take : (n : ℕ) (bytes : List ℕ) → 5 ≤ n → promised (take n bytes) ≡ promised bytes
promised-take n [] h = ap promised (take-nil n)
promised-take zero (b ∷ bytes) h = absurd (omega arith)
promised-take (suc n) (b ∷ bytes) h = ap (from_be_bytes w32) (take-take 4 n bytes (omega arith))

-- bytes that follow change nothing of the length that a head states
pub promised-append : (bytes more : List ℕ) → 5 ≤ length bytes → promised (bytes ++ more) ≡ promised bytes
promised-append [] more h = absurd (omega arith)
promised-append (b ∷ bytes) more h = ap (from_be_bytes w32) (take-append-le 4 bytes more (omega arith))

-- the first bytes of all are the frame at the front
frame_at-append : (bytes more : List ℕ) → 5 + promised bytes ≤ length bytes → frame_at (bytes ++ more) ≡ frame_at bytes
frame_at-append [] more h = absurd (omega arith)
frame_at-append (b ∷ bytes) more h =
    let same : promised (b ∷ bytes ++ more) ≡ promised (b ∷ bytes) = promised-append (b ∷ bytes) more (omega (arith, h)) in
    let payload : take (promised (b ∷ bytes)) (drop 4 (bytes ++ more)) ≡ take (promised (b ∷ bytes)) (drop 4 bytes) =
    ap (λ (l : List ℕ). take (promised (b ∷ bytes)) l) (drop-append-le 4 bytes more (omega (arith, h)))
    ∙ take-append-le (promised (b ∷ bytes)) (drop 4 bytes) more (omega (arith, h, length-drop 4 bytes)) in
    ap (λ (n : ℕ). record { kind = b; payload = take n (drop 4 (bytes ++ more)); size = 5 + n }) same
    ∙ ap (λ (l : List ℕ). record { kind = b; payload = l; size = 5 + promised (b ∷ bytes) }) payload

-- a frame is found whatever bytes follow, and within the bytes
pub raw_of-append : (at : ℕ) (bytes more : List ℕ) (f : Raw) → raw_of at bytes ≡ Ok f → (raw_of at (bytes ++ more) ≡ Ok f) × (0 < f.size) × (f.size ≤ length bytes)
raw_of-append at bytes more f e =
    let r = raw_is at bytes f e in
    let same : promised (bytes ++ more) ≡ promised bytes = promised-append bytes more (omega (arith, r.1)) in
    let size : f.size ≡ 5 + promised bytes = ap (λ (g : Raw). g.size) (sym r.2) in (
      raw_whole at (bytes ++ more) (omega (arith, same, r.0)) (omega (arith, same, r.1, length-append bytes more))
          ∙ ap (λ (g : Raw). Ok g) (frame_at-append bytes more r.1 ∙ r.2),
      omega (arith, size),
      omega (arith, r.1, size),
    )
