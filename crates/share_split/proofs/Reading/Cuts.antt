-- The fields of a share as parts of its bytes.
use Rattle.std.proofs.Common.{◌≡◌, ◌∙◌, ℕ, ◌+◌, ◌/◌, ◌%◌, ◌<◌, Bool, true, false, cond, eqb, eqb-true, eq-eqb, List, ◌∷◌, ◌++◌, length, take, drop, slice_index, sym, ap, refl, arith, take-append-drop}
use Rattle.std.proofs.lemmas.List.{take_at, drop_at, get_or_at, drop-drop, drop_more, length-drop, length-take}
use Rattle.std.proofs.lemmas.Nat.{be_bytes_4}
use Rattle.std.proofs.lemmas.Bool.Decides.{nat_tests}
use Rattle.std.specs.Int.{w32, to_be_bytes, from_be_bytes}
use Rattle.namespace_id.specs.Bytes.{AreBytes}
use Rattle.namespace_id.specs.Shares.{IsShare}
use Rattle.namespace_id.specs.declared.shares.Share.{Share}
use Rattle.namespace_id.proofs.StringLemmas.{AreBytes-take, AreBytes-drop}
use Rattle.share_split.specs.Blobs.{info}
use Rattle.share_split.specs.Walks.{version_in, is_start, share_fields}

-- ---- what is read of a share that was written

-- a namespace, an info byte, and the other bytes
pub record IsCut (bytes name rest : List ℕ) (byte : ℕ) : Type 0 where
  pub front : take 29 bytes ≡ name
  pub byte_is : slice_index bytes 29 ≡ byte
  pub behind : drop 30 bytes ≡ rest

-- the three parts of a share that was written
pub cut : (bytes name rest : List ℕ) (byte : ℕ) → length name ≡ 29 → bytes ≡ name ++ byte ∷ rest → IsCut bytes name rest byte
cut bytes name rest byte len e = record {
  front = ap (take 29) e ∙ take_at name (byte ∷ rest) 29 len;
  byte_is = ap (λ (l : List ℕ). slice_index l 29) e ∙ get_or_at name byte rest 0 29 len;
  behind = ap (drop 30) e ∙ sym (drop-drop 1 29 (name ++ byte ∷ rest)) ∙ ap (drop 1) (drop_at name (byte ∷ rest) 29 len);
}

-- four bytes first among these
pub four : (bytes part rest : List ℕ) → length part ≡ 4 → drop 30 bytes ≡ part ++ rest → (take 4 (drop 30 bytes) ≡ part) × (drop 34 bytes ≡ rest)
four bytes part rest len e =
    (ap (take 4) e ∙ take_at part rest 4 len, sym (drop-drop 4 30 bytes) ∙ ap (drop 4) e ∙ drop_at part rest 4 len)

-- ---- the fields of a share are all of it

-- a share is its namespace, its info byte and the other bytes
pub parts : (bytes : List ℕ) → length bytes ≡ 512 → bytes ≡ take 29 bytes ++ slice_index bytes 29 ∷ drop 30 bytes
parts bytes len =
    sym (take-append-drop 29 bytes) ∙ ap (λ (l : List ℕ). take 29 bytes ++ l) (drop_more bytes 29 0 (omega arith))

-- four bytes come next, and then the others
pub fours : (bytes : List ℕ) (at : ℕ) → drop at bytes ≡ take 4 (drop at bytes) ++ drop (at + 4) bytes
fours bytes at = sym (take-append-drop 4 (drop at bytes)) ∙ ap (λ (l : List ℕ). take 4 (drop at bytes) ++ l) (drop-drop 4 at bytes)

-- four bytes are those of the number that they state
pub stated : (bytes : List ℕ) (at : ℕ) → at + 4 < length bytes → AreBytes bytes → take 4 (drop at bytes) ≡ to_be_bytes w32 (from_be_bytes w32 (take 4 (drop at bytes)))
stated bytes at long fits =
    sym (be_bytes_4 (take 4 (drop at bytes)) _ (omega (arith, length-take 4 (drop at bytes), length-drop at bytes))
    (AreBytes-take 4 (drop at bytes) (AreBytes-drop at bytes fits)) refl)

-- ---- the info byte

-- an info byte states the version
pub version_of_info : (version : ℕ) (start : Bool) → info version start / 2 ≡ version
version_of_info version true = omega arith
version_of_info version false = omega arith

-- it states whether a sequence starts
pub start_of_info : (version : ℕ) (start : Bool) → eqb (info version start % 2) 1 ≡ start
start_of_info version true = eq-eqb _ _ (omega arith)
start_of_info version false = grind (arith, nat_tests)

-- a byte that states these is the info byte
info_back : (byte version : ℕ) (start : Bool) → byte / 2 ≡ version → eqb (byte % 2) 1 ≡ start → byte ≡ info version start
info_back byte version true half odd = let one : byte % 2 ≡ 1 = eqb-true _ _ odd in omega arith
info_back byte version false half even = grind (arith, nat_tests)

-- the info byte of a share
pub info_is : (share : Share) (version : ℕ) (start : Bool) → version_in share ≡ version → is_start share ≡ start → slice_index share.0 29 ≡ info version start
info_is share version start half odd = info_back (slice_index share.0 29) version start half odd

-- the fields begin behind the length in a first share, and behind the info byte in a later one
pub fields_first : (share : Share) → is_start share ≡ true → share_fields share ≡ drop 34 share.0
fields_first share start = ap (λ (b : Bool). drop (cond b 34 30) share.0) start

-- the fields of a later share begin behind its info byte
pub fields_later : (share : Share) → is_start share ≡ false → share_fields share ≡ drop 30 share.0
fields_later share later = ap (λ (b : Bool). drop (cond b 34 30) share.0) later

-- those of a first share are as many as are left in it
pub length-fields : (share : Share) → is_start share ≡ true → IsShare share → length (share_fields share) ≡ 478
length-fields share start whole = omega (arith, ap length (fields_first share start), length-drop 34 share.0, whole.size_is)
