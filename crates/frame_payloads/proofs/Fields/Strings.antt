-- A byte or a byte string that is read is what was written, and what was written is read.
use Rattle.std.proofs.Common.{◌≡◌, ℕ, suc, ◌<◌, List, [], ◌∷◌, ◌++◌, length, take, Some, refl, ap₂, subst}
use Rattle.std.proofs.lemmas.Option.{some_pair_parts}
use Rattle.namespace_id.specs.Bytes.{AreBytes, IsString}
use Rattle.frame_fields.specs.Fields.{byte_at, string_at}
use Rattle.frame_payloads.proofs.Fields.Readers.{Takes, Takes-is, front_takes, front_again}

-- the bytes after the first are bytes
pub AreBytes-rest : (byte : ℕ) (bytes : List ℕ) → AreBytes (byte ∷ bytes) → AreBytes bytes
AreBytes-rest byte bytes fits i = fits (suc i)

-- a byte that is read is the one that was written
pub byte_takes : (bytes : List ℕ) (byte : ℕ) (rest : List ℕ) → AreBytes bytes → byte_at bytes ≡ Some (byte, rest) → Takes bytes (byte ∷ []) rest × (byte < 256)
byte_takes [] byte rest fits e = absurd cc
byte_takes (b ∷ bs) byte rest fits e =
    let same = some_pair_parts b byte bs rest e in
    let parts : b ∷ bs ≡ byte ∷ rest = ap₂ (λ (x : ℕ) (xs : List ℕ). x ∷ xs) same.0 same.1 in
    (record { parts = parts; rest_fits = subst (λ (l : List ℕ). AreBytes l) same.1 (AreBytes-rest b bs fits) }, subst (λ (x : ℕ). x < 256) same.0 (fits 0))

-- a string as it is
abbrev whole : List ℕ → List ℕ
whole text = text

-- a byte string of a known length that is read is the one that was written
pub string_takes : (size : ℕ) (bytes text rest : List ℕ) → AreBytes bytes → string_at size bytes ≡ Some (text, rest) → Takes bytes text rest × IsString size text
string_takes size bytes text rest fits e =
    let t = front_takes whole size bytes text rest fits e in
    (Takes-is bytes (take size bytes) text rest rest t.1 refl t.2, subst (λ (l : List ℕ). IsString size l) t.1 t.0)

-- a byte string of a known length that was written is read, whatever follows it
pub string_again : (size : ℕ) (text rest : List ℕ) → length text ≡ size → string_at size (text ++ rest) ≡ Some (text, rest)
string_again size text rest len = front_again whole size text rest len
