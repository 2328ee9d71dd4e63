-- A blob of a block that is read is the one that was written, and one that was written is read.
use Rattle.std.proofs.Common.{◌≡◌, ℕ, ◌+◌, List, ◌∷◌, ◌++◌, length, Option, None, Some, IfSome, inl, inr, refl, arith}
use Rattle.std.specs.Prelude.{◌⊎◌, ⊤}
use Rattle.std.proofs.lemmas.List.{length-append}
use Rattle.namespace_id.specs.Bytes.{AreBytes, IsString}
use Rattle.share_split.specs.Blobs.{NamedBytes, IsNamed, signer_size, version_of, signer_bytes}
use Rattle.frame_payloads.specs.kinds.Block.{signer_at, blob_at, blob_bytes}
use Rattle.frame_payloads.specs.kinds.Units.{unit_at, unit_bytes}
use Rattle.frame_payloads.proofs.Fields.Texts.{IsField}
use Rattle.frame_payloads.proofs.Fields.Fields.{Fields, AreMaps, ◌▸◌, nothing, either, as_field, field_of, made_field}
use Rattle.frame_payloads.proofs.Fields.Bases.{name29, string, field}
use Rattle.frame_payloads.proofs.Forms.Units.{unit_field}

-- ---- a signer

-- nothing behind the share version 0, or 20 bytes behind 1
abbrev versions : Fields (Option (List ℕ) × List ℕ) (⊤ ⊎ List ℕ)
versions = either nothing (string signer_size)

-- the signer of these
abbrev signer_of : ⊤ ⊎ List ℕ → Option (List ℕ)
signer_of (inl x) = None
signer_of (inr signer) = Some signer

-- a signer as one of these
abbrev version : Option (List ℕ) → ⊤ ⊎ List ℕ
version None = inl tt
version (Some signer) = inr signer

-- a signer, if there is one, has 20 bytes
abbrev IsSigner : Option (List ℕ) → Type 0
IsSigner signer = IfSome signer (IsString signer_size)

-- there
signer_there : (x : ⊤ ⊎ List ℕ) → versions.Is x → IsSigner (signer_of x) × (version (signer_of x) ≡ x)
signer_there (inl x) is = (tt, refl)
signer_there (inr signer) is = (is, refl)

-- and back
signer_back : (signer : Option (List ℕ)) → IsSigner signer → versions.Is (version signer) × (signer_of (version signer) ≡ signer)
signer_back None is = (tt, refl)
signer_back (Some signer) is = (is, refl)

-- a signer behind its share version
abbrev signer_text : Option (List ℕ) → List ℕ
signer_text signer = version_of signer ∷ signer_bytes signer

-- it is written as the one or the other
text_is : (signer : Option (List ℕ)) → signer_text signer ≡ versions.text (version signer)
text_is None = refl
text_is (Some signer) = refl

-- a signer is a field
signer_field : IsField signer_at signer_text IsSigner
unfolding signer_at
signer_field = field_of (as_field versions signer_of version IsSigner (record { there = signer_there; back = signer_back })) signer_at signer_text (λ bytes. refl) text_is (λ signer. omega arith)

-- ---- a blob

-- a blob is a namespace, a signer, and bytes
maps : AreMaps {R = NamedBytes × List ℕ} (name29 ▸ (field signer_at signer_text IsSigner signer_field ▸ field unit_at unit_bytes AreBytes unit_field))
    (λ x. record { namespace = x.0; bytes = x.1.1; signer = x.1.0 }) (λ b. (b.namespace, (b.signer, b.bytes))) IsNamed
maps = record {
  there = λ x is. (record { name = is.0; fits = is.1.1; signer = is.1.0 }, refl);
  back = λ b is. ((is.name, (is.signer, is.fits)), refl);
}

-- the lengths of the parts of a blob
pub length-blob_bytes : (b : NamedBytes) → length (blob_bytes b) ≡ length b.namespace.0 + 1 + length (signer_bytes b.signer) + length (unit_bytes b.bytes)
length-blob_bytes b =
    let signer : List ℕ = signer_bytes b.signer in
    let text : List ℕ = unit_bytes b.bytes in
    omega (arith, length-append b.namespace.0 (version_of b.signer ∷ signer ++ text), length-append signer text)

-- a blob is a field
pub blob_field : IsField blob_at blob_bytes IsNamed
unfolding blob_at
blob_field = made_field maps blob_at blob_bytes (λ bytes. refl) (λ b. refl) (λ b. omega (arith, length-blob_bytes b))
