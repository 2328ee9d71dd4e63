-- Digests have 90 bytes, and end with the hash of the string that they stand for.
use Rattle.std.proofs.Common.{◌≡◌, ◌∙◌, ℕ, zero, suc, ◌+◌, ◌≤◌, ◌<◌, ◌/◌, ◌^◌, List, [], ◌∷◌, ◌++◌, length, take, drop, cond, refl, sym, ap, ap₂, arith, length-append, length-drop}
use Rattle.std.specs.Int.{to_be_bytes, bytes_high_first, byte_at, w32}
use Rattle.std.specs.Prelude.{slice_index}
use Rattle.std.proofs.lemmas.Bool.{cond_both}
use Rattle.std.proofs.lemmas.List.{length-take-le}
use Rattle.std.proofs.Math.Nat.{mod-lt}
use Rattle.sha2.specs.Sha256.{sha256, digest_bytes}
use Rattle.sha2.proofs.Facts256.{length-sha256}
use Rattle.namespace_id.specs.declared.namespaces.Namespace.{Namespace}
use Rattle.namespace_id.specs.declared.shares.Share.{Share}
use Rattle.namespace_id.specs.declared.digests.Digest.{Digest}
use Rattle.namespace_id.specs.Bytes.{AreBytes, IsString}
use Rattle.namespace_id.specs.Names.{is_at_most, is_parity, parity, greater_of, IsNamespace}
use Rattle.namespace_id.specs.Shares.{IsShare}
use Rattle.namespace_id.specs.Digests.{least_of, greatest_of, IsDigest}
use Rattle.namespace_id.proofs.ShareLemmas.{parity-is}
use Rattle.namespace_id.proofs.StringLemmas.{AreBytes-take, AreBytes-drop, AreBytes-cons, AreBytes-append}
use Rattle.nmt_tree.specs.Digests.{leaf_digest, joined_greatest, node_digest}
use Rattle.nmt_proofs.specs.Clashes.{leaf_text, join_text}

-- digests with the same bytes are one
pub same_digest : (d e : Digest) → d.0 ≡ e.0 → d ≡ e
same_digest d e same = ap (λ (bytes : List ℕ). record { 0 = bytes }) same

-- lists that are joined of parts of one length have the same parts
pub append_parts : (a b c d : List ℕ) → length a ≡ length c → a ++ b ≡ c ++ d → (a ≡ c) × (b ≡ d)
append_parts [] b [] d same e = (refl, e)
append_parts [] b (y ∷ c) d same e = absurd (omega arith)
append_parts (x ∷ a) b [] d same e = absurd (omega arith)
append_parts (x ∷ a) b (y ∷ c) d same e =
    let head : x ≡ y = cc in
    let tail : a ++ b ≡ c ++ d = cc in
    let rest = append_parts a b c d (omega arith) tail in
    (ap₂ (λ (v : ℕ) (l : List ℕ). v ∷ l) head rest.0, rest.1)

-- a byte of a number is one
byte_at-lt : (k n : ℕ) → byte_at k n < 256
byte_at-lt zero n = omega arith
byte_at-lt (suc k) n = mod-lt (n / 256 ^ suc k) (omega arith)

-- the bytes of a number, high byte first, are bytes
bytes-high : (k n : ℕ) → AreBytes (bytes_high_first k n)
bytes-high zero n i = omega arith
bytes-high (suc k) n zero = byte_at-lt k n
bytes-high (suc k) n (suc i) = bytes-high k n i

-- so are those of the words of a hash value
bytes-words : (h : List ℕ) (n : ℕ) → AreBytes (digest_bytes h n)
unfolding digest_bytes
bytes-words h zero i = omega arith
bytes-words h (suc n) i = AreBytes-append (digest_bytes h n) (to_be_bytes w32 (slice_index h n)) (bytes-words h n) (bytes-high 4 (slice_index h n)) i

-- a SHA-256 digest is a string of 32 bytes
pub string-sha256 : (text : List ℕ) → IsString 32 (sha256 text)
unfolding sha256
string-sha256 text = record { size_is = length-sha256 text; fits = bytes-words _ 8 }

-- two strings, one behind the other, are a string
string-append : (m n k : ℕ) (a b : List ℕ) → m + n ≡ k → IsString m a → IsString n b → IsString k (a ++ b)
string-append m n k a b sum h g = record {
  size_is = omega (arith, length-append a b, h.size_is, g.size_is, sum);
  fits = AreBytes-append a b h.fits g.fits;
}

-- so is a part of a string
string-part : (from size n : ℕ) (a : List ℕ) → from + size ≤ n → IsString n a → IsString size (take size (drop from a))
string-part from size n a within h = record {
  size_is = length-take-le size (drop from a) (omega (arith, length-drop from a, h.size_is));
  fits = AreBytes-take size (drop from a) (AreBytes-drop from a h.fits);
}

-- the least namespace of a digest is one
pub name-least : (d : Digest) → IsDigest d → IsNamespace (least_of d)
name-least d h = string-part 0 29 90 d.0 (omega arith) h

-- so is its greatest
pub name-greatest : (d : Digest) → IsDigest d → IsNamespace (greatest_of d)
name-greatest d h = string-part 29 29 90 d.0 (omega arith) h

-- so is the greatest of a node
pub name-joined : (l r : Digest) → IsDigest l → IsDigest r → IsNamespace (joined_greatest l r)
unfolding joined_greatest
name-joined l r h g =
    cond_both (is_parity (least_of l)) parity (cond (is_parity (least_of r)) (greatest_of l) (greater_of (greatest_of l) (greatest_of r))) IsNamespace (λ t. parity-is)
    (λ f. cond_both (is_parity (least_of r)) (greatest_of l) (greater_of (greatest_of l) (greatest_of r)) IsNamespace (λ t. name-greatest l h)
    (λ f. cond_both (is_at_most (greatest_of l) (greatest_of r)) (greatest_of r) (greatest_of l) IsNamespace (λ t. name-greatest r g) (λ f. name-greatest l h)))

-- the digest of a leaf is one
pub digest-leaf : (n : Namespace) (s : Share) → IsNamespace n → IsDigest (leaf_digest n s)
unfolding leaf_digest
digest-leaf n s h = string-append 58 32 90 (n.0 ++ n.0) (sha256 (leaf_text n s)) refl (string-append 29 29 58 n.0 n.0 refl h h) (string-sha256 (leaf_text n s))

-- so is that of a node
pub digest-node : (l r : Digest) → IsDigest l → IsDigest r → IsDigest (node_digest l r)
unfolding node_digest
digest-node l r h g =
    string-append 58 32 90 ((least_of l).0 ++ (joined_greatest l r).0) (sha256 (join_text l r)) refl
    (string-append 29 29 58 (least_of l).0 (joined_greatest l r).0 refl (name-least l h) (name-joined l r h g))
    (string-sha256 (join_text l r))

-- the string that is hashed for a leaf is a byte string
pub bytes-leaf : (n : Namespace) (s : Share) → IsNamespace n → IsShare s → AreBytes (leaf_text n s)
bytes-leaf n s h g = AreBytes-cons 0 (n.0 ++ s.0) (omega arith) (AreBytes-append n.0 s.0 h.fits g.fits)

-- so is that for a node
pub bytes-join : (l r : Digest) → IsDigest l → IsDigest r → AreBytes (join_text l r)
bytes-join l r h g = AreBytes-cons 1 (l.0 ++ r.0) (omega arith) (AreBytes-append l.0 r.0 h.fits g.fits)

-- equal leaves were hashed from strings with one digest
pub leaf_hash : (n m : Namespace) (s t : Share) → IsNamespace n → IsNamespace m → leaf_digest n s ≡ leaf_digest m t → sha256 (leaf_text n s) ≡ sha256 (leaf_text m t)
unfolding leaf_digest
leaf_hash n m s t h g e =
    (append_parts (n.0 ++ n.0) (sha256 (leaf_text n s)) (m.0 ++ m.0) (sha256 (leaf_text m t))
    (omega (arith, length-append n.0 n.0, length-append m.0 m.0, h.size_is, g.size_is)) (ap (λ (d : Digest). d.0) e)).1

-- equal nodes too
pub join_hash : (l r u v : Digest) → IsDigest l → IsDigest r → IsDigest u → IsDigest v → node_digest l r ≡ node_digest u v
    → sha256 (join_text l r) ≡ sha256 (join_text u v)
unfolding node_digest
join_hash l r u v hl hr hu hv e =
    (append_parts ((least_of l).0 ++ (joined_greatest l r).0) (sha256 (join_text l r)) ((least_of u).0 ++ (joined_greatest u v).0) (sha256 (join_text u v))
    (omega (
      arith,
      length-append (least_of l).0 (joined_greatest l r).0,
      length-append (least_of u).0 (joined_greatest u v).0,
      (name-least l hl).size_is,
      (name-joined l r hl hr).size_is,
      (name-least u hu).size_is,
      (name-joined u v hu hv).size_is,
    ))
    (ap (λ (d : Digest). d.0) e)).1

-- equal strings of leaves are of equal leaves
pub leaf_parts : (n m : Namespace) (s t : Share) → IsNamespace n → IsNamespace m → leaf_text n s ≡ leaf_text m t → (n ≡ m) × (s ≡ t)
leaf_parts n m s t h g e =
    let tail : n.0 ++ s.0 ≡ m.0 ++ t.0 = cc in
    let parts = append_parts n.0 s.0 m.0 t.0 (h.size_is ∙ sym g.size_is) tail in
    (ap (λ (l : List ℕ). record { 0 = l }) parts.0, ap (λ (l : List ℕ). record { 0 = l }) parts.1)

-- and those of joins of equal digests
pub join_parts : (l r u v : Digest) → IsDigest l → IsDigest u → join_text l r ≡ join_text u v → (l ≡ u) × (r ≡ v)
join_parts l r u v h g e =
    let tail : l.0 ++ r.0 ≡ u.0 ++ v.0 = cc in
    let parts = append_parts l.0 r.0 u.0 v.0 (h.size_is ∙ sym g.size_is) tail in
    (ap (λ (l : List ℕ). record { 0 = l }) parts.0, ap (λ (l : List ℕ). record { 0 = l }) parts.1)
