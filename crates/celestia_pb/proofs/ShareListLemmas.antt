-- Shares at even distances: where they lie, and of bytes that were written so.
use Rattle.std.proofs.Common.{◌≡◌, ◌∙◌, ℕ, zero, suc, ◌*◌, ◌≤◌, List, [], ◌∷◌, ◌++◌, length, take, drop, refl, sym, ap, ap₂, arith, length-append, length-take-le, take-append-drop}
use Rattle.std.proofs.lemmas.List.{take_at, drop_at, length-drop, nil_from_length}
use Rattle.namespace_id.specs.declared.shares.Share.{Share}
use Rattle.namespace_id.specs.Bytes.{AreBytes}
use Rattle.namespace_id.specs.Shares.{AreShares, share_bytes}
use Rattle.namespace_id.proofs.StringLemmas.{AreBytes-take, AreBytes-drop}
use Rattle.celestia_pb.specs.EntryLists.{entries}
use Rattle.celestia_pb.specs.ShareLists.{share_behind, shares_behind}
use Rattle.celestia_pb.proofs.EntryListLemmas.{entries-none, entries-next}

-- ---- one behind the other

-- behind the first of some shares are the others
others_long : (count : ℕ) (bytes : List ℕ) → 512 * suc count ≡ length bytes → (512 ≤ length bytes) × (512 * count ≡ length (drop 512 bytes))
others_long count bytes long = (omega arith, omega (arith, length-drop 512 bytes))

-- bytes of so many shares are shares
pub shares_behind-are : (count : ℕ) (bytes : List ℕ) → AreBytes bytes → 512 * count ≡ length bytes → AreShares (shares_behind 0 count bytes)
unfolding entries
shares_behind-are zero bytes fits long = tt
shares_behind-are (suc count) bytes fits long =
    let l = others_long count bytes long in (
      record { size_is = length-take-le 512 bytes l.0; fits = AreBytes-take 512 bytes fits },
      shares_behind-are count (drop 512 bytes) (AreBytes-drop 512 bytes fits) l.1,
    )

-- they are written as these bytes
pub share_bytes-behind : (count : ℕ) (bytes : List ℕ) → 512 * count ≡ length bytes → share_bytes (shares_behind 0 count bytes) ≡ bytes
unfolding entries
share_bytes-behind zero bytes long =
    let none : length bytes ≡ 0 = omega arith in
    sym (nil_from_length bytes none)
share_bytes-behind (suc count) bytes long =
    ap (λ (l : List ℕ). take 512 bytes ++ l) (share_bytes-behind count (drop 512 bytes) (others_long count bytes long).1) ∙ take-append-drop 512 bytes

-- the bytes of shares have 512 for each
pub length-share_bytes : (shares : List Share) → AreShares shares → length (share_bytes shares) ≡ 512 * length shares
length-share_bytes [] all = refl
length-share_bytes (share ∷ shares) all =
    let first : length share.0 ≡ 512 = all.0.size_is in
    omega (arith, first, length-append share.0 (share_bytes shares), length-share_bytes shares all.1)

-- shares that were written are read
pub behind_share_bytes : (shares : List Share) → AreShares shares → shares_behind 0 (length shares) (share_bytes shares) ≡ shares
behind_share_bytes [] all = entries-none (share_behind 0) 512 []
behind_share_bytes (share ∷ shares) all =
    let first : length share.0 ≡ 512 = all.0.size_is in
    entries-next (share_behind 0) 512 (length shares) (share.0 ++ share_bytes shares)
    ∙ ap₂ (λ (l : List ℕ) (others : List Share). record { 0 = l } ∷ others) (take_at share.0 (share_bytes shares) 512 first)
    (ap (shares_behind 0 (length shares)) (drop_at share.0 (share_bytes shares) 512 first) ∙ behind_share_bytes shares all.1)
