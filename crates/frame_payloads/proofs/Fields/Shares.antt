-- Shares that are read are those that were written, and shares that were written are read.
use Rattle.std.proofs.Common.{◌≡◌, ◌*◌, ℕ, List, ◌++◌, length, Some, refl}
use Rattle.namespace_id.specs.declared.shares.Share.{Share}
use Rattle.namespace_id.specs.Bytes.{AreBytes}
use Rattle.namespace_id.specs.Shares.{AreShares, share_of, share_bytes}
use Rattle.frame_fields.specs.Fields.{shares_at}
use Rattle.frame_payloads.proofs.Fields.Readers.{Takes}
use Rattle.frame_payloads.proofs.Fields.Split.{AreTexts, length-value_bytes, values_take, values_again}

-- the bytes of a share
abbrev pub text : Share → List ℕ
text s = s.0

-- a share is its bytes
pub texts : AreTexts share_of text
texts = record { there = λ bytes. refl; back = λ s. refl }

-- each share is written in 512 bytes
pub length-share_bytes : (shares : List Share) → AreShares shares → length (share_bytes shares) ≡ 512 * length shares
length-share_bytes shares all = length-value_bytes text 512 shares all

-- shares that are read are those that were written
pub shares_take : (count : ℕ) (bytes : List ℕ) (shares : List Share) (rest : List ℕ) → AreBytes bytes → shares_at count bytes ≡ Some (shares, rest)
    → Takes bytes (share_bytes shares) rest × (length shares ≡ count) × AreShares shares
shares_take count bytes shares rest fits e = values_take share_of text texts 512 count bytes shares rest fits e

-- shares that were written are read, whatever follows them
pub shares_again : (shares : List Share) (rest : List ℕ) → AreShares shares → shares_at (length shares) (share_bytes shares ++ rest) ≡ Some (shares, rest)
shares_again shares rest all = values_again share_of text texts 512 shares rest all
