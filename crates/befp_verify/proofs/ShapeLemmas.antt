-- The positions of a claim's cells.
use Rattle.std.proofs.Common.{◌≡◌, ℕ, List, Option, sym, subst}
use Rattle.namespace_id.specs.declared.shares.Share.{Share}
use Rattle.namespace_id.specs.declared.digests.Digest.{Digest}
use Rattle.leopard_code.specs.Codewords.{IsCodeword, HasEntries}
use Rattle.axis_roots.specs.Claims.{ClaimParts, positions_of, claim_shares}
use Rattle.axis_roots.specs.Lines.{line_strict_root}
use Rattle.befp_verify.specs.Lines.{IsRootThrough}

-- a line that was rebuilt from the positions and the shares of a claim is through it
pub line_through : (k code : ℕ) (claim : ClaimParts) (known : List ℕ) (shares word : List Share) (root : Option Digest) → code ≡ k
    → known ≡ positions_of claim → shares ≡ claim_shares claim → IsCodeword code word → HasEntries known shares word
    → root ≡ line_strict_root k claim.axis claim.index word → IsRootThrough k claim root
line_through k code claim known shares word root same places copies codeword entries value = record {
  word = word;
  through = record {
    codeword = subst (λ (n : ℕ). IsCodeword n word) same codeword;
    entries = subst (λ (ps : List ℕ). HasEntries ps (claim_shares claim) word) places (subst (λ (ss : List Share). HasEntries known ss word) copies entries);
  };
  value = sym value;
}
