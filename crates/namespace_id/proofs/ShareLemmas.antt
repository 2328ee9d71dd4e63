-- The namespaces of shares and of the leaves over them.
use Rattle.std.proofs.Common.{ℕ, List, [], ◌∷◌, ◌++◌, Bool, true, false, cond, refl, arith}
use Rattle.std.proofs.lemmas.List.{length-take}
use Rattle.namespace_id.specs.declared.cells.Cell.{Cell}
use Rattle.namespace_id.specs.declared.shares.Share.{Share}
use Rattle.namespace_id.specs.Names.{IsNamespace, parity}
use Rattle.namespace_id.specs.Shares.{IsShare, AreShares, name_in}
use Rattle.namespace_id.specs.Cells.{is_original, leaf_namespace}
use Rattle.namespace_id.proofs.StringLemmas.{AreBytes-take, AreBytes-replicate}

-- what a share begins with is a namespace
pub name_in-is : (share : Share) → IsShare share → IsNamespace (name_in share)
name_in-is share whole = record {
  size_is = omega (arith, length-take 29 share.0, whole.size_is);
  fits = AreBytes-take 29 share.0 whole.fits;
}

-- and so is that of the shares that erasure coding adds
pub parity-is : IsNamespace parity
parity-is = record { size_is = refl; fits = AreBytes-replicate 29 255 (omega arith) }

-- one of both is
either : (original : Bool) (share : Share) → IsShare share → IsNamespace (cond original (name_in share) parity)
either true share whole = name_in-is share whole
either false share whole = parity-is

-- a leaf has a namespace
pub name_of-is : (k : ℕ) (cell : Cell) (share : Share) → IsShare share → IsNamespace (leaf_namespace k cell share)
name_of-is k cell share whole = either (is_original k cell) share whole

-- shares behind shares are shares
pub AreShares-append : (a b : List Share) → AreShares a → AreShares b → AreShares (a ++ b)
AreShares-append [] b h k = k
AreShares-append (share ∷ a) b h k = (h.0, AreShares-append a b h.1 k)
