-- A claim that is made compact has a set.
use Rattle.std.proofs.Common.{◌≡◌, List, Bool, true, false, cond, refl, sym, ap, subst, inl, inr}
use Rattle.std.specs.Prelude.{Option, Some, None}
use Rattle.std.specs.Option.{is_some}
use Rattle.std.specs.List.{list_any}
use Rattle.namespace_id.specs.declared.digests.Digest.{Digest}
use Rattle.data_header.specs.Headers.{Roots}
use Rattle.axis_roots.specs.Sets.{is_along}
use Rattle.axis_roots.specs.Claims.{ClaimParts}
use Rattle.befp_verify.specs.declared.compacting.Compacted.TheVariants.{Claim}
use Rattle.befp_verify.specs.Compacting.{IsCompacted}

-- a claim that stays as it is though a cell is along its axis has a set
kept_set : (set : Option (List Digest)) (b : Bool) → cond (is_some set) true (cond b false true) ≡ true → b ≡ true → is_some set ≡ true
kept_set None true e along = absurd (let x : false ≡ true = e in cc)
kept_set None false e along = absurd (let x : false ≡ true = along in cc)
kept_set (Some nodes) b e along = refl

-- a claim with a cell along its axis is made into one with a set
pub compacted_set : (header : Roots) (claim made : ClaimParts) → IsCompacted header claim (Claim made)
    → list_any (is_along claim.axis) claim.cells ≡ true → is_some made.set ≡ true
compacted_set header claim made (inl (compact, same)) along =
    subst (λ (x : ClaimParts). is_some x.set ≡ true) (sym same)
    (kept_set claim.set (list_any (is_along claim.axis) claim.cells) compact along)
compacted_set header claim made (inr (wide, (nodes, same), accepts)) along = ap (λ (x : ClaimParts). is_some x.set) same
