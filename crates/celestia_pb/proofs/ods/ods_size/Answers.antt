use Rattle.std.proofs.Common.{◌≡◌, ◌∙◌, ℕ, ◌*◌, List, length, sym, ap, subst}
use Rattle.namespace_id.specs.declared.shares.Share.{Share}
use Rattle.namespace_id.specs.Shares.{AreShares}
use Rattle.square_layout.specs.Blocks.{SquareShares, IsSquare}
use Rattle.celestia_pb.specs.Ods.{ods_text}
use Rattle.celestia_pb.proofs.ShareListLemmas.{length-share_bytes}
use Rattle.celestia_pb.proofs.ods.ods_size.Goals as goal

-- the length of a square's shares, by what its fields are
sized : (s : SquareShares) (k : ℕ) (shares : List Share) → record { k = k; shares = shares } ≡ s → IsSquare (record { k = k; shares = shares })
    → AreShares shares → 512 * (k * k) ≡ length (ods_text s)
sized s k shares seen is are =
    subst (λ (t : SquareShares). 512 * (k * k) ≡ length (ods_text t)) seen
    (sym (length-share_bytes shares are ∙ ap (λ (n : ℕ). 512 * n) is.count))

pub returns : goal.returns
returns c =
    sized c.args.square.now _ _ c.square.view_is c.square.invariant
    (subst (λ (l : List Share). AreShares l) c.deref.ensures.value c.shares_law.ensures)
