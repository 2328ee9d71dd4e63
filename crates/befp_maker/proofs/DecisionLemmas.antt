-- What proved cells of an axis decide.
use Rattle.std.proofs.Common.{◌≡◌, ◌≢◌, ◌∙◌, ℕ, List, [], ◌∷◌, map, true, Option, Some, None, refl, subst}
use Rattle.std.specs.List.{AllByRecursion}
use Rattle.std.proofs.lemmas.Bool.{and_from}
use Rattle.namespace_id.specs.declared.cells.Axis.{Axis}
use Rattle.namespace_id.specs.declared.shares.Share.{Share}
use Rattle.namespace_id.specs.declared.digests.Digest.{Digest}
use Rattle.namespace_id.specs.Cells.{is_in_square}
use Rattle.data_header.specs.Headers.{Roots}
use Rattle.axis_roots.specs.declared.message.messages.Message.{Message}
use Rattle.axis_roots.specs.declared.message.proved.Proved.{Proved}
use Rattle.axis_roots.specs.Openings.{IsProved}
use Rattle.axis_roots.specs.Proved.{kept_message, IsUnder}
use Rattle.axis_roots.specs.Lines.{line_strict_root}
use Rattle.axis_roots.specs.Claims.{ClaimParts, claim_with, has_shape, claimed_root, IsThrough, Accepts}
use Rattle.axis_roots.proofs.Messages.ClaimLemmas.{are_inside}
use Rattle.axis_roots.proofs.Messages.ProofLemmas.{plain_accepted}

-- the samples of certificates under a header are proved under it
pub kept_proved : (header : Roots) → ((c : Proved) → IsUnder header c → IsProved header (kept_message c))
    → (cells : List Proved) → AllByRecursion (IsUnder header) cells → AllByRecursion (IsProved header) (map kept_message cells)
kept_proved header law [] under = tt
kept_proved header law (c ∷ cells) under = (law c under.0, kept_proved header law cells under.1)

-- cells of proved samples are in the square
pub proved_inside : (header : Roots) (cells : List Message) → AllByRecursion (IsProved header) cells → are_inside header.k cells ≡ true
proved_inside header [] proved = refl
proved_inside header (m ∷ cells) proved =
    and_from (is_in_square header.k m.cell) (are_inside header.k cells) proved.0.inside (proved_inside header cells proved.1)

-- a line through a list of cells, told of another width and another list that are the same
pub through_same : (k n : ℕ) (axis : Axis) (i : ℕ) (cells given : List Proved) (word : List Share) → n ≡ k → given ≡ cells
    → IsThrough n (claim_with axis i given) word → IsThrough k (claim_with axis i cells) word
through_same k n axis i cells given word width same through =
    subst (λ (m : ℕ). IsThrough m (claim_with axis i cells) word) width (subst (λ (cs : List Proved). IsThrough n (claim_with axis i cs) word) same through)

-- a claim of proved cells and no set, through which goes a line with another root or none, is accepted
pub accepted : (header : Roots) (claim : ClaimParts) (word : List Share) (found : Option Digest) → claim.set ≡ None → has_shape header.k claim ≡ true
    → AllByRecursion (IsProved header) claim.cells → IsThrough header.k claim word → found ≡ line_strict_root header.k claim.axis claim.index word
    → found ≢ Some (claimed_root header claim) → Accepts header claim
accepted header claim word found plain shape proved through is other =
    (plain_accepted header claim plain).0 (proved, record { shape = shape; word = word; through = through; other = λ e. other (is ∙ e) })
