-- The codeword through half an axis is one.
use Rattle.std.proofs.Common.{◌≡◌, ℕ, List, [], ◌∷◌, map, true, refl, subst}
use Rattle.std.specs.List.{AllByRecursion}
use Rattle.std.proofs.lemmas.Bool.{and_from}
use Rattle.namespace_id.specs.declared.cells.Axis.{Axis}
use Rattle.namespace_id.specs.Cells.{is_width, is_in_square}
use Rattle.data_header.specs.Headers.{Roots}
use Rattle.axis_roots.specs.declared.message.proved.Proved.{Proved}
use Rattle.axis_roots.specs.Openings.{IsProved}
use Rattle.axis_roots.specs.Proved.{kept_message, IsUnder}
use Rattle.axis_roots.specs.Claims.{claim_with, IsThrough}
use Rattle.axis_roots.proofs.Messages.ClaimLemmas.{are_inside, shape_of, word_once}
use Rattle.befp_maker.specs.Halves.{AreHalf}
use Rattle.befp_maker.specs.Rooms.{RoomParts}

-- the cells of certificates under a header are in the square
under_inside : (header : Roots) → ((c : Proved) → IsUnder header c → IsProved header (kept_message c))
    → (cells : List Proved) → AllByRecursion (IsUnder header) cells → are_inside header.k (map kept_message cells) ≡ true
under_inside header law [] under = refl
under_inside header law (c ∷ cells) under =
    and_from (is_in_square header.k (kept_message c).cell) (are_inside header.k (map kept_message cells)) (law c under.0).inside
    (under_inside header law cells under.1)

-- so rooms of one width that hold it are one
pub one_room : (header : Roots) → is_width header.k ≡ true → ((c : Proved) → IsUnder header c → IsProved header (kept_message c))
    → (axis : Axis) (index : ℕ) (cells copy : List Proved) (one other : RoomParts) → copy ≡ cells → AreHalf header axis index cells → one.k ≡ other.k
    → IsThrough header.k (claim_with axis index cells) one.shares → IsThrough header.k (claim_with axis index copy) other.shares → one ≡ other
one_room header wide law axis index cells copy one other same half width through also =
    let line : one.shares ≡ other.shares =
    word_once header.k (claim_with axis index cells) one.shares other.shares wide (shape_of header.k (claim_with axis index cells) half.shape)
    (under_inside header law cells half.under) through
    (subst (λ (l : List Proved). IsThrough header.k (claim_with axis index l) other.shares) same also) in
    λ i. record { k = width i; shares = line i }
