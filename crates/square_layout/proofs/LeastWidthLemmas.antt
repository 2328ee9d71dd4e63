-- The width of a square is the least that holds the shares.
use Rattle.std.proofs.Common.{◌≡◌, ℕ, ◌*◌, ◌^◌, ◌≤◌, le-leb, leb-true, sym, subst, arith}
use Rattle.namespace_id.specs.Sizes.{most_shares}
use Rattle.namespace_id.proofs.DoublingLemmas.{least_from, passes_from}
use Rattle.square_layout.specs.Layout.{holds_shares, holding_from}

-- the least power of two that holds the shares, of those that are widths
pub least_width : (count j : ℕ) → j ≤ 9 → count ≤ 2 ^ j * 2 ^ j → holding_from 9 1 count ≤ 2 ^ j
least_width count j h fits =
    let one : 1 * 2 ^ j ≡ 2 ^ j = omega arith in
    subst (λ (w : ℕ). holding_from 9 1 count ≤ w) one
    (least_from (holds_shares count) 9 1 j h (le-leb _ _ (subst (λ (w : ℕ). count ≤ w * w) (sym one) fits)))

-- the last of the widths that are tried holds the shares, if the greatest square does
pub holding_holds : (count : ℕ) → count ≤ most_shares → count ≤ holding_from 9 1 count * holding_from 9 1 count
holding_holds count h = leb-true _ _ (passes_from (holds_shares count) 9 1 (le-leb _ _ h))
