-- How wide the subtrees over a blob's shares are (Celestia specifications, "Square Layout").
use Rattle.std.specs.Prelude.{◌≡◌, ◌≤◌, ◌^◌, ℕ, ◌*◌, min, nat_le, Bool, ◌||◌}
use Rattle.std.specs.Int.{IsPowerOfTwo, div_ceil}
use Rattle.namespace_id.specs.Doublings.{least_doubling}

-- so many subtrees of one width hold a blob, unless they would have to be wider than the least square
-- that holds it
abbrev pub subtree_root_threshold : ℕ
subtree_root_threshold = 64

-- whether subtrees of this width are wide enough for so many shares: 64 of them hold the shares, or a
-- square of their width does
abbrev pub is_wide_enough : ℕ → ℕ → Bool
is_wide_enough count width = nat_le count (subtree_root_threshold * width) || nat_le count (width * width)

-- the first of some widths, each twice the one before, that is wide enough
abbrev pub width_from : ℕ → ℕ → ℕ → ℕ
width_from more width count = least_doubling (is_wide_enough count) more width

-- the width of the subtrees over so many shares: the least power of two that is wide enough, as 2 ^ 28
-- is for every count up to 2 ^ 56
abbrev pub subtree_width_of : ℕ → ℕ
subtree_width_of count = width_from 28 1 count

-- ---- the standard's formula

-- the least power of two that isn't below n
pub record IsLeastPower (n least : ℕ) : Type 0 where
  pub is_power : IsPowerOfTwo least
  pub holds : n ≤ least
  pub none_below : (other : ℕ) → IsPowerOfTwo other → n ≤ other → least ≤ other

-- the least number whose square isn't below n
pub record IsLeastRoot (n least : ℕ) : Type 0 where
  pub holds : n ≤ least * least
  pub none_below : (other : ℕ) → n ≤ other * other → least ≤ other

-- the width is the lesser of two powers of two: the least that isn't below a 64th of the shares, and the
-- least that isn't below the width of the least square that holds them
abbrev pub WidthIsLesser : Type 0
WidthIsLesser = (count root by_threshold by_square : ℕ) → count ≤ 2 ^ 56
    → IsLeastPower (div_ceil count subtree_root_threshold) by_threshold
    → IsLeastRoot count root → IsLeastPower root by_square
    → subtree_width_of count ≡ min by_threshold by_square
