-- How the shares of a blob are cut into subtrees (Celestia specifications, "Data Square Layout", blob share commitment rules;
-- docs/RULES.md, "Subtrees").
use Rattle.std.specs.Prelude.{◌≡◌, ◌≤◌, ℕ, zero, suc, ◌-◌, ◌/◌, ◌%◌, ◌^◌, List, [], ◌∷◌, ◌++◌, replicate}
use Rattle.std.specs.Int.{IsPowerOfTwo}
use Rattle.nmt_tree.specs.Roots.{halvings}
use Rattle.share_split.specs.Widths.{subtree_width_of}

-- the sizes into which n is cut by the powers of two below 2 ^ levels: the greatest of them as often as it fits, then
-- the same of the rest with those below it
unfoldable pub cut_by : ℕ → ℕ → List ℕ
cut_by zero n = []
cut_by (suc levels) n = replicate (n / 2 ^ levels) (2 ^ levels) ++ cut_by levels (n % 2 ^ levels)

-- the powers of two up to the width of the subtrees over so many shares are those below 2 ^ this
abbrev pub levels_of : ℕ → ℕ
levels_of count = suc (halvings (subtree_width_of count))

-- the sizes of the subtrees over so many shares, in order: their width as often as it fits, then the greatest powers of
-- two that fit into the rest, until nothing is left
abbrev pub cut : ℕ → List ℕ
cut count = cut_by (levels_of count) count

-- ---- the rule in its own words

-- the greatest power of two that isn't above a width, and that fits into what is left
pub record IsGreatest (width left size : ℕ) : Type 0 where
  pub power : IsPowerOfTwo size
  pub within : size ≤ width
  pub fits : size ≤ left
  pub greatest : (other : ℕ) → IsPowerOfTwo other → other ≤ width → other ≤ left → other ≤ size

-- so many shares are cut into these sizes: each is the greatest power of two up to the width that fits into what those
-- before it leave, and nothing is left
abbrev pub IsCut : ℕ → ℕ → List ℕ → Type 0
IsCut width left [] = left ≡ 0
IsCut width left (size ∷ sizes) = IsGreatest width left size × IsCut width (left - size) sizes
