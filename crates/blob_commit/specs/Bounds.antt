-- Bounds that follow from the greatest width of a square (docs/RULES.md, "Widths").
use Rattle.std.specs.Prelude.{ℕ, ◌+◌, ◌-◌}
use Rattle.namespace_id.specs.Sizes.{greatest_width, most_depth}

-- the powers of two up to the greatest width are those below 2 ^ this
abbrev pub most_levels : ℕ
most_levels = most_depth

-- how often the greatest width is halved
abbrev pub most_halvings : ℕ
most_halvings = most_levels - 1

-- the most subtrees that cover the shares of a square: of the widest as many as a row has shares, and one of each
-- lesser width
abbrev pub most_subtrees : ℕ
most_subtrees = greatest_width + most_halvings
