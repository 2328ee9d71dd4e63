-- A collision as contracts see it.
use Rattle.std.specs.Prelude.{ℕ, List, Option}
use Rattle.std.specs.Option.{option_map}

-- two strings
pub record Strings : Type 0 where
  pub left : List ℕ
  pub right : List ℕ

-- the strings of a collision, if there is one
abbrev pub strings_in : Option Strings → Option (List ℕ × List ℕ)
strings_in found = option_map (λ strings. (strings.left, strings.right)) found
