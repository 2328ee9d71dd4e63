-- Words on the text of units, on where they start in it, and on the shares that it takes.
use Rattle.std.specs.Prelude.{◌≡◌, ℕ, ◌+◌, List, length, drop}
use Rattle.share_split.specs.Units.{units_text, starts_from}
use Rattle.share_split.specs.declared.texts.NextUnit.{NextUnit}

-- where the next unit and those behind it start
abbrev pub starts_of : List (List ℕ) → NextUnit → List ℕ
starts_of units next = starts_from next.start (drop next.index units)

-- the next unit starts where the text of those before it ends
abbrev pub IsNextOf : List (List ℕ) → NextUnit → Type 0
IsNextOf units next = next.start + length (units_text (drop next.index units)) ≡ length (units_text units)
