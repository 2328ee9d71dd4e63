use Rattle.std.proofs.Common.{◌≡◌, ◌+◌, ◌≤◌, ◌++◌, drop, length, vec_len, vec_capacity}
use Rattle.share_split.specs.Units.{units_text}
use Rattle.share_split.proofs.texts.units_text.Given as goal

-- what is there and what is left are the text, and there is capacity for what is left
abbrev pub invariant-loop-unit : goal.invariant-loop-unit
invariant-loop-unit l = record {
  all : l.text.items ++ units_text (drop l.unit-index l.units) ≡ units_text l.units;
  len : vec_len l.text + length (units_text (drop l.unit-index l.units)) ≡ l.size;
  capacity : l.size ≤ vec_capacity l.text;
}
