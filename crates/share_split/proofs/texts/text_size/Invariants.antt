use Rattle.std.proofs.Common.{◌≡◌, ◌+◌, ◌*◌, ◌^◌, ◌≤◌, drop, length}
use Rattle.share_split.specs.Units.{units_text}
use Rattle.share_split.proofs.texts.text_size.Given as goal

-- what is counted and what is left are the text, and each unit adds less than 2 ^ 64
abbrev pub invariant-loop-unit : goal.invariant-loop-unit
invariant-loop-unit l = record {
  all : l.size + length (units_text (drop l.unit-index l.units)) ≡ length (units_text l.units);
  fits : l.size ≤ l.unit-index * 2 ^ 64;
}
