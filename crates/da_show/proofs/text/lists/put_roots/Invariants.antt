use Rattle.std.proofs.Common.{◌≡◌, ◌++◌, drop, string_bytes}
use Rattle.da_show.specs.Parts.{axis_word}
use Rattle.da_show.specs.Text.{following, numbered_lines, axis_root_line}
use Rattle.da_show.proofs.text.lists.put_roots.Given as goal

-- what is there and what is left are all
abbrev pub invariant-loop-i : goal.invariant-loop-i
invariant-loop-i l =
    string_bytes l.out ++ following (numbered_lines (axis_root_line (axis_word l.axis)) l.i (drop l.i l.roots))
    ≡ string_bytes l.fn.out ++ following (numbered_lines (axis_root_line (axis_word l.axis)) 0 l.roots)
