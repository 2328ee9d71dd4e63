use Rattle.std.proofs.Common.{◌≡◌, ◌++◌, drop, string_bytes}
use Rattle.da_show.specs.Text.{following, numbered_lines, share_line}
use Rattle.da_show.proofs.text.lists.put_shares.Given as goal

-- what is there and what is left are all
abbrev pub invariant-loop-i : goal.invariant-loop-i
invariant-loop-i l =
    string_bytes l.out ++ following (numbered_lines share_line l.i (drop l.i l.shares))
    ≡ string_bytes l.fn.out ++ following (numbered_lines share_line 0 l.shares)
