use Rattle.std.proofs.Common.{◌≡◌, ◌++◌, drop, map, string_bytes}
use Rattle.da_show.specs.Text.{following, message_line}
use Rattle.da_show.proofs.text.lists.put_messages.Given as goal

-- what is there and what is left are all
abbrev pub invariant-loop-message : goal.invariant-loop-message
invariant-loop-message l =
    string_bytes l.out ++ following (map message_line (drop l.message-index l.messages))
    ≡ string_bytes l.fn.out ++ following (map message_line l.messages)
