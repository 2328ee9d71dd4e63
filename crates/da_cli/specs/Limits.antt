-- The limits of what is read (docs/FORMATS.md, "Limits").
use Rattle.std.specs.Prelude.{ℕ, zero, suc, List, None, Some}
use Rattle.std.specs.declared.option.Option.{Option}
use Rattle.da_words.specs.declared.command.Command.{Command}
use Rattle.da_words.specs.declared.command.Command.TheVariants.{Repair}
use Rattle.da_words.specs.declared.words.Call.{Call}
use Rattle.da_words.specs.Words.{call_of}

-- the bytes that one input file may have: 512 MiB
abbrev pub file_limit : ℕ
file_limit = 536870912

-- the bytes that MESSAGES of repair may have, which are not kept: 2 GiB
abbrev pub stream_limit : ℕ
stream_limit = 2147483648

-- the bytes that each file of a command may have that keeps them, by the number of its word
abbrev pub file_limits : ℕ → ℕ
file_limits i = file_limit

-- those of repair HEADER MESSAGES
abbrev pub repair_limits : ℕ → ℕ
repair_limits zero = file_limit
repair_limits (suc i) = stream_limit

-- those of a command
abbrev pub limits_for : Command → ℕ → ℕ
limits_for Repair = repair_limits
limits_for command = file_limits

-- those of a call; where words are none, no file is read
abbrev pub limits_in : Option Call → ℕ → ℕ
limits_in None = file_limits
limits_in (Some call) = limits_for call.command

-- those of words
abbrev pub limits_of : List (List ℕ) → ℕ → ℕ
limits_of words = limits_in (call_of words)
