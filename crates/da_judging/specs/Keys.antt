-- Files that are a key of draws.
use Rattle.std.specs.Prelude.{ℕ, List, Result}
use Rattle.std.specs.Option.{ok_or}
use Rattle.std.specs.Io.BufRead.{strip_last}
use Rattle.hex.specs.Hex.{decode_sized}
use Rattle.da_wire.specs.Frames.{ok_of}

-- a text without the one line feed at its end, if it has one
abbrev pub without_line_feed : List ℕ → List ℕ
without_line_feed text = strip_last 10 text

-- the key that a file is, or where it stops being one: 32 bytes in 64 hexadecimal digits of either case, and at most one
-- line feed behind them
abbrev pub key_file_in : List ℕ → Result (List ℕ) ℕ
key_file_in bytes = ok_or (ok_of (decode_sized (without_line_feed bytes) 32)) 0
