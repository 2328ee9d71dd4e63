-- The line of a data root, or of another hash.
use Rattle.std.specs.Prelude.{ℕ, List, ◌++◌, codes}
use Rattle.hex.specs.Hex.{encode_lower}

-- the line of a data root: its 32 bytes in 64 lower-case hexadecimal digits
abbrev pub root_line : List ℕ → List ℕ
root_line root = encode_lower root ++ codes "\n"
