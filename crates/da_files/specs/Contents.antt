-- The contents of the files of a command, in the order of the words that name them.
use Rattle.std.specs.Prelude.{ℕ, zero, suc, List, [], ◌∷◌, map, Vec}
use Rattle.std.specs.declared.alloc.Global.{Global}

-- the bytes of each content
abbrev pub contents_of : List (Vec ℕ Global) → List (List ℕ)
contents_of contents = map (λ (v : Vec ℕ Global). v.items) contents

-- file i, empty where there is none
unfoldable pub file_of : List (List ℕ) → ℕ → List ℕ
file_of [] i = []
file_of (file ∷ files) zero = file
file_of (file ∷ files) (suc i) = file_of files i

-- ---- the files of commands that have the same

-- HEADER, the first file of check, repair, light, verify, compact, root and net
abbrev pub header_file : List (List ℕ) → List ℕ
header_file files = file_of files 0

-- MESSAGES, the second file of check, repair, light and net
abbrev pub messages_file : List (List ℕ) → List ℕ
messages_file files = file_of files 1

-- SQUARE, the first file of header, sample, namespace and prove
abbrev pub square_file : List (List ℕ) → List ℕ
square_file files = file_of files 0
