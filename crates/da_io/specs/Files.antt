-- Files by name, and the bytes that are left of the picked one.
use Rattle.std.specs.Prelude.{◌≡◌, ℕ, ◌||◌, Bool, List, [], drop, slice_get, position, codes, ⊤, Some, None, Ok, Err, Result, Vec, String}
use Rattle.std.specs.declared.option.Option.{Option}
use Rattle.std.specs.declared.alloc.Global.{Global}
use Rattle.std.specs.Option.{option_map, option_map_or}
use Rattle.std.specs.String.{string_bytes}
use Rattle.std.specs.Str.{bytes_eq}

-- which names there are, and the bytes of each
abbrev pub Files : Type 0
Files = List ℕ → Option (List ℕ)

-- whether a name means the standard input that the process has, and no file
abbrev pub is_standard_input : List ℕ → Bool
is_standard_input name = bytes_eq name (codes "-") || bytes_eq name (codes "/dev/stdin")

-- the bytes of a name, where there is one
abbrev pub name_bytes : Option (String Global) → Option (List ℕ)
name_bytes name = option_map string_bytes name

-- the bytes of file i of a list, none where there is no such file
abbrev pub file_at : List (Vec ℕ Global) → ℕ → List ℕ
file_at contents i = option_map_or (λ (v : Vec ℕ Global). v.items) (slice_get contents i) []

-- the place of a name in a list of names
abbrev pub place_of : List (String Global) → List ℕ → Option ℕ
place_of names name = position (λ n. bytes_eq (string_bytes n) name) names

-- the files with these names, and their contents in the same order
abbrev pub files_in : List (String Global) → List (Vec ℕ Global) → Files
files_in names contents name = option_map (file_at contents) (place_of names name)

-- what is left of the picked file, of which `place` bytes were read
abbrev pub rest_in : List (Vec ℕ Global) → Option ℕ → ℕ → List ℕ
rest_in contents None place = []
rest_in contents (Some i) place = drop place (file_at contents i)

-- after a pick the bytes of the file with that name are left; after a pick that failed, none
abbrev pub Picks : {E : Type 0} → Option Files → List ℕ → Option (List ℕ) → Result (Unit {0}) E → Type 0
Picks None name rest result = ⊤
Picks (Some files) name rest (Ok _) = (content : List ℕ) × (files name ≡ Some content) × (rest ≡ Some content)
Picks (Some files) name rest (Err _) = rest ≡ Some []
