-- A file of a list, by its number.
use Rattle.std.proofs.Common.{◌≡◌, ℕ, zero, suc, ◌<◌, ◌≤◌, List, [], ◌∷◌, length, get_or, Vec, Global, refl, ap, arith}
use Rattle.da_files.specs.Contents.{contents_of, file_of}

-- file i of a list
pub file_some : (files : List (Vec ℕ Global)) (i : ℕ) (file : Vec ℕ Global) → i < length files → file ≡ get_or files i file
    → file.items ≡ file_of (contents_of files) i
unfolding file_of
file_some [] i file h e = absurd (omega arith)
file_some (f ∷ files) zero file h e = ap (λ (v : Vec ℕ Global). v.items) e
file_some (f ∷ files) (suc i) file h e = file_some files i file (omega arith) e

-- there is no file i
pub file_none : (files : List (Vec ℕ Global)) (i : ℕ) → length files ≤ i → [] ≡ file_of (contents_of files) i
unfolding file_of
file_none [] i h = refl
file_none (f ∷ files) zero h = absurd (omega arith)
file_none (f ∷ files) (suc i) h = file_none files i (omega arith)
