-- Files that are picked.
use Rattle.std.proofs.Common.{◌∙◌, ℕ, List, Option, Some, None, Ok, refl, ap, subst}
use Rattle.std.specs.Io.KnownBytes.{Consumes}
use Rattle.da_io.specs.Files.{Files, Picks}
use Rattle.da_conversing.specs.Courses.{IsOpened, IsFileOf}

-- after a pick that didn't fail the bytes of the file are left
pub opened : (E : Type 0) (told : Option Files) (name : List ℕ) (rest : Option (List ℕ)) (u : Unit {0}) → Picks {E = E} told name rest (Ok u) → IsOpened told name rest
opened E None name rest u p = tt
opened E (Some files) name rest u p = p

-- what was read of a file that was opened, and what is left, are its bytes
pub file_of : (told : Option Files) (name heard : List ℕ) (start now : Option (List ℕ)) → IsOpened told name start → Consumes start now heard → IsFileOf told name heard now
file_of None name heard start now opened read = tt
file_of (Some files) name heard start None opened read = absurd (subst (λ (rest : Option (List ℕ)). Consumes rest None heard) opened.2 read)
file_of (Some files) name heard start (Some later) opened read =
    let parts = subst (λ (rest : Option (List ℕ)). Consumes rest (Some later) heard) opened.2 read in
    (later, refl, opened.1 ∙ ap (λ (bytes : List ℕ). Some bytes) parts)
