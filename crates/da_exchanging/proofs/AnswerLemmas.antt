-- Answers of one entry.
use Rattle.std.proofs.Common.{◌≡◌, ◌∙◌, true, false, ◌≤◌, leb, leb-true, ltb, Bool, ◌||◌, ℕ, refl, ap, List, [], ◌∷◌, length, arith}
use Rattle.std.proofs.lemmas.Bool.{and_parts}
use Rattle.std.proofs.lemmas.Bool.Decides.{nat_tests}
use Rattle.axis_roots.specs.declared.answers.Found.{Found}
use Rattle.axis_roots.specs.declared.answers.Found.TheVariants.{Range, Absence}
use Rattle.axis_roots.specs.declared.answers.NsEntry.{NsEntry}
use Rattle.celestia_pb.specs.RowData.{found_has_message}
use Rattle.frame_payloads.specs.kinds.Names.{is_long_answer}

-- a count that isn't above that of a row
pub not_above : (count : ℕ) → count ≤ 512 → ltb 512 count ≡ false
not_above count few = grind (arith, nat_tests)

-- an entry that has a message has a frame
found_short : (row : ℕ) (found : Found) → found_has_message found ≡ true → is_long_answer (record { row = row; found = found } ∷ []) ≡ false
found_short row (Range start shares nodes) has =
    let few : length shares ≤ 512 = leb-true (length shares) 512 (and_parts (ltb 0 (length shares)) (leb (length shares) 512) has).1 in
    ap (λ (b : Bool). b || false) (not_above (length shares) few)
found_short row (Absence pos leaf nodes) has = refl

pub entry_short : (entries : List NsEntry) (entry : NsEntry) → entries ≡ entry ∷ [] → found_has_message entry.found ≡ true → is_long_answer entries ≡ false
entry_short entries entry one has = ap is_long_answer one ∙ found_short entry.row entry.found has
