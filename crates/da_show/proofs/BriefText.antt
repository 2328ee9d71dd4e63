-- What is shown of what is brief of a value is what is shown of the value.
use Rattle.std.proofs.Common.{◌≡◌, ◌∙◌, ℕ, List, [], ◌∷◌, map, Some, refl, sym, ap, ap₂}
use Rattle.std.proofs.lemmas.List.{length-map}
use Rattle.std.proofs.lemmas.Option.{same_Some}
use Rattle.namespace_id.specs.declared.namespaces.Namespace.{Namespace}
use Rattle.axis_roots.specs.declared.answers.NsEntry.{NsEntry}
use Rattle.axis_roots.specs.declared.answers.Found.{Found}
use Rattle.axis_roots.specs.declared.answers.Found.TheVariants.{Range, Absence}
use Rattle.da_wire.specs.declared.frames.Frame.{Frame}
use Rattle.da_wire.specs.declared.frames.Frame.TheVariants as frames
use Rattle.da_wire.specs.declared.briefs.Brief.{Brief}
use Rattle.frame_payloads.specs.kinds.Names.{found_place, entry_place}
use Rattle.da_wire.specs.Briefs.{brief_of}
use Rattle.da_show.specs.Text.{row_line, entry_line, found_place_line, place_line, range_line, absence_line, names_lines, places_lines, names_line, brief_lines, joined, lines_of, shown_text}

-- where something is found in a row is the line of what is found
found_place_is : (row : ℕ) (found : Found) → found_place_line row (found_place found) ≡ row_line row found
unfolding range_line absence_line
found_place_is row (Range start shares nodes) = refl
found_place_is row (Absence pos leaf nodes) = refl

-- so it is of all entries
places_are : (entries : List NsEntry) → map place_line (map entry_place entries) ≡ map entry_line entries
places_are [] = refl
places_are (entry ∷ entries) = ap₂ (λ (x : List ℕ) (xs : List (List ℕ)). x ∷ xs) (found_place_is entry.row entry.found) (places_are entries)

-- the lines of a namespace answer
answer_lines : (name : Namespace) (entries : List NsEntry) → places_lines name (map entry_place entries) ≡ names_lines name entries
answer_lines name entries =
    ap₂ (λ (n : ℕ) (later : List (List ℕ)). names_line name n ∷ later) (length-map entries entry_place) (places_are entries)

-- the lines of a value
lines_are : (value : Frame) (brief : Brief) → brief_of value ≡ Some brief → brief_lines brief ≡ lines_of value
lines_are (frames.Names name answer) brief e = ap brief_lines (sym (same_Some _ _ e)) ∙ answer_lines name answer
lines_are (frames.Fraud claim) brief e = ap brief_lines (sym (same_Some _ _ e))
lines_are (frames.Missing cells) brief e = ap brief_lines (sym (same_Some _ _ e))
lines_are (frames.Sample cell axis) brief e = ap brief_lines (sym (same_Some _ _ e))
lines_are (frames.Request name) brief e = ap brief_lines (sym (same_Some _ _ e))
lines_are (frames.Block block) brief e = ap brief_lines (sym (same_Some _ _ e))
lines_are (frames.Transactions units) brief e = ap brief_lines (sym (same_Some _ _ e))
lines_are (frames.Refusal refusal) brief e = ap brief_lines (sym (same_Some _ _ e))
lines_are frames.State brief e = ap brief_lines (sym (same_Some _ _ e))
lines_are (frames.Header header) brief e = absurd cc
lines_are (frames.Square square) brief e = absurd cc
lines_are (frames.Message message) brief e = absurd cc
lines_are (frames.Clash clash) brief e = absurd cc
lines_are (frames.Commit proof) brief e = absurd cc
lines_are (frames.Rooted proof) brief e = absurd cc

-- the text of a value
pub brief_text : (value : Frame) (brief : Brief) → brief_of value ≡ Some brief → joined (brief_lines brief) ≡ shown_text value
brief_text value brief e = ap joined (lines_are value brief e)
