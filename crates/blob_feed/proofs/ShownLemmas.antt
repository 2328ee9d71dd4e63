-- The shares that an answer shows.
use Rattle.std.proofs.Common.{◌≡◌, ◌∙◌, ℕ, suc, List, [], ◌∷◌, ◌++◌, map, length, drop, ◌≤◌, append-nil, refl, sym, ap, ap₂, arith}
use Rattle.std.proofs.lemmas.Grind.{common_steps}
use Rattle.std.specs.List.{flat_map}
use Rattle.std.proofs.lemmas.List.{map-append}
use Rattle.std.proofs.lemmas.List.Concat.{flat_map-cons}
use Rattle.namespace_id.specs.declared.cells.Cell.{Cell}
use Rattle.namespace_id.specs.declared.shares.Share.{Share}
use Rattle.axis_roots.specs.declared.answers.Found.{Found}
use Rattle.axis_roots.specs.declared.answers.Found.TheVariants.{Range, Absence}
use Rattle.axis_roots.specs.declared.answers.NsEntry.{NsEntry}
use Rattle.square_serve.specs.Answers.{shown_from, shown_found, shown}
use Rattle.blob_feed.specs.Feeds.{shares_shown, shares_found}

-- the shares from a column on
shares_from : (row col : ℕ) (shares : List Share) → map (λ (p : Cell × Share). p.1) (shown_from row col shares) ≡ shares
unfolding shown_from
shares_from row col [] = refl
shares_from row col (share ∷ shares) = ap (λ (l : List Share). share ∷ l) (shares_from row (suc col) shares)

-- those of what is found in a row
shares_in_row : (row : ℕ) (found : Found) → map (λ (p : Cell × Share). p.1) (shown_found row found) ≡ shares_found found
shares_in_row row (Range start shares nodes) = shares_from row start shares
shares_in_row row (Absence pos leaf nodes) = refl

-- the shares of an answer are those of its entries, one after another
pub shown_by_entry : (answer : List NsEntry)
    → shares_shown answer ≡ flat_map (λ (entry : NsEntry). shares_found entry.found) answer
shown_by_entry [] = refl
shown_by_entry (entry ∷ answer) =
    ap (map (λ (p : Cell × Share). p.1)) (flat_map-cons (λ (e : NsEntry). shown_found e.row e.found) entry answer)
    ∙ map-append (λ (p : Cell × Share). p.1) (shown_found entry.row entry.found) (shown answer)
    ∙ ap₂ (λ (a b : List Share). a ++ b) (shares_in_row entry.row entry.found) (shown_by_entry answer)
    ∙ sym (flat_map-cons (λ (e : NsEntry). shares_found e.found) entry answer)

-- behind the last entry
pub all_shown : (out : List Share) (entries : List NsEntry) (i : ℕ) → length entries ≤ i
    → out ++ flat_map (λ (e : NsEntry). shares_found e.found) (drop i entries)
    ≡ flat_map (λ (e : NsEntry). shares_found e.found) entries
    → out ≡ shares_shown entries
all_shown out entries i le e =
    let none : drop i entries ≡ [] = grind (arith, common_steps, le) in
    sym (append-nil out)
    ∙ ap (λ (l : List NsEntry). out ++ flat_map (λ (e : NsEntry). shares_found e.found) l) (sym none)
    ∙ e ∙ sym (shown_by_entry entries)
