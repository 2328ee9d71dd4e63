-- Namespace answers, and when one is complete under a header (docs/RULES.md, "Namespace answers").
use Rattle.std.specs.Prelude.{◌≡◌, ℕ, suc, ◌+◌, ◌*◌, ◌==◌, ◌&&◌, not, nat_lt, List, [], ◌∷◌, map, length, Bool, true, false, Option, Some, None, if◌then◌else◌}
use Rattle.std.specs.List.{filter, flat_map, AllByRecursion}
use Rattle.std.specs.Option.{option_map, option_map_or}
use Rattle.namespace_id.specs.declared.cells.Cell.{Cell}
use Rattle.namespace_id.specs.declared.cells.Axis.TheVariants.{Row}
use Rattle.namespace_id.specs.declared.namespaces.Namespace.{Namespace}
use Rattle.namespace_id.specs.declared.shares.Share.{Share}
use Rattle.namespace_id.specs.declared.digests.Digest.{Digest}
use Rattle.namespace_id.specs.Names.{is_at_most, is_parity}
use Rattle.namespace_id.specs.Digests.{least_of, greatest_of}
use Rattle.namespace_id.specs.Lists.{ascending}
use Rattle.nmt_tree.specs.Roots.{halvings}
use Rattle.nmt_proofs.specs.declared.opening.OpenRefusal.{OpenRefusal}
use Rattle.nmt_proofs.specs.Causes.{OpensRange, OpensAbsence, range_refusal, absence_refusal}
use Rattle.data_header.specs.Headers.{Roots, root_of}
use Rattle.axis_roots.specs.declared.answers.Found.{Found}
use Rattle.axis_roots.specs.declared.answers.Found.TheVariants.{Range, Absence}
use Rattle.axis_roots.specs.declared.answers.NsEntry.{NsEntry}
use Rattle.square_serve.specs.declared.checking.NsRefusal.{NsRefusal}
use Rattle.square_serve.specs.declared.checking.NsRefusal.TheVariants.{Parity, Rows, Proof}

-- ---- what an answer shows

-- shares of a row, each with its cell, from a column on
unfoldable pub shown_from : ℕ → ℕ → List Share → List (Cell × Share)
shown_from row col [] = []
shown_from row col (share ∷ shares) = (record { row = row; col = col }, share) ∷ shown_from row (suc col) shares

-- the shares of a range, none of an absence
abbrev pub shown_found : ℕ → Found → List (Cell × Share)
shown_found row (Range start shares nodes) = shown_from row start shares
shown_found row (Absence pos leaf nodes) = []

-- the shares that an answer shows, each with its cell, in their order
abbrev pub shown : List NsEntry → List (Cell × Share)
shown answer = flat_map (λ entry. shown_found entry.row entry.found) answer

-- ---- where its entries stand

-- whether a namespace lies between the namespaces of a row's root, so that the row may hold it
abbrev pub is_wanted : Roots → Namespace → ℕ → Bool
is_wanted header name row =
    is_at_most (least_of (root_of header Row row)) name && is_at_most name (greatest_of (root_of header Row row))

-- the rows of the original square that may hold a namespace, ascending
abbrev pub wanted_rows : Roots → Namespace → List ℕ
wanted_rows header name = filter (is_wanted header name) (ascending 0 header.k)

-- whether what is found stands in the columns of the original square: a range of at least one share, an absence
abbrev pub is_placed : ℕ → Found → Bool
is_placed k (Range start shares nodes) = nat_lt 0 (length shares) && not (nat_lt k (start + length shares))
is_placed k (Absence pos leaf nodes) = nat_lt pos k

-- the first column that is taken by what is found
abbrev pub first_column : Found → ℕ
first_column (Range start shares nodes) = start
first_column (Absence pos leaf nodes) = pos

-- the column behind the last one that is
abbrev pub end_column : Found → ℕ
end_column (Range start shares nodes) = start + length shares
end_column (Absence pos leaf nodes) = suc pos

-- ---- its openings

-- what is found in a row opens under the row's root, and leaves no other place for the namespace
abbrev pub OpensFound : ℕ → Digest → Namespace → Found → Type 0
OpensFound k root name (Range start shares nodes) = OpensRange (halvings (2 * k)) start name shares nodes root
OpensFound k root name (Absence pos leaf nodes) = OpensAbsence (halvings (2 * k)) pos name leaf nodes root

-- the refusal of what is found in a row
abbrev pub found_refusal : ℕ → Digest → Namespace → Found → Option OpenRefusal
found_refusal k root name (Range start shares nodes) = range_refusal (halvings (2 * k)) start name shares nodes root
found_refusal k root name (Absence pos leaf nodes) = absence_refusal (halvings (2 * k)) pos name leaf nodes root

-- ---- complete answers

-- an entry stands in the original square and opens under the root of its row
pub record HoldsEntry (header : Roots) (name : Namespace) (entry : NsEntry) : Type 0 where
  pub placed : is_placed header.k entry.found ≡ true
  pub opens : OpensFound header.k (root_of header Row entry.row) name entry.found

-- an answer is complete: the namespace isn't PARITY, there is an entry for each row that may hold it, in their order,
-- and each entry holds
pub record IsComplete (header : Roots) (name : Namespace) (answer : List NsEntry) : Type 0 where
  pub other : is_parity name ≡ false
  pub rows : map (λ entry. entry.row) answer ≡ wanted_rows header name
  pub entries : AllByRecursion (HoldsEntry header name) answer

-- ---- refusals, in their order

-- the first place at which the entries' rows aren't the wanted ones, or an entry doesn't stand in the original square
unfoldable pub misplaced_from : ℕ → ℕ → List ℕ → List NsEntry → Option ℕ
misplaced_from k number [] [] = None
misplaced_from k number [] (entry ∷ answer) = Some number
misplaced_from k number (row ∷ wanted) [] = Some number
misplaced_from k number (row ∷ wanted) (entry ∷ answer) =
    if (entry.row == row) && is_placed k entry.found then misplaced_from k (suc number) wanted answer else Some number

-- that of an answer
abbrev pub first_misplaced : Roots → Namespace → List NsEntry → Option ℕ
first_misplaced header name answer = misplaced_from header.k 0 (wanted_rows header name) answer

-- the first entry that doesn't open, and why; the first one has this number
unfoldable pub refused_from : Roots → Namespace → ℕ → List NsEntry → Option (ℕ × OpenRefusal)
refused_from header name number [] = None
refused_from header name number (entry ∷ answer) =
    option_map_or (λ why. Some (number, why))
    (found_refusal header.k (root_of header Row entry.row) name entry.found)
    (refused_from header name (suc number) answer)

-- that of an answer
abbrev pub first_refused : Roots → Namespace → List NsEntry → Option (ℕ × OpenRefusal)
first_refused header name answer = refused_from header name 0 answer

-- the refusal of an answer: for the first check that fails, none where all hold
abbrev pub answer_refusal : Roots → Namespace → List NsEntry → Option NsRefusal
answer_refusal header name answer =
    if is_parity name then Some Parity else
    option_map_or (λ i. Some (Rows i)) (first_misplaced header name answer)
    (option_map (λ x. Proof x.0 x.1) (first_refused header name answer))
