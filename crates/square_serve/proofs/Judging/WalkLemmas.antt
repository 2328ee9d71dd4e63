-- The walk over the rows below k and the entries of an answer together.
use Rattle.std.proofs.Common.{◌≡◌, ◌∙◌, ℕ, suc, ◌+◌, ◌<◌, ◌≤◌, List, length, drop, true, false, Option, Some, None, sym, ap, ap₂, arith, drop-drop, length-drop}
use Rattle.namespace_id.specs.declared.namespaces.Namespace.{Namespace}
use Rattle.data_header.specs.Headers.{Roots}
use Rattle.axis_roots.specs.declared.answers.NsEntry.{NsEntry}
use Rattle.square_serve.specs.Answers.{is_wanted, misplaced_from}
use Rattle.square_serve.specs.Placed.{stands_at}
use Rattle.square_serve.proofs.PassingLemmas.{passing_from, passing-step, passing-end}
use Rattle.square_serve.proofs.Judging.PlaceLemmas.{placed_next, misplaced_here, misplaced_end, placed_end}

-- the wanted rows from one on
abbrev pub wanted_from : Roots → Namespace → ℕ → List ℕ
wanted_from header name row = passing_from (is_wanted header name) header.k row

-- what is left to be found from a row and an entry on
abbrev pub walked : Roots → Namespace → List NsEntry → ℕ → ℕ → Option ℕ
walked header name entries row next = misplaced_from header.k next (wanted_from header name row) (drop next entries)

-- a row that isn't wanted is passed over
pub row_passed : (header : Roots) (name : Namespace) (entries : List NsEntry) (row next : ℕ) → row < header.k → is_wanted header name row ≡ false
    → walked header name entries (row + 1) next ≡ walked header name entries row next
row_passed header name entries row next h other =
    sym (ap (λ (l : List ℕ). misplaced_from header.k next l (drop next entries)) (passing-step (is_wanted header name) false header.k row h other))

-- a wanted row takes its entry
pub row_taken : (header : Roots) (name : Namespace) (entries : List NsEntry) (row next : ℕ) → row < header.k → is_wanted header name row ≡ true
    → stands_at header.k row (drop next entries) ≡ true → walked header name entries (row + 1) (next + 1) ≡ walked header name entries row next
row_taken header name entries row next h wanted there =
    let ws : List ℕ = wanted_from header name (row + 1) in
    let count : suc next ≡ next + 1 = omega arith in
    sym (ap (λ (l : List ℕ). misplaced_from header.k next l (drop next entries)) (passing-step (is_wanted header name) true header.k row h wanted)
    ∙ placed_next header.k next row ws (drop next entries) there
    ∙ ap₂ (λ (n : ℕ) (es : List NsEntry). misplaced_from header.k n ws es) count (drop-drop 1 next entries))

-- a wanted row without its entry ends the walk
pub row_misplaced : (header : Roots) (name : Namespace) (entries : List NsEntry) (row next : ℕ) → row < header.k → is_wanted header name row ≡ true
    → stands_at header.k row (drop next entries) ≡ false → walked header name entries row next ≡ Some next
row_misplaced header name entries row next h wanted other =
    ap (λ (l : List ℕ). misplaced_from header.k next l (drop next entries)) (passing-step (is_wanted header name) true header.k row h wanted)
    ∙ misplaced_here header.k next row (wanted_from header name (row + 1)) (drop next entries) other

-- an entry that is left stands at a wrong place
pub rows_over : (header : Roots) (name : Namespace) (entries : List NsEntry) (row next : ℕ) → header.k ≤ row → next < length entries
    → walked header name entries row next ≡ Some next
rows_over header name entries row next h more =
    ap (λ (l : List ℕ). misplaced_from header.k next l (drop next entries)) (passing-end (is_wanted header name) header.k row h)
    ∙ misplaced_end header.k next (drop next entries) (omega (arith, length-drop next entries))

-- else all stand where they should
pub rows_done : (header : Roots) (name : Namespace) (entries : List NsEntry) (row next : ℕ) → header.k ≤ row → length entries ≤ next
    → walked header name entries row next ≡ None
rows_done header name entries row next h none =
    ap (λ (l : List ℕ). misplaced_from header.k next l (drop next entries)) (passing-end (is_wanted header name) header.k row h)
    ∙ placed_end header.k next (drop next entries) (omega (arith, length-drop next entries))
