-- Complete answers are short enough to be written.
use Rattle.std.proofs.Common.{◌≡◌, ℕ, ◌+◌, ◌≤◌, Bool, true, false, List, [], ◌∷◌, length, map, ap, refl, arith, ltb-false}
use Rattle.std.specs.Prelude.{not, nat_lt}
use Rattle.std.specs.List.{AllByRecursion, list_any, filter}
use Rattle.std.proofs.lemmas.Bool.{and_parts, or_from, not-true, le-ltb}
use Rattle.std.proofs.lemmas.List.{length-map}
use Rattle.std.proofs.lemmas.List.Filters.{length-filter_both}
use Rattle.namespace_id.specs.declared.namespaces.Namespace as names
use Rattle.namespace_id.specs.Sizes.{greatest_width}
use Rattle.namespace_id.specs.Lists.{ascending}
use Rattle.namespace_id.proofs.AscendingLemmas.{length-ascending}
use Rattle.namespace_id.proofs.WidthLemmas.{is_width-le}
use Rattle.data_header.specs.Headers.{Roots}
use Rattle.square_layout.specs.Blocks.{SquareShares}
use Rattle.axis_roots.specs.Grids.{IsHeaderOf}
use Rattle.axis_roots.specs.declared.answers.Found.{Found}
use Rattle.axis_roots.specs.declared.answers.Found.TheVariants.{Range, Absence}
use Rattle.axis_roots.specs.declared.answers.NsEntry.{NsEntry}
use Rattle.axis_roots.proofs.Grids.HeaderLemmas.{header_roots}
use Rattle.square_serve.specs.Answers.{is_wanted, is_placed, HoldsEntry, IsComplete}
use Rattle.frame_payloads.specs.kinds.Names.{most_entries, is_long_found, is_long_entry, is_long_answer}

-- no more elements pass a test than there are
filter_few : {A : Type 0} (test : A → Bool) (xs : List A) → length (filter test xs) ≤ length xs
filter_few test xs = omega (arith, length-filter_both test (λ x. not (test x)) (λ x. refl) xs)

-- what is found in the original square has as many shares as can be written
found_short : (k : ℕ) (found : Found) → k ≤ greatest_width → is_placed k found ≡ true → is_long_found found ≡ false
found_short k (Range start shares nodes) le placed =
    let within = ltb-false k (start + length shares) (not-true (nat_lt k (start + length shares)) (and_parts (nat_lt 0 (length shares)) (not (nat_lt k (start + length shares))) placed).1) in
    le-ltb greatest_width (length shares) (omega (arith, within, le))
found_short k (Absence pos leaf nodes) le placed = refl

-- so has each entry
entries_short : (header : Roots) (name : names.Namespace) (answer : List NsEntry) → header.k ≤ greatest_width → AllByRecursion (HoldsEntry header name) answer
    → list_any is_long_entry answer ≡ false
entries_short header name [] le holds = refl
entries_short header name (entry ∷ answer) le holds =
    or_from (is_long_entry entry) (list_any is_long_entry answer) (found_short header.k entry.found le holds.0.placed) (entries_short header name answer le holds.1)

-- an answer that is complete under a square's header has an entry for at most each row of the square
pub complete_short : (header : Roots) (square : SquareShares) (name : names.Namespace) (answer : List NsEntry) → IsHeaderOf header square → IsComplete header name answer
    → is_long_answer answer ≡ false
complete_short header square name answer own complete =
    let le : header.k ≤ greatest_width = is_width-le header.k (header_roots square header own).width in
    let rows = length-map answer (λ (entry : NsEntry). entry.row) in
    let few = filter_few (is_wanted header name) (ascending 0 header.k) in
    let many : length (map (λ (entry : NsEntry). entry.row) answer) ≡ length (filter (is_wanted header name) (ascending 0 header.k)) = ap length complete.rows in
    or_from (nat_lt most_entries (length answer)) (list_any is_long_entry answer)
    (le-ltb greatest_width (length answer) (omega (arith, rows, many, few, length-ascending header.k 0, le))) (entries_short header name answer le complete.entries)
