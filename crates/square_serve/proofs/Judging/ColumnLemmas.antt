-- Each entry of a complete answer takes columns of the original square alone.
use Rattle.std.proofs.Common.{◌≡◌, ℕ, ◌+◌, ◌<◌, ◌≤◌, true, List, length, arith, ltb-false}
use Rattle.std.specs.Prelude.{not, nat_lt}
use Rattle.std.specs.List.{Contains}
use Rattle.std.proofs.lemmas.Bool.{and_parts, not-true, ltb-true}
use Rattle.namespace_id.specs.declared.namespaces.Namespace.{Namespace}
use Rattle.data_header.specs.Headers.{Roots}
use Rattle.axis_roots.specs.declared.answers.Found.{Found}
use Rattle.axis_roots.specs.declared.answers.Found.TheVariants.{Range, Absence}
use Rattle.axis_roots.specs.declared.answers.NsEntry.{NsEntry}
use Rattle.square_serve.specs.Answers.{is_placed, first_column, end_column, HoldsEntry, IsComplete}
use Rattle.square_serve.proofs.Judging.EachLemmas.{each_of}

-- what stands in the original square takes columns of it
placed_columns : (k : ℕ) (found : Found) → is_placed k found ≡ true → (first_column found < end_column found) × (end_column found ≤ k)
placed_columns k (Range start shares nodes) placed =
    let parts = and_parts (nat_lt 0 (length shares)) (not (nat_lt k (start + length shares))) placed in
    let some = ltb-true 0 (length shares) parts.0 in
    let within = ltb-false k (start + length shares) (not-true (nat_lt k (start + length shares)) parts.1) in
    (omega (arith, some), omega (arith, within))
placed_columns k (Absence pos leaf nodes) placed =
    let within = ltb-true pos k placed in (omega arith, omega (arith, within))

-- and so does each entry of a complete answer
pub entry_columns : (header : Roots) (name : Namespace) (answer : List NsEntry) (entry : NsEntry) → IsComplete header name answer
    → Contains answer entry → (first_column entry.found < end_column entry.found) × (end_column entry.found ≤ header.k)
entry_columns header name answer entry complete at =
    placed_columns header.k entry.found (each_of (HoldsEntry header name) answer entry complete.entries at).placed
