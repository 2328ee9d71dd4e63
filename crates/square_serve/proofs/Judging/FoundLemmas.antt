-- What is found in a row of a square: exactly the row's shares of the namespace.
use Rattle.std.proofs.Common.{◌≡◌, ◌∙◌, ◌&&◌, ℕ, ◌+◌, ◌*◌, ◌^◌, ◌<◌, ◌≤◌, List, [], length, true, false, not, nat_lt, refl, sym, ap, arith}
use Rattle.std.proofs.lemmas.Bool.{eqb-true, cases_lt}
use Rattle.std.proofs.lemmas.Bool.Decides.{nat_tests}
use Rattle.namespace_id.specs.declared.namespaces.Namespace.{Namespace}
use Rattle.namespace_id.specs.declared.shares.Share.{Share}
use Rattle.namespace_id.specs.declared.digests.Digest.{Digest}
use Rattle.namespace_id.specs.declared.cells.Axis.TheVariants.{Row}
use Rattle.namespace_id.specs.Names.{is_parity}
use Rattle.namespace_id.proofs.PowerLemmas.{double_halvings}
use Rattle.nmt_tree.specs.Roots.{halvings}
use Rattle.nmt_tree.specs.Levels.{span}
use Rattle.nmt_proofs.specs.Openings.{leaves_from, one_digest}
use Rattle.nmt_proofs.specs.Clashes.{Agree}
use Rattle.nmt_proofs.specs.Complete.{range_break, absence_break, IsNowhereElse}
use Rattle.nmt_proofs.proofs.Agreement.ListedLemmas.{agreed}
use Rattle.nmt_proofs.proofs.Parts.WholeLemmas.{whole_is_span}
use Rattle.nmt_proofs.proofs.Agreement.OtherLeafLemmas.{range_alone, absence_alone}
use Rattle.data_header.specs.Headers.{Roots, root_of}
use Rattle.square_layout.specs.Blocks.{SquareShares}
use Rattle.axis_roots.specs.declared.answers.Found.{Found}
use Rattle.axis_roots.specs.declared.answers.Found.TheVariants.{Range, Absence}
use Rattle.axis_roots.specs.Grids.{IsHeaderOf, axis_names, axis_shares, axis_tree}
use Rattle.square_serve.specs.Shares.{row_shares}
use Rattle.square_serve.specs.Answers.{is_placed, shown_found, shown_from, OpensFound}
use Rattle.square_serve.specs.Own.{entry_opened}
use Rattle.square_serve.proofs.Judging.EntryLemmas.{leaves-places, range_listed}
use Rattle.square_serve.proofs.RowLemmas.{row_shares-range, row_shares-none}
use Rattle.square_serve.proofs.RowTreeLemmas.{IsRow, own_row}

-- where a range stands
pub placed_range : (k start count : ℕ) → (nat_lt 0 count && not (nat_lt k (start + count))) ≡ true → (0 < count) × (start + count ≤ k)
placed_range k start count h = grind (arith, nat_tests)

-- where an absence stands
pub placed_absence : (k pos : ℕ) → nat_lt pos k ≡ true → pos < k
placed_absence k pos h = grind (arith, nat_tests)

-- what a range shows are the row's shares of the namespace
range_shows : (header : Roots) (name : Namespace) (square : SquareShares) (own : IsHeaderOf header square) (row start : ℕ) (shares : List Share)
    (nodes : List Digest) → is_parity name ≡ false → row < square.k → is_placed square.k (Range start shares nodes) ≡ true
    → OpensFound square.k (root_of header Row row) name (Range start shares nodes)
    → Agree (entry_opened square.k name (Range start shares nodes)) (axis_tree square.k own.grid Row row)
    → shown_from row start shares ≡ row_shares square name row
range_shows header name square own row start shares nodes other h placed opens same =
    let k : ℕ = square.k in
    let d : ℕ = halvings (2 * k) in
    let names : List Namespace = axis_names k own.grid Row row in
    let line : List Share = axis_shares k own.grid Row row in
    let one : IsRow k own.grid row = own_row header square own row h in
    let size : 2 * k ≡ 2 ^ d = sym (double_halvings k own.whole.width) in
    let within : (0 < length shares) × (start + length shares ≤ k) = placed_range k start (length shares) placed in
    let listed = agreed d 0 names line (leaves_from start name shares) nodes
    (leaves-places 0 (0 + 2 ^ d) start name shares (omega arith) (omega (arith, within.1, size))) (eqb-true _ _ opens.opens.count) same in
    let at = range_listed names line start name shares (omega (arith, within.1, size, one.leaves.name_count)) (omega (arith, within.1, size, one.leaves.share_count)) listed.0 in
    let alone : IsNowhereElse name names start (start + length shares) =
    range_alone d start name names line shares other one.leaves one.ordered within.0 (omega (arith, within.1, size))
    (sym (ap (λ (ns : List Digest). range_break d start name shares ns) listed.1) ∙ opens.complete) in
    row_shares-range square own.grid name row start shares own.extends h within.1 (λ i lt. sym (at i lt).1) (λ i lt. (at i lt).0) alone

-- where an absence is shown, the row has none
absence_shows : (header : Roots) (name : Namespace) (square : SquareShares) (own : IsHeaderOf header square) (row pos : ℕ) (digest : Digest)
    (nodes : List Digest) → is_parity name ≡ false → row < square.k → is_placed square.k (Absence pos digest nodes) ≡ true
    → OpensFound square.k (root_of header Row row) name (Absence pos digest nodes)
    → Agree (entry_opened square.k name (Absence pos digest nodes)) (axis_tree square.k own.grid Row row)
    → [] ≡ row_shares square name row
unfolding span
absence_shows header name square own row pos digest nodes other h placed opens same =
    let k : ℕ = square.k in
    let d : ℕ = halvings (2 * k) in
    let names : List Namespace = axis_names k own.grid Row row in
    let line : List Share = axis_shares k own.grid Row row in
    let one : IsRow k own.grid row = own_row header square own row h in
    let size : 2 * k ≡ 2 ^ d = sym (double_halvings k own.whole.width) in
    let within : pos < k = placed_absence k pos placed in
    let listed = agreed d 0 names line (one_digest pos digest) nodes (refl, omega arith, omega (arith, within, size), tt) (eqb-true _ _ opens.opens.count) same in
    let alone : IsNowhereElse name names pos pos =
    absence_alone d pos name names line digest other one.leaves one.ordered (omega (arith, within, size))
    (listed.0.0 ∙ whole_is_span 0 pos names line)
    (sym (ap (λ (ns : List Digest). absence_break d pos name digest ns) listed.1) ∙ opens.complete) in
    sym (row_shares-none square own.grid name row own.extends h
    (λ i lt. alone i (omega (arith, lt, size, one.leaves.name_count)) (cases_lt i pos)))

-- what is found in a row shows exactly the row's shares of the namespace
pub found_shows : (header : Roots) (name : Namespace) (square : SquareShares) (own : IsHeaderOf header square) (row : ℕ) (found : Found)
    → is_parity name ≡ false → row < square.k → is_placed square.k found ≡ true → OpensFound square.k (root_of header Row row) name found
    → Agree (entry_opened square.k name found) (axis_tree square.k own.grid Row row) → shown_found row found ≡ row_shares square name row
found_shows header name square own row (Range start shares nodes) other h placed opens same =
    range_shows header name square own row start shares nodes other h placed opens same
found_shows header name square own row (Absence pos digest nodes) other h placed opens same =
    absence_shows header name square own row pos digest nodes other h placed opens same
