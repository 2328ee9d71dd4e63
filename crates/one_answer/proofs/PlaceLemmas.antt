-- What is found in a row stands at one place.
use Rattle.std.proofs.Common.{◌≡◌, ◌∙◌, ℕ, ◌+◌, ◌*◌, ◌≤◌, List, length, take, drop, sym, ap, subst, arith, length-drop, length-take-le}
use Rattle.std.proofs.lemmas.List.{length-map}
use Rattle.namespace_id.specs.declared.cells.Axis.TheVariants.{Row}
use Rattle.namespace_id.specs.declared.namespaces.Namespace.{Namespace}
use Rattle.namespace_id.specs.declared.shares.Share.{Share}
use Rattle.axis_roots.specs.declared.answers.Found.{Found}
use Rattle.axis_roots.specs.declared.answers.Found.TheVariants as found
use Rattle.square_serve.specs.declared.finding.RowFound.{RowFound}
use Rattle.square_serve.specs.declared.finding.RowFound.TheVariants.{Range, Absence}
use Rattle.square_serve.specs.Serving.{HeldParts, found_in}
use Rattle.square_serve.specs.Finding.{found_among, found_on, HasColumns}
use Rattle.axis_roots.specs.Grids.{axis_cells, axis_shares, share_at}
use Rattle.axis_roots.proofs.Grids.AxisLemmas.{length-axis_cells}

-- so many shares are as many as they are
range_length : (k : ℕ) (line : List Share) (start count : ℕ) → k ≤ length line → start + count ≤ k → length (take count (drop start line)) ≡ count
range_length k line start count few within =
    length-take-le count (drop start line) (omega (arith, length-drop start line))

-- what is found has one place, with its columns in the line
one_place : (k : ℕ) (line : List Share) (seen : Found) (r s : RowFound) → k ≤ length line → found_among line r ≡ seen → found_among line s ≡ seen
    → HasColumns k r → HasColumns k s → r ≡ s
one_place k line seen (Range a n p) (Range b m q) few r_is s_is r_in s_in =
    let both : found.Range a (take n (drop a line)) p ≡ found.Range b (take m (drop b line)) q = r_is ∙ sym s_is in
    let start : a ≡ b = cc in
    let nodes : p ≡ q = cc in
    let shares : take n (drop a line) ≡ take m (drop b line) = cc in
    let count : n ≡ m = sym (range_length k line a n few r_in.1) ∙ ap length shares ∙ range_length k line b m few s_in.1 in
    λ i. Range (start i) (count i) (nodes i)
one_place k line seen (Range a n p) (Absence b leaf q) few r_is s_is r_in s_in =
    let both : found.Range a (take n (drop a line)) p ≡ found.Absence b leaf q = r_is ∙ sym s_is in absurd cc
one_place k line seen (Absence a leaf p) (Range b m q) few r_is s_is r_in s_in =
    let both : found.Absence a leaf p ≡ found.Range b (take m (drop b line)) q = r_is ∙ sym s_is in absurd cc
one_place k line seen (Absence a leaf p) (Absence b other q) few r_is s_is r_in s_in =
    let both : found.Absence a leaf p ≡ found.Absence b other q = r_is ∙ sym s_is in cc

-- what is found of a name in a row of a square that is held
abbrev Finds : HeldParts → Namespace → ℕ → RowFound → Type 0
Finds held name row place = (found_on held.k held.grid row place ≡ found_in held.k held.grid name row) × HasColumns held.k place

-- it has one place
pub one_in_row : (held other : HeldParts) (name : Namespace) (row : ℕ) (r s : RowFound) → held ≡ other
    → found_on held.k held.grid row r ≡ found_in held.k held.grid name row → found_on other.k other.grid row s ≡ found_in other.k other.grid name row
    → HasColumns held.k r → HasColumns other.k s → r ≡ s
one_in_row held other name row r s same r_is s_is r_in s_in =
    let found : Finds held name row s = subst (λ (parts : HeldParts). Finds parts name row s) (sym same) (s_is, s_in) in
    let line : List Share = axis_shares held.k held.grid Row row in
    let count : length line ≡ 2 * held.k =
    length-map (axis_cells held.k Row row) (share_at (2 * held.k) held.grid) ∙ length-axis_cells held.k Row row in
    one_place held.k line (found_in held.k held.grid name row) r s (omega (arith, count)) r_is found.0 r_in found.1
