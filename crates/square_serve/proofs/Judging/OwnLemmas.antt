-- Under the header of a square a complete answer shows exactly the square's shares of the namespace, or an entry and
-- the square name a collision.
use Rattle.std.proofs.Common.{◌≡◌, ◌⊎◌, ℕ, ◌<◌, List, true, false, subst, inl, inr, arith}
use Rattle.std.specs.List.{AllByRecursion}
use Rattle.std.proofs.lemmas.List.Elements.{All-contains, All-from_recursion}
use Rattle.namespace_id.specs.declared.namespaces.Namespace.{Namespace}
use Rattle.namespace_id.specs.declared.shares.Share.{Share}
use Rattle.namespace_id.specs.declared.cells.Axis.TheVariants.{Row}
use Rattle.namespace_id.specs.Names.{IsNamespace, is_parity}
use Rattle.nmt_proofs.specs.Clashes.{Agree}
use Rattle.nmt_proofs.proofs.Parts.ListLemmas.{each-then}
use Rattle.data_header.specs.Headers.{Roots, root_of}
use Rattle.square_layout.specs.Blocks.{SquareShares, IsSquare}
use Rattle.axis_roots.specs.declared.answers.NsEntry.{NsEntry}
use Rattle.axis_roots.specs.Answers.{IsEntry, AreEntries}
use Rattle.axis_roots.specs.Grids.{IsHeaderOf, axis_tree}
use Rattle.axis_roots.proofs.Grids.HeaderLemmas.{header_width}
use Rattle.axis_roots.proofs.Grids.ExtensionLemmas.{extension_once}
use Rattle.axis_roots.proofs.Messages.OwnLemmas.{agrees_apart}
use Rattle.square_serve.specs.Shares.{row_shares, namespace_shares}
use Rattle.square_serve.specs.Answers.{is_wanted, is_placed, wanted_rows, shown_found, shown, OpensFound, HoldsEntry, IsComplete}
use Rattle.square_serve.specs.Own.{entry_opened, EntryNames, EntryAgrees, AnswerNames, ShowsAll, IsOwnAnswer}
use Rattle.square_serve.specs.Placed.{IsPlacedEntry}
use Rattle.square_serve.proofs.Judging.EachLemmas.{each_from, each_or_one}
use Rattle.square_serve.proofs.Judging.PlaceLemmas.{placed_rows, wanted_below}
use Rattle.square_serve.proofs.Judging.EntryLemmas.{entry_or}
use Rattle.square_serve.proofs.Judging.FoundLemmas.{found_shows}
use Rattle.square_serve.proofs.RowTreeLemmas.{shown_rows}

-- the tree of an entry agrees with the row of the header's grid
pub row_agrees : (header : Roots) (name : Namespace) (square : SquareShares) (own : IsHeaderOf header square) (entry : NsEntry) → EntryAgrees name square entry
    → Agree (entry_opened square.k name entry.found) (axis_tree square.k own.grid Row entry.row)
row_agrees header name square own entry agrees =
    let one : agrees.grid ≡ own.grid = extension_once square.k square.shares agrees.grid own.grid own.whole.width agrees.extends own.extends in
    subst (λ (g : List Share). Agree (entry_opened square.k name entry.found) (axis_tree square.k g Row entry.row)) one agrees.same

-- an entry of a complete answer: of the answer's sizes, in a row of the original square, and holding
pub record IsSoundEntry (header : Roots) (name : Namespace) (entry : NsEntry) : Type 0 where
  pub sized : IsEntry entry
  pub row : entry.row < header.k
  pub holds : HoldsEntry header name entry

-- each entry of a complete answer is one
pub each_sound : (header : Roots) (name : Namespace) (answer : List NsEntry) → AreEntries answer → IsComplete header name answer
    → AllByRecursion (IsSoundEntry header name) answer
each_sound header name answer sized complete =
    let placed = each-then (HoldsEntry header name) (λ entry. is_placed header.k entry.found ≡ true) (λ entry holds. holds.placed) answer complete.entries in
    let rows = placed_rows header.k (wanted_rows header name) answer (wanted_below (is_wanted header name) header.k) complete.rows placed in
    let both = each_from IsEntry (IsPlacedEntry header.k) (λ entry. IsEntry entry × (entry.row < header.k)) (λ entry one there. (one, there.row)) answer sized rows in
    each_from (λ entry. IsEntry entry × (entry.row < header.k)) (HoldsEntry header name) (IsSoundEntry header name)
    (λ entry one holds. record { sized = one.0; row = one.1; holds = holds }) answer both complete.entries

-- an entry that agrees with the square's tree shows exactly its row's shares of the namespace
entry_shows : (header : Roots) (name : Namespace) (square : SquareShares) (own : IsHeaderOf header square) (entry : NsEntry)
    → is_parity name ≡ false → IsSoundEntry header name entry → EntryAgrees name square entry
    → shown_found entry.row entry.found ≡ row_shares square name entry.row
entry_shows header name square own entry other sound agrees =
    let width : header.k ≡ square.k = header_width square.k own.grid header own.roots in
    found_shows header name square own entry.row entry.found other (omega (arith, width, sound.row))
    (subst (λ (n : ℕ). is_placed n entry.found ≡ true) width sound.holds.placed)
    (subst (λ (n : ℕ). OpensFound n (root_of header Row entry.row) name entry.found) width sound.holds.opens) (row_agrees header name square own entry agrees)

-- where each entry agrees, the answer shows exactly the square's shares of the namespace
all_shown : (header : Roots) (name : Namespace) (answer : List NsEntry) (square : SquareShares)
    → IsHeaderOf header square → IsComplete header name answer → AllByRecursion (IsSoundEntry header name) answer
    → AllByRecursion (EntryAgrees name square) answer → shown answer ≡ namespace_shares square name
all_shown header name answer square own complete sound alike =
    shown_rows header name square own answer complete.other complete.rows
    (each_from (IsSoundEntry header name) (EntryAgrees name square) (λ entry. shown_found entry.row entry.found ≡ row_shares square name entry.row)
    (λ entry one agrees. entry_shows header name square own entry complete.other one agrees) answer sound alike)

-- a complete answer shows exactly the square's shares of the namespace, or an entry names a collision
pub answer_own : (header : Roots) (name : Namespace) (answer : List NsEntry) → IsNamespace name → AreEntries answer
    → IsComplete header name answer → IsOwnAnswer header name answer
answer_own header name answer is sized complete square own =
    let sound = each_sound header name answer sized complete in
    let each = each-then (IsSoundEntry header name) (λ entry. EntryAgrees name square entry ⊎ EntryNames name square entry)
    (λ entry one. entry_or header name square entry is own one.sized one.row one.holds) answer sound in
    elim (each_or_one (EntryAgrees name square) (EntryNames name square) answer each) [
      | inl alike ↦ inl (record { shares = all_shown header name answer square own complete sound alike; alike = alike })
      | inr names ↦ inr names
    ]

-- never both
pub answer_apart : (name : Namespace) (square : SquareShares) (answer : List NsEntry) → IsSquare square → ShowsAll name square answer
    → AnswerNames name square answer → ⊥
answer_apart name square answer whole shows names =
    let entry : NsEntry = names.0 in
    agrees_apart square Row entry.row (entry_opened square.k name entry.found) whole
    (All-contains (EntryAgrees name square) answer entry (All-from_recursion (EntryAgrees name square) answer shows.alike) names.1) names.2
