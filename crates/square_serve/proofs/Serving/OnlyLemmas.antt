-- A complete answer under the header of a square is the one that is served, or an entry and the square name a collision.
use Rattle.std.proofs.Common.{◌≡◌, ◌⊎◌, ◌∙◌, ℕ, zero, suc, ◌+◌, ◌-◌, ◌*◌, ◌^◌, ◌<◌, ◌≤◌, List, [], ◌∷◌, length, map, take, drop, get_or, true, false, true≢false, refl, sym, ap, ap₂, subst, inl, inr, arith, length-drop}
use Rattle.std.specs.List.{AllByRecursion}
use Rattle.std.proofs.lemmas.Bool.{cases_Bool, cases_lt, eqb-true, and_parts}
use Rattle.std.proofs.lemmas.List.{length-take-le, get_or-take, get_or-drop, ext_get_or, map-id}
use Rattle.std.proofs.lemmas.Slice.Eq.{bytes_eq-Decides}
use Rattle.namespace_id.specs.declared.cells.Axis.TheVariants.{Row}
use Rattle.namespace_id.specs.declared.namespaces.Namespace.{Namespace}
use Rattle.namespace_id.specs.declared.shares.Share.{Share}
use Rattle.namespace_id.specs.declared.digests.Digest.{Digest}
use Rattle.namespace_id.specs.Names.{IsNamespace, AreNamespaces, is_at_most, is_below, is_parity, parity}
use Rattle.namespace_id.specs.Digests.{least_of, greatest_of, no_digest}
use Rattle.namespace_id.proofs.OrderLemmas.{at_most_refl, at_most_antisym, at_most_total, at_most_parity}
use Rattle.namespace_id.proofs.PowerLemmas.{double_halvings}
use Rattle.nmt_tree.specs.Roots.{halvings, is_ordered}
use Rattle.nmt_tree.specs.Levels.{span}
use Rattle.nmt_tree.specs.Spans.{name_at, IsOver}
use Rattle.nmt_tree.proofs.NameLemmas.{same_name, ordered_at}
use Rattle.nmt_proofs.specs.Parts.{given}
use Rattle.nmt_proofs.specs.Openings.{outside, leaves_from, one_digest, digests_from}
use Rattle.nmt_proofs.specs.Clashes.{Agree}
use Rattle.nmt_proofs.specs.Complete.{range_break, absence_break, StandsBetween}
use Rattle.nmt_proofs.specs.Making.{spans, leaf_nodes, range_nodes}
use Rattle.nmt_proofs.proofs.Agreement.ListedLemmas.{agreed}
use Rattle.nmt_proofs.proofs.Parts.WholeLemmas.{whole_is_span}
use Rattle.nmt_proofs.proofs.Agreement.OtherLeafLemmas.{range_stands, absence_stands}
use Rattle.nmt_proofs.proofs.Neighbors.RunLemmas.{run_leaves, run_digests, length-leaves_from, length-digests_from, outside-run}
use Rattle.nmt_proofs.proofs.Parts.ListLemmas.{each-then}
use Rattle.data_header.specs.Headers.{Roots, root_of}
use Rattle.square_layout.specs.Blocks.{SquareShares}
use Rattle.axis_roots.specs.declared.answers.Found.{Found}
use Rattle.axis_roots.specs.declared.answers.Found.TheVariants.{Range, Absence}
use Rattle.axis_roots.specs.declared.answers.NsEntry.{NsEntry}
use Rattle.axis_roots.specs.Answers.{AreEntries}
use Rattle.axis_roots.specs.Lines.{blank}
use Rattle.axis_roots.specs.Grids.{IsHeaderOf, axis_names, axis_shares, axis_tree, header_of_grid}
use Rattle.axis_roots.specs.Trees.{axis_leaves}
use Rattle.axis_roots.proofs.Grids.HeaderLemmas.{header_width}
use Rattle.axis_roots.proofs.Grids.StoredLemmas.{length-leaves}
use Rattle.square_serve.specs.Answers.{is_placed, is_wanted, wanted_rows, OpensFound, IsComplete}
use Rattle.square_serve.specs.Own.{entry_opened, AnswerNames, EntryAgrees, EntryNames}
use Rattle.square_serve.specs.Serving.{HeldParts, Holds, found_in, row_entry, answer_for}
use Rattle.square_serve.proofs.PassingLemmas.{each_passing}
use Rattle.square_serve.proofs.RowTreeLemmas.{IsRow, own_row, root_over}
use Rattle.square_serve.proofs.Judging.EachLemmas.{each_from, each_or_one}
use Rattle.square_serve.proofs.Judging.EntryLemmas.{leaves-places, range_listed, entry_or}
use Rattle.square_serve.proofs.Judging.OwnLemmas.{IsSoundEntry, each_sound, row_agrees}
use Rattle.square_serve.proofs.Judging.FoundLemmas.{placed_range, placed_absence}
use Rattle.square_serve.proofs.Serving.FoundLemmas.{found_both, below, same, stands}
use Rattle.square_serve.proofs.Serving.PlaceLemmas.{IsCounted, at_most_not-below}

-- ---- where a namespace stands

-- two namespaces aren't below each other
not_both : (a b : Namespace) → is_below a b ≡ true → is_below b a ≡ true → ⊥
not_both a b lt gt = elim (at_most_total a b) [
  | inl le ↦ at_most_not-below a b le gt
  | inr ge ↦ at_most_not-below b a ge lt
]

-- one isn't below itself
not_itself : (a b : Namespace) → a ≡ b → is_below a b ≡ true → ⊥
not_itself a b e lt = at_most_not-below b a (ap (is_at_most b) e ∙ at_most_refl b) lt

-- and one that it is isn't below it
not_it : (a b : Namespace) → a ≡ b → is_below b a ≡ true → ⊥
not_it a b e lt = not_itself b a (sym e) lt

module _ (name : Namespace) (names : List Namespace) (b s : ℕ) (other : is_parity name ≡ false) (ordered : is_ordered names ≡ true)
    (counted : IsCounted name names b s) where
  -- leaves that have it, beside which it has no place, are those that are counted
  range_there : (from n : ℕ) → StandsBetween name names from (from + n) → 0 < n → from + n ≤ length names
      → ((i : ℕ) → from ≤ i → i < from + n → name_at names i ≡ name) → (from ≡ b) × (n ≡ s)
  range_there from n beside some fits each =
      let from_le : b ≤ from = elim (cases_lt from b) [
        | inl before ↦ absurd (not_itself (name_at names from) name (each from (omega arith) (omega (arith, some))) (counted.under from before))
        | inr le ↦ le
      ] in
      let le_from : from ≤ b = elim (cases_lt b from) [
        | inl before ↦ elim (cases_lt 0 s) [
          | inl more ↦
              let here : name_at names b ≡ name = counted.here b (omega arith) (omega (arith, more)) in
              absurd (not_itself (name_at names b) name here (beside.below b (omega (arith, before, fits)) before (ap is_parity here ∙ other)))
          | inr none ↦
              absurd (at_most_not-below (name_at names b) name
              (sym (ap (is_at_most (name_at names b)) (each from (omega arith) (omega (arith, some))))
              ∙ ordered_at names b from ordered (omega (arith, before)) (omega (arith, some, fits)))
              (counted.over b (omega (arith, none)) (omega (arith, before, fits))))
        ]
        | inr le ↦ le
      ] in
      let at : from ≡ b = omega (arith, from_le, le_from) in
      let n_le : n ≤ s = elim (cases_lt s n) [
        | inl more ↦
            absurd (not_it (name_at names (from + s)) name (each (from + s) (omega arith) (omega (arith, more)))
            (counted.over (from + s) (omega (arith, at)) (omega (arith, more, fits))))
        | inr le ↦ le
      ] in
      let le_n : s ≤ n = elim (cases_lt n s) [
        | inl more ↦
            absurd (not_it (name_at names (from + n)) name (counted.here (from + n) (omega (arith, at)) (omega (arith, at, more)))
            (beside.above (from + n) (omega arith) (omega (arith, at, more, counted.within))))
        | inr le ↦ le
      ] in
      (at, omega (arith, n_le, le_n))

  -- a place beside which it has none is behind those below it, and none has it, where a leaf of another namespace than PARITY isn't below it
  absence_there : (pos p : ℕ) → AreNamespaces names → StandsBetween name names pos pos → pos < length names → p < length names
      → is_at_most name (name_at names p) ≡ true → is_parity (name_at names p) ≡ false → (pos ≡ b) × (s ≡ 0)
  absence_there pos p named beside lt within le plain =
      let none : s ≤ 0 = elim (cases_lt 0 s) [
        | inl more ↦
            let here : name_at names b ≡ name = counted.here b (omega arith) (omega (arith, more)) in
            elim (cases_lt b pos) [
              | inl before ↦ absurd (not_itself (name_at names b) name here (beside.below b (omega (arith, before, lt)) before (ap is_parity here ∙ other)))
              | inr behind ↦ absurd (not_it (name_at names b) name here (beside.above b behind (omega (arith, more, counted.within))))
            ]
        | inr few ↦ few
      ] in
      let le_pos : b ≤ pos = elim (cases_lt pos b) [
        | inl before ↦ absurd (not_both (name_at names pos) name (counted.under pos before) (beside.above pos (omega arith) lt))
        | inr ge ↦ ge
      ] in
      let pos_le : pos ≤ b = elim (cases_lt b pos) [
        | inl before ↦
            let b_le_p : b ≤ p = elim (cases_lt p b) [
              | inl under ↦ absurd (at_most_not-below name (name_at names p) le (counted.under p under))
              | inr ge ↦ ge
            ] in
            elim (cases_Bool (is_parity (name_at names b))) [
              | inl t ↦
                  let is : name_at names b ≡ parity = same_name (name_at names b) parity ((bytes_eq-Decides (name_at names b).0 parity.0).0 t) in
                  let top : is_at_most parity (name_at names p) ≡ true =
                  sym (ap (λ (n : Namespace). is_at_most n (name_at names p)) is) ∙ ordered_at names b p ordered b_le_p within in
                  let last : name_at names p ≡ parity = at_most_antisym (name_at names p) parity (at_most_parity (name_at names p) (named_there names p named within)) top in
                  absurd (true≢false (sym ((bytes_eq-Decides (name_at names p).0 parity.0).1 (ap (λ (n : Namespace). n.0) last)) ∙ plain))
              | inr f ↦
                  absurd (not_both (name_at names b) name (beside.below b (omega (arith, before, lt)) before f)
                  (counted.over b (omega (arith, none)) (omega (arith, before, lt))))
            ]
        | inr ge ↦ ge
      ] in
      (omega (arith, le_pos, pos_le), omega (arith, none))
    where
      -- a namespace of a list is one
      named_there : (names : List Namespace) (i : ℕ) → AreNamespaces names → i < length names → IsNamespace (name_at names i)
      named_there [] i each h = absurd (omega arith)
      named_there (n ∷ names) zero each h = each.0
      named_there (n ∷ names) (suc i) each h = named_there names i each.1 (omega (arith, h))

-- ---- what is found in a row

-- the leaves of a range, by their places in the row
range_names : (names : List Namespace) (name : Namespace) (from n : ℕ) → ((i : ℕ) → i < n → name_at names (from + i) ≡ name)
    → (i : ℕ) → from ≤ i → i < from + n → name_at names i ≡ name
range_names names name from n each i low high =
    let e : from + (i - from) ≡ i = omega (arith, low) in
    sym (ap (name_at names) e) ∙ each (i - from) (omega (arith, low, high))

module _ (header : Roots) (name : Namespace) (square : SquareShares) (own : IsHeaderOf header square) (row : ℕ) (named : IsNamespace name)
    (other : is_parity name ≡ false) (h : row < square.k) where
  -- a range that agrees with the row's tree is the one that is served
  range_only : (start : ℕ) (shares : List Share) (nodes : List Digest) → is_placed square.k (Range start shares nodes) ≡ true
      → OpensFound square.k (root_of header Row row) name (Range start shares nodes)
      → Agree (entry_opened square.k name (Range start shares nodes)) (axis_tree square.k own.grid Row row)
      → Range start shares nodes ≡ found_in square.k own.grid name row
  range_only start shares nodes placed opens agree =
      let k : ℕ = square.k in
      let d : ℕ = halvings (2 * k) in
      let names : List Namespace = axis_names k own.grid Row row in
      let line : List Share = axis_shares k own.grid Row row in
      let leaves : List Digest = axis_leaves k own.grid Row row in
      let n : ℕ = length shares in
      let one : IsRow k own.grid row = own_row header square own row h in
      let size : 2 * k ≡ 2 ^ d = sym (double_halvings k own.whole.width) in
      let within : (0 < n) × (start + n ≤ k) = placed_range k start n placed in
      let listed = agreed d 0 names line (leaves_from start name shares) nodes
      (leaves-places 0 (0 + 2 ^ d) start name shares (omega arith) (omega (arith, within.1, size))) (eqb-true _ _ opens.opens.count) agree in
      let at = range_listed names line start name shares (omega (arith, within.1, size, one.leaves.name_count)) (omega (arith, within.1, size, one.leaves.share_count)) listed.0 in
      let beside : StandsBetween name names start (start + n) =
      range_stands d start name names line shares one.leaves one.ordered within.0 (omega (arith, within.1, size))
      (sym (ap (λ (ns : List Digest). range_break d start name shares ns) listed.1) ∙ opens.complete) in
      let there : (start ≡ below name k own.grid row) × (n ≡ same name k own.grid row) =
      range_there name names (below name k own.grid row) (same name k own.grid row) other one.ordered (stands name k own.grid row named one) start n beside within.0
      (omega (arith, within.1, size, one.leaves.name_count)) (range_names names name start n (λ i lt. (at i lt).0)) in
      let front : length (take n (drop start line)) ≡ n =
      length-take-le n (drop start line) (omega (arith, length-drop start line, within.1, size, one.leaves.share_count)) in
      let shown : shares ≡ take n (drop start line) =
      ext_get_or blank shares (take n (drop start line)) (sym front) (λ i lt.
      sym (at i lt).1 ∙ sym (get_or-take n (drop start line) i blank lt ∙ get_or-drop start line i blank)) in
      let places : outside d 0 (leaves_from start name shares) ≡ outside d 0 (digests_from start (take n (drop start leaves))) =
      outside-run (given no_digest) d 0 start (leaves_from start name shares) (digests_from start (take n (drop start leaves)))
      (run_leaves start name shares) (run_digests start (take n (drop start leaves)))
      (length-leaves_from start name shares
      ∙ sym (length-digests_from start (take n (drop start leaves))
      ∙ length-take-le n (drop start leaves) (omega (arith, length-drop start leaves, within.1, length-leaves k own.grid Row row, size)))) in
      let made : nodes ≡ range_nodes (2 * k) leaves start n = listed.1 ∙ ap (spans leaves) places in
      found_both k own.grid row (below name k own.grid row) (same name k own.grid row) (λ found. Range start shares nodes ≡ found)
      (λ none. absurd (omega (arith, none, there.1, within.0)))
      (λ some. (λ i. Range (there.0 i)
      ((shown ∙ ap₂ (λ (m f : ℕ). take m (drop f line)) there.1 there.0) i)
      ((made ∙ ap₂ (λ (m f : ℕ). range_nodes (2 * k) leaves f m) there.1 there.0) i)))

  -- an absence that agrees with it, where the root's namespaces have the namespace between them, too
  absence_only : (pos : ℕ) (leaf : Digest) (nodes : List Digest) → is_wanted header name row ≡ true
      → is_placed square.k (Absence pos leaf nodes) ≡ true
      → OpensFound square.k (root_of header Row row) name (Absence pos leaf nodes)
      → Agree (entry_opened square.k name (Absence pos leaf nodes)) (axis_tree square.k own.grid Row row)
      → Absence pos leaf nodes ≡ found_in square.k own.grid name row
  unfolding span
  absence_only pos leaf nodes wanted placed opens agree =
      let k : ℕ = square.k in
      let d : ℕ = halvings (2 * k) in
      let names : List Namespace = axis_names k own.grid Row row in
      let line : List Share = axis_shares k own.grid Row row in
      let leaves : List Digest = axis_leaves k own.grid Row row in
      let root : Digest = root_of header Row row in
      let one : IsRow k own.grid row = own_row header square own row h in
      let size : 2 * k ≡ 2 ^ d = sym (double_halvings k own.whole.width) in
      let within : pos < k = placed_absence k pos placed in
      let listed = agreed d 0 names line (one_digest pos leaf) nodes (refl, omega arith, omega (arith, within, size), tt) (eqb-true _ _ opens.opens.count) agree in
      let here : leaf ≡ get_or leaves pos no_digest = listed.0.0 ∙ whole_is_span 0 pos names line in
      let beside : StandsBetween name names pos pos =
      absence_stands d pos name names line leaf one.leaves one.ordered (omega (arith, within, size)) here
      (sym (ap (λ (ns : List Digest). absence_break d pos name leaf ns) listed.1) ∙ opens.complete) in
      let both = and_parts (is_at_most (least_of root) name) (is_at_most name (greatest_of root)) wanted in
      let over : IsOver names 0 d root = root_over k own.grid row one header own.roots in
      let plain : is_parity (name_at names over.place) ≡ false = elim (cases_Bool (is_parity (name_at names over.place))) [
        | inl t ↦
            let least : least_of root ≡ parity =
            same_name (least_of root) parity ((bytes_eq-Decides (least_of root).0 parity.0).0 (over.parity (ap is_parity over.greatest ∙ t))) in
            let top : name ≡ parity = at_most_antisym name parity (at_most_parity name named) (ap (λ (n : Namespace). is_at_most n name) (sym least) ∙ both.0) in
            absurd (true≢false (sym ((bytes_eq-Decides name.0 parity.0).1 (ap (λ (n : Namespace). n.0) top)) ∙ other))
        | inr f ↦ f
      ] in
      let there : (pos ≡ below name k own.grid row) × (same name k own.grid row ≡ 0) =
      absence_there name names (below name k own.grid row) (same name k own.grid row) other one.ordered (stands name k own.grid row named one) pos over.place
      one.leaves.name_bytes beside (omega (arith, within, size, one.leaves.name_count)) (omega (arith, over.high, one.leaves.name_count))
      (ap (is_at_most name) (sym over.greatest) ∙ both.1) plain in
      let made : nodes ≡ leaf_nodes (2 * k) leaves pos = listed.1 ∙ ap (λ (l : Digest). spans leaves (outside d 0 (one_digest pos l))) here in
      found_both k own.grid row (below name k own.grid row) (same name k own.grid row) (λ found. Absence pos leaf nodes ≡ found)
      (λ none. (λ i. Absence (there.0 i)
      ((here ∙ ap (λ (p : ℕ). get_or leaves p no_digest) there.0) i)
      ((made ∙ ap (leaf_nodes (2 * k) leaves) there.0) i)))
      (λ some. absurd (omega (arith, some, there.1)))

  -- so is what is found there
  pub found_only : (found : Found) → is_wanted header name row ≡ true → is_placed square.k found ≡ true → OpensFound square.k (root_of header Row row) name found
      → Agree (entry_opened square.k name found) (axis_tree square.k own.grid Row row) → found ≡ found_in square.k own.grid name row
  found_only (Range start shares nodes) wanted placed opens agree = range_only start shares nodes placed opens agree
  found_only (Absence pos leaf nodes) wanted placed opens agree = absence_only pos leaf nodes wanted placed opens agree

-- ---- answers

-- an entry that agrees is the one that is served
entry_only : (header : Roots) (name : Namespace) (square : SquareShares) (own : IsHeaderOf header square) (entry : NsEntry) → IsNamespace name
    → is_parity name ≡ false → is_wanted header name entry.row ≡ true → IsSoundEntry header name entry → EntryAgrees name square entry
    → entry ≡ row_entry square.k own.grid name entry.row
entry_only header name square own entry named other wanted sound agrees =
    let width : header.k ≡ square.k = header_width square.k own.grid header own.roots in
    let found : entry.found ≡ found_in square.k own.grid name entry.row =
    found_only header name square own entry.row named other (omega (arith, width, sound.row)) entry.found wanted
    (subst (λ (n : ℕ). is_placed n entry.found ≡ true) width sound.holds.placed)
    (subst (λ (n : ℕ). OpensFound n (root_of header Row entry.row) name entry.found) width sound.holds.opens) (row_agrees header name square own entry agrees) in
    ap (λ (f : Found). record { row = entry.row; found = f }) found

-- a fact of each row is one of each entry
each_row : (P : ℕ → Type 0) (rows : List ℕ) (answer : List NsEntry) → AllByRecursion P rows → map (λ entry. entry.row) answer ≡ rows
    → AllByRecursion (λ entry. P entry.row) answer
each_row P rows [] each e = tt
each_row P [] (entry ∷ answer) each e = absurd cc
each_row P (row ∷ rows) (entry ∷ answer) each e =
    let first : entry.row ≡ row = cc in
    let rest : map (λ x. x.row) answer ≡ rows = cc in
    (subst P (sym first) each.0, each_row P rows answer each.1 rest)

-- the rows that may hold a namespace may
each_wanted : (header : Roots) (name : Namespace) → AllByRecursion (λ row. is_wanted header name row ≡ true) (wanted_rows header name)
each_wanted header name =
    subst (AllByRecursion (λ row. is_wanted header name row ≡ true)) (map-id (wanted_rows header name))
    (each_passing (is_wanted header name) (λ i. i) (λ row. is_wanted header name row ≡ true) header.k 0 (λ i low high is. is))

-- entries that are each made of their row are made of the rows
made_of_rows : (f : ℕ → NsEntry) (answer : List NsEntry) → AllByRecursion (λ entry. entry ≡ f entry.row) answer → answer ≡ map f (map (λ entry. entry.row) answer)
made_of_rows f [] each = refl
made_of_rows f (entry ∷ answer) each = ap₂ (λ (x : NsEntry) (xs : List NsEntry). x ∷ xs) each.0 (made_of_rows f answer each.1)

-- a complete answer is the one that is served, or an entry names a collision
pub answer_only : (held : HeldParts) (square : SquareShares) (name : Namespace) (answer : List NsEntry) → Holds held square → IsNamespace name
    → AreEntries answer → IsComplete held.header name answer → (answer ≡ answer_for held name) ⊎ AnswerNames name square answer
answer_only held square name answer holds named sized complete =
    let header : Roots = held.header in
    let own : IsHeaderOf held.header square = record {
      whole = holds.whole;
      grid = held.grid;
      extends = holds.extends;
      roots = ap (λ (k : ℕ). header_of_grid k held.grid) (sym holds.width) ∙ holds.roots;
    } in
    let sound = each_sound header name answer sized complete in
    let wanted = each_row (λ row. is_wanted header name row ≡ true) (wanted_rows header name) answer (each_wanted header name) complete.rows in
    let each = each-then (IsSoundEntry header name) (λ entry. EntryAgrees name square entry ⊎ EntryNames name square entry)
    (λ entry one. entry_or header name square entry named own one.sized one.row one.holds) answer sound in
    elim (each_or_one (EntryAgrees name square) (EntryNames name square) answer each) [
      | inl alike ↦
          let both = each_from (λ entry. is_wanted header name entry.row ≡ true) (IsSoundEntry header name)
          (λ entry. (is_wanted header name entry.row ≡ true) × IsSoundEntry header name entry) (λ entry w one. (w, one)) answer wanted sound in
          let made = each_from (λ entry. (is_wanted header name entry.row ≡ true) × IsSoundEntry header name entry) (EntryAgrees name square)
          (λ entry. entry ≡ row_entry square.k held.grid name entry.row)
          (λ entry w agrees. entry_only header name square own entry named complete.other w.0 w.1 agrees) answer both alike in
          inl (made_of_rows (row_entry square.k held.grid name) answer made ∙ ap (map (row_entry square.k held.grid name)) complete.rows
          ∙ ap (λ (k : ℕ). map (row_entry k held.grid name) (wanted_rows header name)) (sym holds.width))
      | inr names ↦ inr names
    ]
