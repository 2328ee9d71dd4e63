-- Under a square's own header the answer is the square or the missing cells, or a sample names a collision.
use Rattle.std.proofs.Common.{◌≡◌, ◌∙◌, ℕ, ◌*◌, ◌<◌, List, true, cond, Option, Some, None, refl, sym, ap, subst, inl, inr}
use Rattle.std.specs.Prelude.{◌⊎◌}
use Rattle.std.specs.Option.{option_or}
use Rattle.std.specs.List.{AllByRecursion, Contains}
use Rattle.std.proofs.lemmas.Option.{none-some}
use Rattle.std.proofs.lemmas.Slice.Eq.{bytes_eq-Decides}
use Rattle.namespace_id.specs.declared.cells.Cell.{Cell}
use Rattle.namespace_id.specs.declared.cells.Axis.{Axis}
use Rattle.namespace_id.specs.declared.shares.Share.{Share}
use Rattle.namespace_id.specs.Cells.{is_width, is_in_square}
use Rattle.namespace_id.proofs.ShareLemmas.{name_of-is}
use Rattle.nmt_tree.specs.Roots.{halvings}
use Rattle.nmt_proofs.specs.Parts.{Part, given, leaf, join, digest_of}
use Rattle.nmt_proofs.specs.Clashes.{leaf_text, join_text, apart_or, clash_at, HasDepth}
use Rattle.nmt_proofs.proofs.Parts.WholeLemmas.{depth-whole}
use Rattle.nmt_proofs.proofs.Parts.ShownLemmas.{depth-opened}
use Rattle.nmt_proofs.proofs.Agreement.ListedLemmas.{symmetric_law}
use Rattle.leopard_code.specs.Codewords.{IsCodeword}
use Rattle.data_header.specs.Headers.{Roots, root_of}
use Rattle.square_layout.specs.Blocks.{SquareShares}
use Rattle.axis_roots.specs.declared.message.messages.Message.{Message}
use Rattle.axis_roots.specs.Messages.{IsMessage, index, shown_by}
use Rattle.axis_roots.specs.Openings.{IsProved}
use Rattle.axis_roots.specs.Lines.{blank, cell_on, line_names, line_strict_root, line_tree, entry}
use Rattle.axis_roots.specs.Grids.{share_at, axis_shares, axis_tree, IsHeaderOf}
use Rattle.axis_roots.specs.Own.{opened_by, NamesClash}
use Rattle.axis_roots.proofs.Grids.AxisLemmas.{length-along, get_or-along, is_along}
use Rattle.axis_roots.proofs.Grids.LineLemmas.{line_leaves}
use Rattle.axis_roots.proofs.Grids.HeaderLemmas.{header_strict}
use Rattle.axis_roots.proofs.Grids.LaidLemmas.{original-inside}
use Rattle.repair_queue.specs.Closures.{Half, Fact}
use Rattle.repair_queue.specs.Settled.{IsSettled, CellsFit}
use Rattle.repair_queue.specs.Verdicts.{VerdictParts, whole, missing, fraud, clash, IsWhole, IsKnownTree, of_message, of_line, IsFoundClash, IsVerdict, IsOwnVerdict}
use Rattle.repair_queue.proofs.Facts.ChosenLemmas.{chosen-lt, codeword_once}
use Rattle.repair_queue.proofs.Facts.ClosureLemmas.{fact_least, half_fact}
use Rattle.repair_queue.proofs.Facts.SettledLemmas.{fits_settles, cells_fit}
use Rattle.repair_queue.proofs.Facts.FraudLemmas.{fraud_unsettled}
use Rattle.repair_queue.proofs.Facts.VerdictLemmas.{original_inside, own_width, one_square}
use Rattle.repair_queue.proofs.Facts.NamedLemmas.{ShowsGrid, first_named, all_unnamed}

-- ---- a part and itself

-- equal strings are not apart
same_text : (text : List ℕ) (rest : Option (List ℕ × List ℕ)) → rest ≡ None → apart_or text text rest ≡ None
same_text text rest none = ap (λ b. cond b rest (Some (text, text))) ((bytes_eq-Decides text text).1 refl) ∙ none

-- a part doesn't differ from itself
clash_itself : (part : Part) → clash_at part part ≡ None
unfolding clash_at
clash_itself (given d) = refl
clash_itself (leaf n s) = same_text (leaf_text n s) None refl
clash_itself (join l r) =
    same_text (join_text (digest_of l) (digest_of r)) (option_or (clash_at l l) (clash_at r r))
    (ap (λ x. option_or x (clash_at r r)) (clash_itself l) ∙ clash_itself r)

-- ---- all proved samples show the extension

-- a grid of codewords whose strict roots are the header's
record HasRoots (header : Roots) (grid : List Share) : Type 0 where
  width : is_width header.k ≡ true
  codewords : (axis : Axis) (i : ℕ) → i < 2 * header.k → IsCodeword header.k (axis_shares header.k grid axis i)
  roots : (axis : Axis) (i : ℕ) → i < 2 * header.k → line_strict_root header.k axis i (axis_shares header.k grid axis i) ≡ Some (root_of header axis i)

-- the extension of the header's square is one
own_roots : (header : Roots) (square : SquareShares) (own : IsHeaderOf header square) → HasRoots header own.grid
own_roots header square own =
    let width : square.k ≡ header.k = sym (own_width header square own) in record {
      width = subst (λ (k : ℕ). is_width k ≡ true) width own.whole.width;
      codewords = subst (λ (k : ℕ). (axis : Axis) (i : ℕ) → i < 2 * k → IsCodeword k (axis_shares k own.grid axis i)) width own.extends.codewords;
      roots = subst (λ (k : ℕ). (axis : Axis) (i : ℕ) → i < 2 * k → line_strict_root k axis i (axis_shares k own.grid axis i) ≡ Some (root_of header axis i)) width
          (header_strict square.k own.grid header own.roots);
    }

module _ (header : Roots) (ms : List Message) (grid : List Share) (has : HasRoots header grid)
    (shows : (m : Message) → Contains ms m → IsProved header m → ShowsGrid header grid m) where
  -- all facts are the grid's
  own_fact : (cell : Cell) (share : Share) → Fact header ms cell share → share ≡ share_at (2 * header.k) grid cell
  own_fact = fact_least header ms (λ cell share. share ≡ share_at (2 * header.k) grid cell) (λ m at proved. (shows m at proved).share)
      (λ axis i word chosen pos within code are facts below.
      let line : List Share = axis_shares header.k grid axis i in
      let same : word ≡ line = codeword_once header.k chosen word line has.width are code (has.codewords axis i within)
      (λ p at. facts p at ∙ sym (get_or-along header.k (share_at (2 * header.k) grid) axis i p blank (chosen-lt header.k chosen are p at))) in
      ap (λ (l : List Share). entry l pos) same ∙ get_or-along header.k (share_at (2 * header.k) grid) axis i pos blank below)

  -- so the list is settled
  own_settled : IsSettled header ms
  own_settled =
      let fit : CellsFit header ms (share_at (2 * header.k) grid) = record {
        codeword = λ axis i d. has.codewords axis i d.within;
        root = λ axis i d. has.roots axis i d.within;
        shown = λ axis m at proved d. (shows m at proved).share;
      } in
      fits_settles header ms (λ axis i d. axis_shares header.k grid axis i) (cells_fit header ms (share_at (2 * header.k) grid) fit)

  -- what is known of a row or a column stands at its depth
  tree_deep : (axis : Axis) (i : ℕ) (part : Part) → IsKnownTree header ms axis i part → HasDepth (halvings (2 * header.k)) part
  tree_deep axis i part (of_message m at proved ea ei) =
      depth-opened (halvings (2 * header.k)) 0 (shown_by header.k m) m.path ((refl, name_of-is header.k m.cell m.share proved.sized.share, proved.sized.share), tt)
  tree_deep axis i part (of_line line long facts root) = depth-whole (halvings (2 * header.k)) (line_names header.k axis i line) line

  -- and doesn't differ from the grid's tree
  tree_alike : (axis : Axis) (i : ℕ) (part : Part) → IsKnownTree header ms axis i part → clash_at part (axis_tree header.k grid axis i) ≡ None
  tree_alike axis i part (of_message m at proved ea ei) =
      subst (λ (a : Axis). clash_at (opened_by header.k m) (axis_tree header.k grid a i) ≡ None) ea
      (subst (λ (j : ℕ). clash_at (opened_by header.k m) (axis_tree header.k grid m.axis j) ≡ None) (ap (λ (a : Axis). index a m.cell) ea ∙ ei) (shows m at proved).alike)
  tree_alike axis i part (of_line line long facts root) =
      let same : line ≡ axis_shares header.k grid axis i =
      is_along header.k (share_at (2 * header.k) grid) axis i blank line long (λ pos below. own_fact (cell_on axis i pos) (entry line pos) (facts pos below)) in
      subst (λ (l : List Share). clash_at (line_tree header.k axis i line) (line_tree header.k axis i l) ≡ None) same (clash_itself (line_tree header.k axis i line))

  -- so no collision is found
  own_no_clash : (left right : List ℕ) → IsFoundClash header ms left right → ⊥
  own_no_clash left right c =
      let line : List Share = axis_shares header.k grid c.axis c.i in
      none-some (left, right)
      (sym (symmetric_law (halvings (2 * header.k)) c.one c.other (line_names header.k c.axis c.i line) line
      (tree_deep c.axis c.i c.one c.one_known) (tree_deep c.axis c.i c.other c.other_known)
      (line_leaves header.k c.axis c.i line has.width (length-along header.k (share_at (2 * header.k) grid) c.axis c.i) (has.codewords c.axis c.i c.within).shares)
      (tree_alike c.axis c.i c.one c.one_known) (tree_alike c.axis c.i c.other c.other_known))
      ∙ c.found)

-- ---- the answer

-- with all cells recoverable it is the square
own_whole : (header : Roots) (ms : List Message) (square : SquareShares) (own : IsHeaderOf header square)
    → ((m : Message) → Contains ms m → IsProved header m → ShowsGrid header own.grid m)
    → ((cell : Cell) → is_in_square header.k cell ≡ true → Half header ms cell) → IsWhole header ms square
own_whole header ms square own shows all =
    let has : HasRoots header own.grid = own_roots header square own in record {
      all = all;
      settled = own_settled header ms own.grid has shows;
      facts = λ cell within.
          let quarter = original-inside header.k cell within in
          let one = half_fact header ms cell (all cell (original_inside header.k cell quarter.0 quarter.1)) in
          let there : share_at (2 * header.k) own.grid cell ≡ share_at header.k square.shares cell =
          subst (λ (k : ℕ). cell.row < k → cell.col < k → share_at (2 * k) own.grid cell ≡ share_at k square.shares cell) (sym (own_width header square own))
          (own.extends.quarter cell) quarter.0 quarter.1 in
          subst (λ (share : Share). Fact header ms cell share) (own_fact header ms own.grid has shows cell one.0 one.1 ∙ there) one.1;
      own = own;
    }

-- or cells that are missing
own_answer : (header : Roots) (ms : List Message) (square : SquareShares) (own : IsHeaderOf header square)
    → ((m : Message) → Contains ms m → IsProved header m → ShowsGrid header own.grid m) → (v : VerdictParts) → IsVerdict header ms v → IsOwnVerdict square v
own_answer header ms square own shows (whole other) v = one_square header ms other square v (own_whole header ms square own shows v.all)
own_answer header ms square own shows (missing cells) v = tt
own_answer header ms square own shows (fraud claim) v =
    fraud_unsettled header ms claim v (own_settled header ms own.grid (own_roots header square own) shows)
own_answer header ms square own shows (clash left right) v = own_no_clash header ms own.grid (own_roots header square own) shows left right v

-- unless a proved sample and the square name a collision
pub own_verdict : (header : Roots) (square : SquareShares) (ms : List Message) → IsHeaderOf header square → AllByRecursion IsMessage ms → (v : VerdictParts)
    → IsVerdict header ms v → IsOwnVerdict square v ⊎ ((m : Message) × Contains ms m × IsProved header m × NamesClash m square)
own_verdict header square ms own sized v verdict = elim (first_named header square own ms sized) [
  | inl shows ↦ inl (own_answer header ms square own shows v verdict)
  | inr named ↦ inr named
]

-- where no proved sample and the square name one, it is the square with all cells recoverable, and else the missing cells
pub own_unnamed : (header : Roots) (square : SquareShares) (ms : List Message) → IsHeaderOf header square
    → ((m : Message) → Contains ms m → IsProved header m → NamesClash m square → ⊥)
    → IsSettled header ms × (((cell : Cell) → is_in_square header.k cell ≡ true → Half header ms cell) → IsVerdict header ms (whole square))
    × ((v : VerdictParts) → IsVerdict header ms v → IsOwnVerdict square v)
own_unnamed header square ms own none =
    let shows : (m : Message) → Contains ms m → IsProved header m → ShowsGrid header own.grid m = all_unnamed header square own ms none in
    (own_settled header ms own.grid (own_roots header square own) shows, own_whole header ms square own shows, own_answer header ms square own shows)
