-- Proved samples at positions of an axis: one sample at its position, and a line's shares at the others.
use Rattle.std.proofs.Common.{◌≡◌, ◌≢◌, ◌∙◌, ℕ, zero, suc, ◌+◌, ◌*◌, ◌<◌, ◌≤◌, List, [], ◌∷◌, ◌++◌, map, true, ◌==◌, refl, ap, ap₂, inl, inr, arith}
use Rattle.std.specs.List.{AllByRecursion, list_all}
use Rattle.std.proofs.lemmas.Bool.{and_from, cases_eq}
use Rattle.std.proofs.lemmas.Bool.Decides.{nat_tests}
use Rattle.namespace_id.specs.declared.cells.Axis.{Axis}
use Rattle.namespace_id.specs.declared.shares.Share.{Share}
use Rattle.namespace_id.specs.Lists.{ascending}
use Rattle.data_header.specs.Headers.{Roots}
use Rattle.axis_roots.specs.declared.message.messages.Message.{Message}
use Rattle.axis_roots.specs.declared.message.proved.Proved.{Proved}
use Rattle.axis_roots.specs.Messages.{position, index}
use Rattle.axis_roots.specs.Proved.{kept_message, IsUnder}
use Rattle.axis_roots.specs.Lines.{entry, cell_on}
use Rattle.axis_roots.proofs.Grids.AxisLemmas.{index-cell_on, position-cell_on}
use Rattle.befp_maker.specs.Conflicts.{IsMessageOf}
use Rattle.befp_maker.specs.Gathered.{AreOfLine}

-- a proved sample of the cell at a position: this sample at its position, the line's share at another
pub record IsWith (header : Roots) (axis : Axis) (i : ℕ) (line : List Share) (m : Message) (pos place : ℕ) (c : Proved) : Type 0 where
  pub under : IsUnder header c
  pub within : place < 2 * header.k
  pub cell : (kept_message c).cell ≡ cell_on axis i place
  pub same : place ≡ pos → kept_message c ≡ m
  pub of_line : place ≢ pos → (kept_message c).share ≡ entry line place

-- such samples of some positions, in their order
abbrev pub AllWith : Roots → Axis → ℕ → List Share → Message → ℕ → List ℕ → List Proved → Type 0
AllWith header axis i line m pos [] [] = Unit {0}
AllWith header axis i line m pos [] (c ∷ cells) = ⊥
AllWith header axis i line m pos (p ∷ places) [] = ⊥
AllWith header axis i line m pos (p ∷ places) (c ∷ cells) = IsWith header axis i line m pos p c × AllWith header axis i line m pos places cells

module _ (header : Roots) (axis : Axis) (i : ℕ) (line : List Share) (m : Message) (pos : ℕ) where
  -- samples of the line at other positions
  pub line_with : (n first : ℕ) (cells : List Proved) → ((p : ℕ) → first ≤ p → p < first + n → p ≢ pos) → first + n ≤ 2 * header.k
      → AreOfLine header axis i line (ascending first n) cells → AllWith header axis i line m pos (ascending first n) cells
  unfolding ascending
  line_with zero first [] apart high are = tt
  line_with zero first (c ∷ cells) apart high are = elim are [ ]
  line_with (suc n) first [] apart high are = elim are [ ]
  line_with (suc n) first (c ∷ cells) apart high are = (
    record {
      under = are.0.under;
      within = omega arith;
      cell = are.0.cell;
      same = λ e. absurd (apart first (omega arith) (omega arith) e);
      of_line = λ _. are.0.share;
    },
    line_with n (suc first) cells (λ p low below. apart p (omega arith) (omega arith)) (omega arith) are.1,
  )

  -- two lists of them, one after the other
  pub with-append : (ps qs : List ℕ) (xs ys : List Proved) → AllWith header axis i line m pos ps xs → AllWith header axis i line m pos qs ys
      → AllWith header axis i line m pos (ps ++ qs) (xs ++ ys)
  with-append [] qs [] ys first second = second
  with-append [] qs (x ∷ xs) ys first second = elim first [ ]
  with-append (p ∷ ps) qs [] ys first second = elim first [ ]
  with-append (p ∷ ps) qs (x ∷ xs) ys first second = (first.0, with-append ps qs xs ys first.1 second)

  -- their positions
  pub positions-with : (ps : List ℕ) (cells : List Proved) → AllWith header axis i line m pos ps cells
      → map (λ n. position axis n.cell) (map kept_message cells) ≡ ps
  positions-with [] [] all = refl
  positions-with [] (c ∷ cells) all = elim all [ ]
  positions-with (p ∷ ps) [] all = elim all [ ]
  positions-with (p ∷ ps) (c ∷ cells) all =
      ap₂ (λ (q : ℕ) (qs : List ℕ). q ∷ qs) (ap (position axis) all.0.cell ∙ position-cell_on axis i p) (positions-with ps cells all.1)

  -- all are on the axis
  pub on-with : (ps : List ℕ) (cells : List Proved) → AllWith header axis i line m pos ps cells
      → list_all (λ n. index axis n.cell == i) (map kept_message cells) ≡ true
  on-with [] [] all = refl
  on-with [] (c ∷ cells) all = elim all [ ]
  on-with (p ∷ ps) [] all = elim all [ ]
  on-with (p ∷ ps) (c ∷ cells) all =
      let place : index axis (kept_message c).cell ≡ i = ap (index axis) all.0.cell ∙ index-cell_on axis i p in
      let here : (index axis (kept_message c).cell == i) ≡ true = grind (arith, nat_tests) in
      and_from (index axis (kept_message c).cell == i) (list_all (λ n. index axis n.cell == i) (map kept_message cells)) here (on-with ps cells all.1)

  -- all are under the header
  pub under-with : (ps : List ℕ) (cells : List Proved) → AllWith header axis i line m pos ps cells → AllByRecursion (IsUnder header) cells
  under-with [] [] all = tt
  under-with [] (c ∷ cells) all = elim all [ ]
  under-with (p ∷ ps) [] all = elim all [ ]
  under-with (p ∷ ps) (c ∷ cells) all = (all.0.under, under-with ps cells all.1)

  -- each is the sample, or shows the line's share
  message_with : (p : ℕ) (c : Proved) → IsWith header axis i line m pos p c → IsMessageOf header.k axis i line m (kept_message c)
  message_with p c is = elim (cases_eq p pos) [
    | inl e ↦ inl (is.same e)
    | inr apart ↦ inr (p, is.within, is.cell, is.of_line apart)
  ]

  pub messages-with : (ps : List ℕ) (cells : List Proved) → AllWith header axis i line m pos ps cells
      → AllByRecursion (IsMessageOf header.k axis i line m) (map kept_message cells)
  messages-with [] [] all = tt
  messages-with [] (c ∷ cells) all = elim all [ ]
  messages-with (p ∷ ps) [] all = elim all [ ]
  messages-with (p ∷ ps) (c ∷ cells) all = (message_with p c all.0, messages-with ps cells all.1)
