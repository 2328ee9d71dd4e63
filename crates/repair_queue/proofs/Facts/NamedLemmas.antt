-- Under a square's own header all proved samples of a list show its extension, or one names a collision.
use Rattle.std.proofs.Common.{◌≡◌, ℕ, ◌*◌, List, [], ◌∷◌, true, ◌&&◌, None, sym, subst, inl, inr}
use Rattle.std.specs.Prelude.{◌⊎◌}
use Rattle.std.specs.List.{AllByRecursion, Contains}
use Rattle.std.proofs.lemmas.Bool.{cases_Bool, and_parts, and_from}
use Rattle.namespace_id.specs.declared.shares.Share.{Share}
use Rattle.namespace_id.specs.Cells.{is_width}
use Rattle.nmt_proofs.specs.Clashes.{clash_at}
use Rattle.data_header.specs.Headers.{Roots}
use Rattle.square_layout.specs.Blocks.{SquareShares}
use Rattle.axis_roots.specs.declared.message.messages.Message.{Message}
use Rattle.axis_roots.specs.Messages.{IsMessage, index, is_inside, has_node_count, has_ordered_joins, is_under_root}
use Rattle.axis_roots.specs.Openings.{IsProved}
use Rattle.axis_roots.specs.Grids.{share_at, axis_tree, IsHeaderOf}
use Rattle.axis_roots.specs.Own.{opened_by, ShowsOwn, NamesClash}
use Rattle.axis_roots.proofs.Grids.ExtensionLemmas.{extension_once}
use Rattle.axis_roots.proofs.Messages.OwnLemmas.{accepted_own}
use Rattle.namespace_id.proofs.MemberLemmas.{contains_head, contains_tail, contains_none, contains_cons}
use Rattle.repair_queue.proofs.Facts.VerdictLemmas.{own_width}

-- a sample is proved, or it isn't
proved_or_not : (header : Roots) (m : Message) → is_width header.k ≡ true → IsMessage m → IsProved header m ⊎ (IsProved header m → ⊥)
proved_or_not header m width sized =
    let inside = is_inside header m in
    let count = has_node_count header m in
    let order = has_ordered_joins header m in
    let value = is_under_root header m in
    elim (cases_Bool (inside && count && order && value)) [
      | inl holds ↦
          let last = and_parts (inside && count && order) value holds in
          let third = and_parts (inside && count) order last.0 in
          let first = and_parts inside count third.0 in
          inl (record { width = width; inside = first.0; sized = sized; opened = record { count = first.1; order = third.1; value = last.1 } })
      | inr fails ↦ inr (λ p.
          let holds : (inside && count && order && value) ≡ true =
          and_from (inside && count && order) value (and_from (inside && count) order (and_from inside count p.inside p.opened.count) p.opened.order) p.opened.value in
          absurd cc)
    ]

-- what a proved sample shows of a grid: its share, and the tree that it opens differs nowhere
pub record ShowsGrid (header : Roots) (grid : List Share) (m : Message) : Type 0 where
  pub share : m.share ≡ share_at (2 * header.k) grid m.cell
  pub alike : clash_at (opened_by header.k m) (axis_tree header.k grid m.axis (index m.axis m.cell)) ≡ None

-- a sample that shows the square's own share shows its extension
shows_grid : (header : Roots) (square : SquareShares) (own : IsHeaderOf header square) (m : Message) → ShowsOwn m square → ShowsGrid header own.grid m
shows_grid header square own m shows =
    let width : square.k ≡ header.k = sym (own_width header square own) in
    let one : shows.grid ≡ own.grid = extension_once square.k square.shares shows.grid own.grid own.whole.width shows.extends own.extends in record {
      share = subst (λ (k : ℕ). m.share ≡ share_at (2 * k) own.grid m.cell) width
          (subst (λ (grid : List Share). m.share ≡ share_at (2 * square.k) grid m.cell) one shows.share);
      alike = subst (λ (k : ℕ). clash_at (opened_by k m) (axis_tree k own.grid m.axis (index m.axis m.cell)) ≡ None) width
          (subst (λ (grid : List Share). clash_at (opened_by square.k m) (axis_tree square.k grid m.axis (index m.axis m.cell)) ≡ None) one shows.alike);
    }

-- all proved samples show the extension, or one and the square name a collision
pub first_named : (header : Roots) (square : SquareShares) (own : IsHeaderOf header square) (ms : List Message) → AllByRecursion IsMessage ms
    → ((m : Message) → Contains ms m → IsProved header m → ShowsGrid header own.grid m)
    ⊎ ((m : Message) × Contains ms m × IsProved header m × NamesClash m square)
first_named header square own [] sized = inl (λ m at. absurd (contains_none m at))
first_named header square own (m ∷ ms) sized =
    let width : is_width header.k ≡ true = subst (λ (k : ℕ). is_width k ≡ true) (sym (own_width header square own)) own.whole.width in
    elim (first_named header square own ms sized.1) [
      | inr (n, at, proved, names) ↦ inr (n, contains_tail m n ms at, proved, names)
      | inl rest ↦ elim (proved_or_not header m width sized.0) [
        | inr not ↦ inl (λ n at proved. elim (contains_cons m n ms at) [
          | inl e ↦ absurd (not (subst (IsProved header) (sym e) proved))
          | inr later ↦ rest n later proved
        ])
        | inl here ↦ elim (accepted_own header m here square own) [
          | inr names ↦ inr (m, contains_head m ms, here, names)
          | inl shows ↦ inl (λ n at proved. elim (contains_cons m n ms at) [
            | inl e ↦ subst (ShowsGrid header own.grid) e (shows_grid header square own m shows)
            | inr later ↦ rest n later proved
          ])
        ]
      ]
    ]

-- where none of them names a collision with the square, all proved samples show the extension
pub all_unnamed : (header : Roots) (square : SquareShares) (own : IsHeaderOf header square) (ms : List Message)
    → ((m : Message) → Contains ms m → IsProved header m → NamesClash m square → ⊥)
    → (m : Message) → Contains ms m → IsProved header m → ShowsGrid header own.grid m
all_unnamed header square own ms none m at proved = elim (accepted_own header m proved square own) [
  | inl shows ↦ shows_grid header square own m shows
  | inr names ↦ absurd (none m at proved names)
]
