-- Sessions that are over, and cells that are missing while they aren't.
use Rattle.std.proofs.Common.{◌≡◌, ◌≢◌, ◌∙◌, Bool, true, false, List, [], ◌∷◌, ◌++◌, refl, sym, ap, subst, inl, inr}
use Rattle.std.specs.Prelude.{◌↔◌, not}
use Rattle.std.specs.List.{Contains, filter}
use Rattle.std.proofs.lemmas.Bool.{cases_Bool, true≢false}
use Rattle.std.proofs.lemmas.List.Elements.{Contains-append_left, Contains-append_cases}
use Rattle.namespace_id.specs.declared.cells.Cell.{Cell}
use Rattle.namespace_id.specs.Cells.{CellList, is_width, is_in_square, all_cells}
use Rattle.namespace_id.proofs.AllCellsLemmas.{are_all_cells, all_member}
use Rattle.namespace_id.proofs.MemberLemmas.{contains_head, contains_none}
use Rattle.namespace_id.proofs.RoomLemmas.{each_all}
use Rattle.namespace_id.proofs.RowMajorLemmas.{cells_parts, cells_from}
use Rattle.data_header.specs.Headers.{Roots}
use Rattle.axis_roots.specs.declared.message.messages.Message.{Message}
use Rattle.axis_roots.specs.Openings.{IsProved}
use Rattle.repair_queue.specs.declared.sessions.SessionState.TheVariants as state
use Rattle.repair_queue.specs.Closures.{Half, Covers}
use Rattle.repair_queue.specs.Settled.{IsSettled}
use Rattle.repair_queue.specs.SessionParts.{SessionParts, is_known, SessionStands}
use Rattle.repair_queue.specs.Sessions.{session_state, AreLeft}
use Rattle.repair_queue.specs.Verdicts.{missing, IsVerdict}
use Rattle.da_gathering.specs.Gatherings.{KnowsAll, IsSessionOver}
use Rattle.da_gathering.proofs.LeftLemmas.{filter_keeps, filter_holds, filter_rises}

-- ---- samples that aren't proved

-- a session stands for samples more that aren't proved; by what is known of lists with the same proved samples
pub stands_more : ((s : SessionParts) (ms others : List Message) → Covers s.header ms others → Covers s.header others ms → SessionStands s ms → SessionStands s others)
    → (s : SessionParts) (ms more : List Message) → ((m : Message) → Contains more m → IsProved s.header m → ⊥) → SessionStands s ms → SessionStands s (ms ++ more)
stands_more law s ms more lies stand =
    law s ms (ms ++ more)
    (λ m at proved. Contains-append_left ms more m at)
    (λ m at proved. elim (Contains-append_cases ms more m at) [
      | inl here ↦ here
      | inr lie ↦ absurd (lies m lie proved)
    ])
    stand

-- ---- whether a session is over

-- what is known of an open session's cells
abbrev pub Knows : Type 0
Knows = (s : SessionParts) (ms : List Message) → session_state s ≡ state.Open → SessionStands s ms → (cell : Cell) → is_in_square s.header.k cell ≡ true
    → (is_known s cell ≡ true) ↔ Half s.header ms cell

-- an open session is over exactly where all cells follow
pub over_open : Knows → (s : SessionParts) (over : Bool) → session_state s ≡ state.Open → (ms : List Message) → SessionStands s ms
    → (over ≡ true) ↔ ((cell : Cell) → is_in_square s.header.k cell ≡ true → Half s.header ms cell) → IsSessionOver over s
over_open knows s true opened ms stand told = inr (λ cell within. (knows s ms opened stand cell within).1 (told.0 refl cell within))
over_open knows s false opened ms stand told =
    (opened, λ all. true≢false (sym (told.1 (λ cell within. (knows s ms opened stand cell within).0 (all cell within)))))

-- where some cell isn't recoverable an open session isn't over
goes_by : Knows → (s : SessionParts) (ms : List Message) → session_state s ≡ state.Open → SessionStands s ms → (cells : List Cell) → cells ≢ []
    → ((cell : Cell) → Contains cells cell → (is_in_square s.header.k cell ≡ true) × (Half s.header ms cell → ⊥)) → IsSessionOver false s
goes_by knows s ms opened stand [] some out = absurd (some refl)
goes_by knows s ms opened stand (cell ∷ cells) some out =
    let this = out cell (contains_head cell cells) in (opened, λ all. this.1 ((knows s ms opened stand cell this.0).0 (all cell this.0)))

-- so one that was fed nothing isn't over; by what is known where no sample is proved
pub fresh_goes : Knows
    → ((header : Roots) (ms : List Message) → is_width header.k ≡ true → ((m : Message) → Contains ms m → IsProved header m → ⊥)
    → IsVerdict header ms (missing (record { k = header.k; list = all_cells header.k })))
    → (s : SessionParts) → is_width s.header.k ≡ true → session_state s ≡ state.Open → SessionStands s [] → IsSessionOver false s
fresh_goes knows nothing s width opened stand =
    let left = nothing s.header [] width (λ m at proved. contains_none m at) in
    goes_by knows s [] opened stand (all_cells s.header.k) left.some (λ cell at. (left.missing cell).0 at)

-- ---- missing cells

module _ (knows : Knows) (settled : (s : SessionParts) (ms : List Message) → session_state s ≡ state.Open → SessionStands s ms → IsSettled s.header ms)
    (s : SessionParts) (ms : List Message) (goes : IsSessionOver false s) (stand : SessionStands s ms) where
  -- a cell that isn't recoverable isn't known
  unknown : (cell : Cell) → is_in_square s.header.k cell ≡ true → (Half s.header ms cell → ⊥) → is_known s cell ≡ false
  unknown cell within out = elim (cases_Bool (is_known s cell)) [
    | inl is ↦ absurd (out ((knows s ms goes.0 stand cell within).0 is))
    | inr isnt ↦ isnt
  ]

  -- where the cells that aren't recoverable are none, all are known
  none_left : (cells : CellList) → AreLeft s.header ms cells → cells.list ≡ [] → KnowsAll s
  none_left cells left none cell within = elim (cases_Bool (is_known s cell)) [
    | inl is ↦ is
    | inr isnt ↦
        let out : Half s.header ms cell → ⊥ = λ half. true≢false (sym ((knows s ms goes.0 stand cell within).1 half) ∙ isnt) in
        absurd (contains_none cell (subst (λ (l : List Cell). Contains l cell) none ((left.left cell).1 (within, out))))
  ]

  -- so the cells that aren't recoverable are an answer
  pub left_missing : (cells : CellList) → AreLeft s.header ms cells → IsVerdict s.header ms (missing cells)
  left_missing cells left = record {
    settled = settled s ms goes.0 stand;
    width = left.width;
    row_major = left.row_major;
    some = λ none. goes.1 (none_left cells left none);
    missing = left.left;
  }

  -- the cells that aren't known
  abbrev left_cells : CellList
  left_cells = record { k = s.header.k; list = filter (λ cell. not (is_known s cell)) (all_cells s.header.k) }

  -- whether a cell is known, by the opposite
  not_known : (cell : Cell) → not (is_known s cell) ≡ true → is_known s cell ≡ false
  not_known cell other = elim (cases_Bool (is_known s cell)) [
    | inl is ↦ absurd (true≢false (sym other ∙ ap not is))
    | inr isnt ↦ isnt
  ]

  -- they are the ones that aren't recoverable
  are_left : is_width s.header.k ≡ true → AreLeft s.header ms left_cells
  are_left width =
      let all = cells_parts s.header.k (all_cells s.header.k) (are_all_cells s.header.k width) in
      let test : Cell → Bool = λ cell. not (is_known s cell) in record {
        width = refl;
        row_major = cells_from s.header.k left_cells.list width
            (each_all (is_in_square s.header.k) left_cells.list (λ cell at. (all_member s.header.k cell width).0 (filter_holds test (all_cells s.header.k) cell at).0))
            (filter_rises test (all_cells s.header.k) all.2);
        left = λ cell. (
          λ at.
              let held = filter_holds test (all_cells s.header.k) cell at in
              let within = (all_member s.header.k cell width).0 held.0 in
              (within, λ half. true≢false (sym ((knows s ms goes.0 stand cell within).1 half) ∙ not_known cell held.1)),
          λ out. filter_keeps test (all_cells s.header.k) cell (ap not (unknown cell out.0 out.1)) ((all_member s.header.k cell width).1 out.0),
        );
      }

  -- there are some missing cells
  pub some_missing : is_width s.header.k ≡ true → (cells : CellList) × IsVerdict s.header ms (missing cells)
  some_missing width = (left_cells, left_missing left_cells (are_left width))
