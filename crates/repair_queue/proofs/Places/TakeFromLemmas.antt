-- A sample that is taken out of a pool, and shares that are compared.
use Rattle.std.proofs.Common.{◌≡◌, ◌≢◌, ◌∙◌, ℕ, ◌+◌, ◌<◌, List, length, get_or, Bool, true, false, sym, ap, subst, below_more}
use Rattle.std.specs.Str.{bytes_eq}
use Rattle.std.proofs.lemmas.Bool.{true≢false}
use Rattle.std.proofs.lemmas.List.{get_or_default}
use Rattle.std.proofs.lemmas.Slice.Eq.{bytes_eq-Decides}
use Rattle.namespace_id.specs.declared.cells.Cell.{Cell}
use Rattle.namespace_id.specs.declared.cells.Axis.{Axis}
use Rattle.namespace_id.specs.declared.shares.Share.{Share}
use Rattle.axis_roots.specs.Lines.{blank, cell_on, entry}
use Rattle.repair_queue.specs.Slots.{Kept, Flags}
use Rattle.repair_queue.specs.Boards.{Shared}
use Rattle.repair_queue.specs.Judging.{IsAlikeAt}

-- two shares that are found to be one
pub same_eq : (a b : Share) (t : Bool) → t ≡ bytes_eq a.0 b.0 → t ≡ true → a ≡ b
same_eq a b t test is = ap (λ (l : List ℕ). record { 0 = l }) ((bytes_eq-Decides a.0 b.0).0 (sym test ∙ is))

-- or aren't
pub apart_eq : (a b : Share) (t : Bool) → t ≡ bytes_eq a.0 b.0 → t ≡ false → a ≢ b
apart_eq a b t test is e = true≢false (sym ((bytes_eq-Decides a.0 b.0).1 (ap (λ (s : Share). s.0) e)) ∙ sym test ∙ is)

-- one position more at which no other share is known
pub next_alike : (slot : Kept) (flag : Flags) (shares : Shared) (axis : Axis) (i pos : ℕ) (line : List Share) (cell : Cell) (d : Share)
    → cell ≡ cell_on axis i pos → pos < length line → IsAlikeAt slot flag shares cell (get_or line pos d)
    → ((p : ℕ) → p < pos → IsAlikeAt slot flag shares (cell_on axis i p) (entry line p))
    → (p : ℕ) → p < pos + 1 → IsAlikeAt slot flag shares (cell_on axis i p) (entry line p)
next_alike slot flag shares axis i pos line cell d is below here before =
    below_more (λ q. IsAlikeAt slot flag shares (cell_on axis i q) (entry line q)) pos before
    (subst (IsAlikeAt slot flag shares (cell_on axis i pos)) (get_or_default line pos d blank below)
    (subst (λ (x : Cell). IsAlikeAt slot flag shares x (get_or line pos d)) is here))
