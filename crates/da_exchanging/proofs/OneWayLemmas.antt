-- What import says of extended headers, by the message of their axis roots, and of half a row, by the square that it is of.
use Rattle.std.proofs.Common.{◌≡◌, ◌∙◌, ◌+◌, ◌*◌, ◌≤◌, ◌<◌, ℕ, zero, suc, Bool, true, false, cond, List, [], ◌∷◌, map, Some, None, Result, Ok, Err, inl, inr, refl, sym, ap, ap₂, subst, arith, nat_lt}
use Rattle.std.specs.Prelude.{MatchOption}
use Rattle.std.specs.Str.{bytes_eq}
use Rattle.std.proofs.lemmas.Bool.{ltb-true}
use Rattle.std.proofs.lemmas.Slice.Eq.{bytes_eq-Decides}
use Rattle.namespace_id.specs.declared.cells.Axis.TheVariants.{Row}
use Rattle.namespace_id.specs.declared.shares.Share.{Share}
use Rattle.namespace_id.specs.Cells.{cell_in}
use Rattle.namespace_id.specs.Lists.{ascending}
use Rattle.data_header.specs.DataRoots.{data_root_of}
use Rattle.data_header.specs.Headers.{Roots}
use Rattle.axis_roots.specs.Grids.{axis_shares, Extends}
use Rattle.axis_roots.specs.Trees.{message_at}
use Rattle.celestia_pb.specs.declared.extended.Extended.{Extended}
use Rattle.celestia_pb.specs.Headers.{dah_value}
use Rattle.celestia_pb.specs.Extended.{extended_value}
use Rattle.celestia_pb.specs.ExtendedLaws.{IsExtended, ExtendedIsCommon}
use Rattle.celestia_pb.specs.HalfRows.{HalfParts, IsHalf, half_row_value, ReadIsHalfRow}
use Rattle.half_rows.specs.Rows.{width_of, HasHalf, WholeRow, IsOrderedRowOf}
use Rattle.half_rows.specs.Laws.{SamplesAreOfSquare}
use Rattle.da_wire.specs.declared.frames.Frame.{Frame}
use Rattle.da_wire.specs.declared.frames.Frame.TheVariants as frames
use Rattle.da_status.specs.declared.status.Asked.TheVariants.{Form, NoHeader}
use Rattle.da_status.specs.declared.status.Status.{Status}
use Rattle.da_status.specs.declared.status.Status.TheVariants.{Done, Refused}
use Rattle.da_status.specs.Judging.{Judged}
use Rattle.da_status.specs.Outcome.{Relation, Refuses}
use Rattle.da_files.specs.Contents.{file_of}
use Rattle.da_files.specs.Frames.{error_of, Writes}
use Rattle.da_files.specs.Forms.{Over}
use Rattle.da_files.proofs.FormLemmas.{single_is}
use Rattle.da_words.specs.declared.forms.ImportForm.TheVariants as from
use Rattle.da_exchanging.specs.Header.{WritesRoots}
use Rattle.da_exchanging.specs.Row.{AreSpelled, row_sample_frame, row_frames, RowBy, RowOf}
use Rattle.da_exchanging.specs.Laws.{Imports, HeaderIsOfDah, square_frames, RowIsOfSquare}
use Rattle.da_exchanging.proofs.LawLemmas.{not_refused, not_asked}

-- ---- extended headers

-- what is written is the frame of the axis roots, of which the data hash is the data root
roots_written : (b : Bool) (roots : Roots) (text : List ℕ)
    → MatchOption (cond b (Some roots) None) (Refuses Refused text Done) (λ found. Writes (frames.Header found) text Done)
    → (b ≡ true) × Writes (frames.Header roots) text Done
roots_written true roots text h = (refl, h)
roots_written false roots text h = absurd (not_done h.1)
  where
    not_done : ◌≡◌ {A = Status} Done Refused → ⊥
    not_done e = absurd cc

-- the frame of what a message is read as
dah_imports : (dah text : List ℕ) (roots : Roots) → dah_value dah ≡ Ok roots → Writes (frames.Header roots) text Done → Imports from.Dah dah text
unfolding file_of
dah_imports dah text roots read h =
    subst (λ (R : Relation). R text Done) (single_is (λ (x : Roots). Writes (frames.Header x)) (dah_value dah) roots read) h

header_by : ExtendedIsCommon → (bytes text : List ℕ) (read : Result Extended ℕ) → extended_value bytes ≡ read
    → Judged (error_of read ∷ []) (Over read WritesRoots) text Done
    → (extended : Extended) × (is : IsExtended bytes extended) × (data_root_of extended.roots ≡ extended.data_hash) × Imports from.Dah is.dah text
header_by law bytes text (Err at) e h = absurd (not_refused 0 at h.1)
header_by law bytes text (Ok extended) e h =
    let is : IsExtended bytes extended = law bytes extended e in
    let written = roots_written (bytes_eq (data_root_of extended.roots) extended.data_hash) extended.roots text h in
    (extended, is, (bytes_eq-Decides (data_root_of extended.roots) extended.data_hash).0 written.0, dah_imports is.dah text extended.roots is.roots written.1)

pub header_is_of_dah : ExtendedIsCommon → HeaderIsOfDah
unfolding file_of
header_is_of_dah law = λ bytes text made. header_by law bytes text (extended_value bytes) refl made

-- ---- half a row

-- equal on numbers up to a bound, equal along them
mapped_same : {A : Type 0} (f g : ℕ → A) (end first count : ℕ) → first + count ≤ end → ((i : ℕ) → i < end → f i ≡ g i)
    → map f (ascending first count) ≡ map g (ascending first count)
unfolding ascending
mapped_same f g end first zero le same = refl
mapped_same f g end first (suc count) le same =
    ap₂ (λ x xs. x ∷ xs) (same first (omega arith)) (mapped_same f g end (suc first) count (omega arith) same)

module _ (law : SamplesAreOfSquare) (row : ℕ) (half : HalfParts) (square grid : List Share) (is : IsHalf half)
    (extends : Extends (width_of half) square grid) (has : HasHalf half (axis_shares (width_of half) grid Row row)) where
  -- the frames of the row that has the half are those of the square
  same_frames : (parts : WholeRow) → row < 2 * width_of half → IsOrderedRowOf half row parts → row_frames parts ≡ square_frames (width_of half) grid row
  same_frames parts there of =
      let same : parts ≡ record { k = width_of half; row = row; line = parts.line } = ap₂ (λ (k n : ℕ). record { k = k; row = n; line = parts.line }) of.width of.number_is in
      ap row_frames same
      ∙ mapped_same (row_sample_frame (record { k = width_of half; row = row; line = parts.line }))
      (λ (col : ℕ). frames.Message (message_at (width_of half) grid (cell_in row col) Row)) (2 * width_of half) 0 (2 * width_of half) (omega arith)
      (λ col within. ap frames.Message (law half square grid parts.line row col is extends there within has of.row_of))

  row_by : (b : Bool) (text : List ℕ) → nat_lt row (2 * width_of half) ≡ b → RowBy b row half text Done
      → AreSpelled (square_frames (width_of half) grid row) text
  row_by false text there h = absurd (not_asked Form h.1)
  row_by true text there (inr falls) = absurd (not_asked NoHeader falls.1.1)
  row_by true text there (inl made) =
      subst (λ (fs : List Frame). AreSpelled fs text) (same_frames made.0 (ltb-true row (2 * width_of half) there) made.1) made.2.0

half_by : (row : ℕ) (half : HalfParts) (bytes text : List ℕ) → half_row_value bytes ≡ Ok half → Imports (from.Row row) bytes text → RowOf row half text Done
unfolding file_of
half_by row half bytes text read h = subst (λ (R : Relation). R text Done) (sym (single_is (RowOf row) (half_row_value bytes) half read)) h

pub row_is_of_square : ReadIsHalfRow → SamplesAreOfSquare → RowIsOfSquare
row_is_of_square spelled law = λ row half square grid bytes text fits read extends has made.
    row_by law row half square grid (spelled bytes half fits read).0.0 extends has (nat_lt row (2 * width_of half)) text refl
    (half_by row half bytes text read made)
