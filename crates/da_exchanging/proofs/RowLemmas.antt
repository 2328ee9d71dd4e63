-- Rows: the frames of their samples, and what is answered to half a row.
use Rattle.std.proofs.Common.{◌≡◌, ◌∙◌, ℕ, ◌+◌, ◌*◌, Bool, true, false, List, [], ◌∷◌, ◌++◌, map, Some, None, Result, Ok, Err, Vec, Global, inl, inr, refl, sym, ap, subst, append_assoc, append-nil, nat_lt}
use Rattle.std.specs.declared.option.Option.{Option}
use Rattle.namespace_id.specs.declared.shares.Share.{Share}
use Rattle.namespace_id.specs.Lists.{ascending}
use Rattle.namespace_id.proofs.AscentLemmas.{mapped_none, mapped_more}
use Rattle.celestia_pb.specs.HalfRows.{HalfParts}
use Rattle.half_rows.specs.Rows.{width_of, IsRowOf, is_ordered_row, WholeRow, IsOrderedRowOf}
use Rattle.da_wire.specs.declared.frames.Frame.{Frame}
use Rattle.da_wire.specs.Spelling.{spelling, message_kind}
use Rattle.da_wire.specs.Values.{bad_value}
use Rattle.da_wire.specs.Writing.{AppendsSpelling}
use Rattle.da_status.specs.declared.status.Asked.TheVariants.{Form, NoHeader}
use Rattle.da_status.specs.declared.status.Status.{Status}
use Rattle.da_status.specs.declared.status.Status.TheVariants.{Done, BadInput, BadRequest}
use Rattle.da_status.specs.declared.status.Status.TheVariants as status
use Rattle.da_status.specs.Judging.{Judged}
use Rattle.da_status.specs.Outcome.{Relation}
use Rattle.da_status.specs.Statuses as statuses
use Rattle.da_status.proofs.EndLemmas.{IsAnswer, status_answers}
use Rattle.da_files.specs.Contents.{file_of}
use Rattle.da_files.proofs.FormLemmas.{over_each}
use Rattle.celestia_pb.specs.HalfRows as halves
use Rattle.da_exchanging.specs.Made.{IsMadeOutput}
use Rattle.da_exchanging.specs.Row.{AreSpelled, WritesFrames, row_sample_frame, row_frames, RowBy, RowOf, ImportRowOf, samples_judged, HalfBy, ExportRowOf}
use Rattle.da_exchanging.specs.LeftHalf.{file_samples, half_of}
use Rattle.da_exchanging.proofs.MadeLemmas.{made_as}

-- ---- frames, one after another

-- no frame has no bytes
pub spelled_none : (bytes : List ℕ) → bytes ≡ [] → AreSpelled [] bytes
unfolding AreSpelled
spelled_none bytes none = none

-- one more frame behind others
pub spelled_more : (frames : List Frame) (frame : Frame) (bytes text : List ℕ) → AreSpelled frames bytes → spelling frame ≡ Some text
    → AreSpelled (frames ++ frame ∷ []) (bytes ++ text)
unfolding AreSpelled
spelled_more [] frame bytes text are is = (text, [], is, refl, ap (λ (l : List ℕ). l ++ text) are ∙ sym (append-nil text))
spelled_more (first ∷ frames) frame bytes text are is = (
  are.0,
  are.1 ++ text,
  are.2,
  spelled_more frames frame are.1 text are.3 is,
  ap (λ (l : List ℕ). l ++ text) are.4 ∙ append_assoc are.0 are.1 text,
)

module _ (parts : WholeRow) where
  -- the frames of so many columns
  abbrev pub frames_to : ℕ → List Frame
  frames_to count = map (row_sample_frame parts) (ascending 0 count)

  pub columns_none : (bytes : List ℕ) → bytes ≡ [] → AreSpelled (frames_to 0) bytes
  columns_none bytes none = subst (λ (fs : List Frame). AreSpelled fs bytes) (mapped_none (row_sample_frame parts) [] refl) (spelled_none bytes none)

  -- one column more
  pub columns_more : (count : ℕ) (frame : Frame) (old new : List ℕ) → AreSpelled (frames_to count) old → frame ≡ row_sample_frame parts count
      → AppendsSpelling frame old new → AreSpelled (frames_to (count + 1)) new
  columns_more count frame old new are is appends =
      subst (λ (fs : List Frame). AreSpelled fs new) (mapped_more (row_sample_frame parts) count (frames_to count) frame refl is)
      (subst (λ (l : List ℕ). AreSpelled (frames_to count ++ frame ∷ []) l) (sym appends.2)
      (spelled_more (frames_to count) frame old appends.0 are appends.1))

-- ---- what is answered to half a row

module _ (row : ℕ) (half : HalfParts) where
  -- the square has no such row
  pub no_row : nat_lt row (2 * width_of half) ≡ false → RowOf row half [] (BadRequest Form)
  no_row none = subst (λ (t : Bool). RowBy t row half [] (BadRequest Form)) (sym none) (refl, refl)

  -- it has one, whose namespaces fall
  pub row_falls : nat_lt row (2 * width_of half) ≡ true → ((line : List Share) → IsRowOf half line → is_ordered_row (width_of half) row line ≡ false)
      → RowOf row half [] (BadRequest NoHeader)
  row_falls there falls = subst (λ (t : Bool). RowBy t row half [] (BadRequest NoHeader)) (sym there) (inr (falls, (refl, refl)))

  -- it has one, whose frames were made
  rows_made : (parts : WholeRow) (made : Result (Vec ℕ Global) Status) → nat_lt row (2 * width_of half) ≡ true → IsOrderedRowOf half row parts
      → IsMadeOutput (WritesFrames (row_frames parts)) made → IsMadeOutput (RowBy true row half) made
  rows_made parts (Ok text) there is h = inl (parts, is, h)
  rows_made parts (Err status.NoMemory) there is h = tt
  rows_made parts (Err (status.BadInput i at)) there is h = inl (parts, is, h)
  rows_made parts (Err (status.BadRequest why)) there is h = inl (parts, is, h)
  rows_made parts (Err status.Refused) there is h = inl (parts, is, h)
  rows_made parts (Err other) there is h = absurd h

  pub row_made : (parts : WholeRow) (made : Result (Vec ℕ Global) Status) → nat_lt row (2 * width_of half) ≡ true → IsOrderedRowOf half row parts
      → IsMadeOutput (WritesFrames (row_frames parts)) made → IsMadeOutput (RowOf row half) made
  row_made parts made there is h =
      made_as (RowBy true row half) (RowOf row half) made (sym (ap (λ (t : Bool). RowBy t row half) there)) (rows_made parts made there is h)

-- a test that isn't failed is passed
pub not_failed : (b : Bool) → (b ≡ false → ⊥) → b ≡ true
not_failed true other = refl
not_failed false other = absurd (other refl)

-- ---- answers

row_answers : (b : Bool) (row : ℕ) (half : HalfParts) (w : List ℕ) (final : Status) → RowBy b row half w final → IsAnswer (statuses.status_kind final)
row_answers false row half w final h = status_answers final (BadRequest Form) h.1 tt
row_answers true row half w final (inl made) = status_answers final Done made.2.1 tt
row_answers true row half w final (inr falls) = status_answers final (BadRequest NoHeader) falls.1.1 tt

pub import_answers : (row : ℕ) (files : List (List ℕ)) (w : List ℕ) (final : Status) → ImportRowOf row files w final
    → IsAnswer (statuses.status_kind final)
import_answers row files w final h =
    over_each (RowOf row) (halves.half_row_value (file_of files 0)) w final (IsAnswer (statuses.status_kind final))
    (λ half is. row_answers (nat_lt row (2 * width_of half)) row half w final is) h

half_answers : (half : Option HalfParts) (w : List ℕ) (final : Status) → HalfBy half w final → IsAnswer (statuses.status_kind final)
half_answers None w final h = status_answers final (BadRequest Form) h.1 tt
half_answers (Some half) w final h = status_answers final Done h.1 tt

pub export_answers : (files : List (List ℕ)) (w : List ℕ) (final : Status) → ExportRowOf files w final → IsAnswer (statuses.status_kind final)
export_answers files w final h = half_answers (half_of (file_samples (file_of files 0))) w final h

-- ---- what is answered to samples

module _ (files : List (List ℕ)) (bytes : List ℕ) (here : bytes ≡ file_of files 0) where
  abbrev pub Meaning : Relation
  Meaning = Judged (samples_judged files) (ExportRowOf files)

  -- by where the bytes stop being a list of samples
  abbrev by_bad : List ℕ → Option ℕ → Relation
  by_bad l bad = Judged (bad ∷ []) (HalfBy (half_of (file_samples l)))

  -- they are one
  pub list_made : (bad : Option ℕ) (made : Result (Vec ℕ Global) Status) → bad ≡ bad_value (message_kind ∷ []) bytes → bad ≡ None
      → IsMadeOutput (HalfBy (half_of (file_samples bytes))) made → IsMadeOutput Meaning made
  list_made bad made is none h =
      made_as (by_bad bytes None) Meaning made
      (ap (by_bad bytes) (sym none ∙ is) ∙ ap (λ (l : List ℕ). by_bad l (bad_value (message_kind ∷ []) l)) here) h

  -- they aren't
  pub bad_list : (bad : Option ℕ) (at : ℕ) → bad ≡ bad_value (message_kind ∷ []) bytes → bad ≡ Some at → Meaning [] (BadInput 0 at)
  bad_list bad at is some =
      subst (λ (M : Relation). M [] (BadInput 0 at))
      (ap (by_bad bytes) (sym some ∙ is) ∙ ap (λ (l : List ℕ). by_bad l (bad_value (message_kind ∷ []) l)) here) (refl, refl)
