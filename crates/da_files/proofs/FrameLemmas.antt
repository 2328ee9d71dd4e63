-- Files of one frame: what a reader of one kind gives, and memory that runs out in place of a value alone.
use Rattle.std.proofs.Common.{◌≡◌, ◌∙◌, ℕ, true, List, None, Some, Result, Ok, Err, IsOk, IsSome, refl, sym, ap, subst, inl, inr}
use Rattle.std.specs.declared.option.Option.{Option}
use Rattle.std.specs.Option.{option_map_or}
use Rattle.da_wire.specs.declared.frames.Frame.{Frame}
use Rattle.da_wire.specs.declared.frames.FrameError.{FrameError}
use Rattle.da_wire.specs.declared.frames.FrameError.TheVariants.{BadKind, NoMemory}
use Rattle.da_wire.specs.Reading.{is_among, only_of, Reads, ReadsAt}
use Rattle.da_wire.specs.Writing.{kind_of}
use Rattle.da_wire.specs.Single.{single as read_single}
use Rattle.da_wire.proofs.OnlyLemmas.{only_kind}
use Rattle.da_wire.proofs.SingleLemmas.{IsNotFull, only_not_full, single_not_full}
use Rattle.da_wire.specs.Streams.{offset_of}
use Rattle.da_files.specs.declared.frames.Unread.{Unread}
use Rattle.da_files.specs.Frames.{single_file, unread_of, ReadsSingle}

module _ {A : Type 0} where
  -- what a file is, or where it stops being one frame, by what its reader gives
  abbrev told_of : Result A FrameError → Result A ℕ
  told_of (Ok value) = Ok value
  told_of (Err e) = Err (offset_of e)

  -- that of a frame, by its value
  told_by : (o : Option A) → ◌≡◌ {A = Result A ℕ} (option_map_or Ok o (Err 0)) (told_of (option_map_or Ok o (Err (BadKind 0))))
  told_by None = refl
  told_by (Some value) = refl

  -- that of a frame of a kind
  told : (value : Frame → Option A) (read : Result Frame FrameError) → single_file value read ≡ told_of (read_single value read)
  told value (Err e) = refl
  told value (Ok frame) = told_by (value frame)

  -- a value that was read is what the file is
  pub is_read : (value : Frame → Option A) (read : Result Frame FrameError) (a : A) → read_single value read ≡ Ok a → single_file value read ≡ Ok a
  is_read value read a e = told value read ∙ ap told_of e

  -- a value that there is is what the file is
  told_ok : (r : Result A FrameError) → IsOk r → IsOk (told_of r)
  told_ok (Ok value) h = refl
  told_ok (Err e) h = absurd cc

  -- why nothing was read is why the file isn't one frame
  unread : (error : FrameError) (r : Result A FrameError) → IsNotFull r → Reads NoMemory (λ (a : A). a) (Err error) r
      → ReadsSingle (Err (unread_of error)) (told_of r)
  unread NoMemory r h (inl full) = told_ok r full.1
  unread NoMemory r h (inr e) = absurd (subst (λ (x : Result A FrameError). IsNotFull x) e h refl)
  unread error r h (inl full) = absurd cc
  unread error r h (inr e) = ap told_of e

  -- a reader that takes no memory reads as one that may run out of it
  pub reads_at : (result read : Result A FrameError) → ReadsAt (λ (a : A). a) result read → Reads NoMemory (λ (a : A). a) result read
  reads_at (Ok a) read h = h
  reads_at (Err e) read h = inr h

  -- why a file was not read as one frame of a kind
  pub is_unread : (value : Frame → Option A) (bytes kinds : List ℕ) (error : FrameError) (why : Unread) → why ≡ unread_of error
      → Reads NoMemory (λ (a : A). a) (Err error) (read_single value (only_of bytes kinds)) → ReadsSingle (Err why) (single_file value (only_of bytes kinds))
  is_unread value bytes kinds error why same h =
      subst (λ (w : Unread). ReadsSingle (Err w) (single_file value (only_of bytes kinds))) (sym same)
      (subst (λ (x : Result A ℕ). ReadsSingle (Err (unread_of error)) x) (sym (told value (only_of bytes kinds)))
      (unread error (read_single value (only_of bytes kinds)) (single_not_full value (only_of bytes kinds) (only_not_full bytes kinds)) h))

  -- a value that there is is what a frame is read as
  some_ok : (o : Option A) → IsSome o → IsOk {T = A} {E = FrameError} (option_map_or Ok o (Err (BadKind 0)))
  some_ok None some = absurd cc
  some_ok (Some value) some = refl

  -- a frame that was read is read as its value, where it has one
  value_ok : (value : Frame → Option A) (read : Result Frame FrameError) → ((frame : Frame) → read ≡ Ok frame → IsSome (value frame)) → IsOk read
      → IsOk (read_single value read)
  value_ok value (Ok frame) some ok = some_ok (value frame) (some frame refl)
  value_ok value (Err e) some ok = absurd cc

  -- why a file was not read as one frame of some kinds, which all have values
  pub values_unread : (value : Frame → Option A) (kinds : List ℕ) → ((frame : Frame) → is_among kinds (kind_of frame) ≡ true → IsSome (value frame))
      → (bytes : List ℕ) (error : FrameError) (why : Unread) → why ≡ unread_of error → Reads NoMemory (λ (v : Frame). v) (Err error) (only_of bytes kinds)
      → ReadsSingle (Err why) (single_file value (only_of bytes kinds))
  values_unread value kinds there bytes error why same (inl full) =
      is_unread value bytes kinds error why same
      (inl (full.0, value_ok value (only_of bytes kinds) (λ frame read. there frame (only_kind bytes kinds frame read)) full.1))
  values_unread value kinds there bytes error why same (inr e) = is_unread value bytes kinds error why same (inr (ap (read_single value) e))
