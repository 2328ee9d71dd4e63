-- Outputs that are made whole before they are written: how they are made of one file, and how a command ends that writes them.
use Rattle.std.proofs.Common.{◌≡◌, ◌∙◌, ◌↔◌, ℕ, List, [], ◌∷◌, ◌++◌, Bool, true, false, cond, Some, None, Result, Ok, Err, IsErrOf, Vec, Global, inl, refl, sym, ap, subst}
use Rattle.std.specs.declared.option.Option.{Option}
use Rattle.std.proofs.KnownBytes.{Appends-nil}
use Rattle.celestia_pb.specs.declared.errors.PbError.{PbError}
use Rattle.celestia_pb.specs.declared.errors.PbError.TheVariants as message
use Rattle.da_wire.specs.declared.frames.Frame.{Frame}
use Rattle.da_wire.specs.Writing.{AppendsSpelling}
use Rattle.da_status.specs.declared.status.Asked.TheVariants.{Form}
use Rattle.da_status.specs.declared.status.Status.{Status}
use Rattle.da_status.specs.declared.status.Status.TheVariants.{Done, BadInput, BadRequest, Refused, NoMemory}
use Rattle.da_status.specs.Statuses.{status_kind}
use Rattle.da_status.specs.Judging.{Judged}
use Rattle.da_status.specs.Outcome.{Relation, EndsAtOnce}
use Rattle.da_status.proofs.EndLemmas.{IsAnswer, status_answers, ends_output, once_request, once_output}
use Rattle.da_files.specs.declared.frames.Unread.{Unread}
use Rattle.da_files.specs.declared.frames.Unread.TheVariants as unread
use Rattle.da_files.specs.Contents.{file_of}
use Rattle.da_files.specs.Frames.{error_of, ReadsSingle, Writes, WritesText}
use Rattle.da_files.specs.Forms.{Over, single_judged}
use Rattle.da_files.proofs.FormLemmas.{single_is, over_each}
use Rattle.da_exchanging.specs.Made.{pb_refusal, frame_refusal, IsMadeOutput, WritesIf, Frames, Texts, TextsIf}

-- ---- what is made

-- what was made by a meaning that is another's
pub made_as : (M N : Relation) (made : Result (Vec ℕ Global) Status) → M ≡ N → IsMadeOutput M made → IsMadeOutput N made
made_as M N made e h = subst (λ (R : Relation). IsMadeOutput R made) e h

-- the spelling of a frame, where it was appended to no bytes
pub spelling_made : (frame : Frame) (fresh text : List ℕ) → fresh ≡ [] → AppendsSpelling frame fresh text → Writes frame text Done
spelling_made frame fresh text none appended =
    (appended.1 ∙ ap Some (sym (appended.2 ∙ ap (λ (l : List ℕ). l ++ appended.0) none)), refl)

module _ {A : Type 0} (value : List ℕ → Result A ℕ) (Answer : A → Relation) (files : List (List ℕ)) (bytes : List ℕ) (here : bytes ≡ file_of files 0) where
  -- the meaning over FILE
  abbrev OverFile : Relation
  OverFile = Judged (single_judged value files) (Over (value (file_of files 0)) Answer)

  -- what is made of the value that FILE is read as
  pub read_made : (x : A) (made : Result (Vec ℕ Global) Status) → value bytes ≡ Ok x → IsMadeOutput (Answer x) made → IsMadeOutput OverFile made
  read_made x made is h =
      made_as (Answer x) OverFile made (single_is Answer (value (file_of files 0)) x (ap value (sym here) ∙ is)) h

  -- FILE isn't in its form from here on
  bad_form : (at : ℕ) → value bytes ≡ Err at → OverFile [] (BadInput 0 at)
  bad_form at bad =
      subst (λ (r : Result A ℕ). Judged (error_of r ∷ []) (Over r Answer) [] (BadInput 0 at)) (sym bad ∙ ap value here) (refl, refl)

  -- nothing is made of a FILE that is no message
  message_none : {T : Type 0} (why : PbError) → ((at : ℕ) → IsErrOf {T = T} {E = PbError} (Err why) (message.At at) ↔ (value bytes ≡ Err at))
      → IsMadeOutput OverFile (Err (pb_refusal why))
  message_none (message.At at) h = bad_form at ((h at).0 refl)
  message_none message.NoMemory h = tt

  pub no_message : {T : Type 0} (why : PbError) (status : Status) → status ≡ pb_refusal why
      → ((at : ℕ) → IsErrOf {T = T} {E = PbError} (Err why) (message.At at) ↔ (value bytes ≡ Err at)) → IsMadeOutput OverFile (Err status)
  no_message {T} why status is h = subst (λ (s : Status). IsMadeOutput OverFile (Err s)) (sym is) (message_none {T = T} why h)

  -- nothing is made of a FILE that is no frame
  frame_none : (why : Unread) → ReadsSingle (Err why) (value bytes) → IsMadeOutput OverFile (Err (frame_refusal why))
  frame_none (unread.BadForm at) h = bad_form at h
  frame_none unread.NoMemory h = tt

  pub no_frame : (why : Unread) (status : Status) → status ≡ frame_refusal why → ReadsSingle (Err why) (value bytes) → IsMadeOutput OverFile (Err status)
  no_frame why status is h = subst (λ (s : Status). IsMadeOutput OverFile (Err s)) (sym is) (frame_none why h)

-- the frame of the value that FILE is read as
pub frame_made : {A : Type 0} (value : List ℕ → Result A ℕ) (frame : A → Frame) (files : List (List ℕ)) (bytes : List ℕ) (here : bytes ≡ file_of files 0)
    (x : A) (shown : Frame) (made : Result (Vec ℕ Global) Status) → value bytes ≡ Ok x → shown ≡ frame x → IsMadeOutput (Writes shown) made
    → IsMadeOutput (Judged (single_judged value files) (Frames value frame files)) made
frame_made value frame files bytes here x shown made is same h =
    read_made value (λ y. Writes (frame y)) files bytes here x made is (made_as (Writes shown) (Writes (frame x)) made (ap Writes same) h)

-- the bytes of a value that has some
pub has_written : (has : Bool) (text shown : List ℕ) → has ≡ true → shown ≡ text → WritesIf (cond has (Some text) None) shown Done
has_written has text shown is same = subst (λ (b : Bool). WritesIf (cond b (Some text) None) shown Done) (sym is) (same, refl)

-- a value that has none is refused
pub none_refused : (has : Bool) (text : List ℕ) → has ≡ false → WritesIf (cond has (Some text) None) [] (BadRequest Form)
none_refused has text is = subst (λ (b : Bool). WritesIf (cond b (Some text) None) [] (BadRequest Form)) (sym is) (refl, refl)

-- ---- what is written

-- a text that was made is written
pub made_written : (M : Relation) (text shown : List ℕ) → M text Done → shown ≡ text → (w : List ℕ) (status : Status) → WritesText Done shown w status → M w status
made_written M text shown made same w status writes =
    subst (λ (s : Status). M w s) (sym writes.1) (subst (λ (l : List ℕ). M l Done) (sym (writes.0 ∙ same)) made)

-- where nothing was made, nothing is written
pub made_refused : (M : Relation) (old : Option (List ℕ)) (before : ℕ) (Same : Type 0) (status : Status) → IsMadeOutput M (Err status) → Same
    → EndsAtOnce M old old before before Same status
made_refused M old before Same (BadInput i at) made same = record {
  ends = record {
    leaves = ([], made, Appends-nil old);
    faults = refl;
    told = (λ s. s, λ s. s);
    untouched = same;
    own = tt;
  };
  late = λ e. same;
}
made_refused M old before Same (BadRequest why) made same = once_request M old before Same (BadRequest why) refl made same
made_refused M old before Same Refused made same =
    once_output M old old before before Same Refused refl
    (ends_output M [] Refused old old before before Same refl made (Appends-nil old) refl (λ s. s, λ s. s))
made_refused M old before Same NoMemory made same = record {
  ends = record {
    leaves = ([], Appends-nil old, inl refl);
    faults = refl;
    told = (λ s. s, λ s. s);
    untouched = tt;
    own = tt;
  };
  late = λ e. same;
}
made_refused M old before Same status made same = absurd made

-- ---- answers

-- the frame of what a file is is an answer
pub frames_answer : {A : Type 0} (value : List ℕ → Result A ℕ) (frame : A → Frame) (files : List (List ℕ)) (w : List ℕ) (status : Status)
    → Frames value frame files w status → IsAnswer (status_kind status)
frames_answer {A} value frame files w status h =
    over_each (λ (x : A). Writes (frame x)) (value (file_of files 0)) w status (IsAnswer (status_kind status)) (λ x is. status_answers status Done is.1 tt) h

-- the bytes of what a file is are
pub texts_answer : {A : Type 0} (value : List ℕ → Result A ℕ) (text : A → List ℕ) (files : List (List ℕ)) (w : List ℕ) (status : Status)
    → Texts value text files w status → IsAnswer (status_kind status)
texts_answer {A} value text files w status h =
    over_each (λ (x : A). WritesText Done (text x)) (value (file_of files 0)) w status (IsAnswer (status_kind status)) (λ x is. status_answers status Done is.1 tt) h

-- so is that a value has none
writes_if_answer : (text : Option (List ℕ)) (w : List ℕ) (status : Status) → WritesIf text w status → IsAnswer (status_kind status)
writes_if_answer None w status is = status_answers status (BadRequest Form) is.1 tt
writes_if_answer (Some text) w status is = status_answers status Done is.1 tt

pub texts_if_answer : {A : Type 0} (value : List ℕ → Result A ℕ) (text : A → Option (List ℕ)) (files : List (List ℕ)) (w : List ℕ) (status : Status)
    → TextsIf value text files w status → IsAnswer (status_kind status)
texts_if_answer {A} value text files w status h =
    over_each (λ (x : A). WritesIf (text x)) (value (file_of files 0)) w status (IsAnswer (status_kind status)) (λ x is. writes_if_answer (text x) w status is) h
