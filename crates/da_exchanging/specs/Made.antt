-- Outputs that are made whole before they are written, of FILE, the first file.
use Rattle.std.specs.Prelude.{ℕ, List, [], Some, None, Result, Ok, Err, Vec, ⊤}
use Rattle.std.specs.declared.option.Option.{Option}
use Rattle.std.specs.declared.alloc.Global.{Global}
use Rattle.celestia_pb.specs.declared.errors.PbError.{PbError}
use Rattle.celestia_pb.specs.declared.errors.PbError.TheVariants as message
use Rattle.da_wire.specs.declared.frames.Frame.{Frame}
use Rattle.da_status.specs.declared.status.Status.{Status}
use Rattle.da_status.specs.declared.status.Status.TheVariants.{Done, NoMemory, BadInput, BadRequest, Refused}
use Rattle.da_status.specs.declared.status.Asked.TheVariants.{Form}
use Rattle.da_status.specs.Outcome.{Relation, Refuses}
use Rattle.da_files.specs.declared.frames.Unread.{Unread}
use Rattle.da_files.specs.declared.frames.Unread.TheVariants as unread
use Rattle.da_files.specs.Contents.{file_of}
use Rattle.da_files.specs.Frames.{Writes, WritesText}
use Rattle.da_files.specs.Forms.{Over}

-- the status of why FILE isn't read as a message
abbrev pub pb_refusal : PbError → Status
pb_refusal (message.At at) = BadInput 0 at
pb_refusal message.NoMemory = NoMemory

-- the status of why FILE isn't read as one frame
abbrev pub frame_refusal : Unread → Status
frame_refusal (unread.BadForm at) = BadInput 0 at
frame_refusal unread.NoMemory = NoMemory

-- what was made belongs to a relation: a whole output, with `Done`; or nothing, with the status that refuses; or memory ran out
abbrev pub IsMadeOutput : Relation → Result (Vec ℕ Global) Status → Type 0
IsMadeOutput M (Ok text) = M text.items Done
IsMadeOutput M (Err (BadInput i at)) = M [] (BadInput i at)
IsMadeOutput M (Err (BadRequest why)) = M [] (BadRequest why)
IsMadeOutput M (Err Refused) = M [] Refused
IsMadeOutput M (Err NoMemory) = ⊤
IsMadeOutput M (Err status) = ⊥

-- what is answered to a value: its bytes in a form, or that it has none
abbrev pub WritesIf : Option (List ℕ) → Relation
WritesIf None = Refuses (BadRequest Form)
WritesIf (Some text) = WritesText Done text

-- what is answered to a FILE that is read as a value: the frame of the value
abbrev pub Frames : {A : Type 0} → (List ℕ → Result A ℕ) → (A → Frame) → List (List ℕ) → Relation
Frames value frame files = Over (value (file_of files 0)) (λ x. Writes (frame x))

-- what is answered to a FILE that is read as a value: the bytes of the value
abbrev pub Texts : {A : Type 0} → (List ℕ → Result A ℕ) → (A → List ℕ) → List (List ℕ) → Relation
Texts value text files = Over (value (file_of files 0)) (λ x. WritesText Done (text x))

-- what is answered to a FILE that is read as a value: the bytes of the value, where it has some
abbrev pub TextsIf : {A : Type 0} → (List ℕ → Result A ℕ) → (A → Option (List ℕ)) → List (List ℕ) → Relation
TextsIf value text files = Over (value (file_of files 0)) (λ x. WritesIf (text x))
