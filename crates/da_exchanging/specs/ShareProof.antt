-- share-proof: a root proof along a row as the message ShareProof of one share, and its frame R.
use Rattle.std.specs.Prelude.{ℕ, List, [], ◌∷◌, Bool, true, false, Some, None, Result}
use Rattle.std.specs.declared.option.Option.{Option}
use Rattle.blob_commit.specs.Proofs.{RootedParts}
use Rattle.celestia_pb.specs.ShareProofs.{has_share_proof, share_proof_text, share_proof_value}
use Rattle.da_wire.specs.declared.frames.Frame.{Frame}
use Rattle.da_wire.specs.declared.frames.Frame.TheVariants.{Rooted}
use Rattle.da_wire.specs.Spelling.{rooted_kind}
use Rattle.da_wire.specs.Reading.{only_of}
use Rattle.da_status.specs.declared.status.Asked.TheVariants.{Form}
use Rattle.da_status.specs.declared.status.Status.TheVariants.{Done, BadRequest}
use Rattle.da_status.specs.Outcome.{Relation, Refuses}
use Rattle.da_files.specs.Contents.{file_of}
use Rattle.da_files.specs.Forms.{Over}
use Rattle.da_files.specs.Frames.{single_file, WritesText}
use Rattle.da_exchanging.specs.Made.{Frames}

-- the root proof that a frame is
abbrev pub rooted_of : Frame → Option RootedParts
rooted_of (Rooted proof) = Some proof
rooted_of frame = None

-- the root proof that a file is, or where it stops being a frame of one
abbrev pub rooted_in : List ℕ → Result RootedParts ℕ
rooted_in bytes = single_file rooted_of (only_of bytes (rooted_kind ∷ []))

-- the message of a root proof, where it has one
abbrev pub GivesMessage : Bool → RootedParts → Relation
GivesMessage true proof = WritesText Done (share_proof_text proof)
GivesMessage false proof = Refuses (BadRequest Form)

-- what is answered of a root proof
abbrev pub ProofAnswer : RootedParts → Relation
ProofAnswer proof = GivesMessage (has_share_proof proof) proof

-- what `import share-proof` answers to a FILE that is a message: the frame of its root proof
abbrev pub ImportShareProofOf : List (List ℕ) → Relation
ImportShareProofOf = Frames share_proof_value Rooted

-- what `export share-proof` answers to a FILE that is a root proof: its message, or that it has none
abbrev pub ExportShareProofOf : List (List ℕ) → Relation
ExportShareProofOf files = Over (rooted_in (file_of files 0)) ProofAnswer
