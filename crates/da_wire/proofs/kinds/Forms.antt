-- What is read of a payload of any kind is what the payload spells, and what is spelled is read.
use Rattle.std.proofs.Common.{◌≡◌, ◌∙◌, ℕ, Bool, true, false, eqb, cond, List, [], ◌∷◌, Option, Some, refl, sym, ap, subst, eqb-true}
use Rattle.std.specs.Prelude.{⊤}
use Rattle.std.specs.Option.{option_map}
use Rattle.std.proofs.lemmas.Option.{same_Some}
use Rattle.namespace_id.specs.declared.cells.Cell.{Cell}
use Rattle.namespace_id.specs.declared.cells.Axis.{Axis}
use Rattle.namespace_id.specs.declared.namespaces.Namespace.{Namespace}
use Rattle.namespace_id.specs.Bytes.{AreBytes}
use Rattle.axis_roots.specs.declared.answers.NsEntry.{NsEntry}
use Rattle.da_wire.specs.declared.frames.Frame.{Frame}
use Rattle.da_wire.specs.declared.frames.Frame.TheVariants.{Header, Square, Message, Names, Fraud, Missing, Clash, Sample, Request, Block, Commit, Rooted, Transactions, Refusal, State}
use Rattle.da_wire.specs.declared.kinds.Kind.{Kind}
use Rattle.da_wire.specs.declared.kinds.Kind.TheVariants as kinds
use Rattle.da_wire.specs.Spelling.{kind_byte, spelled, spelling, IsFrame}
use Rattle.da_wire.specs.Reading.{value_kinds, kind_among, kind_at, value_of_kind, value_at}
use Rattle.da_wire.specs.Writing.{kind_of}
use Rattle.frame_payloads.proofs.Fields.Readers.{bind_some, map_some}
use Rattle.da_wire.proofs.kinds.Form.{Spells, IsWritten, form_takes, form_written}
use Rattle.frame_payloads.proofs.Forms.HeaderForm.{header_form}
use Rattle.frame_payloads.proofs.Forms.SquareForm.{square_form}
use Rattle.frame_payloads.proofs.Forms.MessageForm.{message_form}
use Rattle.frame_payloads.proofs.Forms.NamesForm.{names_form}
use Rattle.frame_payloads.proofs.Forms.FraudForm.{fraud_form}
use Rattle.frame_payloads.proofs.Forms.MissingForm.{missing_form}
use Rattle.frame_payloads.proofs.Forms.ClashForm.{clash_form}
use Rattle.frame_payloads.proofs.Forms.RequestForms.{sample_form, request_form}
use Rattle.frame_payloads.proofs.Forms.BlockForm.{block_form}
use Rattle.frame_payloads.proofs.Forms.CommitForm.{commit_form}
use Rattle.frame_payloads.proofs.Forms.RootedForm.{rooted_form}
use Rattle.frame_payloads.proofs.Forms.TransactionsForm.{transactions_form}
use Rattle.frame_payloads.proofs.Forms.RefusalForm.{refusal_form}
use Rattle.frame_payloads.proofs.Forms.StateForm.{state_form}

-- ---- the byte of a kind

-- the byte of each kind is read as the kind
kind_again : (kind : Kind) → kind_at (kind_byte kind) ≡ Some kind
kind_again kinds.Header = refl
kind_again kind = refl

-- a byte is that of a kind, or it is looked for among the others
by_byte : (here : Bool) (byte : ℕ) (kind found : Kind) (others : Option Kind) → eqb byte (kind_byte kind) ≡ here → cond here (Some kind) others ≡ Some found
    → (others ≡ Some found → byte ≡ kind_byte found) → byte ≡ kind_byte found
by_byte true byte kind found others is e later = eqb-true byte (kind_byte kind) is ∙ ap (λ (k : Kind). kind_byte k) (same_Some kind found e)
by_byte false byte kind found others is e later = later e

-- a byte that is read as one of some kinds is that kind's byte
among_takes : (among : List Kind) (byte : ℕ) (found : Kind) → kind_among among byte ≡ Some found → byte ≡ kind_byte found
among_takes [] byte found e = absurd cc
among_takes (kind ∷ others) byte found e = by_byte (eqb byte (kind_byte kind)) byte kind found (kind_among others byte) refl e (among_takes others byte found)

-- a byte that is read as a kind is that kind's byte
kind_takes : (byte : ℕ) (found : Kind) → kind_at byte ≡ Some found → byte ≡ kind_byte found
kind_takes byte found e = among_takes value_kinds byte found e

-- ---- values

-- the frame of a namespace and an answer, and that of a cell and an axis
abbrev answer_frame : Namespace × List NsEntry → Frame
answer_frame x = Names x.0 x.1

abbrev asked_frame : Cell × Axis → Frame
asked_frame x = Sample x.0 x.1

-- that of a state
abbrev state_frame : ⊤ → Frame
state_frame none = State

-- a value of each kind is spelled by the payload of which it is read
spelled_by : (kind : Kind) (payload : List ℕ) (value : Frame) → AreBytes payload → value_of_kind kind payload ≡ Some value → Spells kind payload value
spelled_by kinds.Header = form_takes kinds.Header Header _ _ _ header_form (λ bytes. refl) (λ x. refl)
spelled_by kinds.Square = form_takes kinds.Square Square _ _ _ square_form (λ bytes. refl) (λ x. refl)
spelled_by kinds.Message = form_takes kinds.Message Message _ _ _ message_form (λ bytes. refl) (λ x. refl)
spelled_by kinds.Names = form_takes kinds.Names answer_frame _ _ _ names_form (λ bytes. refl) (λ x. refl)
spelled_by kinds.Fraud = form_takes kinds.Fraud Fraud _ _ _ fraud_form (λ bytes. refl) (λ x. refl)
spelled_by kinds.Missing = form_takes kinds.Missing Missing _ _ _ missing_form (λ bytes. refl) (λ x. refl)
spelled_by kinds.Clash = form_takes kinds.Clash Clash _ _ _ clash_form (λ bytes. refl) (λ x. refl)
spelled_by kinds.Sample = form_takes kinds.Sample asked_frame _ _ _ sample_form (λ bytes. refl) (λ x. refl)
spelled_by kinds.Request = form_takes kinds.Request Request _ _ _ request_form (λ bytes. refl) (λ x. refl)
spelled_by kinds.Block = form_takes kinds.Block Block _ _ _ block_form (λ bytes. refl) (λ x. refl)
spelled_by kinds.Commit = form_takes kinds.Commit Commit _ _ _ commit_form (λ bytes. refl) (λ x. refl)
spelled_by kinds.Rooted = form_takes kinds.Rooted Rooted _ _ _ rooted_form (λ bytes. refl) (λ x. refl)
spelled_by kinds.Transactions = form_takes kinds.Transactions Transactions _ _ _ transactions_form (λ bytes. refl) (λ x. refl)
spelled_by kinds.Refusal = form_takes kinds.Refusal Refusal _ _ _ refusal_form (λ bytes. refl) (λ x. refl)
spelled_by kinds.State = form_takes kinds.State state_frame _ _ _ state_form (λ bytes. refl) (λ x. refl)

-- the value behind a map is of the kind that all such values have
made_kind : {A : Type 0} (made : A → Frame) (kind : ℕ) (o : Option A) (value : Frame) → ((a : A) → kind_of (made a) ≡ kind) → option_map made o ≡ Some value
    → kind_of value ≡ kind
made_kind made kind o value all e =
    let m = map_some made o value e in
    ap kind_of (sym m.2) ∙ all m.0

-- the value that a payload of a kind holds is of this kind
kind_value : (kind : Kind) (payload : List ℕ) (value : Frame) → value_of_kind kind payload ≡ Some value → kind_of value ≡ kind_byte kind
kind_value kinds.Header payload value e = made_kind _ _ _ value (λ a. refl) e
kind_value kind payload value e = made_kind _ _ _ value (λ a. refl) e

-- the value that a payload of the kind that a byte is holds has this byte
pub value_kind : (byte : ℕ) (payload : List ℕ) (value : Frame) → value_at byte payload ≡ Some value → kind_of value ≡ byte
unfolding value_at
value_kind byte payload value e =
    let k = bind_some (kind_at byte) (λ (kind : Kind). value_of_kind kind payload) value e in
    kind_value k.0 payload value k.2 ∙ sym (kind_takes byte k.0 k.1)

-- a value that is read of a payload is what the payload spells
pub value_takes : (byte : ℕ) (payload : List ℕ) (value : Frame) → AreBytes payload → value_at byte payload ≡ Some value
    → IsFrame value × (spelling value ≡ spelled byte payload)
unfolding value_at
value_takes byte payload value fits e =
    let k = bind_some (kind_at byte) (λ (kind : Kind). value_of_kind kind payload) value e in
    subst (λ (n : ℕ). IsFrame value × (spelling value ≡ spelled n payload)) (sym (kind_takes byte k.0 k.1)) (spelled_by k.0 payload value fits k.2)

-- the payload of a value that is spelled is read as the value
pub value_again : (value : Frame) (text : List ℕ) → IsFrame value → spelling value ≡ Some text → IsWritten value text
value_again (Header h) = form_written kinds.Header Header _ _ _ header_form (λ bytes. refl) (λ x. refl) (kind_again kinds.Header) h
value_again (Square s) = form_written kinds.Square Square _ _ _ square_form (λ bytes. refl) (λ x. refl) (kind_again kinds.Square) s
value_again (Message m) = form_written kinds.Message Message _ _ _ message_form (λ bytes. refl) (λ x. refl) (kind_again kinds.Message) m
value_again (Names name answer) = form_written kinds.Names answer_frame _ _ _ names_form (λ bytes. refl) (λ x. refl) (kind_again kinds.Names) (name, answer)
value_again (Fraud claim) = form_written kinds.Fraud Fraud _ _ _ fraud_form (λ bytes. refl) (λ x. refl) (kind_again kinds.Fraud) claim
value_again (Missing cells) = form_written kinds.Missing Missing _ _ _ missing_form (λ bytes. refl) (λ x. refl) (kind_again kinds.Missing) cells
value_again (Clash clash) = form_written kinds.Clash Clash _ _ _ clash_form (λ bytes. refl) (λ x. refl) (kind_again kinds.Clash) clash
value_again (Sample cell axis) = form_written kinds.Sample asked_frame _ _ _ sample_form (λ bytes. refl) (λ x. refl) (kind_again kinds.Sample) (cell, axis)
value_again (Request name) = form_written kinds.Request Request _ _ _ request_form (λ bytes. refl) (λ x. refl) (kind_again kinds.Request) name
value_again (Block b) = form_written kinds.Block Block _ _ _ block_form (λ bytes. refl) (λ x. refl) (kind_again kinds.Block) b
value_again (Commit proof) = form_written kinds.Commit Commit _ _ _ commit_form (λ bytes. refl) (λ x. refl) (kind_again kinds.Commit) proof
value_again (Rooted proof) = form_written kinds.Rooted Rooted _ _ _ rooted_form (λ bytes. refl) (λ x. refl) (kind_again kinds.Rooted) proof
value_again (Transactions units) = form_written kinds.Transactions Transactions _ _ _ transactions_form (λ bytes. refl) (λ x. refl) (kind_again kinds.Transactions) units
value_again (Refusal refusal) = form_written kinds.Refusal Refusal _ _ _ refusal_form (λ bytes. refl) (λ x. refl) (kind_again kinds.Refusal) refusal
value_again State = form_written kinds.State state_frame _ _ _ state_form (λ bytes. refl) (λ x. refl) (kind_again kinds.State) tt
