-- What is brief of the value at the front of bytes is what is brief of the value that its payload holds.
use Rattle.std.proofs.Common.{◌≡◌, ◌∙◌, ℕ, ◌-◌, List, length, take, drop, Option, None, Some, Result, Ok, Err, OnErr, refl, sym, ap, subst}
use Rattle.std.specs.Prelude.{IsSome, ⊤}
use Rattle.std.specs.Option.{option_map}
use Rattle.std.proofs.lemmas.List.{take_rest}
use Rattle.namespace_id.specs.declared.cells.Cell.{Cell}
use Rattle.namespace_id.specs.declared.cells.Axis.{Axis}
use Rattle.namespace_id.specs.declared.namespaces.Namespace.{Namespace}
use Rattle.axis_roots.specs.declared.answers.NsEntry.{NsEntry}
use Rattle.frame_fields.specs.Fields.{◌>>=◌}
use Rattle.frame_fields.specs.Messages.{message_at}
use Rattle.frame_payloads.specs.kinds.Header.{header_at}
use Rattle.frame_payloads.specs.kinds.Square.{square_at}
use Rattle.frame_payloads.specs.kinds.Names.{names_at, answer_places}
use Rattle.frame_payloads.specs.kinds.Fraud.{fraud_at}
use Rattle.frame_payloads.specs.kinds.Missing.{missing_at}
use Rattle.frame_payloads.specs.kinds.Clash.{clash_at}
use Rattle.frame_payloads.specs.kinds.Requests.{sample_at, request_at}
use Rattle.frame_payloads.specs.kinds.Block.{block_at}
use Rattle.frame_payloads.specs.kinds.Commit.{commit_at}
use Rattle.frame_payloads.specs.kinds.Rooted.{rooted_at}
use Rattle.frame_payloads.specs.kinds.Transactions.{transactions_at}
use Rattle.frame_payloads.specs.kinds.Refusal.{refusal_at}
use Rattle.frame_payloads.specs.kinds.State.{state_at}
use Rattle.da_wire.specs.declared.frames.Frame.{Frame}
use Rattle.da_wire.specs.declared.frames.Frame.TheVariants as frames
use Rattle.da_wire.specs.declared.frames.FrameError.{FrameError}
use Rattle.da_wire.specs.declared.briefs.Brief.{Brief}
use Rattle.da_wire.specs.declared.briefs.Brief.TheVariants as briefs
use Rattle.frame_payloads.specs.declared.shown.EntryPlace.{EntryPlace}
use Rattle.da_wire.specs.declared.kinds.Kind.{Kind}
use Rattle.da_wire.specs.declared.kinds.Kind.TheVariants as kinds
use Rattle.da_wire.specs.Reading.{Raw, kind_at, value_of_kind, value_at, is_among, tested_raw}
use Rattle.da_wire.specs.Briefs.{brief_kinds, brief_of, brief_and_rest, brief_of_kind, brief_at}
use Rattle.da_wire.proofs.ValueListLemmas.{value_found, value_missed, frame_missed}

-- ---- what a payload holds

-- what is brief of a value that is made is made at once
made_brief : {A : Type 0} (made : A → Frame) (short : A → Brief) → ((a : A) → brief_of (made a) ≡ Some (short a)) → (o : Option A)
    → option_map short o ≡ (option_map made o >>= brief_of)
made_brief made short same None = refl
made_brief made short same (Some a) = sym (same a)

-- nothing is brief of a value of another kind
made_none : {A : Type 0} (made : A → Frame) → ((a : A) → brief_of (made a) ≡ None) → (o : Option A) → None ≡ (option_map made o >>= brief_of)
made_none made same None = refl
made_none made same (Some a) = sym (same a)

-- the same behind another map
made_twice : {A B : Type 0} (made : A → Frame) (turn : A → B) (short : B → Brief) → ((a : A) → brief_of (made a) ≡ Some (short (turn a))) → (o : Option A)
    → option_map short (option_map turn o) ≡ (option_map made o >>= brief_of)
made_twice made turn short same None = refl
made_twice made turn short same (Some a) = sym (same a)

-- what is brief of the value of a kind
kind_brief : (kind : Kind) (payload : List ℕ) → brief_of_kind kind payload ≡ (value_of_kind kind payload >>= brief_of)
kind_brief kinds.Header payload = made_none frames.Header (λ a. refl) (header_at payload)
kind_brief kinds.Square payload = made_none frames.Square (λ a. refl) (square_at payload)
kind_brief kinds.Message payload = made_none frames.Message (λ a. refl) (message_at payload)
kind_brief kinds.Names payload =
    made_twice (λ (n : Namespace × List NsEntry). frames.Names n.0 n.1) answer_places (λ (n : Namespace × List EntryPlace). briefs.Names n.0 n.1) (λ a. refl)
    (names_at payload)
kind_brief kinds.Fraud payload = made_brief frames.Fraud briefs.Fraud (λ a. refl) (fraud_at payload)
kind_brief kinds.Missing payload = made_brief frames.Missing briefs.Missing (λ a. refl) (missing_at payload)
kind_brief kinds.Clash payload = made_none frames.Clash (λ a. refl) (clash_at payload)
kind_brief kinds.Sample payload =
    made_brief (λ (s : Cell × Axis). frames.Sample s.0 s.1) (λ (s : Cell × Axis). briefs.Sample s.0 s.1) (λ a. refl) (sample_at payload)
kind_brief kinds.Request payload = made_brief frames.Request briefs.Request (λ a. refl) (request_at payload)
kind_brief kinds.Block payload = made_brief frames.Block briefs.Block (λ a. refl) (block_at payload)
kind_brief kinds.Commit payload = made_none frames.Commit (λ a. refl) (commit_at payload)
kind_brief kinds.Rooted payload = made_none frames.Rooted (λ a. refl) (rooted_at payload)
kind_brief kinds.Transactions payload = made_brief frames.Transactions briefs.Transactions (λ a. refl) (transactions_at payload)
kind_brief kinds.Refusal payload = made_brief frames.Refusal briefs.Refusal (λ a. refl) (refusal_at payload)
kind_brief kinds.State payload = made_brief (λ (none : ⊤). frames.State) (λ (none : ⊤). briefs.State) (λ a. refl) (state_at payload)

-- by the kind that a byte is, if it is one
byte_brief : (o : Option Kind) (payload : List ℕ)
    → (o >>= (λ kind. brief_of_kind kind payload)) ≡ ((o >>= (λ kind. value_of_kind kind payload)) >>= brief_of)
byte_brief None payload = refl
byte_brief (Some kind) payload = kind_brief kind payload

-- what is brief of the value that a payload holds
payload_brief : (byte : ℕ) (payload : List ℕ) → brief_at byte payload ≡ (value_at byte payload >>= brief_of)
unfolding brief_at value_at
payload_brief byte payload = byte_brief (kind_at byte) payload

-- ---- what stands at the front

module _ (bytes : List ℕ) where
  -- what comes of a value at the front, and its length
  abbrev brief_by : Option (Frame × ℕ) → Option (Brief × List ℕ)
  brief_by found = ◌>>=◌ {A = Frame × List ℕ} (option_map (λ x. (x.0, drop x.1 bytes)) found) (λ v. option_map (λ b. (b, v.1)) (brief_of v.0))

  -- what is brief, with the bytes after it
  abbrev followed : List ℕ → Option Brief → Option (Brief × List ℕ)
  followed rest brief = option_map (λ b. (b, rest)) brief

  -- by the value that the payload holds
  value_brief : (f : Raw) (o : Option Frame) → tested_raw (is_among brief_kinds) 0 bytes ≡ Ok f → value_at f.kind f.payload ≡ o
      → brief_and_rest bytes ≡ followed (drop f.size bytes) (o >>= brief_of)
  value_brief f None front read = ap brief_by (value_missed brief_kinds bytes f front read)
  value_brief f (Some v) front read = ap brief_by (value_found brief_kinds bytes f v front read)

  -- what is brief of the frame at the front
  front_brief : (f : Raw) → tested_raw (is_among brief_kinds) 0 bytes ≡ Ok f
      → brief_and_rest bytes ≡ followed (drop f.size bytes) (brief_at f.kind f.payload)
  front_brief f front =
      value_brief f (value_at f.kind f.payload) front refl
      ∙ ap (followed (drop f.size bytes)) (sym (payload_brief f.kind f.payload))

  -- what the payload holds stands there
  pub found_brief : (f : Raw) (brief : Brief) → tested_raw (is_among brief_kinds) 0 bytes ≡ Ok f → brief_at f.kind f.payload ≡ Some brief
      → brief_and_rest bytes ≡ Some (brief, take (length bytes - f.size) (drop f.size bytes))
  found_brief f brief front read =
      front_brief f front ∙ ap (followed (drop f.size bytes)) read
      ∙ ap (λ (l : List ℕ). followed l (Some brief)) (sym (take_rest bytes f.size))

  -- where the payload isn't in the grammar, nothing does
  pub missed_brief : (f : Raw) → tested_raw (is_among brief_kinds) 0 bytes ≡ Ok f → brief_at f.kind f.payload ≡ None → brief_and_rest bytes ≡ None
  missed_brief f front read = front_brief f front ∙ ap (followed (drop f.size bytes)) read

  -- where no frame of these kinds stands, nothing does
  pub no_brief : (why : FrameError) → tested_raw (is_among brief_kinds) 0 bytes ≡ Err why → brief_and_rest bytes ≡ None
  no_brief why front = ap brief_by (frame_missed brief_kinds bytes why front)

  -- where its payload holds one, there is one
  held : (rest : List ℕ) (o : Option Brief) → IsSome o → IsSome (followed rest o)
  held rest None some = some
  held rest (Some b) some = refl

  pub some_brief : (f : Raw) → tested_raw (is_among brief_kinds) 0 bytes ≡ Ok f → IsSome (brief_at f.kind f.payload) → IsSome (brief_and_rest bytes)
  some_brief f front some =
      subst (λ (o : Option (Brief × List ℕ)). IsSome o) (sym (front_brief f front)) (held (drop f.size bytes) (brief_at f.kind f.payload) some)

-- what holds in any case holds where a call failed
pub on_err : {T E : Type 0} (r : Result T E) (P : Type 0) → P → OnErr r P
on_err (Ok x) P p = tt
on_err (Err e) P p = p
