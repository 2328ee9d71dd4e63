-- Replies to requests for samples, and for namespaces, are what `sample` and `namespace` write.
use Rattle.std.proofs.Common.{◌≡◌, ◌∙◌, ℕ, Bool, true, false, cond, ltb, List, [], ◌∷◌, Some, IsSome, Result, length, refl, sym, ap, subst}
use Rattle.std.specs.Option.{option_map}
use Rattle.std.specs.List.{AllByRecursion}
use Rattle.std.proofs.lemmas.Bool.{not-true}
use Rattle.namespace_id.specs.declared.cells.Axis.{Axis}
use Rattle.namespace_id.specs.declared.cells.Cell.{Cell}
use Rattle.namespace_id.specs.declared.namespaces.Namespace as names
use Rattle.namespace_id.specs.Names.{IsNamespace, is_parity}
use Rattle.namespace_id.specs.Cells.{is_in_square}
use Rattle.square_layout.specs.Blocks.{SquareShares}
use Rattle.axis_roots.specs.declared.message.messages.Message as sent
use Rattle.axis_roots.specs.declared.answers.NsEntry.{NsEntry}
use Rattle.axis_roots.specs.Answers.{AreEntries}
use Rattle.axis_roots.specs.Messages.{IsMessage}
use Rattle.axis_roots.specs.Grids.{IsHeaderOf}
use Rattle.axis_roots.specs.Openings.{IsProved}
use Rattle.axis_roots.specs.Trees.{message_at}
use Rattle.square_serve.specs.Shares.{namespace_shares}
use Rattle.square_serve.specs.Answers.{shown, IsComplete}
use Rattle.square_serve.specs.Serving.{HeldParts, IsHeld, Holds, answer_for}
use Rattle.frame_payloads.specs.Payloads.{max_payload}
use Rattle.frame_payloads.specs.kinds.Message.{message_payload}
use Rattle.frame_payloads.specs.kinds.Names.{names_payload, is_long_answer}
use Rattle.frame_payloads.specs.kinds.Requests.{sample_at, request_at}
use Rattle.frame_payloads.specs.declared.refusals.Reason.TheVariants.{NoAnswer}
use Rattle.da_wire.specs.declared.frames.Frame.{Frame}
use Rattle.da_wire.specs.declared.frames.Frame.TheVariants.{Message, Names, Sample, Request}
use Rattle.da_wire.specs.Spelling.{frame, spelling, sample_kind, request_kind, message_kind, names_kind}
use Rattle.da_wire.specs.Reading.{Raw, is_among, value_at}
use Rattle.da_wire.specs.Laws.{ValuesAreTheFile, BadValueIsFirst}
use Rattle.da_status.specs.declared.status.Status.TheVariants.{Done}
use Rattle.da_files.specs.Forms.{Over}
use Rattle.da_files.specs.Requests.{namespace_of, namespaces_in}
use Rattle.da_files.proofs.RequestLemmas.{all_pass}
use Rattle.da_serving.specs.Serving.{requests_file, Serves}
use Rattle.da_serving.specs.Sample.{asked_sample, samples_in, is_asked_inside, AllowsSample}
use Rattle.da_serving.specs.Namespace.{is_other, AllowsNames}
use Rattle.da_serving.proofs.AnswerLemmas.{complete_short}
use Rattle.da_serving.proofs.NamespaceLemmas.{are_named}
use Rattle.da_serving.proofs.SampleLemmas.{is_sample}
use Rattle.da_serving.proofs.ServingLemmas.{serves_gives}
use Rattle.da_talk.specs.declared.asking.Asked.TheVariants as asked
use Rattle.da_talk.specs.Replies.{asked_by, sample_asked, names_asked, refusal, reply, held_reply, due}
use Rattle.da_conversing.specs.Laws.{RepliesAreSamples, RepliesAreAnswers}
use Rattle.da_conversing.proofs.ReplyLemmas.{IsTold, told_due, spelled_so, mapped, of_kind}

-- ---- samples

-- what a frame of a request for a sample asks for
asks_sample : (raw : Raw) (value : Frame) → value_at raw.kind raw.payload ≡ Some value → is_among (sample_kind ∷ []) raw.kind ≡ true
    → (a : Cell × Axis) × (value ≡ Sample a.0 a.1) × (asked_by raw.kind raw.payload ≡ asked.Sample a.0 a.1)
unfolding value_at
asks_sample raw value e among =
    let kind : raw.kind ≡ sample_kind = of_kind sample_kind raw.kind among in
    let read : option_map (λ (s : Cell × Axis). Sample s.0 s.1) (sample_at raw.payload) ≡ Some value =
    ap (λ (k : ℕ). value_at k raw.payload) (sym kind) ∙ e in
    let m = mapped (λ (s : Cell × Axis). Sample s.0 s.1) (sample_at raw.payload) value read in
    (m.0, m.2, ap (λ (k : ℕ). asked_by k raw.payload) kind ∙ ap sample_asked m.1)

-- the sample of each cell of a held square is proved
abbrev ProvesCells : HeldParts → Type 0
ProvesCells held = (cell : Cell) (axis : Axis) → is_in_square held.k cell ≡ true → IsProved held.header (message_at held.k held.grid cell axis)

abbrev SpellsMessages : Type 0
SpellsMessages = (m : sent.Message) → IsMessage m → IsSome (spelling (Message m))

-- the reply to a request for the sample of a cell inside
told_sample : (held : HeldParts) (square : SquareShares) → Holds held square → ProvesCells held → SpellsMessages
    → (raw : Raw) (value : Frame) → value_at raw.kind raw.payload ≡ Some value → is_among (sample_kind ∷ []) raw.kind ≡ true
    → IsTold (AllowsSample square held.header) asked_sample (λ a. is_asked_inside square a ≡ true) (sample_kind ∷ []) (held_reply held) raw value
told_sample held square holds proved spelled raw value e among =
    let asks = asks_sample raw value e among in
    let cell : Cell = asks.0.0 in
    let axis : Axis = asks.0.1 in
    let m : sent.Message = message_at held.k held.grid cell axis in
    let text : List ℕ = frame message_kind (message_payload m) in
    record {
      request = asks.0;
      asks = ap asked_sample asks.1;
      told = λ number inside.
          let within : is_in_square held.k cell ≡ true = ap (λ (k : ℕ). is_in_square k cell) holds.width ∙ inside in
          let opens = proved cell axis within in
          let said : held_reply held number raw ≡ text =
          ap (reply held number) asks.2 ∙ ap (λ (b : Bool). cond b text (refusal NoAnswer number)) within in (
            Message m,
            (m, is_sample held square asks.0 m holds refl refl refl opens, refl),
            spelled_so false (ltb max_payload (length (message_payload m))) text (spelled m opens.sized) ∙ ap (λ (l : List ℕ). Some l) (sym said),
          );
    }

pub replies_are_samples : ((held : HeldParts) (square : SquareShares) → Holds held square → IsHeaderOf held.header square)
    → ((held : HeldParts) (cell : Cell) (axis : Axis) → IsHeld held → is_in_square held.k cell ≡ true → IsProved held.header (message_at held.k held.grid cell axis))
    → SpellsMessages → RepliesAreSamples
replies_are_samples own proved spelled files square held read is holds none inside =
    let bytes : List ℕ = requests_file files in
    let served = serves_gives square (is_asked_inside square) (AllowsSample square) (samples_in bytes) held.header (own held square holds) inside (due (held_reply held) bytes) Done (
      told_due (AllowsSample square held.header) asked_sample (λ a. is_asked_inside square a ≡ true) (sample_kind ∷ []) (held_reply held)
          (told_sample held square holds (λ cell axis within. proved held cell axis is within) spelled)
          bytes none (all_pass (is_asked_inside square) 0 (samples_in bytes) inside),
      refl,
    ) in
    subst (λ (r : Result SquareShares ℕ). Over r (λ s. Serves s (is_asked_inside s) (AllowsSample s) (samples_in bytes)) (due (held_reply held) bytes) Done) (sym read) served

-- ---- namespaces

-- what a frame of a request for a namespace asks for
asks_names : (raw : Raw) (value : Frame) → value_at raw.kind raw.payload ≡ Some value → is_among (request_kind ∷ []) raw.kind ≡ true
    → (name : names.Namespace) × (value ≡ Request name) × (asked_by raw.kind raw.payload ≡ asked.Names name)
unfolding value_at
asks_names raw value e among =
    let kind : raw.kind ≡ request_kind = of_kind request_kind raw.kind among in
    let read : option_map Request (request_at raw.payload) ≡ Some value = ap (λ (k : ℕ). value_at k raw.payload) (sym kind) ∙ e in
    let m = mapped Request (request_at raw.payload) value read in
    (m.0, m.2, ap (λ (k : ℕ). asked_by k raw.payload) kind ∙ ap names_asked m.1)

-- what is known of the answers of a held square
record HasAnswers (held : HeldParts) (square : SquareShares) : Type 0 where
  own : IsHeaderOf held.header square
  complete : (name : names.Namespace) → IsNamespace name → is_parity name ≡ false → IsComplete held.header name (answer_for held name)
  entries : (name : names.Namespace) → IsNamespace name → AreEntries (answer_for held name)
  shares : (name : names.Namespace) → IsNamespace name → is_parity name ≡ false → shown (answer_for held name) ≡ namespace_shares square name

abbrev SpellsNames : Type 0
SpellsNames = (name : names.Namespace) (answer : List NsEntry) → IsNamespace name → AreEntries answer → is_long_answer answer ≡ false → IsSome (spelling (Names name answer))

-- a request for a namespace other than PARITY
abbrev IsGood : names.Namespace → Type 0
IsGood name = IsNamespace name × (is_other name ≡ true)

told_names : (held : HeldParts) (square : SquareShares) → HasAnswers held square → SpellsNames
    → (raw : Raw) (value : Frame) → value_at raw.kind raw.payload ≡ Some value → is_among (request_kind ∷ []) raw.kind ≡ true
    → IsTold (AllowsNames square held.header) namespace_of IsGood (request_kind ∷ []) (held_reply held) raw value
told_names held square has spelled raw value e among =
    let asks = asks_names raw value e among in
    let name : names.Namespace = asks.0 in
    let answer : List NsEntry = answer_for held name in
    let text : List ℕ = frame names_kind (names_payload name answer) in
    record {
      request = name;
      asks = ap namespace_of asks.1;
      told = λ number good.
          let other : is_parity name ≡ false = not-true (is_parity name) good.1 in
          let complete = has.complete name good.0 other in
          let short : is_long_answer answer ≡ false = complete_short held.header square name answer has.own complete in
          let said : held_reply held number raw ≡ text =
          ap (reply held number) asks.2 ∙ ap (λ (b : Bool). cond b (refusal NoAnswer number) text) other in (
            Names name answer,
            (answer, record { complete = complete; shares = has.shares name good.0 other }, refl),
            spelled_so (is_long_answer answer) (ltb max_payload (length (names_payload name answer))) text (spelled name answer good.0 (has.entries name good.0) short)
                ∙ ap (λ (l : List ℕ). Some l) (sym said),
          );
    }

-- of each both hold
both_good : (requests : List names.Namespace) → AllByRecursion IsNamespace requests → AllByRecursion (λ (name : names.Namespace). is_other name ≡ true) requests
    → AllByRecursion IsGood requests
both_good [] are others = tt
both_good (name ∷ requests) are others = ((are.0, others.0), both_good requests are.1 others.1)

pub replies_are_answers : ((held : HeldParts) (square : SquareShares) → Holds held square → IsHeaderOf held.header square)
    → ((held : HeldParts) (name : names.Namespace) → IsHeld held → IsNamespace name → is_parity name ≡ false → IsComplete held.header name (answer_for held name))
    → ((held : HeldParts) (name : names.Namespace) → IsHeld held → IsNamespace name → AreEntries (answer_for held name))
    → ((held : HeldParts) (square : SquareShares) (name : names.Namespace) → IsHeld held → Holds held square → IsNamespace name → is_parity name ≡ false
    → shown (answer_for held name) ≡ namespace_shares square name)
    → SpellsNames → ValuesAreTheFile → BadValueIsFirst → RepliesAreAnswers
replies_are_answers own complete entries shares spelled whole first files square held read is holds fits none others =
    let bytes : List ℕ = requests_file files in
    let has : HasAnswers held square = record {
      own = own held square holds;
      complete = λ name. complete held name is;
      entries = λ name. entries held name is;
      shares = λ name. shares held square name is holds;
    } in
    let served = serves_gives square is_other (AllowsNames square) (namespaces_in bytes) held.header has.own others (due (held_reply held) bytes) Done (
      told_due (AllowsNames square held.header) namespace_of IsGood (request_kind ∷ []) (held_reply held) (told_names held square has spelled)
          bytes none (both_good (namespaces_in bytes) (are_named whole first bytes fits) (all_pass is_other 0 (namespaces_in bytes) others)),
      refl,
    ) in
    subst (λ (r : Result SquareShares ℕ). Over r (λ s. Serves s is_other (AllowsNames s) (namespaces_in bytes)) (due (held_reply held) bytes) Done) (sym read) served
