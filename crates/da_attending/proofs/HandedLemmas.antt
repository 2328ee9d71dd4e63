-- What a frame is, by what was handed of it.
use Rattle.std.proofs.Common.{◌≡◌, ◌≢◌, ◌∙◌, ℕ, ◌<◌, Bool, true, false, cond, eqb, leb, List, length, Option, None, Some, refl, ap, arith, leb-false, eqb-true, inl, inr}
use Rattle.std.specs.Prelude.{⊤}
use Rattle.std.specs.Option.{option_map}
use Rattle.std.proofs.lemmas.Bool.{cases_Bool}
use Rattle.std.proofs.lemmas.Option.{same_Some}
use Rattle.namespace_id.specs.declared.cells.Axis.{Axis}
use Rattle.namespace_id.specs.declared.cells.Cell.{Cell}
use Rattle.namespace_id.specs.declared.namespaces.Namespace.{Namespace}
use Rattle.data_header.specs.Headers.{Roots}
use Rattle.axis_roots.specs.declared.answers.NsEntry.{NsEntry}
use Rattle.blob_feed.specs.Feeds.{headed, answered}
use Rattle.frame_fields.specs.Fields.{◌>>=◌}
use Rattle.frame_payloads.specs.Payloads.{max_payload}
use Rattle.frame_fields.specs.Messages.{message_at}
use Rattle.frame_payloads.specs.kinds.Header.{header_at}
use Rattle.frame_payloads.specs.kinds.Square.{square_at}
use Rattle.frame_payloads.specs.kinds.Fraud.{fraud_at}
use Rattle.frame_payloads.specs.kinds.Missing.{missing_at}
use Rattle.frame_payloads.specs.kinds.Clash.{clash_at}
use Rattle.frame_payloads.specs.kinds.Requests.{sample_at, request_at}
use Rattle.frame_payloads.specs.kinds.Block.{block_at}
use Rattle.frame_payloads.specs.kinds.Commit.{commit_at}
use Rattle.frame_payloads.specs.kinds.Rooted.{rooted_at}
use Rattle.frame_payloads.specs.kinds.Transactions.{transactions_at}
use Rattle.frame_payloads.specs.kinds.Refusal.{refusal_at}
use Rattle.frame_payloads.specs.kinds.State.{state_at}
use Rattle.frame_payloads.specs.kinds.Names.{names_at}
use Rattle.da_wire.specs.declared.frames.Frame.{Frame}
use Rattle.da_wire.specs.declared.frames.Frame.TheVariants.{Header, Square, Message, Names, Fraud, Missing, Clash, Sample, Request, Block, Commit, Rooted, Transactions, Refusal, State}
use Rattle.da_wire.specs.Spelling.{header_kind, square_kind, message_kind, names_kind, fraud_kind, missing_kind, clash_kind, sample_kind, request_kind, block_kind, commit_kind, rooted_kind, transactions_kind, refusal_kind, state_kind}
use Rattle.da_wire.specs.Reading.{Raw, value_of_kind, value_at}
use Rattle.da_following.specs.Follow.{item_of}
use Rattle.da_talk.specs.Handed.{if_within}
use Rattle.da_attending.specs.Attended.{item_in}
use Rattle.da_attending.specs.Attenders.{header_item, answer_item}
use Rattle.da_attending.proofs.LengthLemmas.{names_few, header_few}

-- ---- what was handed

-- a frame that was handed is the one that came
handed_by : (b : Bool) (f raw : Raw) → Some f ≡ cond b (Some raw) None → f ≡ raw
handed_by true f raw e = same_Some f raw e
handed_by false f raw e = absurd cc

pub handed_some : (longest : ℕ) (f raw : Raw) → Some f ≡ if_within longest raw → f ≡ raw
handed_some longest f raw e = handed_by (leb (length raw.payload) longest) f raw e

-- one that wasn't is longer
long_by : (b : Bool) (raw : Raw) → ◌≡◌ {A = Option Raw} None (cond b (Some raw) None) → b ≡ false
long_by true raw e = absurd cc
long_by false raw e = refl

handed_none : (longest : ℕ) (raw : Raw) → None ≡ if_within longest raw → longest < length raw.payload
handed_none longest raw e = leb-false (length raw.payload) longest (long_by (leb (length raw.payload) longest) raw e)

-- ---- what it is, by its kind

-- of a header
header_by : (o : Option Roots) → (option_map Header o >>= item_of) ≡ option_map headed o
header_by None = refl
header_by (Some header) = refl

pub header_is : (payload : List ℕ) → (value_at 72 payload >>= item_of) ≡ header_item payload
unfolding value_at
header_is payload = header_by (header_at payload)

-- of an answer
answer_by : (o : Option (Namespace × List NsEntry))
    → (option_map (λ (n : Namespace × List NsEntry). Names n.0 n.1) o >>= item_of)
    ≡ option_map (λ (n : Namespace × List NsEntry). answered (record { name = n.0; answer = n.1 })) o
answer_by None = refl
answer_by (Some names) = refl

pub answer_is : (payload : List ℕ) → (value_at 78 payload >>= item_of) ≡ answer_item payload
unfolding value_at
answer_is payload = answer_by (names_at payload)

-- numbers that differ are tested so
pub differ : (a b : ℕ) → a ≢ b → eqb a b ≡ false
differ a b ne = elim (cases_Bool (eqb a b)) [
  | inl e ↦ absurd (ne (eqb-true a b e))
  | inr e ↦ e
]

-- a value of some kind, if there is one, is neither
abbrev IsNeither : {K : Type 0} → (K → List ℕ → Option Frame) → List ℕ → Option K → Type 0
IsNeither value payload o = ((o >>= (λ kind. value kind payload)) >>= item_of) ≡ None

-- what is of a kind that is neither
made_none : {A : Type 0} (made : A → Frame) (o : Option A) → ((a : A) → item_of (made a) ≡ None) → (option_map made o >>= item_of) ≡ None
made_none made None all = refl
made_none made (Some a) all = all a

-- one kind, or another
or_kind : {K : Type 0} (value : K → List ℕ → Option Frame) (payload : List ℕ) (b : Bool) (kind : K) (o : Option K)
    → (value kind payload >>= item_of) ≡ None → IsNeither value payload o → IsNeither value payload (cond b (Some kind) o)
or_kind value payload true kind o here rest = here
or_kind value payload false kind o here rest = rest

-- not one kind, but another
not_kind : {K : Type 0} (value : K → List ℕ → Option Frame) (payload : List ℕ) (b : Bool) (kind : K) (o : Option K) → b ≡ false
    → IsNeither value payload o → IsNeither value payload (cond b (Some kind) o)
not_kind value payload true kind o e rest = absurd cc
not_kind value payload false kind o e rest = rest

other_by : (byte : ℕ) (payload : List ℕ) → eqb byte 72 ≡ false → eqb byte 78 ≡ false → (value_at byte payload >>= item_of) ≡ None
unfolding value_at
other_by byte payload h n =
    not_kind value_of_kind payload (eqb byte header_kind) _ _ h
    (or_kind value_of_kind payload (eqb byte square_kind) _ _ (made_none Square (square_at payload) (λ a. refl))
    (or_kind value_of_kind payload (eqb byte message_kind) _ _ (made_none Message (message_at payload) (λ a. refl))
    (not_kind value_of_kind payload (eqb byte names_kind) _ _ n
    (or_kind value_of_kind payload (eqb byte fraud_kind) _ _ (made_none Fraud (fraud_at payload) (λ a. refl))
    (or_kind value_of_kind payload (eqb byte missing_kind) _ _ (made_none Missing (missing_at payload) (λ a. refl))
    (or_kind value_of_kind payload (eqb byte clash_kind) _ _ (made_none Clash (clash_at payload) (λ a. refl))
    (or_kind value_of_kind payload (eqb byte sample_kind) _ _ (made_none (λ (s : Cell × Axis). Sample s.0 s.1) (sample_at payload) (λ a. refl))
    (or_kind value_of_kind payload (eqb byte request_kind) _ _ (made_none Request (request_at payload) (λ a. refl))
    (or_kind value_of_kind payload (eqb byte block_kind) _ _ (made_none Block (block_at payload) (λ a. refl))
    (or_kind value_of_kind payload (eqb byte commit_kind) _ _ (made_none Commit (commit_at payload) (λ a. refl))
    (or_kind value_of_kind payload (eqb byte rooted_kind) _ _ (made_none Rooted (rooted_at payload) (λ a. refl))
    (or_kind value_of_kind payload (eqb byte transactions_kind) _ _ (made_none Transactions (transactions_at payload) (λ a. refl))
    (or_kind value_of_kind payload (eqb byte refusal_kind) _ _ (made_none Refusal (refusal_at payload) (λ a. refl))
    (or_kind value_of_kind payload (eqb byte state_kind) _ None (made_none (λ (none : ⊤). State) (state_at payload) (λ a. refl)) refl))))))))))))))

pub other_is : (byte : ℕ) (payload : List ℕ) → byte ≢ 72 → byte ≢ 78 → (value_at byte payload >>= item_of) ≡ None
other_is byte payload h n = other_by byte payload (differ byte 72 h) (differ byte 78 n)

-- ---- frames that are longer than any

-- such a payload is no header
no_header : (payload : List ℕ) (o : Option Roots) → max_payload < length payload → header_at payload ≡ o → option_map headed o ≡ None
no_header payload None more e = refl
no_header payload (Some header) more e = absurd (omega (arith, more, header_few payload header e))

-- and no answer
no_answer : (payload : List ℕ) (o : Option (Namespace × List NsEntry)) → max_payload < length payload → names_at payload ≡ o
    → option_map (λ (n : Namespace × List NsEntry). answered (record { name = n.0; answer = n.1 })) o ≡ None
no_answer payload None more e = refl
no_answer payload (Some names) more e = absurd (omega (arith, more, names_few payload names e))

-- a kind is a number or it isn't
kind_by : (payload : List ℕ) (byte : ℕ) → max_payload < length payload → (h n : Bool) → eqb byte 72 ≡ h → eqb byte 78 ≡ n
    → (value_at byte payload >>= item_of) ≡ None
kind_by payload byte more true n h e =
    ap (λ (k : ℕ). value_at k payload >>= item_of) (eqb-true byte 72 h) ∙ header_is payload ∙ no_header payload (header_at payload) more refl
kind_by payload byte more false true h e =
    ap (λ (k : ℕ). value_at k payload >>= item_of) (eqb-true byte 78 e) ∙ answer_is payload ∙ no_answer payload (names_at payload) more refl
kind_by payload byte more false false h e = other_by byte payload h e

-- a frame of which nothing is handed is neither
pub no_item : (raw : Raw) → None ≡ if_within max_payload raw → item_in raw ≡ None
no_item raw e = kind_by raw.payload raw.kind (handed_none max_payload raw e) (eqb raw.kind 72) (eqb raw.kind 78) refl refl
