-- What is shown of the values of the kinds whose frames may be short.
use Rattle.std.specs.Prelude.{ℕ, List, [], ◌∷◌, map, Option, Some, None}
use Rattle.std.specs.Option.{option_map}
use Rattle.frame_fields.specs.Fields.{◌>>=◌}
use Rattle.da_wire.specs.declared.frames.Frame.{Frame}
use Rattle.da_wire.specs.declared.frames.Frame.TheVariants.{Names, Fraud, Missing, Sample, Request, Block, Transactions, Refusal, State}
use Rattle.da_wire.specs.declared.briefs.Brief.{Brief}
use Rattle.da_wire.specs.declared.briefs.Brief.TheVariants as briefs
use Rattle.da_wire.specs.declared.kinds.Kind.{Kind}
use Rattle.da_wire.specs.declared.kinds.Kind.TheVariants as kinds
use Rattle.da_wire.specs.Spelling.{names_kind, fraud_kind, missing_kind, sample_kind, request_kind, block_kind, transactions_kind, refusal_kind, state_kind}
use Rattle.da_wire.specs.Reading.{kind_at}
use Rattle.da_wire.specs.Values.{value_and_rest}
use Rattle.frame_payloads.specs.kinds.Names.{names_at, entry_place, answer_places}
use Rattle.frame_payloads.specs.kinds.Fraud.{fraud_at}
use Rattle.frame_payloads.specs.kinds.Missing.{missing_at}
use Rattle.frame_payloads.specs.kinds.Requests.{sample_at, request_at}
use Rattle.frame_payloads.specs.kinds.Block.{block_at}
use Rattle.frame_payloads.specs.kinds.Transactions.{transactions_at}
use Rattle.frame_payloads.specs.kinds.Refusal.{refusal_at}
use Rattle.frame_payloads.specs.kinds.State.{state_at}

-- the kinds whose frames may be short
abbrev pub brief_kinds : List ℕ
brief_kinds =
    names_kind ∷ fraud_kind ∷ missing_kind ∷ sample_kind ∷ request_kind ∷ block_kind ∷ transactions_kind
    ∷ refusal_kind ∷ state_kind ∷ []

-- what is brief of a value of such a kind: of a namespace answer where its entries found something
abbrev pub brief_of : Frame → Option Brief
brief_of (Names name answer) = Some (briefs.Names name (map entry_place answer))
brief_of (Fraud claim) = Some (briefs.Fraud claim)
brief_of (Missing cells) = Some (briefs.Missing cells)
brief_of (Sample cell axis) = Some (briefs.Sample cell axis)
brief_of (Request name) = Some (briefs.Request name)
brief_of (Block block) = Some (briefs.Block block)
brief_of (Transactions units) = Some (briefs.Transactions units)
brief_of (Refusal refusal) = Some (briefs.Refusal refusal)
brief_of State = Some briefs.State
brief_of frame = None

-- what is brief of the value at the front, and the bytes after it
abbrev pub brief_and_rest : List ℕ → Option (Brief × List ℕ)
brief_and_rest bytes = value_and_rest brief_kinds bytes >>= (λ v. option_map (λ b. (b, v.1)) (brief_of v.0))

-- what is brief of the value of a kind whose payload the bytes are
abbrev pub brief_of_kind : Kind → List ℕ → Option Brief
brief_of_kind kinds.Names payload =
    option_map (λ n. briefs.Names n.0 n.1) (option_map answer_places (names_at payload))
brief_of_kind kinds.Fraud payload = option_map briefs.Fraud (fraud_at payload)
brief_of_kind kinds.Missing payload = option_map briefs.Missing (missing_at payload)
brief_of_kind kinds.Sample payload = option_map (λ s. briefs.Sample s.0 s.1) (sample_at payload)
brief_of_kind kinds.Request payload = option_map briefs.Request (request_at payload)
brief_of_kind kinds.Block payload = option_map briefs.Block (block_at payload)
brief_of_kind kinds.Transactions payload = option_map briefs.Transactions (transactions_at payload)
brief_of_kind kinds.Refusal payload = option_map briefs.Refusal (refusal_at payload)
brief_of_kind kinds.State payload = option_map (λ none. briefs.State) (state_at payload)
brief_of_kind kind payload = None

-- what is brief of the value of the kind that a byte is
unfoldable pub brief_at : ℕ → List ℕ → Option Brief
brief_at byte payload = kind_at byte >>= (λ kind. brief_of_kind kind payload)
