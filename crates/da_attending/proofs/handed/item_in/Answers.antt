use Rattle.std.proofs.Common.{◌≢◌, ◌∙◌, ℕ, sym, ap, arith}
use Rattle.std.specs.Option.{option_map}
use Rattle.namespace_id.proofs.RefusalLemmas.{ok_within}
use Rattle.frame_fields.specs.Fields.{◌>>=◌}
use Rattle.frame_payloads.specs.Payloads.{max_payload}
use Rattle.da_wire.specs.Reading.{raw_seen, value_at}
use Rattle.da_following.specs.Follow.{item_of}
use Rattle.da_attending.specs.Attended.{item_in}
use Rattle.da_attending.proofs.HandedLemmas.{handed_some, header_is, answer_is, other_is, no_item}
use Rattle.da_attending.proofs.handed.item_in.Goals as goal

-- a frame of which nothing is handed is longer than any
pub returns-in_default : goal.returns-in_default
returns-in_default c = λ raw handed. sym (no_item raw (sym (ap (option_map raw_seen) c.in_default.is) ∙ handed))

-- a header, by its kind
pub returns-in-72 : goal.returns-in-72
returns-in-72 c =
    ok_within _ _ c.header_in.result
    (λ found is raw handed. is ∙ sym (header_is c.in-Some.frame.payload.now)
    ∙ ap (λ (k : ℕ). value_at k c.in-Some.frame.payload.now >>= item_of) (sym c.in-72.is)
    ∙ ap item_in (handed_some max_payload (raw_seen c.in-Some.frame) raw (sym (ap (option_map raw_seen) c.in-Some.is) ∙ handed))) c.header_in.ensures

-- an answer
pub returns-in-78 : goal.returns-in-78
returns-in-78 c =
    ok_within _ _ c.answer_in.result
    (λ found is raw handed. is ∙ sym (answer_is c.in-Some.frame.payload.now)
    ∙ ap (λ (k : ℕ). value_at k c.in-Some.frame.payload.now >>= item_of) (sym c.in-78.is)
    ∙ ap item_in (handed_some max_payload (raw_seen c.in-Some.frame) raw (sym (ap (option_map raw_seen) c.in-Some.is) ∙ handed))) c.answer_in.ensures

-- neither
pub returns-in_default-kind : goal.returns-in_default-kind
returns-in_default-kind c = λ raw handed.
    let no_header : c.in-Some.frame.kind ≢ 72 = omega arith in
    let no_answer : c.in-Some.frame.kind ≢ 78 = omega arith in
    sym (other_is c.in-Some.frame.kind c.in-Some.frame.payload.now no_header no_answer)
    ∙ ap item_in (handed_some max_payload (raw_seen c.in-Some.frame) raw (sym (ap (option_map raw_seen) c.in-Some.is) ∙ handed))
