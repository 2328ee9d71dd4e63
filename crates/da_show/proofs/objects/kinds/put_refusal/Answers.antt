use Rattle.std.proofs.Common.{◌≡◌, ◌++◌, codes, decimal, string_bytes}
use Rattle.std.proofs.lemmas.Result.{on_ok_weaker}
use Rattle.frame_payloads.specs.kinds.Refusal.{reason_byte}
use Rattle.da_show.specs.JsonTexts.{refusal_text}
use Rattle.da_show.proofs.Pieces.{five_pieces, put_where_ok}
use Rattle.da_show.proofs.objects.kinds.put_refusal.Goals as goal

-- the numbers stand between words
pub returns : goal.returns
unfolding refusal_text
returns c =
    let put = λ (whole : string_bytes c.push_str-3.new.self ≡ string_bytes c.put_reason.new.out ++ codes "}").
    five_pieces (string_bytes c.args.out.now) (codes "{\"kind\":\"refusal\",\"number\":") (decimal c.args.refusal.number) (codes ",\"reason\":") (decimal (reason_byte c.args.refusal.reason)) (codes "}") _ _ _ _ _ c.in_ok-push_str.ensures.bytes c.in_ok-put_frame_number.ensures c.in_ok-push_str-2.ensures.bytes c.in_ok-put_reason.ensures whole in
    on_ok_weaker c.push_str-3.result put (put_where_ok c.push_str-3.result _ _ _ c.push_str-3.ensures.bytes)
