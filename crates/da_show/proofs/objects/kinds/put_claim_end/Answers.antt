use Rattle.std.proofs.Common.{◌≡◌, ◌++◌, ℕ, List, codes, decimal, string_bytes}
use Rattle.std.proofs.lemmas.Result.{on_ok_weaker}
use Rattle.da_show.specs.JsonTexts.{claim_end}
use Rattle.da_show.proofs.Pieces.{three_pieces, put_where_ok}
use Rattle.da_show.proofs.objects.kinds.put_claim_end.Goals as goal

-- the index stands between two words
pub returns : goal.returns
unfolding claim_end
returns c =
    let old : List ℕ = string_bytes c.args.out.now in
    let put = λ (whole : string_bytes c.push_str-2.new.self ≡ string_bytes c.put_number.new.out ++ codes ",\"kind\":\"fraud\"}").
    three_pieces old (codes ",\"index\":") (decimal c.args.index) (codes ",\"kind\":\"fraud\"}") _ _ _ c.in_ok-push_str.ensures.bytes c.in_ok-put_number.ensures whole in
    on_ok_weaker c.push_str-2.result put (put_where_ok c.push_str-2.result _ _ _ c.push_str-2.ensures.bytes)
