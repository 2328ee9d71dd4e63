use Rattle.std.proofs.Common.{◌≡◌, ◌++◌, ℕ, List, codes, string_bytes}
use Rattle.std.proofs.lemmas.Result.{on_ok_weaker}
use Rattle.da_show.specs.JsonTexts.{length_text, list_text, transactions_text}
use Rattle.da_show.proofs.Pieces.{three_pieces, put_where_ok}
use Rattle.da_show.proofs.objects.kinds.put_transactions.Goals as goal

-- the lengths stand between two words
pub returns : goal.returns
unfolding transactions_text
returns c =
    let old : List ℕ = string_bytes c.args.out.now in
    let put = λ (whole : string_bytes c.push_str-2.new.self ≡ string_bytes c.put_lengths.new.out ++ codes "}").
    three_pieces old (codes "{\"kind\":\"transactions\",\"lengths\":") (list_text length_text c.args.units.now) (codes "}") _ _ _ c.in_ok-push_str.ensures.bytes c.in_ok-put_lengths.ensures whole in
    on_ok_weaker c.push_str-2.result put (put_where_ok c.push_str-2.result _ _ _ c.push_str-2.ensures.bytes)
