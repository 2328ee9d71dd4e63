use Rattle.std.proofs.Common.{◌≡◌, ◌++◌, codes, decimal, string_bytes}
use Rattle.std.proofs.lemmas.Result.{on_ok_weaker}
use Rattle.da_show.specs.JsonTexts.{sample_text, place_front}
use Rattle.da_show.proofs.Pieces.{four_pieces, put_where_ok}
use Rattle.da_show.proofs.objects.kinds.put_sample.Goals as goal

-- the row stands between two words
pub returns : goal.returns
unfolding sample_text
returns c =
    let put = λ (whole : string_bytes c.push_str-2.new.self ≡ string_bytes c.put_number.new.out ++ codes "}").
    four_pieces (string_bytes c.args.out.now) (place_front c.args.axis c.args.cell.col) (codes ",\"kind\":\"sample\",\"row\":") (decimal c.args.cell.row) (codes "}") _ _ _ _ c.in_ok-put_place_front.ensures c.in_ok-push_str.ensures.bytes c.in_ok-put_number.ensures whole in
    on_ok_weaker c.push_str-2.result put (put_where_ok c.push_str-2.result _ _ _ c.push_str-2.ensures.bytes)
