use Rattle.std.proofs.Common.{◌≡◌, ◌++◌, codes, string_bytes}
use Rattle.std.proofs.lemmas.Result.{on_ok_weaker}
use Rattle.da_show.specs.JsonTexts.{square_end, share_text, list_text}
use Rattle.da_show.proofs.Pieces.{three_pieces, put_where_ok}
use Rattle.da_show.proofs.objects.kinds.put_square_end.Goals as goal

-- the shares stand between two words
pub returns : goal.returns
unfolding square_end
returns c =
    let put = λ (whole : string_bytes c.push_str-2.new.self ≡ string_bytes c.put_shares.new.out ++ codes "}").
    three_pieces (string_bytes c.args.out.now) (codes ",\"kind\":\"square\",\"namespaces\":") (list_text share_text c.args.shares.now) (codes "}") _ _ _ c.in_ok-push_str.ensures.bytes c.in_ok-put_shares.ensures whole in
    on_ok_weaker c.push_str-2.result put (put_where_ok c.push_str-2.result _ _ _ c.push_str-2.ensures.bytes)
