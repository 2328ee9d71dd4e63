use Rattle.std.proofs.Common.{◌≡◌, ◌++◌, codes, string_bytes}
use Rattle.std.proofs.lemmas.Result.{on_ok_weaker}
use Rattle.da_show.specs.JsonTexts.{clash_text, quoted_hex}
use Rattle.da_show.proofs.Pieces.{five_pieces, put_where_ok}
use Rattle.da_show.proofs.objects.kinds.put_clash.Goals as goal

-- the strings stand between words
pub returns : goal.returns
unfolding clash_text
returns c =
    let put = λ (whole : string_bytes c.push_str-3.new.self ≡ string_bytes c.put_hex-2.new.out ++ codes "}").
    five_pieces (string_bytes c.args.out.now) (codes "{\"kind\":\"clash\",\"left\":") (quoted_hex c.args.left.now) (codes ",\"right\":") (quoted_hex c.args.right.now) (codes "}") _ _ _ _ _ c.in_ok-push_str.ensures.bytes c.in_ok-put_hex.ensures c.in_ok-push_str-2.ensures.bytes c.in_ok-put_hex-2.ensures whole in
    on_ok_weaker c.push_str-3.result put (put_where_ok c.push_str-3.result _ _ _ c.push_str-3.ensures.bytes)
