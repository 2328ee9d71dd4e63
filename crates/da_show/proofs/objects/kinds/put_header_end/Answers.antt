use Rattle.std.proofs.Common.{◌≡◌, ◌++◌, codes, string_bytes}
use Rattle.std.proofs.lemmas.Result.{on_ok_weaker}
use Rattle.da_show.specs.JsonTexts.{header_end, quoted_hex, root_text, list_text}
use Rattle.da_show.proofs.Pieces.{five_pieces, put_where_ok}
use Rattle.da_show.proofs.objects.kinds.put_header_end.Goals as goal

-- the root and the rows stand between words
pub returns : goal.returns
unfolding header_end
returns c =
    let put = λ (whole : string_bytes c.push_str-3.new.self ≡ string_bytes c.put_roots.new.out ++ codes "}").
    five_pieces (string_bytes c.args.out.now) (codes ",\"kind\":\"header\",\"root\":") (quoted_hex c.args.root.now) (codes ",\"rows\":") (list_text root_text c.args.rows.now) (codes "}") _ _ _ _ _ c.in_ok-push_str.ensures.bytes c.in_ok-put_hex.ensures c.in_ok-push_str-2.ensures.bytes c.in_ok-put_roots.ensures whole in
    on_ok_weaker c.push_str-3.result put (put_where_ok c.push_str-3.result _ _ _ c.push_str-3.ensures.bytes)
