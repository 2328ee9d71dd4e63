use Rattle.std.proofs.Common.{◌≡◌, ◌++◌, codes, decimal, string_bytes}
use Rattle.std.proofs.lemmas.Result.{on_ok_weaker}
use Rattle.da_show.specs.JsonTexts.{commit_end}
use Rattle.da_show.proofs.Pieces.{five_pieces, put_where_ok}
use Rattle.da_show.proofs.objects.kinds.put_commit_end.Goals as goal

-- the numbers stand between words
pub returns : goal.returns
unfolding commit_end
returns c =
    let put = λ (whole : string_bytes c.push_str-3.new.self ≡ string_bytes c.put_share_count.new.out ++ codes "}").
    five_pieces (string_bytes c.args.out.now) (codes ",\"kind\":\"commit\",\"rows\":") (decimal c.args.rows) (codes ",\"start\":") (decimal c.args.start) (codes "}") _ _ _ _ _ c.in_ok-push_str.ensures.bytes c.in_ok-put_size.ensures c.in_ok-push_str-2.ensures.bytes c.in_ok-put_share_count.ensures whole in
    on_ok_weaker c.push_str-3.result put (put_where_ok c.push_str-3.result _ _ _ c.push_str-3.ensures.bytes)
