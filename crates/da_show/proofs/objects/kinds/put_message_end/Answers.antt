use Rattle.std.proofs.Common.{◌≡◌, ◌++◌, codes, decimal, string_bytes}
use Rattle.std.proofs.lemmas.Result.{on_ok_weaker}
use Rattle.da_show.specs.JsonTexts.{message_end, share_end}
use Rattle.da_show.proofs.Pieces.{three_pieces}
use Rattle.da_show.proofs.objects.kinds.put_message_end.Goals as goal

-- the number of nodes stands behind a word
pub returns : goal.returns
unfolding message_end
returns c =
    let put = λ (whole : string_bytes c.put_share_end.new.out ≡ string_bytes c.put_size.new.out ++ share_end c.args.row c.args.share.now).
    three_pieces (string_bytes c.args.out.now) (codes ",\"kind\":\"message\",\"nodes\":") (decimal c.args.nodes) (share_end c.args.row c.args.share.now) _ _ _ c.in_ok-push_str.ensures.bytes c.in_ok-put_size.ensures whole in
    on_ok_weaker c.put_share_end.result put c.put_share_end.ensures
