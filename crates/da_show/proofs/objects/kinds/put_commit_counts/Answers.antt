use Rattle.std.proofs.Common.{◌≡◌, ◌++◌, codes, decimal, string_bytes}
use Rattle.std.proofs.lemmas.Result.{on_ok_weaker}
use Rattle.da_show.specs.JsonTexts.{commit_counts, commit_end}
use Rattle.da_show.proofs.Pieces.{five_pieces}
use Rattle.da_show.proofs.objects.kinds.put_commit_counts.Goals as goal

-- the numbers stand behind words
pub returns : goal.returns
unfolding commit_counts
returns c =
    let put = λ (whole : string_bytes c.put_commit_end.new.out ≡ string_bytes c.put_number.new.out ++ commit_end c.args.rows c.args.start).
    five_pieces (string_bytes c.args.out.now) (codes ",\"count\":") (decimal c.args.count) (codes ",\"k\":") (decimal c.args.k) (commit_end c.args.rows c.args.start) _ _ _ _ _ c.in_ok-push_str.ensures.bytes c.in_ok-put_share_count.ensures c.in_ok-push_str-2.ensures.bytes c.in_ok-put_number.ensures whole in
    on_ok_weaker c.put_commit_end.result put c.put_commit_end.ensures
