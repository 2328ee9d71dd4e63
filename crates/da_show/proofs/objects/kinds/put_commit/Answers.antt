use Rattle.std.proofs.Common.{◌≡◌, ◌∙◌, ◌++◌, ℕ, List, codes, length, string_bytes, ap, arith}
use Rattle.std.proofs.lemmas.Result.{on_ok_weaker}
use Rattle.da_show.specs.JsonTexts.{commit_text, commit_counts, quoted_hex}
use Rattle.da_show.proofs.Pieces.{three_pieces}
use Rattle.da_show.proofs.objects.kinds.put_commit.Goals as goal

-- the commitment stands between a word and the numbers
pub returns : goal.returns
unfolding commit_text
returns c =
    let old : List ℕ = string_bytes c.args.out.now in
    let p = c.proof.inside in
    let many : c.len-rows.result ≡ length p.rows.items = omega arith in
    let put = λ (whole : string_bytes c.put_commit_counts.new.out ≡ string_bytes c.put_hex.new.out ++ commit_counts p.count p.k c.len-rows.result p.start).
    three_pieces old (codes "{\"commitment\":") (quoted_hex p.commitment) (commit_counts p.count p.k c.len-rows.result p.start) _ _ _ c.in_ok-push_str.ensures.bytes c.in_ok-put_hex.ensures whole
    ∙ ap (λ (n : ℕ). old ++ (codes "{\"commitment\":" ++ (quoted_hex p.commitment ++ commit_counts p.count p.k n p.start))) many in
    rw (← c.proof.view_is) (on_ok_weaker c.put_commit_counts.result put c.put_commit_counts.ensures)
