use Rattle.std.proofs.Common.{◌≡◌, ◌∙◌, ℕ, List, ◌++◌, codes, decimal, string_bytes, ap, append_assoc}
use Rattle.std.proofs.lemmas.Result.{on_ok_weaker}
use Rattle.da_show.specs.Text.{counts, sized_line}
use Rattle.da_show.proofs.text.lines.put_sized.Goals as goal

-- what is put behind a text that has a word and a number behind it
behind : (a b c word number space rest : List ℕ) → b ≡ a ++ (word ++ (number ++ space)) → c ≡ b ++ rest
    → c ≡ a ++ (word ++ (number ++ (space ++ rest)))
behind a b c word number space rest front whole =
    whole ∙ ap (λ (l : List ℕ). l ++ rest) front ∙ append_assoc a (word ++ (number ++ space)) rest
    ∙ ap (λ (l : List ℕ). a ++ l) (append_assoc word (number ++ space) rest)
    ∙ ap (λ (l : List ℕ). a ++ (word ++ l)) (append_assoc number space rest)

-- the front was written first
pub returns : goal.returns
unfolding sized_line
returns c =
    let rest : List ℕ = counts c.args.units c.args.pay_units c.args.blobs in
    let old : List ℕ = string_bytes c.args.out.now in
    let front : List ℕ = string_bytes c.write.new.self in
    let all : List ℕ = string_bytes c.put_counts.new.out in
    let word : List ℕ = codes "block width=" in
    let put = λ (whole : all ≡ front ++ rest).
    behind old front all word (decimal c.args.width) (codes " ") rest c.in_ok-write.ensures.bytes whole in
    on_ok_weaker c.put_counts.result put c.put_counts.ensures
