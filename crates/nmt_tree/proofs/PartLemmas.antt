-- A list that is written part by part.
use Rattle.std.proofs.Common.{◌≡◌, ℕ, ◌+◌, List, [], ◌++◌, length, take, drop, sym, ap, ap₂, ◌∙◌, arith, length-append, length-drop}
use Rattle.std.proofs.lemmas.List.{drop_all, append-nil}
use Rattle.namespace_id.proofs.StringLemmas.{put_next}

-- three parts written one after another
pub three_parts : (z a b c s t u : List ℕ) (i j : ℕ) → i ≡ length a → j ≡ length a + length b → length z ≡ length a + length b + length c
    → s ≡ take 0 z ++ a ++ drop (0 + length a) z
    → t ≡ take i s ++ b ++ drop (i + length b) s
    → u ≡ take j t ++ c ++ drop (j + length c) t
    → u ≡ a ++ b ++ c
three_parts z a b c s t u i j hi hj hz es et eu =
    let rest : List ℕ = drop (0 + length a) z in
    let t_is : t ≡ a ++ b ++ drop (length b) rest =
    et ∙ ap₂ (λ (i : ℕ) (s : List ℕ). take i s ++ b ++ drop (i + length b) s) hi es ∙ put_next a rest b in
    let past : j ≡ length (a ++ b) = hj ∙ sym (length-append a b) in
    let u_is : u ≡ a ++ b ++ c ++ drop (length c) (drop (length b) rest) =
    eu ∙ ap₂ (λ (j : ℕ) (t : List ℕ). take j t ++ c ++ drop (j + length c) t) past t_is
    ∙ put_next (a ++ b) (drop (length b) rest) c in
    let none : drop (length c) (drop (length b) rest) ≡ [] =
    drop_all (length c) (drop (length b) rest)
    (omega (arith, length-drop (length b) rest, length-drop (0 + length a) z)) in
    u_is ∙ ap (λ (x : List ℕ). a ++ b ++ c ++ x) none ∙ append-nil (a ++ b ++ c)
