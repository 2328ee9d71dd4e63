-- A text that is put behind another in three pieces.
use Rattle.std.proofs.Common.{◌≡◌, ◌∙◌, ℕ, List, ◌++◌, Result, Ok, Err, OnOk, cond, ap, append_assoc}
use Rattle.std.specs.Result.{is_ok}

-- what was put is the pieces, one after another
pub three_pieces : (old a b c x y z : List ℕ) → x ≡ old ++ a → y ≡ x ++ b → z ≡ y ++ c → z ≡ old ++ (a ++ (b ++ c))
three_pieces old a b c x y z first second third =
    third ∙ ap (λ (l : List ℕ). l ++ c) (second ∙ ap (λ (l : List ℕ). l ++ b) first)
    ∙ append_assoc (old ++ a) b c ∙ append_assoc old a (b ++ c)

-- what was put behind a first piece is behind all
behind : (old a rest x y : List ℕ) → x ≡ old ++ a → y ≡ x ++ rest → y ≡ old ++ (a ++ rest)
behind old a rest x y first later = later ∙ ap (λ (l : List ℕ). l ++ rest) first ∙ append_assoc old a rest

-- four pieces
pub four_pieces : (old a b c d x y z w : List ℕ) → x ≡ old ++ a → y ≡ x ++ b → z ≡ y ++ c → w ≡ z ++ d
    → w ≡ old ++ (a ++ (b ++ (c ++ d)))
four_pieces old a b c d x y z w first second third fourth =
    behind old a (b ++ (c ++ d)) x w first (three_pieces x b c d y z w second third fourth)

-- five pieces
pub five_pieces : (old a b c d e x y z w v : List ℕ) → x ≡ old ++ a → y ≡ x ++ b → z ≡ y ++ c → w ≡ z ++ d → v ≡ w ++ e
    → v ≡ old ++ (a ++ (b ++ (c ++ (d ++ e))))
five_pieces old a b c d e x y z w v first second third fourth fifth =
    behind old a (b ++ (c ++ (d ++ e))) x v first (four_pieces x b c d e y z w v second third fourth fifth)

-- what was put where the call succeeded
pub put_where_ok : {T E : Type 0} (r : Result T E) (new put old : List ℕ) → new ≡ cond (is_ok r) put old → OnOk r (new ≡ put)
put_where_ok (Ok x) new put old e = e
put_where_ok (Err f) new put old e = tt
