-- Formal derivatives of polynomials over a field.
use Rattle.std.specs.Prelude.{ℕ, List, [], ◌∷◌, bit_xor}
use Rattle.gf_cantor.specs.Field.{Field, product}
use Rattle.label_polynomial.specs.Polynomial.{value_at}

-- the value of the formal derivative at a point, where that of c + x p is p + x p'
unfoldable pub derivative_at : Field → List ℕ → ℕ → ℕ
derivative_at f [] x = 0
derivative_at f (c ∷ cs) x = bit_xor (value_at f cs x) (product f x (derivative_at f cs x))
