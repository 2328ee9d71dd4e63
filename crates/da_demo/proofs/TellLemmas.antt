-- Squares that are told apart.
use Rattle.std.proofs.Common.{◌≡◌, ◌∙◌, ℕ, List, Bool, IsTrue, bytes_eq, sym, ap, ap₂}
use Rattle.std.specs.Bool.{Decides}
use Rattle.std.specs.Cmp.Lexicographic.{pointwise}
use Rattle.std.proofs.lemmas.Slice.Eq.{bytes_eq-Decides, slice_eq-Decides}
use Rattle.namespace_id.specs.declared.shares.Share.{Share}
use Rattle.square_layout.specs.Blocks.{SquareShares}

-- two shares are one exactly where their bytes are
share_decides : (a b : Share) → Decides (bytes_eq a.0 b.0) (a ≡ b)
share_decides a b =
    let of : List ℕ → Share = λ l. record { 0 = l } in
    (λ t. ap of ((bytes_eq-Decides a.0 b.0).0 t), λ e. (bytes_eq-Decides a.0 b.0).1 (ap (λ (s : Share). s.0) e))

-- two squares of one width are one exactly where their shares are
pub same_squares : (one other : SquareShares) (k l : ℕ) (shares others : List Share) (told : Bool)
    → one ≡ record { k = k; shares = shares } → other ≡ record { k = l; shares = others } → k ≡ l
    → told ≡ pointwise (λ (a b : Share). bytes_eq a.0 b.0) shares others
    → (IsTrue told → one ≡ other) × (one ≡ other → IsTrue told)
same_squares one other k l shares others told first second width is =
    let same : Decides told (shares ≡ others) = slice_eq-Decides share_decides shares others told is in
    let square : ℕ → List Share → SquareShares = λ n list. record { k = n; shares = list } in (
      λ t. first ∙ ap₂ square width (same.0 t) ∙ sym second,
      λ e. same.1 (ap (λ (s : SquareShares). s.shares) (sym first ∙ e ∙ second)),
    )
