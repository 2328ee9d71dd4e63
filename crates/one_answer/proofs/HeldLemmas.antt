-- What is held of a square is one.
use Rattle.std.proofs.Common.{◌≡◌, ◌∙◌, ◌↔◌, List, Result, Ok, Err, IfOk, IsErrOf, Some, true, inl, inr, refl, sym, ap₂}
use Rattle.std.specs.Prelude.{IsOk}
use Rattle.namespace_id.specs.declared.namespaces.Namespace.{Namespace}
use Rattle.namespace_id.specs.Names.{is_parity}
use Rattle.namespace_id.specs.declared.shares.Share.{Share}
use Rattle.square_layout.specs.Blocks.{SquareShares, IsSquare}
use Rattle.axis_roots.specs.Grids.{Extends, HasNoHeader, IsHeaderOf, header_of_grid}
use Rattle.square_serve.specs.declared.held.Held.{Held}
use Rattle.square_serve.specs.declared.held.HeldError.{HeldError}
use Rattle.square_serve.specs.declared.held.HeldError.TheVariants.{NoHeader, NoMemory}
use Rattle.square_serve.specs.declared.held.ServeError.{ServeError}
use Rattle.square_serve.specs.declared.held.ServeError.TheVariants.{Parity, NoMemory as Full}
use Rattle.square_serve.specs.Rows.{HasHeader}
use Rattle.square_serve.specs.Serving.{HeldParts, Holds, answer_for}
use Rattle.axis_roots.specs.declared.answers.NsEntry.{NsEntry}
use Rattle.one_answer.specs.Ones.{AreOne}

module _ (square : SquareShares)
    (once : (grid other : List Share) → IsSquare square → Extends square.k square.shares grid → Extends square.k square.shares other → grid ≡ other)
    (own : (held : Held) → Holds held square → IsHeaderOf held.header square) where
  -- there is one extension, with one header
  one_held : (a b : Held) → Holds a square → Holds b square → a ≡ b
  one_held a b ha hb =
      let width : a.k ≡ b.k = ha.width ∙ sym hb.width in
      let grid : a.grid ≡ b.grid = once a.grid b.grid ha.whole ha.extends hb.extends in
      let headers : Some a.header ≡ Some b.header = sym ha.roots ∙ ap₂ header_of_grid width grid ∙ hb.roots in
      let header : a.header ≡ b.header = cc in
      λ i. record { k = width i; grid = grid i; header = header i }

  -- a square that is held has a header
  pub one_holding : (r s : Result Held HeldError) → (IsErrOf r NoHeader → HasNoHeader square) → (IsErrOf s NoHeader → HasNoHeader square)
      → IfOk r (λ held. Holds held square) → IfOk s (λ held. Holds held square) → AreOne (λ x. x) NoMemory r s
  one_holding (Ok a) (Ok b) rn sn rh sh = one_held a b rh sh
  one_holding (Ok a) (Err NoHeader) rn sn rh sh = absurd (sn refl a.header (own a rh))
  one_holding (Ok a) (Err NoMemory) rn sn rh sh = refl
  one_holding (Err NoHeader) (Ok b) rn sn rh sh = absurd (rn refl b.header (own b sh))
  one_holding (Err NoMemory) (Ok b) rn sn rh sh = refl
  one_holding (Err NoHeader) (Err NoHeader) rn sn rh sh = inl refl
  one_holding (Err NoHeader) (Err NoMemory) rn sn rh sh = inr (inr refl)
  one_holding (Err NoMemory) (Err e) rn sn rh sh = inr (inl refl)

-- ---- squares that are held without their extension

-- such a square has a header
pub one_rows : (square : SquareShares) (r s : Result SquareShares HeldError) → (IsErrOf r NoHeader → HasNoHeader square) → (IsErrOf s NoHeader → HasNoHeader square)
    → (IsOk r → HasHeader square) → (IsOk s → HasHeader square) → IfOk r (λ held. held ≡ square) → IfOk s (λ held. held ≡ square) → AreOne (λ x. x) NoMemory r s
one_rows square (Ok a) (Ok b) rn sn rh sh ra sa = ra ∙ sym sa
one_rows square (Ok a) (Err NoHeader) rn sn rh sh ra sa = let own = rh refl in absurd (sn refl own.0 own.1)
one_rows square (Ok a) (Err NoMemory) rn sn rh sh ra sa = refl
one_rows square (Err NoHeader) (Ok b) rn sn rh sh ra sa = let own = sh refl in absurd (rn refl own.0 own.1)
one_rows square (Err NoMemory) (Ok b) rn sn rh sh ra sa = refl
one_rows square (Err NoHeader) (Err NoHeader) rn sn rh sh ra sa = inl refl
one_rows square (Err NoHeader) (Err NoMemory) rn sn rh sh ra sa = inr (inr refl)
one_rows square (Err NoMemory) (Err e) rn sn rh sh ra sa = inr (inl refl)

-- the answer of each is that of whoever holds the square
pub one_found : (name : Namespace) (held : HeldParts) (r s : Result (List NsEntry) ServeError)
    → (IsErrOf r Parity ↔ (is_parity name ≡ true)) → (IsErrOf s Parity ↔ (is_parity name ≡ true))
    → IfOk r (λ answer. answer ≡ answer_for held name) → IfOk s (λ answer. answer ≡ answer_for held name) → AreOne (λ x. x) Full r s
one_found name held (Ok a) (Ok b) rp sp ra sa = ra ∙ sym sa
one_found name held (Ok a) (Err Parity) rp sp ra sa = absurd (let no : IsErrOf {T = List NsEntry} {E = ServeError} (Ok a) Parity = rp.1 (sp.0 refl) in cc)
one_found name held (Ok a) (Err Full) rp sp ra sa = refl
one_found name held (Err Parity) (Ok b) rp sp ra sa = absurd (let no : IsErrOf {T = List NsEntry} {E = ServeError} (Ok b) Parity = sp.1 (rp.0 refl) in cc)
one_found name held (Err Full) (Ok b) rp sp ra sa = refl
one_found name held (Err Parity) (Err Parity) rp sp ra sa = inl refl
one_found name held (Err Parity) (Err Full) rp sp ra sa = inr (inr refl)
one_found name held (Err Full) (Err e) rp sp ra sa = inr (inl refl)
