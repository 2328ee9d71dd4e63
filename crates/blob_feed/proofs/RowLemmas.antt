-- The shares of a namespace in a square, without their cells.
use Rattle.std.proofs.Common.{◌≡◌, ◌∙◌, ℕ, zero, suc, ◌+◌, ◌*◌, List, [], ◌∷◌, ◌++◌, length, map, get_or, Bool, true, false, cond, refl, sym, ap, ap₂, arith}
use Rattle.std.specs.List.{filter, flat_map}
use Rattle.std.proofs.lemmas.List.{map-append}
use Rattle.std.proofs.lemmas.List.Elements.{filter-append}
use Rattle.std.proofs.lemmas.List.Concat.{flat_map-cons}
use Rattle.namespace_id.specs.declared.cells.Cell.{Cell}
use Rattle.namespace_id.specs.declared.cells.Axis.TheVariants.{Row}
use Rattle.namespace_id.specs.declared.namespaces.Namespace.{Namespace}
use Rattle.namespace_id.specs.declared.shares.Share.{Share}
use Rattle.namespace_id.specs.Lists.{ascending}
use Rattle.square_layout.specs.Blocks.{SquareShares, IsSquare}
use Rattle.axis_roots.specs.Lines.{blank, cell_on}
use Rattle.square_serve.specs.Shares.{is_named, cell_share, row_shares}
use Rattle.blob_feed.specs.Feeds.{shares_in}

module _ {A : Type 0} (f : ℕ → A) where
  -- numbers that count up from one more
  map_suc : (n first : ℕ) → map (λ (i : ℕ). f (suc i)) (ascending first n) ≡ map f (ascending (suc first) n)
  unfolding ascending
  map_suc zero first = refl
  map_suc (suc n) first = ap (λ (l : List A). f (suc first) ∷ l) (map_suc n (suc first))

  -- from a number on
  map_shift : (s n first : ℕ) → map (λ (i : ℕ). f (s + i)) (ascending first n) ≡ map f (ascending (s + first) n)
  unfolding ascending
  map_shift s zero first = refl
  map_shift s (suc n) first =
      let next : s + suc first ≡ suc (s + first) = omega arith in
      ap (λ (l : List A). f (s + first) ∷ l) (map_shift s n (suc first)
      ∙ ap (λ (m : ℕ). map f (ascending m n)) next)

  -- two runs of numbers are one
  map_runs : (a b first : ℕ)
      → map f (ascending first a) ++ map f (ascending (first + a) b) ≡ map f (ascending first (a + b))
  unfolding ascending
  map_runs zero b first =
      let here : first + zero ≡ first = omega arith in
      let all : zero + b ≡ b = omega arith in
      ap (λ (m : ℕ). map f (ascending m b)) here ∙ ap (λ (m : ℕ). map f (ascending first m)) (sym all)
  map_runs (suc a) b first =
      let here : first + suc a ≡ suc first + a = omega arith in
      let all : suc a + b ≡ suc (a + b) = omega arith in
      ap (λ (m : ℕ). f first ∷ (map f (ascending (suc first) a) ++ map f (ascending m b))) here
      ∙ ap (λ (l : List A). f first ∷ l) (map_runs a b (suc first))
      ∙ ap (λ (m : ℕ). map f (ascending first m)) (sym all)

  -- row by row
  map_rows : (k n row : ℕ)
      → flat_map (λ (r : ℕ). map (λ (col : ℕ). f (r * k + col)) (ascending 0 k)) (ascending row n)
      ≡ map f (ascending (row * k) (n * k))
  unfolding ascending
  map_rows k zero row =
      let none : zero * k ≡ zero = omega arith in
      ap (λ (m : ℕ). map f (ascending (row * k) m)) (sym none)
  map_rows k (suc n) row =
      let start : row * k + 0 ≡ row * k = omega arith in
      let next : suc row * k ≡ row * k + k = grind arith in
      let all : suc n * k ≡ k + n * k = grind arith in
      flat_map-cons (λ (r : ℕ). map (λ (col : ℕ). f (r * k + col)) (ascending 0 k)) row (ascending (suc row) n)
      ∙ ap₂ (λ (a b : List A). a ++ b)
      (map_shift (row * k) k 0 ∙ ap (λ (m : ℕ). map f (ascending m k)) start)
      (map_rows k n (suc row) ∙ ap (λ (m : ℕ). map f (ascending m (n * k))) next)
      ∙ map_runs k (n * k) (row * k)
      ∙ ap (λ (m : ℕ). map f (ascending (row * k) m)) (sym all)

-- all places of a list
map_all : {A : Type 0} (xs : List A) (d : A) → map (λ (i : ℕ). get_or xs i d) (ascending 0 (length xs)) ≡ xs
unfolding ascending
map_all [] d = refl
map_all {A} (x ∷ xs) d = ap (λ (l : List A). x ∷ l)
    (sym (map_suc (λ (i : ℕ). get_or (x ∷ xs) i d) (length xs) 0) ∙ map_all xs d)

module _ {A B : Type 0} (test : B → Bool) (second : A → B) where
  -- one that passes or not, and its second part
  kept_one : (b : Bool) (x : A) (kept : List A) (others : List B) → map second kept ≡ others
      → map second (cond b (x ∷ kept) kept) ≡ cond b (second x ∷ others) others
  kept_one true x kept others e = ap (λ (l : List B). second x ∷ l) e
  kept_one false x kept others e = e

  -- what passes of pairs, by their second parts
  map_kept : (xs : List A) → map second (filter (λ (x : A). test (second x)) xs) ≡ filter test (map second xs)
  map_kept [] = refl
  map_kept (x ∷ xs) = kept_one (test (second x)) x (filter (λ (y : A). test (second y)) xs) (filter test (map second xs))
      (map_kept xs)

-- what is made of each of some elements, one after another
flat_same : {X B : Type 0} (f g : X → List B) (xs : List X) → ((x : X) → f x ≡ g x) → flat_map f xs ≡ flat_map g xs
flat_same f g [] same = refl
flat_same {X} {B} f g (x ∷ xs) same = flat_map-cons f x xs
    ∙ ap₂ (λ (a b : List B). a ++ b) (same x) (flat_same f g xs same) ∙ sym (flat_map-cons g x xs)

-- a map of lists one after another
map_flat : {X A B : Type 0} (h : A → B) (f : X → List A) (xs : List X)
    → map h (flat_map f xs) ≡ flat_map (λ (x : X). map h (f x)) xs
map_flat h f [] = refl
map_flat {X} {A} {B} h f (x ∷ xs) = ap (map h) (flat_map-cons f x xs) ∙ map-append h (f x) (flat_map f xs)
    ∙ ap (λ (l : List B). map h (f x) ++ l) (map_flat h f xs) ∙ sym (flat_map-cons (λ (y : X). map h (f y)) x xs)

-- what passes of lists one after another
filter_flat : {X B : Type 0} (test : B → Bool) (f : X → List B) (xs : List X)
    → filter test (flat_map f xs) ≡ flat_map (λ (x : X). filter test (f x)) xs
filter_flat test f [] = refl
filter_flat {X} {B} test f (x ∷ xs) = ap (filter test) (flat_map-cons f x xs)
    ∙ filter-append test (f x) (flat_map f xs)
    ∙ ap (λ (l : List B). filter test (f x) ++ l) (filter_flat test f xs)
    ∙ sym (flat_map-cons (λ (y : X). filter test (f y)) x xs)

-- one map after another
map_map : {X A B : Type 0} (h : A → B) (f : X → A) (xs : List X) → map h (map f xs) ≡ map (λ (x : X). h (f x)) xs
map_map h f [] = refl
map_map {X} {A} {B} h f (x ∷ xs) = ap (λ (l : List B). h (f x) ∷ l) (map_map h f xs)

-- the shares of a namespace in a square are those among its shares that begin with it
pub shares_in_square : (square : SquareShares) (name : Namespace) → IsSquare square
    → shares_in square name ≡ filter (is_named name) square.shares
shares_in_square square name whole =
    let at : ℕ → Share = λ i. get_or square.shares i blank in
    let row : ℕ → List Share = λ r. map (λ (col : ℕ). at (r * square.k + col)) (ascending 0 square.k) in
    let one : (r : ℕ) → map (λ (p : Cell × Share). p.1) (row_shares square name r) ≡ filter (is_named name) (row r) =
    λ r. map_kept (is_named name) (λ (p : Cell × Share). p.1)
    (map (λ (col : ℕ). cell_share square (cell_on Row r col)) (ascending 0 square.k))
    ∙ ap (filter (is_named name)) (map_map (λ (p : Cell × Share). p.1)
    (λ (col : ℕ). cell_share square (cell_on Row r col)) (ascending 0 square.k)) in
    let none : 0 * square.k ≡ 0 = omega arith in
    map_flat (λ (p : Cell × Share). p.1) (row_shares square name) (ascending 0 square.k)
    ∙ flat_same (λ (r : ℕ). map (λ (p : Cell × Share). p.1) (row_shares square name r))
    (λ (r : ℕ). filter (is_named name) (row r)) (ascending 0 square.k) one
    ∙ sym (filter_flat (is_named name) row (ascending 0 square.k))
    ∙ ap (filter (is_named name)) (map_rows at square.k square.k 0
    ∙ ap (λ (m : ℕ). map at (ascending m (square.k * square.k))) none
    ∙ ap (λ (m : ℕ). map at (ascending 0 m)) (sym whole.count)
    ∙ map_all square.shares blank)
