-- Values that are read each where the one before ended: a loop that passes over them, and one that keeps
-- them.
use Rattle.std.proofs.Common.{◌≡◌, ◌∙◌, ℕ, zero, suc, ◌+◌, ◌-◌, ◌<◌, ◌≤◌, List, [], ◌∷◌, ◌++◌, map, Option, Some, None, IsSome, refl, sym, ap, subst, arith, append_assoc, append-nil}
use Rattle.std.specs.Option.{option_map}
use Rattle.std.proofs.lemmas.Option.{same_Some}
use Rattle.namespace_id.specs.Answers.{Gives}
use Rattle.std.specs.Int.{Width}
use Rattle.frame_fields.specs.Fields.{◌>>=◌, count_at, many_at, list_at, read_items}

-- a reader's values with one more before them
abbrev pub after_first : {A : Type 0} → A → Option (List A × List ℕ) → Option (List A × List ℕ)
after_first x read = read >>= (λ others. Some (x ∷ others.0, others.1))

-- a reader's values with some before them
abbrev pub after_some : {A : Type 0} → List A → Option (List A × List ℕ) → Option (List A × List ℕ)
after_some xs read = read >>= (λ others. Some (xs ++ others.0, others.1))

-- no values are read of any bytes
many_zero : {A : Type 0} (one : List ℕ → Option (A × List ℕ)) (bytes : List ℕ) → many_at one 0 bytes ≡ Some ([], bytes)
unfolding many_at
many_zero one bytes = refl

-- reading one more value reads the first, and then the others
many_suc : {A : Type 0} (one : List ℕ → Option (A × List ℕ)) (n : ℕ) (bytes : List ℕ) (x : A) (after : List ℕ) → one bytes ≡ Some (x, after)
    → many_at one (suc n) bytes ≡ after_first x (many_at one n after)
unfolding many_at
many_suc {A} one n bytes x after e = ap (λ (r : Option (A × List ℕ)). r >>= (λ first. after_first first.0 (many_at one n first.1))) e

-- where the first value can't be read, no values can
many_suc_none : {A : Type 0} (one : List ℕ → Option (A × List ℕ)) (n : ℕ) (bytes : List ℕ) → one bytes ≡ None → many_at one (suc n) bytes ≡ None
unfolding many_at
many_suc_none {A} one n bytes e = ap (λ (r : Option (A × List ℕ)). r >>= (λ first. after_first first.0 (many_at one n first.1))) e

-- the next of those that are left
pub many_left : {A : Type 0} (one : List ℕ → Option (A × List ℕ)) (count i : ℕ) (rest : List ℕ) (x : A) (after : List ℕ) → i < count → one rest ≡ Some (x, after)
    → many_at one (count - i) rest ≡ after_first x (many_at one (count - (i + 1)) after)
many_left one count i rest x after h e =
    let left : count - i ≡ suc (count - (i + 1)) = omega arith in
    ap (λ (n : ℕ). many_at one n rest) left ∙ many_suc one (count - (i + 1)) rest x after e

-- where the next of those that are left can't be read, no more can
pub many_none : {A : Type 0} (one : List ℕ → Option (A × List ℕ)) (count i : ℕ) (rest : List ℕ) → i < count → one rest ≡ None → many_at one (count - i) rest ≡ None
many_none one count i rest h e =
    let left : count - i ≡ suc (count - (i + 1)) = omega arith in
    ap (λ (n : ℕ). many_at one n rest) left ∙ many_suc_none one (count - (i + 1)) rest e

-- where none are left, none are read
pub many_done : {A : Type 0} (one : List ℕ → Option (A × List ℕ)) (count i : ℕ) (rest : List ℕ) → count ≤ i → many_at one (count - i) rest ≡ Some ([], rest)
many_done one count i rest h =
    let none : count - i ≡ 0 = omega arith in
    ap (λ (n : ℕ). many_at one n rest) none ∙ many_zero one rest

-- ---- what a call read

-- it answers a value where one can be read, and that value
pub gives_some : {X Y : Type 0} (view : X → Y) (answer : Option X) (read : Option Y) → Gives view answer read → IsSome read → IsSome answer
gives_some view None read e some = subst (λ (r : Option _). IsSome r) e some
gives_some view (Some x) read e some = refl

-- the value that a call answers is the one that is read
pub gives_value : {X Y : Type 0} (view : X → Y) (answer : Option X) (read : Option Y) (x : X) → Gives view answer read → answer ≡ Some x → read ≡ Some (view x)
gives_value {X} view answer read x e is = subst (λ (a : Option X). Gives view a read) is e

-- the bytes after a value are there where it is read
pub rest_some : {A : Type 0} (read : Option (A × List ℕ)) (after : List ℕ) → option_map (λ (x : A × List ℕ). x.1) read ≡ Some after → (x : A) × (read ≡ Some (x, after))
rest_some None after e = absurd cc
rest_some (Some r) after e = (r.0, ap (λ (l : List ℕ). Some (r.0, l)) (same_Some r.1 after e))

-- and not where it isn't
pub rest_none : {A : Type 0} (read : Option (A × List ℕ)) → option_map (λ (x : A × List ℕ). x.1) read ≡ None → read ≡ None
rest_none None e = refl
rest_none (Some r) e = absurd cc

-- ---- a loop that keeps them

-- a value may be kept before the others are read
some_before : {A : Type 0} (xs : List A) (x : A) (read : Option (List A × List ℕ)) → after_some xs (after_first x read) ≡ after_some (xs ++ x ∷ []) read
some_before xs x None = refl
some_before {A} xs x (Some r) = ap (λ (l : List A). Some (l, r.1)) (sym (append_assoc xs (x ∷ []) r.0))

-- some values, and those that are left, are all
abbrev pub Kept : {A : Type 0} → (List ℕ → Option (A × List ℕ)) → ℕ → ℕ → List ℕ → List ℕ → Type 0
Kept {A} one count i rest bytes = (xs : List A) × (after_some xs (many_at one (count - i) rest) ≡ many_at one count bytes)

-- no values stand before all
nothing_before : {A : Type 0} (read : Option (List A × List ℕ)) → after_some [] read ≡ read
nothing_before None = refl
nothing_before (Some r) = refl

-- at first none are kept
pub kept_first : {A : Type 0} (one : List ℕ → Option (A × List ℕ)) (count : ℕ) (bytes : List ℕ) → after_some [] (many_at one (count - 0) bytes) ≡ many_at one count bytes
kept_first one count bytes =
    let whole : count - 0 ≡ count = omega arith in
    ap (λ (n : ℕ). after_some [] (many_at one n bytes)) whole ∙ nothing_before (many_at one count bytes)

-- keeping the next value leaves all values as they are
pub kept_more : {A : Type 0} (one : List ℕ → Option (A × List ℕ)) (count i : ℕ) (rest : List ℕ) (xs : List A) (x : A) (after : List ℕ) (all : Option (List A × List ℕ)) → i < count → one rest ≡ Some (x, after)
    → after_some xs (many_at one (count - i) rest) ≡ all → after_some (xs ++ x ∷ []) (many_at one (count - (i + 1)) after) ≡ all
kept_more {A} one count i rest xs x after all h e done =
    sym (ap (λ (r : Option (List A × List ℕ)). after_some xs r) (many_left one count i rest x after h e) ∙ some_before xs x (many_at one (count - (i + 1)) after)) ∙ done

-- where the next value can't be read, not all can
pub kept_none : {A : Type 0} (one : List ℕ → Option (A × List ℕ)) (count i : ℕ) (rest : List ℕ) (xs : List A) (all : Option (List A × List ℕ)) → i < count → one rest ≡ None
    → after_some xs (many_at one (count - i) rest) ≡ all → all ≡ None
kept_none {A} one count i rest xs all h e done = sym done ∙ ap (λ (r : Option (List A × List ℕ)). after_some xs r) (many_none one count i rest h e)

-- where none are left, the kept values are all
pub kept_all : {A : Type 0} (one : List ℕ → Option (A × List ℕ)) (count i : ℕ) (rest : List ℕ) (xs : List A) (all : Option (List A × List ℕ)) → count ≤ i
    → after_some xs (many_at one (count - i) rest) ≡ all → all ≡ Some (xs, rest)
kept_all {A} one count i rest xs all h done =
    sym done ∙ ap (λ (r : Option (List A × List ℕ)). after_some xs r) (many_done one count i rest h) ∙ ap (λ (l : List A). Some (l, rest)) (append-nil xs)

pub kept_end : {A : Type 0} (one : List ℕ → Option (A × List ℕ)) (count i : ℕ) (rest : List ℕ) (xs : List A) (all : Option (List A × List ℕ)) → count ≤ i
    → after_some xs (many_at one (count - i) rest) ≡ all → xs ≡ read_items all
kept_end {A} one count i rest xs all h done = sym (ap (λ (r : Option (List A × List ℕ)). read_items r) (kept_all one count i rest xs all h done))

-- values that stand behind others were read
some_read : {A : Type 0} (xs : List A) (read : Option (List A × List ℕ)) → IsSome (after_some xs read) → IsSome read
some_read xs None some = some
some_read xs (Some r) some = refl

-- where one value and more are read, the first is
one_some : {A : Type 0} (one : List ℕ → Option (A × List ℕ)) (n : ℕ) (bytes : List ℕ) (read : Option (A × List ℕ)) → one bytes ≡ read → IsSome (many_at one (suc n) bytes) → IsSome read
one_some one n bytes None e some = subst (λ (r : Option _). IsSome r) (many_suc_none one n bytes e) some
one_some one n bytes (Some x) e some = refl

-- the next can be read where all can
pub next_some : {A : Type 0} (one : List ℕ → Option (A × List ℕ)) (count i : ℕ) (rest : List ℕ) (xs : List A) (all : Option (List A × List ℕ)) → i < count → IsSome all
    → after_some xs (many_at one (count - i) rest) ≡ all → IsSome (one rest)
next_some {A} one count i rest xs all h some done =
    let left : count - i ≡ suc (count - (i + 1)) = omega arith in
    let read : IsSome (many_at one (count - i) rest) = some_read xs (many_at one (count - i) rest) (subst (λ (r : Option (List A × List ℕ)). IsSome r) (sym done) some) in
    one_some one (count - (i + 1)) rest (one rest) refl (subst (λ (n : ℕ). IsSome (many_at one n rest)) left read)

-- ---- values that are turned as they are read

module _ {A B : Type 0} (f : A → B) (one : List ℕ → Option (A × List ℕ)) where
  -- one of them
  abbrev pub turned : List ℕ → Option (B × List ℕ)
  turned bytes = option_map (λ x. (f x.0, x.1)) (one bytes)

  -- all of them
  abbrev turned_all : Option (List A × List ℕ) → Option (List B × List ℕ)
  turned_all read = option_map (λ r. (map f r.0, r.1)) read

  -- the first is turned, and so are the others
  first_turned : (x : A) (read : Option (List A × List ℕ)) → after_first (f x) (turned_all read) ≡ turned_all (after_first x read)
  first_turned x None = refl
  first_turned x (Some r) = refl

  -- one more is turned, by what is read first
  one_turned : (n : ℕ) → ((bytes : List ℕ) → many_at turned n bytes ≡ turned_all (many_at one n bytes)) → (o : Option (A × List ℕ))
      → ◌>>=◌ {A = B × List ℕ} (option_map (λ (x : A × List ℕ). (f x.0, x.1)) o) (λ first. after_first first.0 (many_at turned n first.1))
      ≡ turned_all (o >>= (λ first. after_first first.0 (many_at one n first.1)))
  one_turned n others None = refl
  one_turned n others (Some x) = ap (after_first (f x.0)) (others x.1) ∙ first_turned x.0 (many_at one n x.1)

  -- so many are turned
  many_turned : (n : ℕ) (bytes : List ℕ) → many_at turned n bytes ≡ turned_all (many_at one n bytes)
  unfolding many_at
  many_turned zero bytes = refl
  many_turned (suc n) bytes = one_turned n (many_turned n) (one bytes)

  -- so are those behind their count
  list_turned : (w : Width) (limit : ℕ) (bytes : List ℕ) → list_at w limit turned bytes ≡ turned_all (list_at w limit one bytes)
  unfolding list_at
  list_turned w limit bytes = by (count_at w limit bytes)
    where
      by : (count : Option (ℕ × List ℕ)) → (count >>= (λ c. many_at turned c.0 c.1)) ≡ turned_all (count >>= (λ c. many_at one c.0 c.1))
      by None = refl
      by (Some c) = many_turned c.0 c.1

  -- where all can be read, all can be turned
  some_turned : (read : Option (List A × List ℕ)) → IsSome read → IsSome (turned_all read)
  some_turned None some = some
  some_turned (Some r) some = refl

  pub turned_some : (w : Width) (limit : ℕ) (bytes : List ℕ) → IsSome (list_at w limit one bytes) → IsSome (list_at w limit turned bytes)
  turned_some w limit bytes some = subst (λ (r : Option (List B × List ℕ)). IsSome r) (sym (list_turned w limit bytes)) (some_turned (list_at w limit one bytes) some)

  -- the values that are turned are those that are read
  items_turned : (read : Option (List A × List ℕ)) → read_items (turned_all read) ≡ map f (read_items read)
  items_turned None = refl
  items_turned (Some r) = refl

  pub turned_items : (w : Width) (limit : ℕ) (bytes : List ℕ) → read_items (list_at w limit turned bytes) ≡ map f (read_items (list_at w limit one bytes))
  turned_items w limit bytes = ap (λ (r : Option (List B × List ℕ)). read_items r) (list_turned w limit bytes) ∙ items_turned (list_at w limit one bytes)
