-- The cells that a set shows, gathered one after another.
use Rattle.std.proofs.Common.{◌≡◌, ◌∙◌, ℕ, zero, suc, ◌+◌, ◌<◌, ◌≤◌, List, [], ◌∷◌, ◌++◌, length, map, take, get_or, set, Bool, true, false, cond, refl, sym, ap, ap₂, subst, inl, inr, arith}
use Rattle.std.proofs.lemmas.Bool.{cases_Bool, and_parts}
use Rattle.std.proofs.lemmas.List.{map-append, take_more, take_more_set, length-take-le}
use Rattle.std.specs.List.{list_all}
use Rattle.namespace_id.specs.declared.cells.Axis.{Axis}
use Rattle.axis_roots.specs.declared.message.messages.Message.{Message}
use Rattle.axis_roots.specs.Sets.{is_along, along_in}

-- those of one more sample: it as well, where it is along the axis
along_in-append : (axis : Axis) (cells : List Message) (m : Message) → along_in axis (cells ++ m ∷ []) ≡ cond (is_along axis m) (along_in axis cells ++ m ∷ []) (along_in axis cells)
unfolding along_in
along_in-append axis [] m = refl
along_in-append axis (n ∷ cells) m =
    let rest = along_in-append axis cells m in
    let x : List Message = along_in axis cells in
    ap (λ (l : List Message). cond (is_along axis n) (n ∷ l) l) rest ∙ swap (is_along axis n) (is_along axis m) n x m
  where
    swap : (a b : Bool) (n : Message) (x : List Message) (m : Message)
        → cond a (n ∷ cond b (x ++ m ∷ []) x) (cond b (x ++ m ∷ []) x) ≡ cond b (cond a (n ∷ x) x ++ m ∷ []) (cond a (n ∷ x) x)
    swap true true n x m = refl
    swap true false n x m = refl
    swap false true n x m = refl
    swap false false n x m = refl

-- one more that is along the axis
pub along_more : (axis : Axis) (cells : List Message) (i : ℕ) (m : Message) → i < length cells → m ≡ get_or cells i m → is_along axis m ≡ true
    → along_in axis (take (i + 1) cells) ≡ along_in axis (take i cells) ++ m ∷ []
along_more axis cells i m h is t =
    ap (along_in axis) (take_more cells i m h ∙ ap (λ (x : Message). take i cells ++ x ∷ []) (sym is))
    ∙ along_in-append axis (take i cells) m
    ∙ ap (λ (b : Bool). cond b (along_in axis (take i cells) ++ m ∷ []) (along_in axis (take i cells))) t

-- one that isn't
pub along_same : (axis : Axis) (cells : List Message) (i : ℕ) (m : Message) → i < length cells → m ≡ get_or cells i m → is_along axis m ≡ false
    → along_in axis (take (i + 1) cells) ≡ along_in axis (take i cells)
along_same axis cells i m h is f =
    ap (along_in axis) (take_more cells i m h ∙ ap (λ (x : Message). take i cells ++ x ∷ []) (sym is))
    ∙ along_in-append axis (take i cells) m
    ∙ ap (λ (b : Bool). cond b (along_in axis (take i cells) ++ m ∷ []) (along_in axis (take i cells))) f

-- they are no more than all
pub along_few : (axis : Axis) (cells : List Message) → length (along_in axis cells) ≤ length cells
unfolding along_in
along_few axis [] = omega arith
along_few axis (m ∷ cells) =
    let Goal : Bool → Type 0 = λ b. length (cond b (m ∷ along_in axis cells) (along_in axis cells)) ≤ suc (length cells) in
    elim (cases_Bool (is_along axis m)) [
      | inl t ↦ subst Goal (sym t) (omega (arith, along_few axis cells))
      | inr f ↦ subst Goal (sym f) (omega (arith, along_few axis cells))
    ]

-- one more value behind those so far
pub gathered_more : {A : Type 0} (f : Message → A) (buffer : List A) (count : ℕ) (v : A) (so_far next : List Message) (m : Message) → count < length buffer
    → next ≡ so_far ++ m ∷ [] → v ≡ f m → take count buffer ≡ map f so_far → take (count + 1) (set buffer count v) ≡ map f next
gathered_more f buffer count v so_far next m h en ev e =
    take_more_set buffer count v h ∙ ap₂ (λ (x : List _) (y : _). x ++ y ∷ []) e ev ∙ sym (ap (map f) en ∙ map-append f so_far (m ∷ []))

-- a test that holds of all holds of one
pub all_at : (test : Message → Bool) (cells : List Message) (i : ℕ) (m : Message) → i < length cells → m ≡ get_or cells i m → list_all test cells ≡ true → test m ≡ true
all_at test cells i m h is all = ap test is ∙ holds cells i h all
  where
    holds : (cs : List Message) (j : ℕ) → j < length cs → list_all test cs ≡ true → test (get_or cs j m) ≡ true
    holds [] j h all = absurd (omega arith)
    holds (c ∷ cs) zero h all = (and_parts (test c) (list_all test cs) all).0
    holds (c ∷ cs) (suc j) h all = holds cs j (omega arith) (and_parts (test c) (list_all test cs) all).1

-- so many of a list that begins with them
pub few_so_far : (axis : Axis) (cells : List Message) (i count : ℕ) → i < length cells → count ≡ length (along_in axis (take i cells)) → count < length cells
few_so_far axis cells i count h e = omega (arith, h, e, along_few axis (take i cells), length-take-le i cells (omega (arith, h)))
