-- Steps of a reader that did not fail, and what a sample shows without its nodes.
use Rattle.std.proofs.Common.{◌≡◌, ◌∙◌, ℕ, Bool, true, false, cond, ◌==◌, List, length, Option, None, Some, refl, sym, ap, subst}
use Rattle.std.proofs.lemmas.Option.{same_Some}
use Rattle.axis_roots.specs.declared.message.messages.Message as sent
use Rattle.namespace_id.specs.Sizes.{share_size, most_depth}
use Rattle.namespace_id.specs.Shares.{share_of}
use Rattle.frame_fields.specs.Fields.{◌>>=◌, string_at, axis_at, cell_at, path_at}
use Rattle.frame_fields.specs.Messages.{message_front, message_at, shown_front}

-- the value of a first step that did not fail
pub bind_some : {A B : Type 0} (r : Option A) (f : A → Option B) (y : B) → (r >>= f) ≡ Some y → (x : A) × (r ≡ Some x) × (f x ≡ Some y)
bind_some None f y e = absurd cc
bind_some (Some x) f y e = (x, refl, e)

-- two steps that are made one after the other are made together
pub bind_again : {A B : Type 0} (r : Option A) (f : A → Option B) (x : A) (y : B) → r ≡ Some x → f x ≡ Some y → (r >>= f) ≡ Some y
bind_again r f x y p q = subst (λ (s : Option _). (s >>= f) ≡ Some y) (sym p) q

-- a value that is given only where a test holds
given_if : {A : Type 0} (b : Bool) (x y : A) → cond b (Some x) None ≡ Some y → x ≡ y
given_if true x y e = same_Some x y e
given_if false x y e = absurd cc

-- the front of a sample shows its cell and its share
front_shown : (bytes : List ℕ) (m : sent.Message) (rest : List ℕ) → message_front bytes ≡ Some (m, rest) → shown_front bytes ≡ Some (m.cell, m.share)
unfolding message_front shown_front
front_shown bytes m rest e =
    let cell = bind_some (cell_at bytes) _ (m, rest) e in
    let axis = bind_some (axis_at cell.0.1) _ (m, rest) cell.2 in
    let share = bind_some (string_at share_size axis.0.1) _ (m, rest) axis.2 in
    let path = bind_some (path_at most_depth share.0.1) _ (m, rest) share.2 in
    let same : (record { cell = cell.0.0; axis = axis.0.0; share = share_of share.0.0; path = path.0.0 }, path.0.1) ≡ (m, rest) = same_Some _ _ path.2 in
    rw (cell.1, axis.1, share.1) (ap (λ (x : sent.Message × List ℕ). Some (x.0.cell, x.0.share)) same)

-- so does a payload that is one
pub sample_shown : (bytes : List ℕ) (m : sent.Message) → message_at bytes ≡ Some m → shown_front bytes ≡ Some (m.cell, m.share)
unfolding message_at
sample_shown bytes m e =
    let front = bind_some (message_front bytes) (λ front. cond (length front.1 == 0) (Some front.0) None) m e in
    let same : front.0.0 ≡ m = given_if (length front.0.1 == 0) front.0.0 m front.2 in
    front_shown bytes front.0.0 front.0.1 front.1 ∙ ap (λ (x : sent.Message). Some (x.cell, x.share)) same
