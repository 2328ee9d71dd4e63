-- A loop that reads values of one length, one after another: what is read and what is left are all.
use Rattle.std.proofs.Common.{◌≡◌, ◌∙◌, ℕ, suc, ◌+◌, ◌-◌, ◌*◌, ◌<◌, ◌≤◌, List, [], ◌∷◌, ◌++◌, length, take, drop, refl, sym, ap, ap₂, arith, append_assoc, append-nil, length-append}
use Rattle.std.proofs.Math.Nat.{mul-suc}
use Rattle.std.proofs.lemmas.List.{length-drop}
use Rattle.frame_fields.specs.Fields.{split_into}

-- reading one more value reads the first, and then the others
values_suc : {A : Type 0} (value : List ℕ → A) (size n : ℕ) (bytes : List ℕ) → split_into value size (suc n) bytes ≡ value (take size bytes) ∷ split_into value size n (drop size bytes)
unfolding split_into
values_suc value size n bytes = refl

-- no values are read of any bytes
values_zero : {A : Type 0} (value : List ℕ → A) (size : ℕ) (bytes : List ℕ) → split_into value size 0 bytes ≡ []
unfolding split_into
values_zero value size bytes = refl

-- one more value was read
pub values_more : {A : Type 0} (value : List ℕ → A) (size : ℕ) (all so_far : List A) (x : A) (count i : ℕ) (rest front after : List ℕ) → i < count
    → so_far ++ split_into value size (count - i) rest ≡ all → front ≡ take size rest → after ≡ drop size rest → x ≡ value front
    → (so_far ++ x ∷ []) ++ split_into value size (count - (i + 1)) after ≡ all
values_more {A} value size all so_far x count i rest front after h done ef ea ex =
    let left : count - i ≡ suc (count - (i + 1)) = omega arith in
    let first : x ≡ value (take size rest) = ex ∙ ap value ef in
    append_assoc so_far (x ∷ []) (split_into value size (count - (i + 1)) after)
    ∙ ap₂ (λ (d : A) (l : List ℕ). so_far ++ d ∷ split_into value size (count - (i + 1)) l) first ea
    ∙ ap (λ (l : List A). so_far ++ l) (sym (ap (λ (k : ℕ). split_into value size k rest) left ∙ values_suc value size (count - (i + 1)) rest))
    ∙ done

-- all were read
pub values_end : {A : Type 0} (value : List ℕ → A) (size : ℕ) (all so_far : List A) (count i : ℕ) (rest : List ℕ) → count ≤ i
    → so_far ++ split_into value size (count - i) rest ≡ all → so_far ≡ all
values_end {A} value size all so_far count i rest h done =
    let none : count - i ≡ 0 = omega arith in
    sym (ap (λ (l : List A). so_far ++ l) (ap (λ (k : ℕ). split_into value size k rest) none ∙ values_zero value size rest) ∙ append-nil so_far) ∙ done

-- what a loop holds: what was read, and what is left to read
abbrev pub Left : {A : Type 0} → (List ℕ → A) → ℕ → ℕ → ℕ → List A → List A → List ℕ → Type 0
Left value size count i all held rest = record {
  done : held ++ split_into value size (count - i) rest ≡ all;
  len : length held ≡ i;
  left : length rest ≡ size * (count - i);
}

-- one more value was read
pub left_next : {A : Type 0} (value : List ℕ → A) (size count i : ℕ) (all held : List A) (x : A) (rest front after : List ℕ) → i < count
    → front ≡ take size rest → after ≡ drop size rest → x ≡ value front → Left value size count i all held rest → Left value size count (i + 1) all (held ++ x ∷ []) after
left_next value size count i all held x rest front after h ef ea ex l =
    let left : count - i ≡ suc (count - (i + 1)) = omega arith in
    record {
      done = values_more value size all held x count i rest front after h l.done ef ea ex;
      len = omega (arith, l.len, length-append held (x ∷ []));
      left = omega (arith, l.left, ap (λ (n : ℕ). size * n) left, mul-suc size (count - (i + 1)), ap length ea, length-drop size rest);
    }
