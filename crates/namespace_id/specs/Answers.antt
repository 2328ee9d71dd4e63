-- What calls answer, and where they write.
use Rattle.std.specs.Prelude.{◌≡◌, ℕ, ◌+◌, ◌≤◌, Option, Some, None, Result, Ok, Err, Vec, vec_len, vec_capacity}
use Rattle.std.specs.declared.alloc.Global.{Global}

-- what a reader answered, seen by `view`, is what reading gives
abbrev pub Gives : {X Y : Type 0} → (X → Y) → Option X → Option Y → Type 0
Gives view None read = read ≡ None
Gives view (Some x) read = read ≡ Some (view x)

-- there is capacity for so many values more
abbrev pub HasCapacity : {A : Type 0} → Vec A Global → ℕ → Type 0
HasCapacity out count = vec_len out + count ≤ vec_capacity out

-- the refusal that an answer gives, none of an `Ok`
abbrev pub refusal_in : {T E : Type 0} → Result T E → Option E
refusal_in (Ok _) = None
refusal_in (Err why) = Some why
