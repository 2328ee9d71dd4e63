-- Walking over the compact shares of units, one share at a time.
use Rattle.std.proofs.Common.{◌≡◌, ◌∙◌, ◌⊎◌, inl, inr, ℕ, suc, ◌+◌, ◌<◌, ◌≤◌, Bool, true, false, cond, List, [], ◌∷◌, length, drop, get_or, Option, Some, None, Result, Ok, Err, refl, sym, ap, ap₂, arith}
use Rattle.std.specs.Option.{option_map_or}
use Rattle.std.proofs.lemmas.List.{drop_more, drop_all}
use Rattle.namespace_id.specs.declared.shares.Share.{Share}
use Rattle.share_split.specs.declared.joining.JoinError.{JoinError}
use Rattle.share_split.specs.declared.joining.JoinError.TheVariants.{Short, NoMemory}
use Rattle.share_split.specs.declared.walking.Form.TheVariants.{Units}
use Rattle.share_split.specs.Walks.{Sequence, is_complete, sequence_after, unit_refusal, sequence_from}

-- the one sequence, if there is any
abbrev pub One : Type 0
One = Result (Option Sequence) JoinError

-- the next share is checked first
pub sequence_from-cons : (i : ℕ) (so_far : Option Sequence) (share : Share) (shares : List Share)
    → sequence_from i so_far (share ∷ shares) ≡ option_map_or Err (unit_refusal i so_far share) (sequence_from (suc i) (Some (sequence_after Units i so_far share)) shares)
unfolding sequence_from
sequence_from-cons i None share shares = refl
sequence_from-cons i (Some s) share shares = refl

-- one share more was read
pub sequence_more : (i : ℕ) (shares : List Share) (none : Share) (so_far : Option Sequence) (sequence : Sequence) (whole : One)
    → i < length shares
    → unit_refusal i so_far (get_or shares i none) ≡ None → sequence ≡ sequence_after Units i so_far (get_or shares i none)
    → sequence_from i so_far (drop i shares) ≡ whole
    → sequence_from (i + 1) (Some sequence) (drop (i + 1) shares) ≡ whole
sequence_more i shares none so_far sequence whole lt passed taken before =
    let share : Share = get_or shares i none in
    let rest : List Share = drop (i + 1) shares in
    let e : i + 1 ≡ suc i = omega arith in
    ap₂ (λ (k : ℕ) (s : Sequence). sequence_from k (Some s) rest) e taken
    ∙ sym (ap (λ (o : Option JoinError). option_map_or Err o (sequence_from (suc i) (Some (sequence_after Units i so_far share)) rest)) passed)
    ∙ sym (sequence_from-cons i so_far share rest)
    ∙ sym (ap (sequence_from i so_far) (drop_more shares i none lt))
    ∙ before

-- a check of a share failed, or memory ran out
pub sequence_stop : (i : ℕ) (shares : List Share) (none : Share) (so_far : Option Sequence) (whole : One) (error : JoinError)
    → i < length shares → (error ≡ NoMemory) ⊎ (unit_refusal i so_far (get_or shares i none) ≡ Some error)
    → sequence_from i so_far (drop i shares) ≡ whole
    → (error ≡ NoMemory) ⊎ (whole ≡ Err error)
sequence_stop i shares none so_far whole error lt (inl full) before = inl full
sequence_stop i shares none so_far whole error lt (inr refused) before =
    let share : Share = get_or shares i none in
    let rest : List Share = drop (i + 1) shares in
    inr (sym before
    ∙ ap (sequence_from i so_far) (drop_more shares i none lt)
    ∙ sequence_from-cons i so_far share rest
    ∙ ap (λ (o : Option JoinError). option_map_or Err o (sequence_from (suc i) (Some (sequence_after Units i so_far share)) rest)) refused)

-- no share is left
pub sequence_end : (i : ℕ) (shares : List Share) (so_far : Option Sequence) (whole : One) → length shares ≤ i
    → sequence_from i so_far (drop i shares) ≡ whole → whole ≡ sequence_from i so_far []
sequence_end i shares so_far whole le before = sym before ∙ ap (sequence_from i so_far) (drop_all i shares le)

-- no shares are no sequence
pub sequence_from-none : (i : ℕ) → sequence_from i None [] ≡ Ok None
unfolding sequence_from
sequence_from-none i = refl

-- the sequence is complete
pub sequence_from-whole : (i : ℕ) (s : Sequence) → is_complete s ≡ true → sequence_from i (Some s) [] ≡ Ok (Some s)
unfolding sequence_from
sequence_from-whole i s e = ap (λ (b : Bool). cond b (Ok (Some s)) (Err (Short s.first))) e

-- the sequence is cut short
pub sequence_from-open : (i : ℕ) (s : Sequence) → is_complete s ≡ false → sequence_from i (Some s) [] ≡ Err (Short s.first)
unfolding sequence_from
sequence_from-open i s e = ap (λ (b : Bool). cond b (Ok (Some s)) (Err (Short s.first))) e
