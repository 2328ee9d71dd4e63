-- Why no square holds a list of transactions, and how a call answers (docs/RULES.md, "A block of the network").
use Rattle.std.specs.Prelude.{◌≡◌, ◌⊎◌, nat_lt, min, Option, Some, None, Result, Ok, Err, if◌then◌else◌}
use Rattle.square_layout.specs.Refusals.{max_shares, most_named}
use Rattle.tx_list.specs.declared.refusals.ListError.{ListError}
use Rattle.tx_list.specs.declared.refusals.ListError.TheVariants.{TooLarge, NoMemory}
use Rattle.tx_list.specs.Payments.{ListParts}
use Rattle.tx_list.specs.Reserves.{list_bound}

-- why no square holds a list that was read
abbrev pub list_size_refusal : ListParts → Option ListError
list_size_refusal list = if nat_lt max_shares (list_bound list) then Some (TooLarge (min (list_bound list) most_named)) else None

-- a call answered the first check that fails, or, where none does, a value; unless memory ran out
abbrev pub AnswersList : {X : Type 0} → Result X ListError → Option ListError → Type 0
AnswersList (Ok x) refusal = refusal ≡ None
AnswersList (Err e) refusal = (e ≡ NoMemory) ⊎ (refusal ≡ Some e)

-- a call was refused by the first check that fails, whatever memory there was, or, where none does, for want of memory alone
abbrev pub RefusesFirst : {X : Type 0} → Result X ListError → Option ListError → Type 0
RefusesFirst (Ok x) refusal = refusal ≡ None
RefusesFirst (Err e) refusal = (refusal ≡ Some e) ⊎ ((refusal ≡ None) × (e ≡ NoMemory))
