-- Files that have to be in a form, and the first that isn't.
use Rattle.std.specs.Prelude.{ℕ, suc, List, [], ◌∷◌, Some, None, MatchOption}
use Rattle.std.specs.declared.option.Option.{Option}
use Rattle.da_status.specs.declared.status.Status.TheVariants.{BadInput}
use Rattle.da_status.specs.Outcome.{Relation, Refuses}

-- the first file, counted from i, that isn't in its form, and the offset at which it leaves it
abbrev pub first_bad : ℕ → List (Option ℕ) → Option (ℕ × ℕ)
first_bad i [] = None
first_bad i (None ∷ judged) = first_bad (suc i) judged
first_bad i (Some at ∷ judged) = Some (i, at)

-- where a file isn't in its form, `BadInput`; else the answer
abbrev pub Judged : List (Option ℕ) → Relation → Relation
Judged judged Answer w status =
    MatchOption (first_bad 0 judged) (Answer w status) (λ bad. Refuses (BadInput bad.0 bad.1) w status)
