-- Where the entries of an answer stand.
use Rattle.std.proofs.Common.{◌≡◌, ◌∙◌, ℕ, suc, ◌<◌, ◌==◌, List, [], ◌∷◌, length, drop, map, Bool, true, false, cond, Some, None, refl, sym, ap, ap₂, subst, arith, inl, inr}
use Rattle.std.specs.List.{filter, AllByRecursion}
use Rattle.std.proofs.lemmas.Bool.{cases_Bool, and_parts, and_from, eqb-true, eq-eqb}
use Rattle.std.proofs.lemmas.Option.{none-some}
use Rattle.std.proofs.lemmas.List.{map-id}
use Rattle.namespace_id.specs.declared.namespaces.Namespace.{Namespace}
use Rattle.namespace_id.specs.Lists.{ascending}
use Rattle.data_header.specs.Headers.{Roots}
use Rattle.axis_roots.specs.declared.answers.NsEntry.{NsEntry}
use Rattle.square_serve.specs.Answers.{is_wanted, is_placed, misplaced_from, wanted_rows, first_misplaced}
use Rattle.square_serve.specs.Placed.{stands_at, IsPlacedEntry}
use Rattle.square_serve.proofs.PassingLemmas.{each_passing}

-- ---- one step

-- a wanted row whose entry stands there
pub placed_next : (k number row : ℕ) (wanted : List ℕ) (answer : List NsEntry) → stands_at k row answer ≡ true
    → misplaced_from k number (row ∷ wanted) answer ≡ misplaced_from k (suc number) wanted (drop 1 answer)
unfolding misplaced_from
placed_next k number row wanted [] h = absurd cc
placed_next k number row wanted (entry ∷ answer) h = ap (λ (b : Bool). cond b (misplaced_from k (suc number) wanted answer) (Some number)) h

-- a wanted row whose entry doesn't
pub misplaced_here : (k number row : ℕ) (wanted : List ℕ) (answer : List NsEntry) → stands_at k row answer ≡ false
    → misplaced_from k number (row ∷ wanted) answer ≡ Some number
unfolding misplaced_from
misplaced_here k number row wanted [] h = refl
misplaced_here k number row wanted (entry ∷ answer) h = ap (λ (b : Bool). cond b (misplaced_from k (suc number) wanted answer) (Some number)) h

-- no wanted row is left
pub misplaced_end : (k number : ℕ) (answer : List NsEntry) → 0 < length answer → misplaced_from k number [] answer ≡ Some number
unfolding misplaced_from
misplaced_end k number [] h = absurd (omega arith)
misplaced_end k number (entry ∷ answer) h = refl

-- and no entry
pub placed_end : (k number : ℕ) (answer : List NsEntry) → length answer ≡ 0 → misplaced_from k number [] answer ≡ None
unfolding misplaced_from
placed_end k number [] h = refl
placed_end k number (entry ∷ answer) h = absurd (omega arith)

-- ---- all entries stand where they should

-- an entry that is not that of the row, or isn't placed, ends the walk
placed_here : (k number row : ℕ) (wanted : List ℕ) (entry : NsEntry) (answer : List NsEntry) → misplaced_from k number (row ∷ wanted) (entry ∷ answer) ≡ None
    → (entry.row ≡ row) × (is_placed k entry.found ≡ true) × (misplaced_from k (suc number) wanted answer ≡ None)
placed_here k number row wanted entry answer e = elim (cases_Bool (stands_at k row (entry ∷ answer))) [
  | inl t ↦
      let both = and_parts (entry.row == row) (is_placed k entry.found) t in
      (eqb-true _ _ both.0, both.1, sym (placed_next k number row wanted (entry ∷ answer) t) ∙ e)
  | inr f ↦ absurd (none-some _ (sym e ∙ misplaced_here k number row wanted (entry ∷ answer) f))
]

-- where none is misplaced, the rows are the wanted ones, and each entry is placed
pub none_misplaced : (k number : ℕ) (wanted : List ℕ) (answer : List NsEntry) → misplaced_from k number wanted answer ≡ None
    → (map (λ entry. entry.row) answer ≡ wanted) × AllByRecursion (λ entry. is_placed k entry.found ≡ true) answer
none_misplaced k number [] [] e = (refl, tt)
none_misplaced k number [] (entry ∷ answer) e = absurd (none-some _ (sym e ∙ misplaced_end k number (entry ∷ answer) (omega arith)))
none_misplaced k number (row ∷ wanted) [] e = absurd (none-some _ (sym e ∙ misplaced_here k number row wanted [] refl))
none_misplaced k number (row ∷ wanted) (entry ∷ answer) e =
    let here = placed_here k number row wanted entry answer e in
    let rest = none_misplaced k (suc number) wanted answer here.2 in
    (ap₂ (λ (r : ℕ) (rs : List ℕ). r ∷ rs) here.0 rest.0, (here.1, rest.1))

-- and the other way round
pub all_placed : (k number : ℕ) (wanted : List ℕ) (answer : List NsEntry) → map (λ entry. entry.row) answer ≡ wanted
    → AllByRecursion (λ entry. is_placed k entry.found ≡ true) answer → misplaced_from k number wanted answer ≡ None
all_placed k number [] [] e each = placed_end k number [] refl
all_placed k number [] (entry ∷ answer) e each = absurd cc
all_placed k number (row ∷ wanted) [] e each = absurd cc
all_placed k number (row ∷ wanted) (entry ∷ answer) e each =
    let first : entry.row ≡ row = cc in
    let rest : map (λ x. x.row) answer ≡ wanted = cc in
    placed_next k number row wanted (entry ∷ answer) (and_from (entry.row == row) (is_placed k entry.found) (eq-eqb _ _ first) each.0)
    ∙ all_placed k (suc number) wanted answer rest each.1

-- the wanted rows are below k
pub wanted_below : (p : ℕ → Bool) (k : ℕ) → AllByRecursion (λ row. row < k) (filter p (ascending 0 k))
wanted_below p k = subst (AllByRecursion (λ row. row < k)) (map-id (filter p (ascending 0 k))) (each_passing p (λ i. i) (λ row. row < k) k 0 (λ i low high is. omega (arith, high)))

-- entries of rows below k that are placed stand in the original square
pub placed_rows : (k : ℕ) (wanted : List ℕ) (answer : List NsEntry) → AllByRecursion (λ row. row < k) wanted → map (λ entry. entry.row) answer ≡ wanted
    → AllByRecursion (λ entry. is_placed k entry.found ≡ true) answer → AllByRecursion (IsPlacedEntry k) answer
placed_rows k wanted [] below e each = tt
placed_rows k [] (entry ∷ answer) below e each = absurd cc
placed_rows k (row ∷ wanted) (entry ∷ answer) below e each =
    let first : entry.row ≡ row = cc in
    let rest : map (λ x. x.row) answer ≡ wanted = cc in
    (record { row = subst (λ (r : ℕ). r < k) (sym first) below.0; found = each.0 }, placed_rows k wanted answer below.1 rest each.1)

-- where none is misplaced, each entry stands in the original square
pub placed_entries : (header : Roots) (name : Namespace) (answer : List NsEntry) → None ≡ first_misplaced header name answer
    → AllByRecursion (IsPlacedEntry header.k) answer
placed_entries header name answer e =
    let both = none_misplaced header.k 0 (wanted_rows header name) answer (sym e) in
    placed_rows header.k (wanted_rows header name) answer (wanted_below (is_wanted header name) header.k) both.0 both.1
