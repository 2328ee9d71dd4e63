-- What blobs ask for, one after another, and what is known of the blobs at shares.
use Rattle.std.proofs.Common.{true, false, ◌≡◌, ◌∙◌, ℕ, ◌+◌, ◌<◌, ◌≤◌, ◌&&◌, ◌==◌, ◌^◌, min, Bool, List, [], ◌∷◌, ◌++◌, length, drop, map, replicate, set, get_or, Option, Some, None, option_map, refl, sym, ap, ap₂, subst, arith, inl, inr}
use Rattle.std.specs.List.{list_all}
use Rattle.std.specs.Option.{option_map_or}
use Rattle.std.proofs.lemmas.Bool.{cases_Bool, eqb-true, eqb-false}
use Rattle.std.proofs.lemmas.List.{length-replicate, get_or-set_same, get_or-set_other, get_or-replicate, length-set, drop_more}
use Rattle.std.proofs.lemmas.List.Folds.{list_all-append}
use Rattle.std.proofs.lemmas.Option.{slice_get_within, slice_get-get_or, get_or_from_slice_get}
use Rattle.namespace_id.specs.declared.shares.Share.{Share}
use Rattle.share_split.specs.Blobs.{NamedBytes}
use Rattle.square_layout.specs.Plans.{blobs_bound}
use Rattle.square_layout.specs.Refusals.{most_named}
use Rattle.tx_list.specs.declared.measuring.Measure.{Measure}
use Rattle.tx_list.specs.Payments.{blobs_of}
use Rattle.tx_list.specs.Unwrapped.{wrapped_tx}
use Rattle.tx_list.specs.BackRefusals.{blob_at, blobs_at, payment_at}
use Rattle.tx_list.specs.Measures.{is_named_again, measure_of, measure_at, AreKnown, HaveLengths}

-- ---- blobs one after another

pub bound-append : (xs ys : List NamedBytes) → blobs_bound (xs ++ ys) ≡ blobs_bound xs + blobs_bound ys
unfolding blobs_bound
bound-append [] ys = omega arith
bound-append (blob ∷ xs) ys = omega (arith, bound-append xs ys)

-- what was measured, and blobs behind it
abbrev pub with : Measure → List NamedBytes → Measure
with all blobs = record { bound = min (all.bound + blobs_bound blobs) most_named; named = all.named && list_all is_named_again blobs }

both_named : (a b c : Bool) → (a && (b && c)) ≡ ((a && b) && c)
both_named true b c = refl
both_named false b c = refl

-- the next ones are measured
pub with_more : (all next some : Measure) (xs rest : List NamedBytes) (whole : Measure) → some ≡ measure_of xs → next.bound ≡ min (all.bound + some.bound) most_named
    → next.named ≡ (all.named && some.named) → with all (xs ++ rest) ≡ whole → with next rest ≡ whole
with_more all next some xs rest whole is bound named so_far =
    let own : some.bound ≡ min (blobs_bound xs) most_named = ap (λ (m : Measure). m.bound) is in
    let own_named : some.named ≡ list_all is_named_again xs = ap (λ (m : Measure). m.named) is in
    let sum : min (next.bound + blobs_bound rest) most_named ≡ min (all.bound + blobs_bound (xs ++ rest)) most_named =
    omega (arith, own, bound, bound-append xs rest) in
    let each : (next.named && list_all is_named_again rest) ≡ (all.named && list_all is_named_again (xs ++ rest)) =
    ap (λ (b : Bool). b && list_all is_named_again rest) (named ∙ ap (λ (b : Bool). all.named && b) own_named)
    ∙ sym (both_named all.named (list_all is_named_again xs) (list_all is_named_again rest))
    ∙ ap (λ (b : Bool). all.named && b) (sym (list_all-append is_named_again xs rest)) in
    let same : with next rest ≡ with all (xs ++ rest) = ap₂ (λ (n : ℕ) (b : Bool). record { bound = n; named = b }) sum each in
    same ∙ so_far

last_named : (a : Bool) → (a && true) ≡ a
last_named true = refl
last_named false = refl

-- none is left
pub with_none : (all : Measure) (rest : List NamedBytes) (whole : Measure) → rest ≡ [] → all.bound ≤ most_named → with all rest ≡ whole → all ≡ whole
unfolding blobs_bound
with_none all rest whole none fits so_far =
    let zero : blobs_bound rest ≡ 0 = ap blobs_bound none in
    let sum : all.bound ≡ min (all.bound + blobs_bound rest) most_named = omega (arith, zero, fits) in
    let each : all.named ≡ (all.named && list_all is_named_again rest) =
    sym (ap (λ (l : List NamedBytes). all.named && list_all is_named_again l) none ∙ last_named all.named) in
    ap₂ (λ (n : ℕ) (b : Bool). record { bound = n; named = b }) sum each ∙ so_far

-- ---- what is known

-- nothing is known of any share
pub none_known : (shares : List Share) (count : ℕ) → AreKnown shares (replicate count None)
none_known shares count = λ place measure e.
    let lt : place < count = omega (arith, slice_get_within (replicate count None) place (Some measure) e, length-replicate {A = Option Measure} count None) in
    let none : get_or (replicate count None) place (Some measure) ≡ None = get_or-replicate count place None (Some measure) lt in
    let some : get_or (replicate count None) place (Some measure) ≡ Some measure = get_or_from_slice_get (replicate count None) place (Some measure) (Some measure) e in
    absurd cc

-- what is found at a place is known
pub one_known : (shares : List Share) (known : List (Option Measure)) (place : ℕ) (found : Option Measure) → AreKnown shares known → place < length known
    → found ≡ measure_at shares place → AreKnown shares (set known place found)
one_known shares known place found all lt is = λ at measure e.
    let new : List (Option Measure) = set known place found in
    let got : get_or new at None ≡ Some measure = get_or_from_slice_get new at (Some measure) None e in
    let within : at < length known = omega (arith, slice_get_within new at (Some measure) e, length-set known place found) in
    elim (cases_Bool (at == place)) [
      | inl same ↦
          let where_at : at ≡ place = eqb-true at place same in
          let here : get_or new at None ≡ found = ap (λ (n : ℕ). get_or new n None) where_at ∙ get_or-set_same known place found None lt in
          ap (measure_at shares) where_at ∙ sym is ∙ sym here ∙ got
      | inr other ↦
          let differs : at ≡ place → ⊥ = eqb-false at place other in
          let here : get_or new at None ≡ get_or known at None = get_or-set_other known place at found None differs in
          all at measure (slice_get-get_or known at None within ∙ ap Some (sym here ∙ got))
    ]

-- ---- one step more

-- nothing was measured, or one blob
pub found_none : (found : Option NamedBytes) → option_map (λ blob. measure_of (blob ∷ [])) found ≡ None → found ≡ None
found_none None e = refl
found_none (Some one) e = absurd cc

pub found_some : (found : Option NamedBytes) (measure : Measure) → option_map (λ blob. measure_of (blob ∷ [])) found ≡ Some measure
    → (one : NamedBytes) × ((found ≡ Some one) × (measure ≡ measure_of (one ∷ [])))
found_some None measure e = absurd cc
found_some (Some one) measure e = let same : measure_of (one ∷ []) ≡ measure = cc in (one, (refl, sym same))

-- the blob at the next place is measured
pub place_measured : (j : ℕ) (shares : List Share) (places : List ℕ) (one : NamedBytes) (all next some whole : Measure) → j < length places
    → blob_at shares (get_or places j 0) ≡ Some one → some ≡ measure_of (one ∷ []) → next.bound ≡ min (all.bound + some.bound) most_named
    → next.named ≡ (all.named && some.named) → with all (blobs_at shares (drop j places)) ≡ whole → with next (blobs_at shares (drop (j + 1) places)) ≡ whole
place_measured j shares places one all next some whole lt found is bound named so_far =
    let rest : List NamedBytes = blobs_at shares (drop (j + 1) places) in
    let here : blobs_at shares (drop j places) ≡ one ∷ rest =
    ap (blobs_at shares) (drop_more places j 0 lt) ∙ ap (λ (o : Option NamedBytes). option_map_or (λ b. b ∷ []) o [] ++ rest) found in
    with_more all next some (one ∷ []) rest whole is bound named (ap (with all) (sym here) ∙ so_far)

-- those of the next payment are
pub payment_measured : (shares : List Share) (unit : List ℕ) (left others : List (List ℕ)) (all next some whole : Measure) → left ≡ unit ∷ others
    → some ≡ measure_of (payment_at shares unit).blobs → next.bound ≡ min (all.bound + some.bound) most_named → next.named ≡ (all.named && some.named)
    → with all (blobs_of (map (payment_at shares) left)) ≡ whole → with next (blobs_of (map (payment_at shares) others)) ≡ whole
payment_measured shares unit left others all next some whole left_is is bound named so_far =
    with_more all next some (payment_at shares unit).blobs (blobs_of (map (payment_at shares) others)) whole is bound named
    (ap (λ (l : List (List ℕ)). with all (blobs_of (map (payment_at shares) l))) (sym left_is) ∙ so_far)

pub counted_more : (unit : List ℕ) (left others : List (List ℕ)) (whole : List (List ℕ)) → left ≡ unit ∷ others → length (wrapped_tx unit) < 2 ^ 64
    → (HaveLengths left → HaveLengths whole) → HaveLengths others → HaveLengths whole
counted_more unit left others whole is counted so_far rest = so_far (subst HaveLengths (sym is) (counted, rest))
