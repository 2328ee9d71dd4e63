-- One step more of the walks from a square back to its list.
use Rattle.std.proofs.Common.{true, false, cond, ◌≡◌, ◌∙◌, ◌⊎◌, inl, inr, ℕ, suc, ◌+◌, ◌*◌, ◌<◌, ◌≤◌, not, min, Bool, List, [], ◌∷◌, ◌++◌, length, take, drop, map, get_or, Option, Some, None, refl, sym, ap, ap₂, arith, append_assoc, length-take}
use Rattle.std.specs.Option.{is_some, option_map_or, option_or}
use Rattle.std.specs.Str.{bytes_eq}
use Rattle.std.proofs.lemmas.Bool.{cases_lt, eq-eqb}
use Rattle.std.proofs.lemmas.List.{drop_more, drop_all, take_all}
use Rattle.std.proofs.lemmas.Option.{slice_get-get_or}
use Rattle.namespace_id.specs.declared.namespaces.Namespace.{Namespace}
use Rattle.namespace_id.specs.declared.shares.Share.{Share}
use Rattle.share_split.specs.Blobs.{NamedBytes}
use Rattle.square_layout.specs.Blocks.{SquareShares}
use Rattle.tx_list.specs.declared.refusals.BackError.{BackError}
use Rattle.tx_list.specs.declared.refusals.BackError.TheVariants.{Index, NoMemory}
use Rattle.tx_list.specs.Spelled.{payment_spelling}
use Rattle.tx_list.specs.BackRefusals.{has_namespace, run_of, stated_count, sequence_at, blob_at, blobs_at, places_refusal, payment_at, wrapper_refusal, wrappers_refusal, first_unlike, unlike_at}

-- ---- runs

-- the run ends at a share of another namespace
pub run_stop : (name : Namespace) (shares : List Share) (count : ℕ) (d : Share) → count < length shares → false ≡ has_namespace name (get_or shares count d)
    → length (run_of name shares) ≡ count + length (run_of name (drop count shares)) → count ≡ length (run_of name shares)
unfolding run_of
run_stop name shares count d lt h so_far =
    let share : Share = get_or shares count d in
    let none : run_of name (drop count shares) ≡ [] =
    ap (run_of name) (drop_more shares count d lt)
    ∙ ap (λ (b : Bool). cond b (share ∷ run_of name (drop (count + 1) shares)) []) (sym h) in
    omega (arith, so_far, ap length none)

-- it goes on with one of its own
pub run_on : (name : Namespace) (shares : List Share) (count : ℕ) (d : Share) → count < length shares → true ≡ has_namespace name (get_or shares count d)
    → length (run_of name shares) ≡ count + length (run_of name (drop count shares))
    → length (run_of name shares) ≡ count + 1 + length (run_of name (drop (count + 1) shares))
unfolding run_of
run_on name shares count d lt h so_far =
    let share : Share = get_or shares count d in
    let rest : List Share = run_of name (drop (count + 1) shares) in
    let more : run_of name (drop count shares) ≡ share ∷ rest =
    ap (run_of name) (drop_more shares count d lt) ∙ ap (λ (b : Bool). cond b (share ∷ rest) []) (sym h) in
    omega (arith, so_far, ap length more)

-- no share is left
pub run_end : (name : Namespace) (shares : List Share) (count : ℕ) → length shares ≤ count → count ≤ length shares
    → length (run_of name shares) ≡ count + length (run_of name (drop count shares)) → length shares ≡ length (run_of name shares)
unfolding run_of
run_end name shares count le ge so_far =
    let none : run_of name (drop count shares) ≡ [] = ap (run_of name) (drop_all count shares le) in omega (arith, so_far, ap length none)

-- the run is what stands at the front
pub run_taken : (name : Namespace) (shares : List Share) → take (length (run_of name shares)) shares ≡ run_of name shares
unfolding run_of
run_taken name [] = refl
run_taken name (share ∷ shares) = elim (has_namespace name share) as (λ b. take (length (cond b (share ∷ run_of name shares) [])) (share ∷ shares) ≡ cond b (share ∷ run_of name shares) []) [
  | true ↦ ap (λ (l : List Share). share ∷ l) (run_taken name shares)
  | false ↦ refl
]

pub run_few : (name : Namespace) (shares : List Share) → length (run_of name shares) ≤ length shares
run_few name shares = omega (arith, ap length (run_taken name shares), length-take (length (run_of name shares)) shares)

-- ---- sequences

take_min : (n : ℕ) (xs : List Share) → take (min n (length xs)) xs ≡ take n xs
take_min n xs = elim (cases_lt (length xs) n) [
  | inl more ↦ (let e : min n (length xs) ≡ length xs = omega arith in
      ap (λ (m : ℕ). take m xs) e ∙ take_all (length xs) xs (omega arith) ∙ sym (take_all n xs (omega arith)))
  | inr few ↦ (let e : min n (length xs) ≡ n = omega arith in ap (λ (m : ℕ). take m xs) e)
]

-- the shares that the first one states
pub sequence_is : (shares rest : List Share) (place count n : ℕ) (d : Share) → place < length shares → rest ≡ drop place shares
    → n ≡ stated_count (get_or rest 0 d) → count ≡ min n (length rest) → take count rest ≡ sequence_at shares place
sequence_is shares rest place count n d lt is stated bounded =
    let share : Share = get_or shares place d in
    let first : get_or rest 0 d ≡ share = ap (λ (l : List Share). get_or l 0 d) (is ∙ drop_more shares place d lt) in
    ap (λ (m : ℕ). take m rest) bounded
    ∙ take_min n rest
    ∙ ap₂ take (stated ∙ ap stated_count first) is
    ∙ sym (ap (λ (o : Option Share). option_map_or (λ s. take (stated_count s) (drop place shares)) o []) (slice_get-get_or shares place d lt))

-- ---- places

-- no blob begins at the next place
pub place_missing : (i j : ℕ) (shares : List Share) (places : List ℕ) (whole : Option BackError) → j < length places
    → blob_at shares (get_or places j 0) ≡ None → whole ≡ places_refusal i j shares (drop j places) → whole ≡ Some (Index i j)
unfolding places_refusal
place_missing i j shares places whole lt none so_far =
    so_far ∙ ap (places_refusal i j shares) (drop_more places j 0 lt)
    ∙ ap (λ (o : Option NamedBytes). cond (is_some o) (places_refusal i (suc j) shares (drop (j + 1) places)) (Some (Index i j))) none

-- one does
pub place_passed : (i j : ℕ) (shares : List Share) (places : List ℕ) (one : NamedBytes) (whole : Option BackError) → j < length places
    → blob_at shares (get_or places j 0) ≡ Some one → whole ≡ places_refusal i j shares (drop j places)
    → whole ≡ places_refusal i (j + 1) shares (drop (j + 1) places)
unfolding places_refusal
place_passed i j shares places one whole lt some so_far =
    let next : suc j ≡ j + 1 = omega arith in
    so_far ∙ ap (places_refusal i j shares) (drop_more places j 0 lt)
    ∙ ap (λ (o : Option NamedBytes). cond (is_some o) (places_refusal i (suc j) shares (drop (j + 1) places)) (Some (Index i j))) some
    ∙ ap (λ (n : ℕ). places_refusal i n shares (drop (j + 1) places)) next

-- and it is one more
pub blob_more : (j : ℕ) (shares : List Share) (places : List ℕ) (one : NamedBytes) (out new whole : List NamedBytes) → j < length places
    → blob_at shares (get_or places j 0) ≡ Some one → new ≡ out ++ one ∷ [] → out ++ blobs_at shares (drop j places) ≡ whole
    → new ++ blobs_at shares (drop (j + 1) places) ≡ whole
blob_more j shares places one out new whole lt some is so_far =
    let rest : List NamedBytes = blobs_at shares (drop (j + 1) places) in
    let here : blobs_at shares (drop j places) ≡ one ∷ rest =
    ap (blobs_at shares) (drop_more places j 0 lt) ∙ ap (λ (o : Option NamedBytes). option_map_or (λ b. b ∷ []) o [] ++ rest) some in
    ap (λ (l : List NamedBytes). l ++ rest) is ∙ append_assoc out (one ∷ []) rest ∙ sym (ap (λ (l : List NamedBytes). out ++ l) here) ∙ so_far

-- no place is left
pub places_end : (i j : ℕ) (shares : List Share) (places : List ℕ) (whole : Option BackError) → length places ≤ j
    → whole ≡ places_refusal i j shares (drop j places) → whole ≡ None
unfolding places_refusal
places_end i j shares places whole le so_far = so_far ∙ ap (places_refusal i j shares) (drop_all j places le)

-- ---- payments

-- the next unit isn't one
pub wrapper_found : (i : ℕ) (shares : List Share) (unit : List ℕ) (left others : List (List ℕ)) (why : BackError) (whole : Option BackError)
    → left ≡ unit ∷ others → (why ≡ NoMemory) ⊎ (wrapper_refusal i shares unit ≡ Some why) → whole ≡ wrappers_refusal i shares left
    → (why ≡ NoMemory) ⊎ (whole ≡ Some why)
unfolding wrappers_refusal
wrapper_found i shares unit left others why whole is (inl full) so_far = inl full
wrapper_found i shares unit left others why whole is (inr refused) so_far =
    inr (so_far ∙ ap (wrappers_refusal i shares) is ∙ ap (λ (o : Option BackError). option_or o (wrappers_refusal (suc i) shares others)) refused)

-- it is one
pub wrapper_passed : (i : ℕ) (shares : List Share) (unit : List ℕ) (left others : List (List ℕ)) (whole : Option BackError) → left ≡ unit ∷ others
    → wrapper_refusal i shares unit ≡ None → whole ≡ wrappers_refusal i shares left → whole ≡ wrappers_refusal (i + 1) shares others
unfolding wrappers_refusal
wrapper_passed i shares unit left others whole is none so_far =
    let next : suc i ≡ i + 1 = omega arith in
    so_far ∙ ap (wrappers_refusal i shares) is ∙ ap (λ (o : Option BackError). option_or o (wrappers_refusal (suc i) shares others)) none
    ∙ ap (λ (n : ℕ). wrappers_refusal n shares others) next

-- these units' payments, in their one spelling
abbrev pub payments_spelled : List Share → List (List ℕ) → List (List ℕ)
payments_spelled shares units = map payment_spelling (map (payment_at shares) units)

-- and is one more
pub payment_more : (shares : List Share) (unit payment : List ℕ) (left others out new whole : List (List ℕ)) → left ≡ unit ∷ others
    → payment ≡ payment_spelling (payment_at shares unit) → new ≡ out ++ payment ∷ [] → out ++ payments_spelled shares left ≡ whole
    → new ++ payments_spelled shares others ≡ whole
payment_more shares unit payment left others out new whole is spelling more so_far =
    let rest : List (List ℕ) = payments_spelled shares others in
    ap (λ (l : List (List ℕ)). l ++ rest) more ∙ append_assoc out (payment ∷ []) rest
    ∙ ap (λ (p : List ℕ). out ++ (p ∷ rest)) spelling ∙ sym (ap (λ (l : List (List ℕ)). out ++ payments_spelled shares l) is) ∙ so_far

-- none is left
pub wrappers_end : (i : ℕ) (shares : List Share) (units : List (List ℕ)) (whole : Option BackError) → length units ≤ i
    → whole ≡ wrappers_refusal i shares (drop i units) → whole ≡ None
unfolding wrappers_refusal
wrappers_end i shares units whole le so_far = so_far ∙ ap (wrappers_refusal i shares) (drop_all i units le)

-- ---- two squares

-- what is left begins with the next share
share_next : (xs whole : List Share) (i : ℕ) (x : Share) → xs ≡ whole → i < length xs → x ≡ get_or xs i x → drop i whole ≡ x ∷ drop (i + 1) whole
share_next xs whole i x same lt is =
    ap (drop i) (sym same) ∙ drop_more xs i x lt ∙ ap₂ (λ (y : Share) (l : List Share). y ∷ drop (i + 1) l) (sym is) same

opposite : (b : Bool) → true ≡ not b → b ≡ false
opposite true h = absurd cc
opposite false h = refl

likewise : (b : Bool) → false ≡ not b → b ≡ true
likewise true h = refl
likewise false h = absurd cc

-- both at this share
both_next : (i : ℕ) (a b : Share) (shares others : List Share) (whole : Option ℕ) → drop i shares ≡ a ∷ drop (i + 1) shares
    → drop i others ≡ b ∷ drop (i + 1) others → whole ≡ first_unlike i (drop i shares) (drop i others)
    → whole ≡ cond (bytes_eq a.0 b.0) (first_unlike (suc i) (drop (i + 1) shares) (drop (i + 1) others)) (Some i)
unfolding first_unlike
both_next i a b shares others whole first second so_far = so_far ∙ ap₂ (first_unlike i) first second

-- the next shares differ
pub share_differs : (i : ℕ) (a b : Share) (xs ys shares others : List Share) (whole : Option ℕ) → xs ≡ shares → ys ≡ others → i < length xs → i < length ys
    → a ≡ get_or xs i a → b ≡ get_or ys i b → true ≡ not (bytes_eq a.0 b.0)
    → whole ≡ first_unlike i (drop i shares) (drop i others) → whole ≡ Some i
share_differs i a b xs ys shares others whole s o lt also is are h so_far =
    both_next i a b shares others whole (share_next xs shares i a s lt is) (share_next ys others i b o also are) so_far
    ∙ ap (λ (e : Bool). cond e (first_unlike (suc i) (drop (i + 1) shares) (drop (i + 1) others)) (Some i)) (opposite (bytes_eq a.0 b.0) h)

-- they don't
pub share_passed : (i : ℕ) (a b : Share) (xs ys shares others : List Share) (whole : Option ℕ) → xs ≡ shares → ys ≡ others → i < length xs → i < length ys
    → a ≡ get_or xs i a → b ≡ get_or ys i b → false ≡ not (bytes_eq a.0 b.0)
    → whole ≡ first_unlike i (drop i shares) (drop i others) → whole ≡ first_unlike (i + 1) (drop (i + 1) shares) (drop (i + 1) others)
share_passed i a b xs ys shares others whole s o lt also is are h so_far =
    let next : suc i ≡ i + 1 = omega arith in
    both_next i a b shares others whole (share_next xs shares i a s lt is) (share_next ys others i b o also are) so_far
    ∙ ap (λ (e : Bool). cond e (first_unlike (suc i) (drop (i + 1) shares) (drop (i + 1) others)) (Some i)) (likewise (bytes_eq a.0 b.0) h)
    ∙ ap (λ (n : ℕ). first_unlike n (drop (i + 1) shares) (drop (i + 1) others)) next

-- no share is left
pub shares_end : (i : ℕ) (shares others : List Share) (whole : Option ℕ) → length shares ≤ i → length others ≤ i
    → whole ≡ first_unlike i (drop i shares) (drop i others) → whole ≡ None
unfolding first_unlike
shares_end i shares others whole le also so_far = so_far ∙ ap₂ (first_unlike i) (drop_all i shares le) (drop_all i others also)

-- squares of one width differ where their shares do
pub unlike_by : (square other : SquareShares) (o : Option ℕ) → square.k ≡ other.k → first_unlike 0 square.shares other.shares ≡ o → o ≡ unlike_at square other
unlike_by square other o same is =
    sym (ap (λ (b : Bool). cond b (first_unlike 0 square.shares other.shares) (Some (min square.k other.k * min square.k other.k))) (eq-eqb square.k other.k same) ∙ is)
