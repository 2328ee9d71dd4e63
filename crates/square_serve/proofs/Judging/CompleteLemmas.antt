-- An answer is complete exactly where no check of it fails.
use Rattle.std.proofs.Common.{◌≡◌, ℕ, suc, ◌*◌, List, [], ◌∷◌, Bool, true, false, if◌then◌else◌, Option, Some, None, refl}
use Rattle.std.specs.List.{AllByRecursion}
use Rattle.std.specs.Option.{option_map, option_map_or}
use Rattle.namespace_id.specs.declared.namespaces.Namespace.{Namespace}
use Rattle.namespace_id.specs.declared.digests.Digest.{Digest}
use Rattle.namespace_id.specs.declared.cells.Axis.TheVariants.{Row}
use Rattle.namespace_id.specs.Names.{is_parity}
use Rattle.namespace_id.proofs.RefusalLemmas.{both_none, none_both}
use Rattle.nmt_tree.specs.Roots.{halvings}
use Rattle.nmt_proofs.specs.declared.opening.OpenRefusal.{OpenRefusal}
use Rattle.nmt_proofs.specs.Openings.{has_count, has_order, has_root, leaves_from, one_digest}
use Rattle.nmt_proofs.specs.Complete.{range_break, absence_break}
use Rattle.nmt_proofs.specs.Causes.{opening_refusal}
use Rattle.nmt_proofs.proofs.Parts.ListLemmas.{each-then}
use Rattle.data_header.specs.Headers.{Roots, root_of}
use Rattle.axis_roots.specs.declared.answers.Found.{Found}
use Rattle.axis_roots.specs.declared.answers.Found.TheVariants.{Range, Absence}
use Rattle.axis_roots.specs.declared.answers.NsEntry.{NsEntry}
use Rattle.square_serve.specs.declared.checking.NsRefusal.TheVariants.{Parity, Rows, Proof}
use Rattle.square_serve.specs.Answers.{OpensFound, found_refusal, wanted_rows, is_placed, HoldsEntry, IsComplete, refused_from, first_misplaced, first_refused, answer_refusal}
use Rattle.square_serve.proofs.Judging.EachLemmas.{each_from}
use Rattle.square_serve.proofs.Judging.PlaceLemmas.{none_misplaced, all_placed}

-- ---- one opening

-- where no check of an opening fails, all four hold
opening-none : (count order root : Bool) (break : Option ℕ) → opening_refusal count order root break ≡ None
    → (count ≡ true) × (order ≡ true) × (root ≡ true) × (break ≡ None)
opening-none true true true None e = (refl, refl, refl, refl)
opening-none true true true (Some i) e = absurd cc
opening-none true true false break e = absurd cc
opening-none true false root break e = absurd cc
opening-none false order root break e = absurd cc

-- and the other way round
opening-holds : (count order root : Bool) (break : Option ℕ) → count ≡ true → order ≡ true → root ≡ true → break ≡ None
    → opening_refusal count order root break ≡ None
opening-holds true true true None c o r b = refl
opening-holds true true true (Some i) c o r b = absurd cc
opening-holds true true false break c o r b = absurd cc
opening-holds true false root break c o r b = absurd cc
opening-holds false order root break c o r b = absurd cc

-- what is found opens where no check of it fails
found-opens : (k : ℕ) (root : Digest) (name : Namespace) (found : Found) → found_refusal k root name found ≡ None → OpensFound k root name found
found-opens k root name (Range start shares nodes) e =
    let d : ℕ = halvings (2 * k) in
    let all = opening-none (has_count d (leaves_from start name shares) nodes) (has_order d (leaves_from start name shares) nodes)
    (has_root d (leaves_from start name shares) nodes root) (range_break d start name shares nodes) e in
    record { opens = record { count = all.0; order = all.1; value = all.2 }; complete = all.3 }
found-opens k root name (Absence pos leaf nodes) e =
    let d : ℕ = halvings (2 * k) in
    let all = opening-none (has_count d (one_digest pos leaf) nodes) (has_order d (one_digest pos leaf) nodes)
    (has_root d (one_digest pos leaf) nodes root) (absence_break d pos name leaf nodes) e in
    record { opens = record { count = all.0; order = all.1; value = all.2 }; complete = all.3 }

-- and the other way round
found-none : (k : ℕ) (root : Digest) (name : Namespace) (found : Found) → OpensFound k root name found → found_refusal k root name found ≡ None
found-none k root name (Range start shares nodes) h =
    let d : ℕ = halvings (2 * k) in
    opening-holds (has_count d (leaves_from start name shares) nodes) (has_order d (leaves_from start name shares) nodes)
    (has_root d (leaves_from start name shares) nodes root) (range_break d start name shares nodes) h.opens.count h.opens.order h.opens.value h.complete
found-none k root name (Absence pos leaf nodes) h =
    let d : ℕ = halvings (2 * k) in
    opening-holds (has_count d (one_digest pos leaf) nodes) (has_order d (one_digest pos leaf) nodes)
    (has_root d (one_digest pos leaf) nodes root) (absence_break d pos name leaf nodes) h.opens.count h.opens.order h.opens.value h.complete

-- ---- all entries

-- an entry opens under the root of its row
abbrev OpensEntry : Roots → Namespace → NsEntry → Type 0
OpensEntry header name entry = OpensFound header.k (root_of header Row entry.row) name entry.found

-- where none is refused, each entry opens
refused-none : (header : Roots) (name : Namespace) (number : ℕ) (answer : List NsEntry) → refused_from header name number answer ≡ None
    → AllByRecursion (OpensEntry header name) answer
unfolding refused_from
refused-none header name number [] e = tt
refused-none header name number (entry ∷ answer) e =
    let root : Digest = root_of header Row entry.row in
    let both = both_none (λ why. (number, why)) (found_refusal header.k root name entry.found) (refused_from header name (suc number) answer) e in
    (found-opens header.k root name entry.found both.0, refused-none header name (suc number) answer both.1)

-- and the other way round
each-opens : (header : Roots) (name : Namespace) (number : ℕ) (answer : List NsEntry) → AllByRecursion (OpensEntry header name) answer
    → refused_from header name number answer ≡ None
unfolding refused_from
each-opens header name number [] each = refl
each-opens header name number (entry ∷ answer) each =
    let root : Digest = root_of header Row entry.row in
    none_both (λ why. (number, why)) (found_refusal header.k root name entry.found) (refused_from header name (suc number) answer)
    (found-none header.k root name entry.found each.0) (each-opens header name (suc number) answer each.1)

-- ---- the three checks

-- where no check of an answer fails, all three hold
checks-none : (parity : Bool) (place : Option ℕ) (opening : Option (ℕ × OpenRefusal))
    → (if parity then Some Parity else option_map_or (λ i. Some (Rows i)) place (option_map (λ x. Proof x.0 x.1) opening)) ≡ None
    → (parity ≡ false) × (place ≡ None) × (opening ≡ None)
checks-none true place opening e = absurd cc
checks-none false (Some i) opening e = absurd cc
checks-none false None (Some x) e = absurd cc
checks-none false None None e = (refl, refl, refl)

-- and the other way round
checks-hold : (parity : Bool) (place : Option ℕ) (opening : Option (ℕ × OpenRefusal)) → parity ≡ false → place ≡ None → opening ≡ None
    → (if parity then Some Parity else option_map_or (λ i. Some (Rows i)) place (option_map (λ x. Proof x.0 x.1) opening)) ≡ None
checks-hold true place opening p m o = absurd cc
checks-hold false (Some i) opening p m o = absurd cc
checks-hold false None (Some x) p m o = absurd cc
checks-hold false None None p m o = refl

-- an answer of which no check fails is complete
none_refused : (header : Roots) (name : Namespace) (answer : List NsEntry) → answer_refusal header name answer ≡ None → IsComplete header name answer
none_refused header name answer e =
    let all = checks-none (is_parity name) (first_misplaced header name answer) (first_refused header name answer) e in
    let places = none_misplaced header.k 0 (wanted_rows header name) answer all.1 in
    record {
      other = all.0;
      rows = places.0;
      entries = each_from (λ entry. is_placed header.k entry.found ≡ true) (OpensEntry header name) (HoldsEntry header name)
          (λ entry placed opens. record { placed = placed; opens = opens }) answer places.1 (refused-none header name 0 answer all.2);
    }

-- no check of a complete answer fails
complete-none : (header : Roots) (name : Namespace) (answer : List NsEntry) → IsComplete header name answer → answer_refusal header name answer ≡ None
complete-none header name answer h =
    let placed = each-then (HoldsEntry header name) (λ entry. is_placed header.k entry.found ≡ true) (λ entry holds. holds.placed) answer h.entries in
    let opens = each-then (HoldsEntry header name) (OpensEntry header name) (λ entry holds. holds.opens) answer h.entries in
    checks-hold (is_parity name) (first_misplaced header name answer) (first_refused header name answer) h.other
    (all_placed header.k 0 (wanted_rows header name) answer h.rows placed) (each-opens header name 0 answer opens)

-- an answer is complete exactly where no check fails
pub complete_where : (header : Roots) (name : Namespace) (answer : List NsEntry)
    → (answer_refusal header name answer ≡ None → IsComplete header name answer) × (IsComplete header name answer → answer_refusal header name answer ≡ None)
complete_where header name answer = (none_refused header name answer, complete-none header name answer)
