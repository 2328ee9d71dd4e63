-- The first entry that doesn't open, and why.
use Rattle.std.proofs.Common.{◌≡◌, ◌∙◌, ℕ, suc, ◌+◌, ◌<◌, ◌≤◌, List, length, drop, get_or, Option, Some, None, sym, ap, arith}
use Rattle.std.specs.Option.{option_map_or}
use Rattle.std.proofs.lemmas.List.{at_drop_more, at_drop_all}
use Rattle.namespace_id.specs.declared.namespaces.Namespace.{Namespace}
use Rattle.namespace_id.specs.declared.cells.Axis.TheVariants.{Row}
use Rattle.nmt_proofs.specs.declared.opening.OpenRefusal.{OpenRefusal}
use Rattle.data_header.specs.Headers.{Roots, root_of}
use Rattle.axis_roots.specs.declared.answers.NsEntry.{NsEntry}
use Rattle.square_serve.specs.Answers.{found_refusal, refused_from}

-- the refusal of an entry, whose row has this root
abbrev pub refusal_of : Roots → Namespace → NsEntry → Option OpenRefusal
refusal_of header name entry = found_refusal header.k (root_of header Row entry.row) name entry.found

-- the first refused entry from one on: that one, or one of the later ones
refused_next : (header : Roots) (name : Namespace) (entries : List NsEntry) (i : ℕ) (e : NsEntry) → i < length entries → e ≡ get_or entries i e
    → refused_from header name i (drop i entries)
    ≡ option_map_or (λ why. Some (i, why)) (refusal_of header name e) (refused_from header name (i + 1) (drop (i + 1) entries))
unfolding refused_from
refused_next header name entries i e h is =
    let next : suc i ≡ i + 1 = omega arith in
    at_drop_more (refused_from header name i) entries i e h
    ∙ ap (λ (x : NsEntry). option_map_or (λ why. Some (i, why)) (refusal_of header name x) (refused_from header name (suc i) (drop (i + 1) entries))) (sym is)
    ∙ ap (λ (n : ℕ). option_map_or (λ why. Some (i, why)) (refusal_of header name e) (refused_from header name n (drop (i + 1) entries))) next

-- an entry that is refused
pub refused_here : (header : Roots) (name : Namespace) (entries : List NsEntry) (i : ℕ) (e : NsEntry) (why : OpenRefusal) → i < length entries
    → e ≡ get_or entries i e → Some why ≡ refusal_of header name e → Some (i, why) ≡ refused_from header name i (drop i entries)
refused_here header name entries i e why h is refused =
    ap (λ (o : Option OpenRefusal). option_map_or (λ x. Some (i, x)) o (refused_from header name (i + 1) (drop (i + 1) entries))) refused
    ∙ sym (refused_next header name entries i e h is)

-- an entry that opens is passed over
pub opened_here : (header : Roots) (name : Namespace) (entries : List NsEntry) (i : ℕ) (e : NsEntry) → i < length entries
    → e ≡ get_or entries i e → None ≡ refusal_of header name e → refused_from header name (i + 1) (drop (i + 1) entries) ≡ refused_from header name i (drop i entries)
opened_here header name entries i e h is opens =
    ap (λ (o : Option OpenRefusal). option_map_or (λ x. Some (i, x)) o (refused_from header name (i + 1) (drop (i + 1) entries))) opens
    ∙ sym (refused_next header name entries i e h is)

-- behind the last entry none is refused
pub refused_none : (header : Roots) (name : Namespace) (entries : List NsEntry) (i : ℕ) → length entries ≤ i → None ≡ refused_from header name i (drop i entries)
unfolding refused_from
refused_none header name entries i h = sym (at_drop_all (refused_from header name i) entries i h)
