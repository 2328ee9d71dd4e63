-- The order of blobs in a square: their namespaces never fall, and blobs of one namespace stay in order.
use Rattle.std.proofs.Common.{◌≡◌, ◌∙◌, ℕ, Bool, true, if◌then◌else◌, ◌&&◌, List, [], ◌∷◌, filter, map, None, refl, sym, ap}
use Rattle.std.proofs.lemmas.Slice.Eq.{bytes_eq-Decides}
use Rattle.namespace_id.specs.declared.namespaces.Namespace.{Namespace}
use Rattle.namespace_id.specs.Lists.{holds_along}
use Rattle.namespace_id.specs.Names.{is_at_most}
use Rattle.namespace_id.proofs.OrderLemmas.{at_most_refl, at_most_trans, at_most_antisym, at_most_total}
use Rattle.share_split.specs.Blobs.{NamedBytes}
use Rattle.square_layout.specs.Layout.{put_in, in_order, has_name}
use Rattle.square_layout.proofs.SortingLemmas.{Ranks, Rises, put_by, order_by, Rises-order_by, filter-order_by}

-- whether the namespace of a blob is not above that of another
abbrev at_most : NamedBytes → NamedBytes → Bool
at_most a b = is_at_most a.namespace b.namespace

-- whether two blobs have one namespace
abbrev same_name : NamedBytes → NamedBytes → Bool
same_name a b = has_name a.namespace b

-- blobs that are told to have one namespace have it
same_names : (a b : NamedBytes) → same_name a b ≡ true → a.namespace ≡ b.namespace
same_names a b h = ap (λ (l : List ℕ). let x : Namespace = record { 0 = l } in x) ((bytes_eq-Decides a.namespace.0 b.namespace.0).0 h)

-- blobs are ranked by their namespaces
names_rank : Ranks at_most same_name
names_rank = record {
  total = λ x y. at_most_total x.namespace y.namespace;
  trans = λ x y z. at_most_trans x.namespace y.namespace z.namespace;
  parts = λ x y h. (let same : x.namespace ≡ y.namespace = same_names x y h in
      (ap (is_at_most x.namespace) (sym same) ∙ at_most_refl x.namespace, ap (is_at_most y.namespace) same ∙ at_most_refl y.namespace));
  from = λ x y h k. (bytes_eq-Decides x.namespace.0 y.namespace.0).1 (ap (λ (n : Namespace). n.0) (at_most_antisym x.namespace y.namespace h k));
}

-- putting by namespaces is putting in order
put_by-is : (x : NamedBytes) (ys : List NamedBytes) → put_by at_most x ys ≡ put_in x ys
unfolding put_by put_in
put_by-is x [] = refl
put_by-is x (y ∷ ys) = ap (λ (l : List NamedBytes). if at_most x y then x ∷ y ∷ ys else y ∷ l) (put_by-is x ys)

-- ordering by namespaces is the order of a square
order_by-is : (xs : List NamedBytes) → order_by at_most xs ≡ in_order xs
unfolding order_by in_order
order_by-is [] = refl
order_by-is (x ∷ xs) = put_by-is x (order_by at_most xs) ∙ ap (put_in x) (order_by-is xs)

-- the namespaces of rising blobs do not fall
rises_along : (blobs : List NamedBytes) → Rises at_most blobs → holds_along is_at_most (map (λ b. b.namespace) blobs) ≡ true
unfolding holds_along
rises_along [] h = refl
rises_along (blob ∷ []) h = refl
rises_along (blob ∷ next ∷ blobs) h =
    let rest : holds_along is_at_most (map (λ b. b.namespace) (next ∷ blobs)) ≡ true = rises_along (next ∷ blobs) h.1 in
    ap (λ (b : Bool). b && holds_along is_at_most (map (λ b. b.namespace) (next ∷ blobs))) h.0.0 ∙ rest

-- the namespaces of blobs in order do not fall
pub in_order-ascends : (blobs : List NamedBytes) → holds_along is_at_most (map (λ b. b.namespace) (in_order blobs)) ≡ true
in_order-ascends blobs =
    ap (λ (l : List NamedBytes). holds_along is_at_most (map (λ b. b.namespace) l)) (sym (order_by-is blobs))
    ∙ rises_along (order_by at_most blobs) (Rises-order_by names_rank blobs)

-- the blobs of one namespace stay in the order in which they came
pub filter-in_order : (name : Namespace) (blobs : List NamedBytes) → filter (has_name name) (in_order blobs) ≡ filter (has_name name) blobs
filter-in_order name blobs =
    ap (filter (has_name name)) (sym (order_by-is blobs)) ∙ filter-order_by names_rank (record { namespace = name; bytes = []; signer = None }) blobs
