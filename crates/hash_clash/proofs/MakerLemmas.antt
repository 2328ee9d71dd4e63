-- Two openings or lists with one root that differ name a clash.
use Rattle.std.proofs.Common.{◌≡◌, ◌∙◌, ◌<◌, ◌^◌, ℕ, List, [], length, get_or, Bool, true, false, ◌&&◌, Option, Some, None, refl, sym, ap, ap₂, subst, arith, IsTrue}
use Rattle.std.specs.Prelude.{MatchOption, IsSomeAnd, IfSome}
use Rattle.std.specs.Bool.{Decides}
use Rattle.std.specs.Str.{bytes_eq}
use Rattle.std.specs.Cmp.Lexicographic.{pointwise}
use Rattle.std.proofs.lemmas.Bool.{both_ways}
use Rattle.std.proofs.lemmas.Option.{get_or_from_slice_get}
use Rattle.std.proofs.lemmas.Slice.Eq.{bytes_eq-Decides, slice_eq-Decides}
use Rattle.namespace_id.specs.declared.namespaces.Namespace.{Namespace}
use Rattle.namespace_id.specs.declared.shares.Share.{Share}
use Rattle.namespace_id.specs.declared.digests.Digest.{Digest}
use Rattle.namespace_id.specs.Shares.{AreShares}
use Rattle.nmt_tree.specs.Roots.{is_leaf_count, halvings, root}
use Rattle.nmt_tree.proofs.CountLemmas.{power_halvings}
use Rattle.namespace_id.specs.Names.{AreNamespaces}
use Rattle.nmt_proofs.specs.Parts.{digest_of}
use Rattle.nmt_proofs.specs.Openings.{one_leaf, opened}
use Rattle.nmt_proofs.specs.Clashes.{IsClash, clash_at, whole, AreLeaves, IsOpening}
use Rattle.nmt_proofs.proofs.Agreement.ListedLemmas.{leaf_law, lists_law}
use Rattle.nmt_proofs.proofs.Agreement.AgreeLemmas.{found_is_clash}
use Rattle.nmt_proofs.proofs.Parts.ShownLemmas.{opening-sized}
use Rattle.nmt_proofs.proofs.Agreement.TwinLemmas.{length-nodes, twins_law}
use Rattle.hash_clash.specs.declared.openings.Opening.{Opening}
use Rattle.hash_clash.specs.Openings.{HasShape, opened_at, is_counted, is_one_name, is_one_share, is_one_digest, is_one_opening, is_leaf_at, is_one_list}

-- two values that are told by their bytes are one exactly where these are
bytes_decide : {A : Type 0} (text : A → List ℕ) (of : List ℕ → A) → ((a : A) → of (text a) ≡ a) → (a b : A) → Decides (bytes_eq (text a) (text b)) (a ≡ b)
bytes_decide text of is a b =
    (λ t. sym (is a) ∙ ap of ((bytes_eq-Decides (text a) (text b)).0 t) ∙ is b, λ e. (bytes_eq-Decides (text a) (text b)).1 (ap text e))

-- two namespaces
name_decides : (a b : Namespace) → Decides (is_one_name a b) (a ≡ b)
name_decides = bytes_decide (λ (x : Namespace). x.0) (λ l. record { 0 = l }) (λ x. refl)

-- two shares
share_decides : (a b : Share) → Decides (is_one_share a b) (a ≡ b)
share_decides = bytes_decide (λ (x : Share). x.0) (λ l. record { 0 = l }) (λ x. refl)

-- two digests
digest_decides : (a b : Digest) → Decides (is_one_digest a b) (a ≡ b)
digest_decides = bytes_decide (λ (x : Digest). x.0) (λ l. record { 0 = l }) (λ x. refl)

-- where a test fails that would hold by a fact, a clash is in hand
some_clash : (found o : Option (List ℕ × List ℕ)) (Fact : Type 0) (test : Bool) → found ≡ o → MatchOption o Fact (λ texts. IsClash texts.0 texts.1) → (Fact → test ≡ true) → test ≡ false
    → IsSomeAnd found (λ texts. IsClash texts.0 texts.1)
some_clash found None Fact test e h holds fails = absurd (both_ways test fails (holds h))
some_clash found (Some texts) Fact test e h holds fails = subst (λ (x : Option (List ℕ × List ℕ)). IsSomeAnd x (λ t. IsClash t.0 t.1)) (sym e) h

-- the number of nodes
pub nodes_fit : (n pos depth : ℕ) (a : Opening) (nodes : List Digest) → is_counted n pos a ≡ true → nodes ≡ a.path → depth ≡ halvings n → length nodes ≡ depth
nodes_fit n pos depth a nodes h e d = ap length e ∙ length-nodes (halvings n) pos a.name a.share a.path h ∙ sym d

-- an opening, by its values
pub opening_of : (n pos : ℕ) (a : Opening) → HasShape a → is_counted n pos a ≡ true → IsOpening (halvings n) (one_leaf pos a.name a.share) a.path
opening_of n pos a h count = record { count = count; parts = ((refl, h.name, h.share), tt); node_bytes = h.nodes }

-- a list of leaves, by its values
pub leaves_of : (n : ℕ) (names : List Namespace) (shares : List Share) → IsTrue (is_leaf_count n) → length names ≡ n → length shares ≡ n → AreNamespaces names → AreShares shares
    → AreLeaves (halvings n) names shares
leaves_of n names shares count h g name_bytes share_bytes =
    let power : n ≡ 2 ^ halvings n = sym (power_halvings n count) in
    record { name_count = h ∙ power; share_count = g ∙ power; name_bytes = name_bytes; share_bytes = share_bytes }

-- what is opened, by the nodes as they are read
pub opened_is : (n pos depth : ℕ) (a : Opening) (nodes : List Digest) → nodes ≡ a.path → depth ≡ halvings n → opened depth 0 (one_leaf pos a.name a.share) nodes ≡ opened_at n pos a
opened_is n pos depth a nodes e d = ap₂ (λ (k : ℕ) (l : List Digest). opened k 0 (one_leaf pos a.name a.share) l) d e

-- two openings
pub paths_clash : (n pos : ℕ) (a b : Opening) (found : Option (List ℕ × List ℕ)) → HasShape a → HasShape b → is_counted n pos a ≡ true → is_counted n pos b ≡ true
    → digest_of (opened_at n pos a) ≡ digest_of (opened_at n pos b) → is_one_opening a b ≡ false → found ≡ clash_at (opened_at n pos a) (opened_at n pos b)
    → IsSomeAnd found (λ texts. IsClash texts.0 texts.1)
paths_clash n pos a b found ha hb ca cb same apart e =
    some_clash found (clash_at (opened_at n pos a) (opened_at n pos b)) ((a.name ≡ b.name) × (a.share ≡ b.share) × (a.path ≡ b.path)) (is_one_opening a b) e
    (twins_law (halvings n) pos a.name b.name a.share b.share a.path b.path (opening_of n pos a ha ca) (opening_of n pos b hb cb) same)
    (λ one.
    ap₂ (λ (x y : Bool). x && y)
    (ap₂ (λ (x y : Bool). x && y) ((name_decides a.name b.name).1 one.0) ((share_decides a.share b.share).1 one.1))
    ((slice_eq-Decides digest_decides a.path b.path (pointwise is_one_digest a.path b.path) refl).1 one.2)) apart

-- an opening and a list
pub path_leaves_clash : (n pos : ℕ) (a : Opening) (names : List Namespace) (shares : List Share) (found : Option (List ℕ × List ℕ)) → IsTrue (is_leaf_count n) → pos < n
    → HasShape a → is_counted n pos a ≡ true → length names ≡ n → length shares ≡ n → AreNamespaces names → AreShares shares
    → digest_of (opened_at n pos a) ≡ root (halvings n) names shares → is_leaf_at names shares pos a.name a.share ≡ false
    → found ≡ clash_at (opened_at n pos a) (whole (halvings n) names shares) → IsSomeAnd found (λ texts. IsClash texts.0 texts.1)
path_leaves_clash n pos a names shares found count lt ha ca hn hs bn bs same apart e =
    let place : pos < 2 ^ halvings n = omega (arith, lt, power_halvings n count) in
    some_clash found (clash_at (opened_at n pos a) (whole (halvings n) names shares)) _ (is_leaf_at names shares pos a.name a.share) e
    (leaf_law (halvings n) pos a.name a.share a.path names shares (opening_of n pos a ha ca) place (leaves_of n names shares count hn hs bn bs) same)
    (λ one.
    ap₂ (λ (x y : Bool). x && y)
    ((name_decides (get_or names pos (record { 0 = [] })) a.name).1 (get_or_from_slice_get names pos a.name (record { 0 = [] }) one.0))
    ((share_decides (get_or shares pos (record { 0 = [] })) a.share).1 (get_or_from_slice_get shares pos a.share (record { 0 = [] }) one.1))) apart

-- two lists
pub leaves_clash : (n : ℕ) (names names' : List Namespace) (shares shares' : List Share) (found : Option (List ℕ × List ℕ)) → IsTrue (is_leaf_count n)
    → length names ≡ n → length shares ≡ n → length names' ≡ n → length shares' ≡ n
    → AreNamespaces names → AreShares shares → AreNamespaces names' → AreShares shares'
    → root (halvings n) names shares ≡ root (halvings n) names' shares' → is_one_list names shares names' shares' ≡ false
    → found ≡ clash_at (whole (halvings n) names shares) (whole (halvings n) names' shares') → IsSomeAnd found (λ texts. IsClash texts.0 texts.1)
leaves_clash n names names' shares shares' found count hn hs hn' hs' bn bs bn' bs' same apart e =
    some_clash found (clash_at (whole (halvings n) names shares) (whole (halvings n) names' shares')) ((names ≡ names') × (shares ≡ shares')) (is_one_list names shares names' shares') e
    (lists_law (halvings n) names names' shares shares' (leaves_of n names shares count hn hs bn bs) (leaves_of n names' shares' count hn' hs' bn' bs') same)
    (λ one.
    ap₂ (λ (x y : Bool). x && y)
    ((slice_eq-Decides name_decides names names' (pointwise is_one_name names names') refl).1 one.0)
    ((slice_eq-Decides share_decides shares shares' (pointwise is_one_share shares shares') refl).1 one.1)) apart

-- two openings of places that may differ
pub between_clash : (n pos pos' : ℕ) (a b : Opening) (found : Option (List ℕ × List ℕ)) → HasShape a → HasShape b → is_counted n pos a ≡ true → is_counted n pos' b ≡ true
    → digest_of (opened_at n pos a) ≡ digest_of (opened_at n pos' b) → found ≡ clash_at (opened_at n pos a) (opened_at n pos' b)
    → IfSome found (λ texts. IsClash texts.0 texts.1)
between_clash n pos pos' a b None ha hb ca cb same e = tt
between_clash n pos pos' a b (Some texts) ha hb ca cb same e =
    found_is_clash (opened_at n pos a) (opened_at n pos' b) texts.0 texts.1
    (opening-sized (halvings n) (one_leaf pos a.name a.share) a.path (opening_of n pos a ha ca))
    (opening-sized (halvings n) (one_leaf pos' b.name b.share) b.path (opening_of n pos' b hb cb)) same (sym e)
