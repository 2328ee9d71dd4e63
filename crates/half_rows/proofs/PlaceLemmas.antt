-- The positions of a half, and the numbers that count up to them.
use Rattle.std.proofs.Common.{◌≡◌, ◌∙◌, ℕ, suc, ◌+◌, ◌-◌, ◌≤◌, List, [], ◌∷◌, ◌++◌, length, sym, ap, ap₂, subst, arith, IsTrue}
use Rattle.std.proofs.lemmas.List.{take_at}
use Rattle.namespace_id.specs.declared.shares.Share.{Share}
use Rattle.namespace_id.specs.Lists.{ascending}
use Rattle.namespace_id.proofs.AscendingLemmas.{length-ascending}
use Rattle.namespace_id.proofs.AscentLemmas.{ascending-last}
use Rattle.leopard_code.specs.Codewords.{are_positions, HasEntries}
use Rattle.leopard_code.proofs.FirstLemmas.{positions_from, first_entries}
use Rattle.celestia_pb.specs.declared.half_row.Side.{Side}
use Rattle.celestia_pb.specs.declared.half_row.Side.TheVariants.{Left, Right}
use Rattle.half_rows.specs.Rows.{positions_of_half}

-- the positions of a half are positions of a codeword
pub half_positions : (k : ℕ) (side : Side) → IsTrue (are_positions k (positions_of_half k side))
half_positions k Left = positions_from k 0 (omega arith)
half_positions k Right = positions_from k k (omega arith)

-- there are k
pub length-places_of : (k : ℕ) (side : Side) → length (positions_of_half k side) ≡ k
length-places_of k Left = length-ascending k 0
length-places_of k Right = length-ascending k k

-- one more number, counted from the first
pub ascending-next : (first number : ℕ) (numbers : List ℕ) → first ≤ number → numbers ≡ ascending first (number - first)
    → numbers ++ number ∷ [] ≡ ascending first (number + 1 - first)
ascending-next first number numbers low e =
    let last : number ≡ first + (number - first) = omega arith in
    let count : suc (number - first) ≡ number + 1 - first = omega arith in
    ap₂ (λ (l : List ℕ) (m : ℕ). l ++ m ∷ []) e last ∙ sym (ascending-last (number - first) first) ∙ ap (ascending first) count

-- none before the first
pub ascending-none : (first : ℕ) → ascending first (first - first) ≡ []
unfolding ascending
ascending-none first = let none : first - first ≡ 0 = omega arith in ap (ascending first) none

-- k shares in front are the entries at the first k positions
pub front_entries : (k : ℕ) (originals front recovery : List Share) → length originals ≡ k → front ≡ originals → HasEntries (ascending 0 k) originals (front ++ recovery)
front_entries k originals front recovery size same =
    subst (λ (l : List Share). HasEntries (ascending 0 k) originals (l ++ recovery)) (sym same)
    (subst (λ (l : List Share). HasEntries (ascending 0 k) l (originals ++ recovery)) (take_at originals recovery k size) (first_entries k (originals ++ recovery)))

-- the last k positions, listed
pub last_positions : (k n : ℕ) (known : List ℕ) → known ≡ ascending n n → n ≡ k → (length known ≡ k) × IsTrue (are_positions k known)
last_positions k n known is same =
    let listed : known ≡ ascending k k = is ∙ ap (λ (m : ℕ). ascending m m) same in (
      ap length listed ∙ length-ascending k k,
      subst (λ (l : List ℕ). IsTrue (are_positions k l)) (sym listed) (positions_from k k (omega arith)),
    )
