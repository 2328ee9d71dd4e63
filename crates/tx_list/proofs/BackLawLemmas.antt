-- A square is that of one list at most, which is found.
use Rattle.std.proofs.Common.{true, false, cond, ◌≡◌, ◌∙◌, ℕ, suc, ◌*◌, ◌≤◌, ◌==◌, ◌||◌, nat_lt, min, Bool, List, [], ◌∷◌, Option, Some, None, option_map, refl, sym, ap, ap₂, arith, inl, inr}
use Rattle.std.specs.Option.{is_some, option_or}
use Rattle.std.specs.Str.{bytes_eq}
use Rattle.std.proofs.lemmas.Bool.{cases_Bool, eq-eqb, eqb-true}
use Rattle.std.proofs.lemmas.Bool.Decides.{nat_tests}
use Rattle.std.proofs.lemmas.Slice.Eq.{bytes_eq-Decides}
use Rattle.namespace_id.specs.declared.shares.Share.{Share}
use Rattle.namespace_id.specs.Shares.{share_of}
use Rattle.namespace_id.proofs.RefusalLemmas.{if_none}
use Rattle.square_layout.specs.Blocks.{SquareShares}
use Rattle.square_layout.specs.Refusals.{max_shares, most_named}
use Rattle.tx_list.specs.declared.refusals.ListError.{ListError}
use Rattle.tx_list.specs.declared.refusals.ListError.TheVariants.{TooLarge}
use Rattle.tx_list.specs.declared.refusals.BackError.TheVariants.{Unlike}
use Rattle.tx_list.specs.Payments.{ListParts}
use Rattle.tx_list.specs.Reserves.{list_bound}
use Rattle.tx_list.specs.Reads.{list_of}
use Rattle.tx_list.specs.ReadRefusals.{read_refusal}
use Rattle.tx_list.specs.Refusals.{list_size_refusal}
use Rattle.tx_list.specs.Spelled.{spelled_list}
use Rattle.tx_list.specs.Lists.{square_of_list}
use Rattle.tx_list.specs.Backs.{IsBack, HaveNamedBlobs}
use Rattle.tx_list.specs.BackRefusals.{first_unlike, unlike_at, laid_refusal, back_list, part_refusal, back_refusal}
use Rattle.tx_list.proofs.TakingLemmas.{all_taken, payments_kept}
use Rattle.tx_list.proofs.BackLemmas.{IsLaidList, list_back, parts_pass}

-- ---- a list that was read

few_by : (n : ℕ) → nat_lt max_shares n ≡ false → n ≤ max_shares
few_by n h = grind (arith, nat_tests)

-- transactions that no check refuses have a square
laid_list : (transactions : List (List ℕ)) → read_refusal transactions ≡ None → list_size_refusal (list_of transactions) ≡ None → HaveNamedBlobs transactions
    → IsLaidList (list_of transactions)
laid_list transactions taken fits named =
    let bound : ℕ = list_bound (list_of transactions) in
    let few = if_none (nat_lt max_shares bound) (TooLarge (min bound most_named)) None fits in
    record {
      few = few_by bound few.0;
      payments = payments_kept transactions (all_taken 0 false transactions taken);
      named = named;
    }

-- the square of these is read as their list
pub back_of : (square : SquareShares) (transactions : List (List ℕ)) → read_refusal transactions ≡ None → list_size_refusal (list_of transactions) ≡ None
    → square_of_list (list_of transactions) ≡ square → HaveNamedBlobs transactions → back_list square ≡ list_of transactions
back_of square transactions taken fits laid named =
    ap back_list (sym laid) ∙ list_back (list_of transactions) (laid_list transactions taken fits named)

-- so a square is that of one list in its one spelling
pub one_list : (square : SquareShares) (one other : List (List ℕ)) → HaveNamedBlobs one → HaveNamedBlobs other → IsBack square one → IsBack square other
    → one ≡ other
one_list square one other named also is are =
    sym is.canonical
    ∙ ap spelled_list (sym (back_of square one is.taken is.fits is.laid named) ∙ back_of square other are.taken are.fits are.laid also)
    ∙ are.canonical

-- ---- squares that are the same

same_shares : (i : ℕ) (shares : List Share) → first_unlike i shares shares ≡ None
unfolding first_unlike
same_shares i [] = refl
same_shares i (share ∷ shares) =
    ap (λ (b : Bool). cond b (first_unlike (suc i) shares shares) (Some i)) ((bytes_eq-Decides share.0 share.0).1 refl) ∙ same_shares (suc i) shares

same_square : (square : SquareShares) → unlike_at square square ≡ None
same_square square =
    ap (λ (b : Bool). cond b (first_unlike 0 square.shares square.shares) (Some (min square.k square.k * min square.k square.k))) (eq-eqb square.k square.k refl)
    ∙ same_shares 0 square.shares

-- no check refuses the square of a list
pub none_refused : (square : SquareShares) (transactions : List (List ℕ)) → HaveNamedBlobs transactions → IsBack square transactions
    → back_refusal square ≡ None
none_refused square transactions named is =
    let list : ListParts = list_of transactions in
    let parts : part_refusal square ≡ None = ap part_refusal (sym is.laid) ∙ parts_pass list (laid_list transactions is.taken is.fits named) in
    let read : spelled_list (back_list square) ≡ transactions = ap spelled_list (back_of square transactions is.taken is.fits is.laid named) ∙ is.canonical in
    let same : unlike_at square (square_of_list list) ≡ None = ap (unlike_at square) is.laid ∙ same_square square in
    ap₂ option_or parts (ap (laid_refusal square) read)
    ∙ ap₂ (λ (a b : Option ListError). cond (is_some a || is_some b) (Some (Unlike 0)) (option_map Unlike (unlike_at square (square_of_list list)))) is.taken is.fits
    ∙ ap (option_map Unlike) same

-- ---- a square that isn't refused

-- two squares that don't differ are the same
same_by : (i : ℕ) (shares others : List Share) → first_unlike i shares others ≡ None → shares ≡ others
unfolding first_unlike
same_by i [] [] h = refl
same_by i [] (other ∷ others) h = absurd cc
same_by i (share ∷ shares) [] h = absurd cc
same_by i (share ∷ shares) (other ∷ others) h = elim (cases_Bool (bytes_eq share.0 other.0)) [
  | inl same ↦
      let rest : first_unlike (suc i) shares others ≡ None = sym (ap (λ (b : Bool). cond b (first_unlike (suc i) shares others) (Some i)) same) ∙ h in
      ap₂ (λ (s : Share) (l : List Share). s ∷ l) (ap share_of ((bytes_eq-Decides share.0 other.0).0 same)) (same_by (suc i) shares others rest)
  | inr differs ↦
      let some : Some i ≡ None = sym (ap (λ (b : Bool). cond b (first_unlike (suc i) shares others) (Some i)) differs) ∙ h in absurd cc
]

unlike_none : (k other n : ℕ) (same : Bool) (o : Option ℕ) → (k == other) ≡ same → cond same o (Some n) ≡ None → (k ≡ other) × (o ≡ None)
unlike_none k other n true o is h = (eqb-true k other is, h)
unlike_none k other n false o is h = absurd cc

mapped_none : (o : Option ℕ) → option_map Unlike o ≡ None → o ≡ None
mapped_none None h = refl
mapped_none (Some i) h = absurd cc

-- no check of these refuses it
pub laid_parts : (a b : Option ListError) (o : Option ℕ) → cond (is_some a || is_some b) (Some (Unlike 0)) (option_map Unlike o) ≡ None
    → (a ≡ None) × (b ≡ None) × (o ≡ None)
laid_parts None None o h = (refl, refl, mapped_none o h)
laid_parts None (Some e) o h = absurd cc
laid_parts (Some e) b o h = absurd cc

-- what was laid out as the square is its list, in the one spelling
pub is_back : (square : SquareShares) (transactions : List (List ℕ)) → laid_refusal square transactions ≡ None → transactions ≡ spelled_list (back_list square)
    → HaveNamedBlobs transactions → IsBack square transactions
is_back square transactions h read named =
    let list : ListParts = list_of transactions in
    let p = laid_parts (read_refusal transactions) (list_size_refusal list) (unlike_at square (square_of_list list)) h in
    let u = unlike_none square.k (square_of_list list).k (min square.k (square_of_list list).k * min square.k (square_of_list list).k)
    (square.k == (square_of_list list).k) (first_unlike 0 square.shares (square_of_list list).shares) refl p.2 in
    let same : square_of_list list ≡ square =
    ap₂ (λ (k : ℕ) (shares : List Share). record { k = k; shares = shares }) (sym u.0) (sym (same_by 0 square.shares (square_of_list list).shares u.1)) in
    record {
      canonical = ap spelled_list (sym (back_of square transactions p.0 p.1 same named)) ∙ sym read;
      taken = p.0;
      fits = p.1;
      laid = same;
    }
