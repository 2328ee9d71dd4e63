-- Gathering the first k known positions of a row or a column.
use Rattle.std.proofs.Common.{◌≡◌, ◌∙◌, ℕ, suc, ◌+◌, ◌*◌, ◌<◌, ◌≤◌, List, [], ◌∷◌, ◌++◌, length, get_or, Bool, true, false, refl, sym, ap, subst, arith, below_more}
use Rattle.std.specs.Prelude.{nat_lt}
use Rattle.std.specs.List.{list_all}
use Rattle.std.proofs.lemmas.Bool.{and_from}
use Rattle.std.proofs.lemmas.Bool.Decides.{nat_tests}
use Rattle.std.proofs.lemmas.List.{length-append, get_or_append_left}
use Rattle.std.proofs.Math.Seq.{get_or-append_seam}
use Rattle.namespace_id.specs.declared.cells.Cell.{Cell}
use Rattle.namespace_id.specs.declared.cells.Axis.{Axis}
use Rattle.namespace_id.specs.declared.shares.Share.{Share}
use Rattle.namespace_id.specs.Lists.{holds_along}
use Rattle.axis_roots.specs.Lines.{blank, cell_on}
use Rattle.repair_queue.specs.Closures.{AreChosen}
use Rattle.repair_queue.specs.Slots.{Kept, Flags}
use Rattle.repair_queue.specs.Counting.{one_if, count_from}
use Rattle.repair_queue.specs.Boards.{Shared, is_found, found_share, found_count}
use Rattle.repair_queue.specs.Tools.{AreGathered}
use Rattle.repair_queue.proofs.Facts.ChosenLemmas.{below_most}
use Rattle.repair_queue.proofs.Counting.PassingLemmas.{count_from-suc}
use Rattle.namespace_id.proofs.RoomLemmas.{all_next, along_next}

-- the known ones among the first n positions
pub record IsGathering (slot : Kept) (flag : Flags) (shares : Shared) (axis : Axis) (i n : ℕ) (known : List ℕ) (given : List Share) : Type 0 where
  pub all : length known ≡ found_count slot flag axis i n
  pub below : list_all (λ p. nat_lt p n) known ≡ true
  pub rising : holds_along nat_lt known ≡ true
  pub gathered : AreGathered slot flag shares axis i known given

-- one cell more is counted where it is known
found_next : (slot : Kept) (flag : Flags) (axis : Axis) (i n : ℕ) (cell : Cell) (b : Bool) → cell ≡ cell_on axis i n → is_found slot flag cell ≡ b
    → found_count slot flag axis i (n + 1) ≡ found_count slot flag axis i n + one_if b
found_next slot flag axis i n cell b is e =
    let next : n + 1 ≡ suc n = omega arith in
    let first : 0 + n ≡ n = omega arith in
    ap (found_count slot flag axis i) next ∙ count_from-suc (λ q. is_found slot flag (cell_on axis i q)) n 0
    ∙ ap (λ (q : ℕ). found_count slot flag axis i n + one_if (is_found slot flag (cell_on axis i q))) first
    ∙ ap (λ (c : Cell). found_count slot flag axis i n + one_if (is_found slot flag c)) (sym is)
    ∙ ap (λ (x : Bool). found_count slot flag axis i n + one_if x) e

-- none at first
pub none_gathered : (slot : Kept) (flag : Flags) (shares : Shared) (axis : Axis) (i : ℕ) (known : List ℕ) (given : List Share) → known ≡ [] → given ≡ []
    → IsGathering slot flag shares axis i 0 known given
unfolding count_from holds_along
none_gathered slot flag shares axis i known given no_known no_given =
    subst (λ (l : List ℕ). IsGathering slot flag shares axis i 0 l given) (sym no_known)
    (subst (λ (l : List Share). IsGathering slot flag shares axis i 0 [] l) (sym no_given) nothing)
  where
    nothing : IsGathering slot flag shares axis i 0 [] []
    nothing = record {
      all = refl;
      below = refl;
      rising = refl;
      gathered = record { count = refl; found = λ j h. absurd (omega arith); share = λ j h. absurd (omega arith) };
    }

module _ (slot : Kept) (flag : Flags) (shares : Shared) (axis : Axis) (i n : ℕ) (known : List ℕ) (given : List Share)
    (so : IsGathering slot flag shares axis i n known given) where
  -- an unknown cell
  pub unknown_gathered : (cell : Cell) → cell ≡ cell_on axis i n → is_found slot flag cell ≡ false → IsGathering slot flag shares axis i (n + 1) known given
  unknown_gathered cell is unfound = record {
    all = omega (arith, so.all, found_next slot flag axis i n cell false is unfound);
    below = below_most n (n + 1) known (omega arith) so.below;
    rising = so.rising;
    gathered = so.gathered;
  }

  -- a known one
  pub known_gathered : (cell : Cell) (share : Share) (longer : List ℕ) (more : List Share) → cell ≡ cell_on axis i n → is_found slot flag cell ≡ true
      → share ≡ found_share slot flag shares cell → longer ≡ known ++ n ∷ [] → more ≡ given ++ share ∷ [] → IsGathering slot flag shares axis i (n + 1) longer more
  known_gathered cell share longer more is found shown one_more with_it =
      let next : found_count slot flag axis i (n + 1) ≡ found_count slot flag axis i n + 1 = found_next slot flag axis i n cell true is found in
      let long : length (known ++ n ∷ []) ≡ length known + 1 = length-append known (n ∷ []) in
      let under : nat_lt n (n + 1) ≡ true = grind (arith, nat_tests) in
      let old : (j : ℕ) → j < length known → get_or (known ++ n ∷ []) j 0 ≡ get_or known j 0 = λ j h. get_or_append_left known (n ∷ []) 0 j h in
      let last : get_or (known ++ n ∷ []) (length known) 0 ≡ n = get_or-append_seam known n [] 0 in
      let both : IsGathering slot flag shares axis i (n + 1) (known ++ n ∷ []) (given ++ share ∷ []) = record {
        all = omega (arith, long, next, so.all);
        below = all_next (λ p. nat_lt p (n + 1)) known n (below_most n (n + 1) known (omega arith) so.below) under;
        rising = along_next nat_lt known n so.rising so.below;
        gathered = record {
          count = omega (arith, length-append given (share ∷ []), long, so.gathered.count);
          found = λ j h. below_more (λ q. is_found slot flag (cell_on axis i (get_or (known ++ n ∷ []) q 0)) ≡ true) (length known)
              (λ q low. ap (λ (p : ℕ). is_found slot flag (cell_on axis i p)) (old q low) ∙ so.gathered.found q low)
              (ap (λ (p : ℕ). is_found slot flag (cell_on axis i p)) last ∙ ap (is_found slot flag) (sym is) ∙ found) j (omega (arith, h, long));
          share = λ j h. below_more
              (λ q. get_or (given ++ share ∷ []) q blank ≡ found_share slot flag shares (cell_on axis i (get_or (known ++ n ∷ []) q 0))) (length known)
              (λ q low. get_or_append_left given (share ∷ []) blank q (omega (arith, low, so.gathered.count)) ∙ so.gathered.share q low
              ∙ ap (λ (p : ℕ). found_share slot flag shares (cell_on axis i p)) (sym (old q low)))
              (ap (λ (q : ℕ). get_or (given ++ share ∷ []) q blank) (sym so.gathered.count) ∙ get_or-append_seam given share [] blank ∙ shown
              ∙ ap (found_share slot flag shares) is ∙ ap (λ (p : ℕ). found_share slot flag shares (cell_on axis i p)) (sym last)) j (omega (arith, h, long));
        };
      } in
      subst (λ (l : List ℕ). IsGathering slot flag shares axis i (n + 1) l more) (sym one_more)
      (subst (λ (l : List Share). IsGathering slot flag shares axis i (n + 1) (known ++ n ∷ []) l) (sym with_it) both)

  -- k of them may be chosen
  pub chosen_gathered : (k : ℕ) → n ≤ 2 * k → length known ≡ k → AreChosen k known
  chosen_gathered k end count = record {
    count = count;
    positions = and_from (list_all (λ p. nat_lt p (2 * k)) known) (holds_along nat_lt known) (below_most n (2 * k) known end so.below) so.rising;
  }
