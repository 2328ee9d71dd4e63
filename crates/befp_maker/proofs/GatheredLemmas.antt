-- Proved samples of a line, one after another.
use Rattle.std.proofs.Common.{◌≡◌, ◌∙◌, ℕ, suc, ◌+◌, ◌-◌, ◌≤◌, List, [], ◌∷◌, ◌++◌, append_assoc, sym, ap, subst, arith}
use Rattle.std.proofs.lemmas.List.{append-nil}
use Rattle.namespace_id.specs.declared.cells.Axis.{Axis}
use Rattle.namespace_id.specs.declared.shares.Share.{Share}
use Rattle.namespace_id.specs.Lists.{ascending}
use Rattle.namespace_id.proofs.AscentLemmas.{ascending-last}
use Rattle.data_header.specs.Headers.{Roots}
use Rattle.axis_roots.specs.declared.message.proved.Proved.{Proved}
use Rattle.befp_maker.specs.Gathered.{IsOfLine, AreOfLine, IsContinued}

-- one more sample
pub of_line-more : (header : Roots) (axis : Axis) (i : ℕ) (line : List Share) (pos : ℕ) (c : Proved) (places : List ℕ) (made : List Proved)
    → AreOfLine header axis i line places made → IsOfLine header axis i line pos c → AreOfLine header axis i line (places ++ pos ∷ []) (made ++ c ∷ [])
of_line-more header axis i line pos c [] [] are is = (is, tt)
of_line-more header axis i line pos c [] (d ∷ made) are is = elim are [ ]
of_line-more header axis i line pos c (p ∷ places) [] are is = elim are [ ]
of_line-more header axis i line pos c (p ∷ places) (d ∷ made) are is = (are.0, of_line-more header axis i line pos c places made are.1 is)

-- a list that isn't continued yet
pub continued_none : (header : Roots) (axis : Axis) (i : ℕ) (line : List Share) (from n : ℕ) (old : List Proved) → n ≡ 0
    → IsContinued header axis i line (ascending from n) old old
unfolding ascending
continued_none header axis i line from n old none = subst (λ (m : ℕ). IsContinued header axis i line (ascending from m) old old) (sym none)
    (record { made = []; appended = sym (append-nil old); are = tt })

-- one that is continued by one more
pub continued_more : (header : Roots) (axis : Axis) (i : ℕ) (line : List Share) (from pos : ℕ) (c : Proved) (old now : List Proved) → from ≤ pos
    → IsOfLine header axis i line pos c → IsContinued header axis i line (ascending from (pos - from)) old now
    → IsContinued header axis i line (ascending from (pos + 1 - from)) old (now ++ c ∷ [])
continued_more header axis i line from pos c old now low is so_far =
    let next : suc (pos - from) ≡ pos + 1 - from = omega arith in
    let last : from + (pos - from) ≡ pos = omega arith in
    let places : ascending from (pos - from) ++ pos ∷ [] ≡ ascending from (pos + 1 - from) =
    ap (λ (p : ℕ). ascending from (pos - from) ++ p ∷ []) (sym last) ∙ sym (ascending-last (pos - from) from) ∙ ap (ascending from) next in
    record {
      made = so_far.made ++ c ∷ [];
      appended = ap (λ (l : List Proved). l ++ c ∷ []) so_far.appended ∙ append_assoc old so_far.made (c ∷ []);
      are = subst (λ (ps : List ℕ). AreOfLine header axis i line ps (so_far.made ++ c ∷ [])) places
          (of_line-more header axis i line pos c (ascending from (pos - from)) so_far.made so_far.are is);
    }
