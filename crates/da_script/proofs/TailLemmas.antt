-- What the line of a node has behind its state.
use Rattle.std.proofs.Common.{◌≡◌, ◌∙◌, ℕ, List, [], ◌++◌, length, refl, ap}
use Rattle.std.specs.Prelude.{codes, decimal}
use Rattle.namespace_id.specs.declared.cells.Axis.{Axis}
use Rattle.namespace_id.specs.declared.cells.Axis.TheVariants.{Row, Col}
use Rattle.da_status.specs.Notes.{axis_note}
use Rattle.da_net.specs.declared.items.NodeState.{NodeState}
use Rattle.da_net.specs.Networks.{Standing}
use Rattle.da_net.specs.Nets.{standing_state}
use Rattle.da_script.specs.Plays.{state_word}

-- the word of an axis is short
pub axis_few : (axis : Axis) → length (axis_note axis) ≡ 4
axis_few Row = refl
axis_few Col = refl

-- the text of a line, as it was put together
pub node_text : (none front word all line : List ℕ) (node : ℕ) (tail : List ℕ) (one : NodeState) (standing : Standing) → none ≡ []
    → front ≡ none ++ codes "node " ++ decimal node ++ codes " " → word ≡ front ++ state_word one → one ≡ standing_state standing → all ≡ word ++ tail
    → line ≡ all ++ codes "\n"
    → line ≡ codes "node " ++ decimal node ++ codes " " ++ state_word (standing_state standing) ++ tail ++ codes "\n"
node_text none front word all line node tail one standing none_is front_is word_is one_is all_is line_is =
    line_is
    ∙ ap (λ (l : List ℕ). l ++ codes "\n") (all_is ∙ ap (λ (l : List ℕ). l ++ tail)
    (word_is ∙ ap (λ (l : List ℕ). l ++ state_word one) (front_is ∙ ap (λ (l : List ℕ). l ++ codes "node " ++ decimal node ++ codes " ") none_is)
    ∙ ap (λ (s : NodeState). codes "node " ++ decimal node ++ codes " " ++ state_word s) one_is))
