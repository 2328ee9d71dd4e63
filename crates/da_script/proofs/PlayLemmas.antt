-- Networks that are taken through events.
use Rattle.std.proofs.Common.{◌≡◌, ◌∙◌, ℕ, List, [], ◌∷◌, ◌++◌, append-nil, append_assoc, refl, sym, ap, subst}
use Rattle.std.proofs.Math.Seq.{append_snoc}
use Rattle.da_net.specs.declared.items.Item.{Item}
use Rattle.da_net.specs.Nets.{NetParts, IsSameNet}
use Rattle.da_script.specs.declared.reading.Move.{Move}
use Rattle.da_script.specs.Plays.{Goes, GoOn}
use Rattle.da_script.specs.Parts.{Adds}

-- ---- what no step changes

pub same_self : (net : NetParts) → IsSameNet net net
same_self net = record { header = refl; nodes = refl; most_items = refl; most_steps = refl }

pub same_on : (first old new : NetParts) → IsSameNet first old → IsSameNet old new → IsSameNet first new
same_on first old new one two = record {
  header = two.header ∙ one.header;
  nodes = two.nodes ∙ one.nodes;
  most_items = two.most_items ∙ one.most_items;
  most_steps = two.most_steps ∙ one.most_steps;
}

-- ---- events

-- a network was taken through the events but those that are left, and their lines were added to a text
pub record Gone (items : List Item) (first : NetParts) (all left : List Move) (net : NetParts) (old new : List ℕ) : Type 0 where
  pub done : List Move
  pub lines : List ℕ
  pub goes : GoOn items first done net lines
  pub parts : done ++ left ≡ all
  pub added : new ≡ old ++ lines

-- nothing was done
pub gone_none : (items : List Item) (net : NetParts) (all : List Move) (text : List ℕ) → Gone items net all all net text text
gone_none items net all text = record { done = []; lines = []; goes = GoOn.start; parts = refl; added = sym (append-nil text) }

-- one event more
pub gone_on : (items : List Item) (first old : NetParts) (all left later : List Move) (one : Move) (new : NetParts) (line before now then : List ℕ)
    → Gone items first all left old before now → left ≡ one ∷ later → Goes items old one new line → then ≡ now ++ line
    → Gone items first all later new before then
gone_on items first old all left later one new line before now then gone is goes added = record {
  done = gone.done ++ one ∷ [];
  lines = gone.lines ++ line;
  goes = GoOn.next gone.done old gone.lines one new line gone.goes goes;
  parts = append_snoc gone.done one later ∙ sym (ap (λ (l : List Move). gone.done ++ l) is) ∙ gone.parts;
  added = added ∙ ap (λ (l : List ℕ). l ++ line) gone.added ∙ append_assoc before gone.lines line;
}

-- none is left
pub gone_all : (items : List Item) (first : NetParts) (all left : List Move) (net : NetParts) (old new : List ℕ) → Gone items first all left net old new → left ≡ []
    → Adds (GoOn items first all net) old new
gone_all items first all left net old new gone none =
    let done : gone.done ≡ all = sym (append-nil gone.done) ∙ sym (ap (λ (l : List Move). gone.done ++ l) none) ∙ gone.parts in
    (gone.lines, subst (λ (l : List Move). GoOn items first l net gone.lines) done gone.goes, gone.added)
