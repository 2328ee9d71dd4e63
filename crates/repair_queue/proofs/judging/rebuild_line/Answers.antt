use Rattle.std.proofs.Common.{◌≡◌, ◌∙◌, ℕ, ◌*◌, List, length, sym, ap, subst}
use Rattle.std.specs.Vec.{with_items}
use Rattle.std.proofs.lemmas.List.{with_items_is}
use Rattle.namespace_id.specs.declared.shares.Share.{Share}
use Rattle.namespace_id.proofs.WidthLemmas.{is_width-pos}
use Rattle.leopard_code.specs.Codewords.{IsCodeword, HasEntries}
use Rattle.data_header.specs.Headers.{Roots}
use Rattle.repair_queue.specs.Closures.{AreChosen}
use Rattle.repair_queue.proofs.judging.rebuild_line.Goals as goal

-- a header's square isn't empty
pub complete-requires-clause-positive : goal.complete-requires-clause-positive
complete-requires-clause-positive c = is_width-pos c.header.inside.k c.header.invariant.width

-- k positions were gathered
pub complete-requires-clause-known : goal.complete-requires-clause-known
complete-requires-clause-known c =
    subst (λ (k : ℕ). AreChosen k c.deref.result.now) (sym (ap (λ (h : Roots). h.k) c.header.view_is))
    (subst (AreChosen c.args.header.now.k) (sym c.deref.ensures.value) c.gather.ensures.chosen)

-- and as many shares
pub complete-requires-clause-given : goal.complete-requires-clause-given
complete-requires-clause-given c =
    ap length c.deref-2.ensures.value ∙ c.gather.ensures.gathered.count ∙ c.gather.ensures.chosen.count
    ∙ sym (ap (λ (h : Roots). h.k) c.header.view_is)

-- the line has room for 2k
pub complete-requires-clause-line : goal.complete-requires-clause-line
complete-requires-clause-line c =
    ap length c.deref_mut.ensures.value ∙ c.requires.tools.line ∙ sym (ap (λ (h : Roots). 2 * h.k) c.header.view_is)

-- each buffer keeps its length
pub returns-clause-tools : goal.returns-clause-tools
returns-clause-tools c =
    let line = c.args.tools.now.line in
    let count : length c.complete.new.line ≡ length line.items = c.complete.auto.line ∙ ap length c.deref_mut.ensures.value in
    let same : (with_items line c.complete.new.line).items ≡ c.complete.new.line =
    with_items_is line c.complete.new.line (count ∙ sym line.ok.0) in record {
      room = c.requires.tools.room;
      line = ap length same ∙ count ∙ c.requires.tools.line;
      code = c.complete.ensures.width ∙ c.requires.tools.code;
      known = c.gather.ensures.known;
      given = c.gather.ensures.given;
      names = c.requires.tools.names;
      digests = c.requires.tools.digests;
      folded = c.requires.tools.folded;
      across = c.requires.tools.across;
      spare = c.requires.tools.spare;
    }

-- the line is the codeword that was made
pub returns-clause-line : goal.returns-clause-line
returns-clause-line c =
    let line = c.args.tools.now.line in
    let count : length c.complete.new.line ≡ length line.items = c.complete.auto.line ∙ ap length c.deref_mut.ensures.value in
    subst (IsCodeword c.args.header.now.k) (sym (with_items_is line c.complete.new.line (count ∙ sym line.ok.0)))
    (subst (λ (k : ℕ). IsCodeword k c.complete.new.line) (ap (λ (h : Roots). h.k) c.header.view_is) c.complete.ensures.codeword)

-- with the shares that were gathered
pub returns-clause-entries : goal.returns-clause-entries
returns-clause-entries c =
    let line = c.args.tools.now.line in
    let count : length c.complete.new.line ≡ length line.items = c.complete.auto.line ∙ ap length c.deref_mut.ensures.value in
    subst (HasEntries c.gather.new.known.items c.gather.new.given.items)
    (sym (with_items_is line c.complete.new.line (count ∙ sym line.ok.0)))
    (subst (λ (ps : List ℕ). HasEntries ps c.gather.new.given.items c.complete.new.line) c.deref.ensures.value
    (subst (λ (ss : List Share). HasEntries c.deref.result.now ss c.complete.new.line) c.deref-2.ensures.value c.complete.ensures.entries))
