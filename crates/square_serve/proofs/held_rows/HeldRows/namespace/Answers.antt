use Rattle.std.proofs.Common.{sym, subst}
use Rattle.square_layout.specs.Blocks.{SquareShares}
use Rattle.square_serve.proofs.Serving.OwnLemmas.{AreFound, entries_held, entries_complete, entries_shares}
use Rattle.square_serve.proofs.held_rows.HeldRows.namespace.Goals as goal

-- the entries are those of each extension of the square, so of whoever holds it
pub returns-clause-value : goal.returns-clause-value
returns-clause-value c =
    let name = c.args.namespace.now in
    let entries = c.in_ok-entries.entries.items in
    let are : AreFound c.args.self.now name entries = subst (λ (s : SquareShares). AreFound s name entries) c.self.view_is c.in_ok-entries.ensures.entries in
    entries_held c.args.self.now name entries are

pub returns-clause-complete : goal.returns-clause-complete
returns-clause-complete c =
    let name = c.args.namespace.now in
    let entries = c.in_ok-entries.entries.items in
    let are : AreFound c.args.self.now name entries = subst (λ (s : SquareShares). AreFound s name entries) c.self.view_is c.in_ok-entries.ensures.entries in
    entries_complete c.args.self.now name entries are c.namespace_law.ensures (sym c.if-is_parity.ensures)

-- there is a header
pub returns-clause-shares : goal.returns-clause-shares
returns-clause-shares c =
    let name = c.args.namespace.now in
    let entries = c.in_ok-entries.entries.items in
    let are : AreFound c.args.self.now name entries = subst (λ (s : SquareShares). AreFound s name entries) c.self.view_is c.in_ok-entries.ensures.entries in
    let own = c.held_law.ensures.header in
    entries_shares c.args.self.now name entries are c.namespace_law.ensures (sym c.if-is_parity.ensures) own.0 own.1
