-- Why an event is refused.
use Rattle.std.proofs.Common.{◌≡◌, ◌∙◌, ℕ, ◌<◌, ◌≤◌, Bool, true, false, nat_le, length, not, cond, Option, Some, None, sym, ap, ap₂, arith}
use Rattle.std.proofs.lemmas.Bool.Decides.{nat_tests}
use Rattle.std.specs.List.{list_any}
use Rattle.da_net.specs.declared.items.StepRefusal.{StepRefusal}
use Rattle.da_net.specs.declared.items.StepRefusal.TheVariants as refusal
use Rattle.da_net.specs.Nets.{NetParts, alarm_at, rejecting_claim, has_claim, is_publishing, why_not_hand, why_not_publish}

module _ (net : NetParts) (place to : ℕ) where
  -- an item that isn't there is not handed
  pub no_item : length net.pool ≤ place → Some refusal.NoItem ≡ why_not_hand net place to
  no_item past =
      let test : nat_le (length net.pool) place ≡ true = grind (arith, nat_tests) in
      sym (ap (λ (a : Bool). cond a (Some refusal.NoItem) (cond (nat_le (length net.nodes) to) (Some refusal.NoNode) None)) test)

  -- nor is one to a node that isn't there
  pub no_node : place < length net.pool → length net.nodes ≤ to → Some refusal.NoNode ≡ why_not_hand net place to
  no_node there past =
      let one : nat_le (length net.pool) place ≡ false = grind (arith, nat_tests) in
      let test : nat_le (length net.nodes) to ≡ true = grind (arith, nat_tests) in
      sym (ap₂ (λ (a b : Bool). cond a (Some refusal.NoItem) (cond b (Some refusal.NoNode) None)) one test)

  -- any other is
  pub both_there : place < length net.pool → to < length net.nodes → None ≡ why_not_hand net place to
  both_there there node =
      let one : nat_le (length net.pool) place ≡ false = grind (arith, nat_tests) in
      let test : nat_le (length net.nodes) to ≡ false = grind (arith, nat_tests) in
      sym (ap₂ (λ (a b : Bool). cond a (Some refusal.NoItem) (cond b (Some refusal.NoNode) None)) one test)

-- the three tests of a publishing
abbrev tested : Bool → Bool → Bool → Option StepRefusal
tested a b c =
    cond a (Some refusal.NoNode) (cond (not b) (Some refusal.NotRejecting) (cond c (Some refusal.Published) None))

module _ (net : NetParts) (by : ℕ) where
  -- a node that isn't there publishes nothing
  pub no_publisher : length net.nodes ≤ by → Some refusal.NoNode ≡ why_not_publish net by
  no_publisher past =
      let test : nat_le (length net.nodes) by ≡ true = grind (arith, nat_tests) in
      sym (ap (λ (a : Bool). tested a (has_claim (rejecting_claim (alarm_at net by))) (list_any (is_publishing by) net.steps)) test)

  -- nor does one that doesn't reject
  pub not_rejecting : by < length net.nodes → has_claim (rejecting_claim (alarm_at net by)) ≡ false
      → Some refusal.NotRejecting ≡ why_not_publish net by
  not_rejecting there calm =
      let test : nat_le (length net.nodes) by ≡ false = grind (arith, nat_tests) in
      sym (ap₂ (λ (a b : Bool). tested a b (list_any (is_publishing by) net.steps)) test calm)

  -- nor one that has done so
  pub has_done : by < length net.nodes → has_claim (rejecting_claim (alarm_at net by)) ≡ true
      → list_any (is_publishing by) net.steps ≡ true → Some refusal.Published ≡ why_not_publish net by
  has_done there rejects done =
      let test : nat_le (length net.nodes) by ≡ false = grind (arith, nat_tests) in
      sym (ap₂ (λ (a b : Bool). tested a b (list_any (is_publishing by) net.steps)) test rejects ∙ ap (tested false true) done)

  -- any other does
  pub may_publish : by < length net.nodes → has_claim (rejecting_claim (alarm_at net by)) ≡ true
      → list_any (is_publishing by) net.steps ≡ false → None ≡ why_not_publish net by
  may_publish there rejects first =
      let test : nat_le (length net.nodes) by ≡ false = grind (arith, nat_tests) in
      sym (ap₂ (λ (a b : Bool). tested a b (list_any (is_publishing by) net.steps)) test rejects ∙ ap (tested false true) first)
