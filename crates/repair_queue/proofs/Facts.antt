-- Recoverable cells and facts: what lists of samples settle, and what they answer.
pub mod ChosenLemmas
pub mod ClosureLemmas
pub mod DerivationLemmas
pub mod SettledLemmas
pub mod FraudLemmas
pub mod VerdictLemmas
pub mod GrowthLemmas
pub mod NamedLemmas
pub mod OwnLemmas
pub mod WholeLemmas
pub mod ConflictLemmas
pub mod BesideLemmas
pub mod NothingLemmas
pub mod SessionLawLemmas
