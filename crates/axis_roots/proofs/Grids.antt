-- Grids, their extension and their headers.
pub mod NumberLemmas
pub mod AxisLemmas
pub mod WordLemmas
pub mod LineLemmas
pub mod ExtensionLemmas
pub mod HeaderLemmas
pub mod LaidLemmas
pub mod WrittenLemmas
pub mod KeptLemmas
pub mod FilledLemmas
pub mod RootingLemmas
pub mod MadeLemmas
pub mod StoredLemmas
pub mod QuarterLemmas
pub mod BatchLemmas
