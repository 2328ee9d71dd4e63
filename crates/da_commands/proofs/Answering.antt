-- What each command answers.
pub mod NetLemmas
pub mod ShowLemmas
pub mod DemoLemmas
pub mod CellsLemmas
