pub mod Outcome
pub mod Shown
pub mod Walked
-- what a run is claimed to be, for whoever runs it
pub use Rattle.adr_law_headline.specs.Headline
pub use Rattle.adr_law_headline.specs.Exportable
pub use Rattle.adr_run_exercised.specs.Exercised
