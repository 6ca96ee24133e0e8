pub mod HeldLaws
pub mod WitnessLaws
pub mod ListedSteps
