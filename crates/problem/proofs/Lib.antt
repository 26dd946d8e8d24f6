pub mod SectionLaws
pub mod ConstraintSteps
pub mod Reading
pub mod Access
pub mod TableExample
