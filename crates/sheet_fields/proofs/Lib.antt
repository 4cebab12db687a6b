pub mod FieldCases
pub mod FieldRuns
