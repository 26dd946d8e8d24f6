-- Tables of examples: what the definitions give for each row is what the row expects. tests/print-cases prints them from rows/. The expected values are those of document 01 or, beyond it, of a solver written separately from these definitions. Paths and FormMeaning are written by hand and have theorems instead of a table.
pub mod Rows
pub mod Document
pub mod Mistakes
pub mod Rules
pub mod Refusals
pub mod Limits
pub mod Order
pub mod Paths
pub mod Assignments
pub mod AnswerWords
pub mod Listings
pub mod FormMeaning
