pub mod ComesTo
