pub mod ByRule
