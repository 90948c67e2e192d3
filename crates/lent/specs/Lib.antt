pub mod LentRules
