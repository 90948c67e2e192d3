pub mod SweepRules
pub mod SweepCalls
pub mod SweepParts
