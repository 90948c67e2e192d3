pub mod QueueRules
pub mod QueueCalls
pub mod QueueCount
pub mod QueueScans
