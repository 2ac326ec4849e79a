-- Configurations, steps, runs and lines (docs/RUNNING.md).
pub mod Configuration
pub mod Flows
pub mod Place
pub mod Ahead
pub mod Entered
pub mod Visits
pub mod Effect
pub mod Move
pub mod Step
pub mod Moments
pub mod Line
pub mod Opening
