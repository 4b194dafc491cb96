pub mod Event
pub mod Verdict
pub mod VerdictLaws
pub mod Worst
pub mod Ranges
pub mod Questions
