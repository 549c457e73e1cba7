pub mod Bounds
pub mod Gaps
pub mod LimitBounds
pub mod LimitLaws
pub mod ScriptLaws
pub mod Worked
pub mod KernLaws
