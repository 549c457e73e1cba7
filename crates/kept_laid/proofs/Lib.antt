pub mod BoxReading
pub mod Few
pub mod IdsBelow
pub mod Kids
pub mod LastAsked
pub mod Reading
pub mod Totals
pub mod Walking
