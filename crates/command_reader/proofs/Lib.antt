-- what a line says, member by member
mod Puts
mod More
-- and the command that it means
mod Meant
-- and which lines undo and redo
mod MoveKeys
pub mod Commands
