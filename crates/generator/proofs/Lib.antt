mod Accepting
mod Counting
