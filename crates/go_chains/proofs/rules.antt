-- What the cells say in the words of the board's rules.
pub mod Sound
pub mod Counting
pub mod Playing
pub mod Taking
pub mod Placing
pub mod Quiet
