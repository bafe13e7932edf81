-- What writes to the cells leave, a step at a time.
pub mod Rewinding
pub mod Editing
pub mod Bounds
pub mod Neighbours
pub mod Sides
pub mod Depriving
pub mod Occupying
pub mod Relabelling
pub mod Joining
pub mod Lifting
