pub mod HandleSteps
pub mod LooseSteps
pub mod Told
pub mod FirstLine
pub mod HeldSends
pub mod Sending
