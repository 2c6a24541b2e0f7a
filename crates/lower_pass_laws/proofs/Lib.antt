pub mod ReloadedKeeping
pub mod SteppedKeeping
pub mod PromotedKeeping
pub mod CopiedKeeping
pub mod ThreadedKeeping
