pub mod ReloadedLaws
pub mod SteppedLaws
pub mod PromotedLaws
pub mod CopiedLaws
pub mod ThreadedLaws
