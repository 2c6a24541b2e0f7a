pub mod MemoryLaws
pub mod Layouts
pub mod LoadedLaws
