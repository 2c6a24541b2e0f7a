pub mod Making
pub mod Numbers
pub mod SameMarks
