pub mod Guesses
pub mod Tests
