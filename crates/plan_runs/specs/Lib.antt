pub mod Cells
pub mod Meets
pub mod ExpressionFits
pub mod Claims
pub mod StatementFits
pub mod Flows
pub mod Serves
pub mod Kept
