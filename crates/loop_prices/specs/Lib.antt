pub mod LoopPrices
