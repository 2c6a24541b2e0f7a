pub mod PriceLemmas
