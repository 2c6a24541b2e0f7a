pub mod SpreadLemmas
pub mod TotalLemmas
pub mod FlowLemmas
pub mod TurnLemmas
pub mod OpenLemmas
pub mod EndLemmas
pub mod CountLemmas
pub mod SlackLemmas
