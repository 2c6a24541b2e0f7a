pub mod Flows
pub mod Opens
pub mod FlowLaws
pub mod Free
pub mod CountLaws
