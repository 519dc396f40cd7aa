pub mod Grammar
pub mod Lookahead
pub mod State
pub mod Trees
