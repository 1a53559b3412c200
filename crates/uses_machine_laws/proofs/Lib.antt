pub mod Keep
pub mod Controller
pub mod Risen
pub mod FallCalls
