pub mod Both
pub mod Flagging
pub mod Made
pub mod Within
pub mod Lending
pub mod Asking
