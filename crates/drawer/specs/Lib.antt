-- To be read in this order: chains, 13, where an id stands, the four calls, and the claims about lists of calls. Tours and IdsLeft may be skipped.
pub mod Chains
pub mod Drawer
pub mod Search
pub mod Calls
pub mod Order
pub mod Lists
pub mod Tours
pub mod IdsLeft
