pub mod Order
pub mod Sound
pub mod ArcIn
pub mod Edits
pub mod Lists
pub mod Links
pub mod Found
pub mod Leading
pub mod FromNode
pub mod UsableArcs
pub mod Databases
pub mod Local
pub mod Placing
pub mod Joining
pub mod OnTheWay
mod Examples
