pub mod Texts
pub mod Ascii
pub mod Simple
pub mod ItemsAgain
pub mod LinksAgain
pub mod PrefixesAgain
pub mod Examples
