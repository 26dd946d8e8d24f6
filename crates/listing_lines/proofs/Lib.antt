pub mod Values
pub mod Members
pub mod Items
pub mod Headings
pub mod LineLaws
pub mod Shown
pub mod Running
