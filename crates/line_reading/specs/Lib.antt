pub mod Troubles
pub mod InLine
