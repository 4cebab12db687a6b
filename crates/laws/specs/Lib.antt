pub mod Every
pub mod Lists
pub mod Upto
pub mod Bags
pub mod Outside
pub mod First
