pub mod Unchosen
