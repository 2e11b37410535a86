pub mod Revived
