pub mod Placing
pub mod Laying
