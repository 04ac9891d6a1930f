pub mod Numbers
pub mod Requeued
