pub mod Known
mod Pooled
