mod Basics
mod Declaring
mod Owning
mod Searching
mod Covering
mod Exact
