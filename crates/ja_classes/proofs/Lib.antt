mod Targets
mod Placed
mod Joined
