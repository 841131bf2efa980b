mod Marking
mod Directing
mod Entering
mod Closing
