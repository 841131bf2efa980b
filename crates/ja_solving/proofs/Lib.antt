mod More
mod Solved
