mod Same
mod Steps
mod Gaining
