mod Cells
mod Pools
mod Rows
mod Written
mod Noted
mod Said
mod Exact
