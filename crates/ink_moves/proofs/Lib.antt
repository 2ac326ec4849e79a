mod Passing
mod Turns
mod Calling
