mod Lines
mod Cutting
mod Widest
mod Entering
mod Works
