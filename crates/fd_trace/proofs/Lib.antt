mod Values
mod Ways
