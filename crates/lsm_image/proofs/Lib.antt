mod Newest
mod Begun
