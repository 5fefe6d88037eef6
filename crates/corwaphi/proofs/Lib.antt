mod AdvancingLaws
mod Behind
mod Buffers
mod Opened
mod Prefixes
mod Room
mod WritingLaws
