pub mod Walking
pub mod Handing
pub mod Counting
pub mod Searching
pub mod ExtentLaws
pub mod FirstFit
pub mod GapWalks
