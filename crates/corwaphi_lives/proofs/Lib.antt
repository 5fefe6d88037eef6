mod Replies
mod Stepping
mod Led
mod Lives
mod Opened
mod Places
mod WorkedTold
