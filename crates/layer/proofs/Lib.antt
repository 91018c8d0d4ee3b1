mod Replies
mod Piling
