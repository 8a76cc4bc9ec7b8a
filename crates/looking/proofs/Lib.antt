-- Look's answer.
mod Answering
