-- The answers of Check and Load.
mod Answering
