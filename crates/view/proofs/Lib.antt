-- The view, word by word, and after a schedule.
mod Viewing
mod Looking
