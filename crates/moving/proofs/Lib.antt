-- Both steps, cell by cell.
mod Steps
