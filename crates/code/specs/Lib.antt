-- The postfix code of a loop body: a device between a text's meaning and the machine.
pub mod Instr
pub mod Compile
