-- The left row's law, octants of another offset, the solve in stages, and the worked examples of degrees.
pub mod Rows
pub mod Offset
pub mod Examples
pub mod Solving
pub mod Turned
