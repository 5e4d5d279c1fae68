pub mod Line
pub mod Text
pub mod Records
pub use Rattle.panel_file.specs.File
