pub mod Report
pub mod Lines
pub use Rattle.report_lines.specs.Text
