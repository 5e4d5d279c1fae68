pub mod Findings
pub use Rattle.report_lines.specs.Text
