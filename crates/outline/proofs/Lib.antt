-- Laws of an outline as a call.
pub mod Pushed
pub mod OutlineCall
