-- An outline drawn into buffers that hold the largest one.
pub mod FreshOutline
