mod Reading
mod Bytes
