pub mod SilentWriter
