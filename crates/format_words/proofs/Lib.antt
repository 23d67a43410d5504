pub mod LineFormats
