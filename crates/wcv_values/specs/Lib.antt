pub mod SeenValues
