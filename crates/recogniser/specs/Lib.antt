pub mod Pixel
pub mod RoundTrip
pub mod WayBack
