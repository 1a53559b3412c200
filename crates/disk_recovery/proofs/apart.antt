-- A device that is set aside: `begins_anew_apart`.
pub mod ApartBegins
