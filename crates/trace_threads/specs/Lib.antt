pub mod Agendas
pub mod Endings
