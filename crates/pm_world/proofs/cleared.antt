-- New devices: field `new_devices_wait`.
pub mod Cleared
