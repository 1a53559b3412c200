-- What a tick can see of the port and of memory.
use Rattle.std.specs.Prelude.{ℕ, Bool, List, Option}
use Rattle.hba_driver.specs.declared.sight.ErrorLog.{ErrorLog}

pub record Sight : Type 0 where
  -- PxCI and PxSACT together: the slots that are not done
  pub issued : ℕ
  -- the port is to be stopped: a fault stopped it, or a notification came beside a command of a device
  pub stopped : Bool
  -- the device whose fault the port shows, and is to be cleared
  pub faulty : Option ℕ
  -- the multiplier is in software reset
  pub resetting : Bool
  -- by device: it is in software reset
  pub in_reset : List Bool
  -- PxSNTF has the multiplier's bit
  pub notified : Bool
  -- the value in the multiplier's last answer, or its signature
  pub answer : ℕ
  -- by device: the signature of an ATA device stands in its row of the received area, or was heard
  pub signed : List Bool
  -- the IDENTIFY data in the driver's buffer is that of a device for queued commands
  pub usable : Bool
  -- the error log, if the driver's buffer has it
  pub log : ErrorLog
