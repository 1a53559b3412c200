-- For `ends_go_on`. A frame that goes out of a host port has the PM Port of its stamp, so a disk gets what is stamped
-- with its port and nothing else.
use Rattle.std.proofs.Common.{◌≡◌, ◌≢◌, ℕ, ◌<◌, List, [], ◌∷◌, sym, ◌∙◌, ap, arith, Some, None}
use Rattle.std.specs.Prelude.{◌%◌, slice_index}
use Rattle.fis_view.specs.Frames.{Stamped, marked}
use Rattle.hba_fbs.specs.{Sending.{Data, Gives, Order, Outgoing, data_fis, gathered, outgoing}, Tables.prds_of}
use Rattle.disk_model.specs.Histories.{Received}
use Rattle.hba_laws.specs.{Client.Touches, Sound.IsHost, Between.GoesOut}
use Rattle.hba_laws.proofs.Door.{goes_out}
use Rattle.hba_driver.specs.{Events.{IsSoundHost, shared_by}, HostTurns.{Does, Host, Pushed}, Served.IsServed}
use Rattle.hba_driver.proofs.Door.{sound_shared}
use Rattle.disk_recovery.specs.Kept.{given_to}
use Rattle.disk_recovery.proofs.honest.PushLemmas.{HasLast, OutTold, given_elsewhere, given_here, out_last, out_told}

module _ (h : Host) (touches : Touches) (frame : Stamped) (new : Host) (sound : IsHost (shared_by h))
    (served : IsServed h.driver (shared_by h) touches) where
  data_port : (dev : ℕ) (bytes : List ℕ) → dev < 16 → slice_index (data_fis dev bytes) 1 % 16 ≡ dev
  data_port dev bytes small = omega (arith, small)

  by_frame : (o : Outgoing) → Gives o h.port h.memory (Some frame) new.port → HasLast h.port o → GoesOut h.port o
      → slice_index frame.bytes 1 % 16 ≡ frame.stamp.port
  by_frame (Data dev offset len command) gave last goes =
      ap (λ (s : Stamped). slice_index s.bytes 1 % 16) gave.frame_is
      ∙ data_port dev (gathered (prds_of h.memory command) offset len h.memory.client) last
      ∙ sym (ap (λ (s : Stamped). s.stamp.port) gave.frame_is)
  by_frame (Order dev slot command) gave last goes =
      let o : OutTold h touches dev slot command = out_told h touches dev slot command sound served goes last in
      ap (λ (s : Stamped). slice_index s.bytes 1 % 16) gave.frame_is ∙ o.port ∙ sym (ap (λ (s : Stamped). s.stamp.port) gave.frame_is)
  by_frame other gave last goes = let none : Some frame ≡ None = gave.0 in cc

pub frame_port : (h : Host) (touches : Touches) (frame : Stamped) (new : Host) → IsSoundHost h → IsServed h.driver (shared_by h) touches
    → Does h (Pushed (Some frame)) new → slice_index frame.bytes 1 % 16 ≡ frame.stamp.port
frame_port h touches frame new sound served does =
    by_frame h touches frame new (sound_shared h sound) served (outgoing h.port h.memory) does.gives (out_last h.port h.memory)
    (goes_out h.port h.memory)

pub none_to_other : (n : ℕ) (h : Host) (touches : Touches) (frame : Stamped) (new : Host) → IsSoundHost h → IsServed h.driver (shared_by h) touches
    → Does h (Pushed (Some frame)) new → frame.stamp.port ≢ n → given_to n (Some frame) ≡ []
none_to_other n h touches frame new sound served does other =
    given_elsewhere n frame.stamp.port frame (frame_port h touches frame new sound served does) (λ e. other (sym e))

pub given_its : (n : ℕ) (h : Host) (touches : Touches) (frame : Stamped) (new : Host) → IsSoundHost h → IsServed h.driver (shared_by h) touches
    → Does h (Pushed (Some frame)) new → frame.stamp.port ≡ n → given_to n (Some frame) ≡ Received (marked frame.bytes 0) ∷ []
given_its n h touches frame new sound served does is =
    given_here n frame (frame_port h touches frame new sound served does ∙ is)
