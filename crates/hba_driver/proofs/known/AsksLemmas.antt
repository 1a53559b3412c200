-- For `commands_are_meant` and `none_is_stale` of `pm_world`. What holds for a host of a run, from the opening on and
-- after each turn. It follows that the commands of requests go out to known devices, each with the PM Port of its
-- device.
use Rattle.std.proofs.{Common.{◌≡◌, ℕ, ◌<◌, Bool, true, false, refl, sym, ◌∙◌, subst, Some}, lemmas.Bool.true_from_ne_false}
use Rattle.std.specs.Prelude.{◌%◌, slice_index}
use Rattle.fis_view.specs.Frames.{Stamped}
use Rattle.host_memory.specs.Memory.{IsHostMemory, Memory}
use Rattle.hba_driver.specs.{Events.opening_host, HostTurns.{Does, Host, HostTurn, Pushed}, Known.{is_request, known_after}, Between.IsAsking}
use Rattle.hba_driver.proofs.{accepted.AcceptLemmas.{way_opens, way_turn}, addresses.AddressLemmas.{none_issued, turn_addressed, turn_their}}
use Rattle.hba_driver.proofs.known.{KnownRuns.{known_turn, opening_unknown}, PushedLemmas.{opening_plain, plain_turn, request_known}}

pub asking_opens : (n given : ℕ) (start : Memory) → IsHostMemory start → IsAsking n false (opening_host given start)
asking_opens n given start size = record {
  way = way_opens given start size;
  plain = opening_plain given start;
  their = λ k s c low busy last. none_issued k s c last;
  unknown = λ none. opening_unknown given start n;
}

pub asking_turn : (n : ℕ) → n < 15 → (known : Bool) (old : Host) (t : HostTurn) (new : Host) → Does old t new → IsAsking n known old → IsAsking n (known_after n known old t) new
asking_turn n below known old t new does h = record {
  way = way_turn old t new does h.way;
  plain = plain_turn old t new does h.way h.plain;
  their = turn_their old t new does h.way.sound h.their;
  unknown = known_turn n below known old t new does h.way h.unknown;
}

-- the command of a request goes out with the PM Port of a device that is known
pub asking_known : (n : ℕ) → n < 15 → (known : Bool) (h : Host) (frame : Stamped) (new : Host) → Does h (Pushed (Some frame)) new → IsAsking n known h → slice_index frame.bytes 1 % 16 ≡ n → is_request frame.bytes ≡ true → known ≡ true
asking_known n below known h frame new does a port asks =
    let to : frame.stamp.port ≡ n = sym (turn_addressed h (Pushed (Some frame)) new does a.way.sound a.their) ∙ port in
    let of : n ≡ n → known ≡ true = subst (λ (k : ℕ). k ≡ n → known ≡ true) to (request_known h new frame a.way a.plain (subst (λ (k : ℕ). k < 15) (sym to) below) asks (λ k. k ≡ n → known ≡ true)
    (λ s e here issued same. true_from_ne_false known (λ none. (a.unknown none).driver.entries s e here issued same)) does) in
    of refl
