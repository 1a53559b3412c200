-- The errors of a host port as words.
use Rattle.std.specs.Prelude.{◌≡◌, ℕ, ◌<◌, List, ◌∷◌, Option, Some, None, Bool, ◌&&◌, is_some, is_none, slice_index_or, nat_lt, refl, ◌^◌, length}
use Rattle.std.specs.List.{AllByRecursion}
use Rattle.port_errors.specs.declared.cause.DeviceCause.{DeviceCause, TheVariants.{TaskFile, BadTag, Overflow, Stray, Twice, Fragments, Short}}
use Rattle.port_errors.specs.declared.cause.{DeviceCause.TheVariants.{BadFis, WrongWay}, PortCause.TheVariants.{BadControl, Bus}, Stop.Stop}
use Rattle.port_errors.specs.Errors.{AreErrors, Errors, lowest_marked}
use Rattle.port_errors.specs.declared.cause.Stop.TheVariants as stop
use Rattle.std.proofs.Common.{ap, arith, sym, ◌∙◌}
use Rattle.saved_state.specs.State.{IsToldApart, KeepsOption, put_all, put_number, put_option, put_three, three_apart, all_apart, option_apart}
use Rattle.saved_state.specs.State.{number_apart, each_free, option_free, parts_apart}

abbrev pub cause_number : DeviceCause → ℕ
cause_number TaskFile = 1
cause_number BadTag = 2
cause_number Overflow = 3
cause_number Stray = 4
cause_number Twice = 5
cause_number Fragments = 6
cause_number Short = 7
cause_number BadFis = 8
cause_number WrongWay = 9

abbrev pub put_cause : DeviceCause → List ℕ → List ℕ
put_cause cause rest = cause_number cause ∷ rest

abbrev pub stop_number : Stop → ℕ
stop_number (stop.Port BadControl) = 1
stop_number (stop.Port Bus) = 2
stop_number stop.Device = 3

abbrev pub put_stop : Stop → List ℕ → List ℕ
put_stop by rest = stop_number by ∷ rest

-- the causes of the 16 devices, the reported device, and what stopped the port
abbrev pub Parts : Type 0
Parts = List (Option DeviceCause) × Option ℕ × Option Stop

abbrev pub parts_of : Errors → Parts
parts_of errors = (errors.causes, errors.reported, errors.port)

abbrev pub put_parts : Parts → List ℕ → List ℕ
put_parts = put_three (put_all (put_option put_cause)) (put_option put_number) (put_option put_stop)

abbrev pub KeepsParts : Parts → Type 0
KeepsParts parts = ((length parts.0 ≡ 16) × AllByRecursion (KeepsOption (λ _. Unit {0})) parts.0)
    × KeepsOption (λ n. n < 2 ^ 8) parts.1 × KeepsOption (λ _. Unit {0}) parts.2

abbrev pub put_errors : Errors → List ℕ → List ℕ
put_errors errors rest = put_parts (parts_of errors) rest

-- whether this device can be the one that is reported: one that is faulty, or none where none is
abbrev pub fits : List (Option DeviceCause) → Option ℕ → Bool
fits causes None = is_none (lowest_marked causes)
fits causes (Some dev) = nat_lt dev 16 && is_some (slice_index_or causes dev None)

abbrev pub fit : Parts → Bool
fit parts = fits parts.0 parts.1

-- ---- words are those of one value

cause_same : (a b : DeviceCause) → cause_number a ≡ cause_number b → a ≡ b
cause_same TaskFile TaskFile e = refl
cause_same BadTag BadTag e = refl
cause_same Overflow Overflow e = refl
cause_same Stray Stray e = refl
cause_same Twice Twice e = refl
cause_same Fragments Fragments e = refl
cause_same Short Short e = refl
cause_same BadFis BadFis e = refl
cause_same WrongWay WrongWay e = refl
cause_same a b e = absurd (cc)

stop_same : (a b : Stop) → stop_number a ≡ stop_number b → a ≡ b
stop_same (stop.Port BadControl) (stop.Port BadControl) e = refl
stop_same (stop.Port Bus) (stop.Port Bus) e = refl
stop_same stop.Device stop.Device e = refl
stop_same (stop.Port BadControl) (stop.Port Bus) e = absurd (omega (arith, e))
stop_same (stop.Port Bus) (stop.Port BadControl) e = absurd (omega (arith, e))
stop_same (stop.Port BadControl) stop.Device e = absurd (omega (arith, e))
stop_same (stop.Port Bus) stop.Device e = absurd (omega (arith, e))
stop_same stop.Device (stop.Port BadControl) e = absurd (omega (arith, e))
stop_same stop.Device (stop.Port Bus) e = absurd (omega (arith, e))

pub cause_apart : IsToldApart put_cause (λ _. Unit {0})
cause_apart a b x y k l e = let same : cause_number a ≡ cause_number b = cc in (cause_same a b same, cc)

pub stop_apart : IsToldApart put_stop (λ _. Unit {0})
stop_apart a b x y k l e = let same : stop_number a ≡ stop_number b = cc in (stop_same a b same, cc)

pub parts_are_apart : IsToldApart put_parts KeepsParts
parts_are_apart = three_apart (put_all (put_option put_cause)) (λ all. (length all ≡ 16) × AllByRecursion (KeepsOption (λ _. Unit {0})) all)
    (λ a b x y k l e. all_apart (put_option put_cause) (KeepsOption (λ _. Unit {0})) (option_apart put_cause (λ _. Unit {0}) cause_apart) a b x y (k.0 ∙ sym l.0) k.1 l.1 e)
    (put_option put_number) (KeepsOption (λ n. n < 2 ^ 8)) (option_apart put_number (λ n. n < 2 ^ 8) (λ a b x y k l e. number_apart a b x y e))
    (put_option put_stop) (KeepsOption (λ _. Unit {0})) (option_apart put_stop (λ _. Unit {0}) stop_apart)

low_device : (errors : Errors) → AreErrors errors → (dev : Option ℕ) → errors.reported ≡ dev → KeepsOption (λ n. n < 2 ^ 8) dev
low_device errors are None e = tt
low_device errors are (Some dev) e = omega (arith, (are.reported_is_marked dev e).0)

pub errors_keep : (errors : Errors) → AreErrors errors → KeepsParts (parts_of errors)
errors_keep errors are = (
  (are.ports, each_free (KeepsOption (λ _. Unit {0})) (option_free (λ _. Unit {0}) (λ _. tt)) errors.causes),
  low_device errors are errors.reported refl,
  option_free (λ _. Unit {0}) (λ _. tt) errors.port,
)

pub errors_apart : IsToldApart put_errors AreErrors
errors_apart = parts_apart put_parts KeepsParts AreErrors parts_of parts_are_apart errors_keep
    (λ a b e. ap (λ p. record { causes = p.0; reported = p.1; port = p.2 }) e)
