-- The rule of restored registers: what fits is sound.
use Rattle.std.proofs.Common.{◌≡◌, ℕ, zero, suc, Bool, true, false, ◌==◌, ◌&&◌, ◌||◌, List, [], ◌∷◌, length, slice_index_or, refl, arith}
use Rattle.std.proofs.lemmas.Bool.{and_parts, and_from, eq-eqb, eqb-true, leb-true, le-leb}
use Rattle.std.specs.{Prelude.{not, nat_le}, List.list_all}
use Rattle.pm_registers.specs.{declared.port.PortRegisters.PortRegisters, Port.{ShowsTruly, det, is_open, opening_port}, RegisterMap.IsSound}
use Rattle.pm_registers.specs.{RegisterMap.RegisterMap, Saved.{fits, shows_truly}}

-- one port

truly : (p : PortRegisters) (b : Bool) → (det p.status == 3) ≡ b → (not b || is_open p && p.present) ≡ true → ShowsTruly p
truly p true is shown = λ e. and_parts (is_open p) p.present shown
truly p false is shown = λ e. let on : (det p.status == 3) ≡ true = eq-eqb (det p.status) 3 e in absurd (cc)

pub shows : (p : PortRegisters) → shows_truly p ≡ true → ShowsTruly p
shows p shown = truly p (det p.status == 3) refl shown

tested : (p : PortRegisters) (b : Bool) → (det p.status == 3) ≡ b → ShowsTruly p → (not b || is_open p && p.present) ≡ true
tested p true is shown = let both = shown (eqb-true (det p.status) 3 is) in and_from (is_open p) p.present both.0 both.1
tested p false is shown = refl

pub shown : (p : PortRegisters) → ShowsTruly p → shows_truly p ≡ true
shown p is = tested p (det p.status == 3) refl is

-- all of them

pub each_shows : (bank : List PortRegisters) → list_all shows_truly bank ≡ true → (n : ℕ) → ShowsTruly (slice_index_or bank n opening_port)
each_shows [] all n = λ e. absurd (omega (arith, e))
each_shows (p ∷ bank) all zero = shows p (and_parts (shows_truly p) (list_all shows_truly bank) all).0
each_shows (p ∷ bank) all (suc n) = each_shows bank (and_parts (shows_truly p) (list_all shows_truly bank) all).1 n

pub each_shown : (bank : List PortRegisters) → ((n : ℕ) → ShowsTruly (slice_index_or bank n opening_port)) → list_all shows_truly bank ≡ true
each_shown [] all = refl
each_shown (p ∷ bank) all = and_from (shows_truly p) (list_all shows_truly bank) (shown p (all zero)) (each_shown bank (λ n. all (suc n)))

-- the whole map

pub fit_sound : (m : RegisterMap) → length m.bank ≡ 15 → fits m.ports m.bank ≡ true → IsSound m
fit_sound m long fit =
    let both = and_parts (nat_le m.ports 15) (list_all shows_truly m.bank) fit in record {
      ports = leb-true m.ports 15 both.0;
      bank = long;
      shown = each_shows m.bank both.1;
    }

pub sound_fits : (m : RegisterMap) → IsSound m → fits m.ports m.bank ≡ true
sound_fits m sound = and_from (nat_le m.ports 15) (list_all shows_truly m.bank) (le-leb m.ports 15 sound.ports) (each_shown m.bank sound.shown)
