-- Lists of events of the core, one after another.
use Rattle.std.proofs.{Common.{◌≡◌, List, [], ◌∷◌, ◌++◌, refl, sym, subst, arith, replicate, None}, lemmas.Bool.{false≢true}}
use Rattle.slots.specs.{Table.IsTable, Slots.no_slots}
use Rattle.slots.proofs.Door.{new_table}
use Rattle.hba_fbs.specs.{Resets.{link_reset, whole_reset}, Views.Port}
use Rattle.hba_fbs.proofs.Door.{none_have}
use Rattle.hba_laws.specs.{Cores.{CoreEvent, DoesBy, IsCore}, CoreHistories.IsFramedBy}
use Rattle.ahci_controller.specs.States.{ControllerState}
use Rattle.controller_laws.specs.{CoreEvents.AreCoreEvents, Events.IsController}

pub core_kept : (c : ControllerState) → IsController c → IsCore c.core
core_kept c k = record { port = k.port; slots = k.slots }

pub no_core_event : (a b : Port) → IsCore a → b ≡ a → AreCoreEvents a [] b
no_core_event a b ok same = record { run = same; sound = record { cores = ok; frames = tt } }

pub one_core_event : (e : CoreEvent) (a b : Port) → IsCore a → IsCore b → IsFramedBy e → DoesBy a e b → AreCoreEvents a (e ∷ []) b
one_core_event e a b ok ok_new framed does = record {
  run = (b, does, refl);
  sound = record { cores = (ok, ok_new); frames = (framed, tt) };
}

pub then_core_events : (es fs : List CoreEvent) (a b c : Port) → AreCoreEvents a es b → AreCoreEvents b fs c → AreCoreEvents a (es ++ fs) c
then_core_events [] fs a b c h k = subst (λ (p : Port). AreCoreEvents p fs c) h.run k
then_core_events (e ∷ es) fs a b c h k =
    let rest : AreCoreEvents h.run.0 (es ++ fs) c = then_core_events es fs h.run.0 b c (record { run = h.run.2; sound = record { cores = h.sound.cores.1; frames = h.sound.frames.1 } }) k in
    record {
      run = (h.run.0, h.run.1, rest.run);
      sound = record { cores = (h.sound.cores.0, rest.sound.cores); frames = (h.sound.frames.0, rest.sound.frames) };
    }

-- the same list, spelled otherwise
pub as_list : (es fs : List CoreEvent) (a b : Port) → fs ≡ es → AreCoreEvents a es b → AreCoreEvents a fs b
as_list es fs a b same h = subst (λ (l : List CoreEvent). AreCoreEvents a l b) (sym same) h

-- ---- a core that is reset keeps the rules

no_commands : IsTable no_slots
no_commands = new_table 32 16 refl refl

pub whole_kept : (port : Port) → IsCore (whole_reset port)
whole_kept port = record {
  port = record {
    registers = record { chosen = omega arith; receives = λ e. absurd (false≢true e) };
    commands = none_have (replicate 32 None);
    active = omega arith;
  };
  slots = no_commands;
}

pub link_kept : (port : Port) → IsCore port → IsCore (link_reset port)
link_kept port ok = record {
  port = record {
    registers = record { chosen = ok.port.registers.chosen; receives = λ e. absurd (false≢true e) };
    commands = none_have (replicate 32 None);
    active = omega arith;
  };
  slots = no_commands;
}
