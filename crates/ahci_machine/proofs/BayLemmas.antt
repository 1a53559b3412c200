-- A move at a port is one of the machine, and where nothing moved there the machine stays.
use Rattle.std.proofs.{Common.{◌≡◌, ℕ, ◌<◌, true, List, get_or, length, set, sym, ap, subst, ◌∙◌, Option, None, Some, refl}, lemmas.Bool.{ltb-true}}
use Rattle.std.proofs.lemmas.{Bool.{lt-ltb}, List.{get_or-set_same, set-get_or}}
use Rattle.std.specs.Prelude.{nat_lt}
use Rattle.fan_out.specs.declared.fan_out.FanOut.{FanOut}
use Rattle.ahci_machine.specs.{Acts.{MayDo, ServesNext}, Bays.{BayDoes, BayMayDo}, States.{MachineState, bay_at, empty_bay}, declared.act.Act.Act}
use Rattle.ahci_machine.specs.declared.{bay.Bay.Bay, request.MediumId.MediumId}
use Rattle.ahci_machine.specs.declared.act.Act.TheVariants as act

abbrev with_both : MachineState → FanOut → (port : ℕ) → Bay → MachineState
with_both m fan port bay = record m { fan = fan; bays = set m.bays port bay }

serves : (old : MachineState) (port : ℕ) (a : Act) (fan : FanOut) (bay : Bay) → nat_lt port (length old.bays) ≡ true → BayDoes port old.fan (bay_at old port) a fan bay → ServesNext port a old (with_both old fan port bay)
serves old port a fan bay inside does = record {
  inside = inside;
  does = subst (λ (b : Bay). BayDoes port old.fan (bay_at old port) a fan b) (sym there) does;
  rest = ap (with_both old fan port) (sym there);
}
  where
    there : get_or (set old.bays port bay) port empty_bay ≡ bay
    there = get_or-set_same old.bays port bay empty_bay (ltb-true port (length old.bays) inside)

same : (old : MachineState) (port : ℕ) (fan : FanOut) (bay : Bay) → fan ≡ old.fan → bay ≡ bay_at old port → with_both old fan port bay ≡ old
same old port fan bay f b = ap (λ (x : FanOut). with_both old x port bay) f ∙ ap (with_both old old.fan port) b ∙ ap (λ (bays : List Bay). record old { bays = bays }) (set-get_or old.bays port empty_bay)

at_port : (old : MachineState) (n port : ℕ) (a : Act) (new : MachineState) → n ≡ port → ServesNext port a old new → ServesNext n a old new
at_port old n port a new is h = subst (λ (k : ℕ). ServesNext k a old new) (sym is) h

moved : (old : MachineState) (port : ℕ) (a : Act) (fan : FanOut) (bay : Bay) → nat_lt port (length old.bays) ≡ true → BayDoes port old.fan (bay_at old port) a fan bay → MayDo old (Some a) (with_both old fan port bay)
moved old port (act.Falls n) fan bay inside h = (refl, at_port old n port (act.Falls n) (with_both old fan port bay) h.0 (serves old port (act.Falls n) fan bay inside h))
moved old port (act.Hears n unheard) fan bay inside h = (refl, at_port old n port (act.Hears n unheard) (with_both old fan port bay) h.0 (serves old port (act.Hears n unheard) fan bay inside h))
moved old port (act.Points n) fan bay inside h = (refl, at_port old n port (act.Points n) (with_both old fan port bay) h.0 (serves old port (act.Points n) fan bay inside h))
moved old port (act.Drops n) fan bay inside h = (refl, at_port old n port (act.Drops n) (with_both old fan port bay) h.0 (serves old port (act.Drops n) fan bay inside h))
moved old port (act.Speaks n out) fan bay inside h = (refl, at_port old n port (act.Speaks n out) (with_both old fan port bay) h.0 (serves old port (act.Speaks n out) fan bay inside h))
moved old port (act.Starts n place) fan bay inside h = (refl, at_port old n port (act.Starts n place) (with_both old fan port bay) h.0 (serves old port (act.Starts n place) fan bay inside h))
moved old port (act.Asks id request) fan bay inside h = (refl, at_port old id.port port (act.Asks id request) (with_both old fan port bay) (ap (λ (i : MediumId). i.port) h.0) (serves old port (act.Asks id request) fan bay inside h))
moved old port act.Rests fan bay inside h = absurd h
moved old port (act.Writes w) fan bay inside h = absurd h
moved old port act.LetsGo fan bay inside h = absurd h
moved old port (act.Line b) fan bay inside h = absurd h
moved old port act.Message fan bay inside h = absurd h
moved old port (act.Turns said) fan bay inside h = absurd h
moved old port (act.Does said) fan bay inside h = absurd h
moved old port (act.Sends passed) fan bay inside h = absurd h
moved old port (act.Wants read) fan bay inside h = absurd h
moved old port (act.Gathers dev fed) fan bay inside h = absurd h
moved old port (act.Misses slot fed) fan bay inside h = absurd h
moved old port act.Rises fan bay inside h = absurd h
moved old port (act.Takes took) fan bay inside h = absurd h
moved old port (act.Loses why) fan bay inside h = absurd h
moved old port (act.Begins n) fan bay inside h = absurd h

pub served : (old new : MachineState) (port : ℕ) (a : Option Act) (fan : FanOut) (bay : Bay) → port < length old.bays → BayMayDo port old.fan (bay_at old port) a fan bay → new ≡ record old { fan = fan; bays = set old.bays port bay } → MayDo old a new
served old new port None fan bay inside h is = is ∙ same old port fan bay h.0 h.1
served old new port (Some a) fan bay inside h is = subst (λ (m : MachineState). MayDo old (Some a) m) (sym is) (moved old port a fan bay (lt-ltb port (length old.bays) inside) h)

-- the same of a move that leaves what is behind the controller
pub served_here : (old new : MachineState) (port : ℕ) (a : Option Act) (bay : Bay) → port < length old.bays → ((fan : FanOut) → BayMayDo port fan (bay_at old port) a fan bay) → new ≡ record old { bays = set old.bays port bay } → MayDo old a new
served_here old new port a bay inside h is = served old new port a old.fan bay inside (h old.fan) is
