-- Runs of a disk: what each call does to its commands is what some calls of their engine do (`block_engine`).
use Rattle.std.specs.Prelude.{ℕ, ◌≡◌, List, [], ◌∷◌, ◌++◌, drop, Option, Some, None, Result, Ok}
use Rattle.fis_view.specs.{Seen.seen, declared.view.{Fis.Fis, FisFault.FisFault}}
use Rattle.fis_view.specs.declared.view.Fis.TheVariants as view
use Rattle.block_engine.specs.declared.{aside.AsideKind.TheVariants.{Flush, Discard}, request.{Answer.Answer, Range.Range, Request.Request}}
use Rattle.block_engine.specs.Engine.{EngineState, IsEngineStart, IsRequested, answer_refusal, answered, aside_asked, place_asked, started}
use Rattle.block_engine.specs.Laws.{Step}
use Rattle.block_engine.specs.Laws as engine
use Rattle.ata_front.specs.{Fronts.heard_data, declared.task.Act.Act}
use Rattle.ata_front.specs.declared.task.Act.TheVariants as act
use Rattle.disk_pages.specs.Profiles.{facts_of}
use Rattle.sata_disk.specs.{State.{DiskState, commands, data_place}, Hearing.{MayHear, fis_heard, plugged, ranges_of, register_told}, Sending.IsOut}
use Rattle.sata_disk.specs.{Sending.after_sent, declared.out.Out.Out}
use Rattle.sata_disk.specs.declared.out.Out.TheVariants as out

-- the calls of a disk that change it; a call that refuses something changes nothing and is none of them
pub data Call : Type 0 where
  Plugs : Call
  -- a FIS of these bytes came
  Hears : List ℕ → Call
  Starts : Option ℕ → Call
  Asks : Request → Call
  Answers : ℕ → Answer → Call
  Sends : Out → Call

abbrev pub asked_by : EngineState → Option ℕ → EngineState
asked_by e None = aside_asked e
asked_by e (Some p) = place_asked e p

-- what the conditions and the answers of the calls say
abbrev pub IsCall : DiskState → Call → Type 0
IsCall d Plugs = Unit {0}
IsCall d (Hears f) = MayHear d (seen f)
IsCall d (Starts x) = IsEngineStart d.engine x
IsCall d (Asks r) = IsRequested d.engine (asked_by d.engine r.place) (Some r)
IsCall d (Answers number a) = answer_refusal d.engine number a ≡ None
IsCall d (Sends o) = IsOut d (Some o)

-- what the calls leave
abbrev pub after_call : DiskState → Call → DiskState
after_call d Plugs = plugged d
after_call d (Hears f) = fis_heard d (seen f)
after_call d (Starts x) = record d { engine = started d.engine x }
after_call d (Asks r) = record d { engine = asked_by d.engine r.place }
after_call d (Answers number a) = record d { engine = answered d.engine number a }
after_call d (Sends o) = after_sent d o

abbrev pub AreCalls : DiskState → List Call → Type 0
AreCalls d [] = Unit {0}
AreCalls d (c ∷ later) = IsCall d c × AreCalls (after_call d c) later

unfoldable pub after_calls : DiskState → List Call → DiskState
after_calls d [] = d
after_calls d (c ∷ later) = after_calls (after_call d c) later

-- ## What they do to the engine

abbrev pub act_steps : EngineState → Act → List Step
act_steps e act.Nothing = []
act_steps e (act.Takes c) = engine.Takes c ∷ []
act_steps e act.Flushes = engine.TakesAside Flush e.ranges ∷ []
act_steps e act.Resets = engine.Resets ∷ []

abbrev pub range_steps : Option (List Range) → List Step
range_steps None = []
range_steps (Some ranges) = engine.TakesAside Discard ranges ∷ []

abbrev pub data_steps : DiskState → Option ℕ → List ℕ → List Step
data_steps d None bytes = engine.Hears (data_place (commands d)) bytes ∷ []
data_steps d (Some blocks) bytes = range_steps (ranges_of blocks (facts_of d.profile).sectors bytes)

abbrev pub fis_steps : DiskState → Result Fis FisFault → List Step
fis_steps d (Ok (view.RegH2D f)) = act_steps d.engine (register_told d f).act
fis_steps d (Ok (view.Payload f)) = data_steps d (heard_data d.front.task) (drop 4 f)
fis_steps d _ = []

abbrev pub start_steps : Option ℕ → List Step
start_steps None = []
start_steps (Some p) = engine.Starts p ∷ []

abbrev pub ask_steps : Option ℕ → List Step
ask_steps None = engine.AsksAside ∷ []
ask_steps (Some p) = engine.Asks p ∷ []

abbrev pub out_steps : Out → List Step
out_steps (out.Own r) = []
out_steps (out.Page p) = []
out_steps (out.Beside r) = engine.SendsAside ∷ []
out_steps (out.Ends tags) = engine.SendsEnds ∷ []
out_steps (out.Of p r) = engine.Sends p ∷ engine.Forgives ∷ []
out_steps (out.Data p n) = engine.Sends p ∷ engine.Forgives ∷ []

abbrev pub steps_of : DiskState → Call → List Step
steps_of d Plugs = engine.Resets ∷ []
steps_of d (Hears f) = fis_steps d (seen f)
steps_of d (Starts x) = start_steps x
steps_of d (Asks r) = ask_steps r.place
steps_of d (Answers number a) = engine.Answers number a ∷ []
steps_of d (Sends o) = out_steps o

unfoldable pub all_steps : DiskState → List Call → List Step
all_steps d [] = []
all_steps d (c ∷ later) = steps_of d c ++ all_steps (after_call d c) later
