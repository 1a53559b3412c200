-- What a FIS that is heard has a disk take: the command that it asks for, at the place that it names; or nothing.
use Rattle.std.proofs.Common.{◌≡◌, ℕ, ◌%◌, ◌/◌, ◌+◌, true, false, List, [], ◌∷◌, drop, Some, None, refl, sym, ap, ◌∙◌, subst}
use Rattle.std.proofs.lemmas.Bool.{eqb-true}
use Rattle.std.specs.Prelude.{Option, Bool, ◌==◌, ◌&&◌, ◌||◌, nat_le, nat_lt, if◌then◌else◌, Result, Ok}
use Rattle.fis_view.specs.{Table.{H2d, Command, Count, Features, Lba, field}, declared.view.{Fis.Fis, FisFault.FisFault}}
use Rattle.fis_view.specs.declared.view.Fis.TheVariants as view
use Rattle.block_command.specs.declared.command.Command as block
use Rattle.block_engine.specs.Laws as engine
use Rattle.ata_command.specs.Asks.{DiskFacts, aborted, asked, asked_by, block_in, does_smart, moved, queued, sets, sets_multiple, setting_of}
use Rattle.ata_command.specs.{Asks.{smart_task, transferred_by}, Courses.{course, resets}, Modes.multiple_of, Opcodes.{opcode_of, or_other}}
use Rattle.ata_command.specs.{Opcodes.transfer_of, declared.asked.{Asked.Asked as Ask, LogPage.LogPage, Move.Move, PowerTask.PowerTask}}
use Rattle.ata_command.specs.declared.{asked.{Refusal.Refusal, SmartTask.SmartTask}, control.Course.{Course, TheVariants.{Drop, Refuse, AbortAll}}}
use Rattle.ata_command.specs.declared.{control.Course.TheVariants.Take, opcode.Opcode.Opcode, settings.{Multiple.Multiple, Setting.Setting}}
use Rattle.ata_command.specs.declared.settings.Settings.{Settings}
use Rattle.ata_command.specs.declared.asked.Asked.TheVariants as ask
use Rattle.ata_command.specs.declared.asked.PowerTask.TheVariants as power
use Rattle.ata_command.specs.declared.opcode.Opcode.TheVariants as code
use Rattle.ata_command.specs.declared.opcode.Transfer as moves
use Rattle.ata_command.specs.declared.settings.Setting.TheVariants as setting
use Rattle.ata_front.specs.Fronts.{commanded_by, controlled, heard_data, refused_by, set_by, standing, taken, taken_flush, taken_power}
use Rattle.ata_front.specs.declared.{front.Heard.Heard, task.Act.Act}
use Rattle.ata_front.specs.declared.task.Act.TheVariants as act
use Rattle.ata_front.specs.declared.task.Purpose.TheVariants as purpose
use Rattle.disk_pages.specs.{Logs.reads_log, Profiles.facts_of}
use Rattle.sata_disk.specs.{Hearing.{asked_of, command_told, is_command, ranges_of, register_told, with_logs}, State.{DiskState, commands, tags_of}}
use Rattle.sata_disk_laws.specs.{Calls.{act_steps, data_steps, fis_steps}, Once.place_in}
use Rattle.machine_theorem.proofs.TagKept.{StepNone, range_none}

-- ---- the command of a FIS

record IsAskedNow (d : DiskState) (f : List ℕ) (c : block.Command) : Type 0 where
  pub move : Move
  pub asks : asked_of d f ≡ ask.Moves move
  pub is : c ≡ move.command

abbrev OfAct : DiskState → List ℕ → Act → Type 0
OfAct d f (act.Takes c) = IsAskedNow d f c
OfAct d f other = Unit {0}

set_none : (d : DiskState) (f : List ℕ) (s : Setting) → OfAct d f (set_by d.front s).act
set_none d f (setting.WriteCache false) = tt
set_none d f (setting.WriteCache true) = tt
set_none d f (setting.LookAhead on) = tt
set_none d f (setting.AutoActivate on) = tt
set_none d f (setting.Mode mode) = tt
set_none d f (setting.Reverts on) = tt

refused_none : (d : DiskState) (f : List ℕ) (r : Refusal) (tag : Option ℕ) → OfAct d f (refused_by d.front r tag).act
refused_none d f r None = tt
refused_none d f r (Some tag) = tt

standby_none : (d : DiskState) (f : List ℕ) (b : Bool) (h : Heard) → h.act ≡ act.Nothing → OfAct d f (if b then taken_flush d.front purpose.Flush else h).act
standby_none d f true h is = tt
standby_none d f false h is = subst (OfAct d f) (sym is) tt

power_none : (d : DiskState) (f : List ℕ) (t : PowerTask) → OfAct d f (taken_power d.front t).act
power_none d f power.Check = tt
power_none d f power.Idle = tt
power_none d f power.Standby = standby_none d f d.front.settings.write_cache _ refl

taken_asked : (d : DiskState) (f : List ℕ) (a : Ask) → asked_of d f ≡ a → OfAct d f (taken d.front a).act
taken_asked d f (ask.Moves m) is = record { move = m; asks = is; is = refl }
taken_asked d f ask.Flushes is = tt
taken_asked d f (ask.Sets s) is = set_none d f s
taken_asked d f (ask.SetsMultiple m) is = tt
taken_asked d f (ask.Trims blocks) is = tt
taken_asked d f ask.Identifies is = tt
taken_asked d f (ask.ReadsLog p) is = tt
taken_asked d f (ask.Smart t) is = tt
taken_asked d f (ask.Power t) is = power_none d f t
taken_asked d f (ask.Refused r) is = refused_none d f r r.tag

command_asked : (d : DiskState) (f : List ℕ) (c : Course) → OfAct d f (commanded_by d.front (asked_of d f) c).act
command_asked d f Drop = tt
command_asked d f Refuse = tt
command_asked d f AbortAll = tt
command_asked d f Take = taken_asked d f (asked_of d f) refl

control_none : (d : DiskState) (f : List ℕ) (srst : Bool) → OfAct d f (controlled d.front srst).act
control_none d f true = tt
control_none d f false = tt

register_asked : (d : DiskState) (f : List ℕ) (b : Bool) → OfAct d f (if b then command_told d f else controlled d.front (resets f)).act
register_asked d f true = command_asked d f (course (asked_of d f) (standing d.front (tags_of (commands d))))
register_asked d f false = control_none d f (resets f)

-- ---- its place

abbrev AtPlace : ℕ → Ask → Type 0
AtPlace place (ask.Moves m) = m.command.place ≡ place
AtPlace place other = Unit {0}

either_at : (place : ℕ) (b : Bool) (x y : Ask) → AtPlace place x → AtPlace place y → AtPlace place (if b then x else y)
either_at place true x y e f = e
either_at place false x y e f = f

log_case : (place : ℕ) (p : LogPage) (b : Bool) → AtPlace place (if b then ask.ReadsLog p else aborted)
log_case place p true = tt
log_case place p false = tt

logs_at : (place : ℕ) (a : Ask) → AtPlace place a → AtPlace place (with_logs a)
logs_at place (ask.ReadsLog p) is = log_case place p ((p.count == 1) && reads_log p.log p.page p.count)
logs_at place (ask.Moves m) is = is
logs_at place other is = tt

moved_at : (d : DiskFacts) (c : block.Command) (wide : Bool) (place : ℕ) → c.place ≡ place → AtPlace place (moved d c wide)
moved_at d c wide place e = either_at place (nat_le (c.lba + c.count) d.sectors) _ _ e tt

module _ (f : List ℕ) (d : DiskFacts) (s : Settings) where
  abbrev tag : ℕ
  tag = field H2d Count f % 256 / 8

  queued_at : (write : Bool) → AtPlace tag (queued f write d s)
  queued_at write = either_at tag (nat_le d.depth tag) _ _ tt (moved_at d _ true tag refl)

  transfer_at : (t : moves.Transfer) (b : Option ℕ) → AtPlace 32 (transferred_by f t d s b)
  transfer_at t None = tt
  transfer_at t (Some b) = moved_at d _ t.wide 32 refl

  sets_at : (x : Option Setting) → AtPlace 32 (sets x)
  sets_at None = tt
  sets_at (Some y) = tt

  multiple_at : (x : Option Multiple) → AtPlace 32 (sets_multiple x)
  multiple_at None = tt
  multiple_at (Some y) = tt

  smart_at : (x : Option SmartTask) → AtPlace 32 (does_smart x)
  smart_at None = tt
  smart_at (Some y) = tt

  abbrev is_queued_op : Opcode → Bool
  is_queued_op code.ReadQueued = true
  is_queued_op code.WriteQueued = true
  is_queued_op _ = false

  other_at : (o : Opcode) → is_queued_op o ≡ false → AtPlace 32 (asked_by o f d s)
  other_at code.ReadQueued e = absurd (cc)
  other_at code.WriteQueued e = absurd (cc)
  other_at (code.Transfer t) e = transfer_at t (block_in t.way s.multiple)
  other_at code.SetFeatures e = sets_at (setting_of s.mode (field H2d Features f % 256) (field H2d Count f % 256))
  other_at code.SetMultiple e = multiple_at (multiple_of (field H2d Count f % 256))
  other_at code.DataSet e =
      either_at 32 ((field H2d Features f % 256 == 1) && nat_lt 0 (field H2d Count f) && nat_le (field H2d Count f) d.trim_blocks) _ aborted tt tt
  other_at code.Smart e =
      either_at 32 (field H2d Lba f / 0x100 % 0x10000 == 0xC24F) _ aborted (smart_at (smart_task (field H2d Features f % 256) (field H2d Count f % 256))) tt
  other_at other e = tt

  record IsOther (o : Opcode) : Type 0 where
    pub is : is_queued_op o ≡ false

  either_op : (b : Bool) (x y : Opcode) → IsOther x → IsOther y → IsOther (if b then x else y)
  either_op true x y e f = e
  either_op false x y e f = f

  op : (o : Opcode) → is_queued_op o ≡ false → IsOther o
  op o e = record { is = e }

  neither : (a b : Bool) (rest : Opcode) → a ≡ false → b ≡ false → IsOther rest
      → is_queued_op (if a then code.ReadQueued else (if b then code.WriteQueued else rest)) ≡ false
  neither true b rest e g is = absurd (cc)
  neither false true rest e g is = absurd (cc)
  neither false false rest e g is = is.is

  other_op : (x : Option moves.Transfer) (c : ℕ) → (c == 0x60) ≡ false → (c == 0x61) ≡ false → is_queued_op (or_other x c) ≡ false
  other_op (Some t) c e g = refl
  other_op None c e g = neither (c == 0x60) (c == 0x61) _ e g
      (either_op _ _ _ (op code.Flush refl) (either_op _ _ _ (op code.SetFeatures refl) (either_op _ _ _ (op code.SetMultiple refl)
      (either_op _ _ _ (op code.DataSet refl) (either_op _ _ _ (op code.Identify refl) (either_op _ _ _ (op code.ReadLog refl)
      (either_op _ _ _ (op code.ReadLogDma refl) (either_op _ _ _ (op code.Smart refl) (either_op _ _ _ (op code.Standby refl)
      (either_op _ _ _ (op code.Idle refl) (either_op _ _ _ (op code.CheckPower refl) (op code.Unknown refl))))))))))))

  op_at : (a b : Bool) → (field H2d Command f == 0x60) ≡ a → (field H2d Command f == 0x61) ≡ b
      → AtPlace (if a || b then tag else 32) (asked_by (opcode_of (field H2d Command f)) f d s)
  op_at true b e g =
      let P : ℕ → Type 0 = λ c. AtPlace tag (asked_by (opcode_of c) f d s) in
      subst P (sym (eqb-true (field H2d Command f) 0x60 e)) (queued_at false)
  op_at false true e g =
      let P : ℕ → Type 0 = λ c. AtPlace tag (asked_by (opcode_of c) f d s) in
      subst P (sym (eqb-true (field H2d Command f) 0x61 g)) (queued_at true)
  op_at false false e g = other_at (opcode_of (field H2d Command f)) (other_op (transfer_of (field H2d Command f)) (field H2d Command f) e g)

  of_asked : AtPlace (place_in f) (with_logs (asked f d s))
  unfolding asked
  of_asked = logs_at (place_in f) (asked_by (opcode_of (field H2d Command f)) f d s) (op_at _ _ refl refl)

place_asked : (d : DiskState) (f : List ℕ) (move : Move) → asked_of d f ≡ ask.Moves move → move.command.place ≡ place_in f
place_asked d f move is = subst (AtPlace (place_in f)) is (of_asked f (facts_of d.profile) d.front.settings)

-- ---- what it has the disk take

pub data Outcome (d : DiskState) (r : Result Fis FisFault) : Type 0 where
  Nothing : StepNone (fis_steps d r) → Outcome d r
  Taken : (f : List ℕ) (c : block.Command) → r ≡ Ok (view.RegH2D f) → is_command f ≡ true → c.place ≡ place_in f → fis_steps d r ≡ engine.Takes c ∷ []
      → (move : Move) → asked_of d f ≡ ask.Moves move → c ≡ move.command → Outcome d r

by_act : (d : DiskState) (f : List ℕ) (a : Act) → is_command f ≡ true → (register_told d f).act ≡ a → OfAct d f a → Outcome d (Ok (view.RegH2D f))
by_act d f act.Nothing is e of = Nothing (subst (λ (a : Act). StepNone (act_steps d.engine a)) (sym e) tt)
by_act d f (act.Takes c) is e of =
    Taken f c refl is (ap (λ (k : block.Command). k.place) of.is ∙ place_asked d f of.move of.asks) (ap (λ (a : Act). act_steps d.engine a) e) of.move of.asks of.is
by_act d f act.Flushes is e of = Nothing (subst (λ (a : Act). StepNone (act_steps d.engine a)) (sym e) (tt, tt))
by_act d f act.Resets is e of = Nothing (subst (λ (a : Act). StepNone (act_steps d.engine a)) (sym e) (tt, tt))

control_steps : (d : DiskState) (f : List ℕ) (srst : Bool) → StepNone (act_steps d.engine (controlled d.front srst).act)
control_steps d f true = (tt, tt)
control_steps d f false = tt

by_register : (d : DiskState) (f : List ℕ) (b : Bool) → is_command f ≡ b → Outcome d (Ok (view.RegH2D f))
by_register d f true is = by_act d f (register_told d f).act is refl (register_asked d f (is_command f))
by_register d f false is =
    Nothing (subst (λ (b : Bool). StepNone (act_steps d.engine (if b then command_told d f else controlled d.front (resets f)).act)) (sym is) (control_steps d f (resets f)))

data_none : (d : DiskState) (x : Option ℕ) (bytes : List ℕ) → StepNone (data_steps d x bytes)
data_none d None bytes = (tt, tt)
data_none d (Some blocks) bytes = range_none (ranges_of blocks (facts_of d.profile).sectors bytes)

pub outcome : (d : DiskState) (r : Result Fis FisFault) → Outcome d r
outcome d (Ok (view.RegH2D f)) = by_register d f (is_command f) refl
outcome d (Ok (view.Payload f)) = Nothing (data_none d (heard_data d.front.task) (drop 4 f))
outcome d other = Nothing tt
