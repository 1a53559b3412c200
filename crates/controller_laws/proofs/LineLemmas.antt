-- What each call does to the interrupts, and what it tells of the line.
use Rattle.std.proofs.Common.{◌≡◌, ℕ, ◌+◌, ◌*◌, ◌^◌, ◌&&◌, ◌||◌, Bool, true, false, not, List, [], ◌∷◌, ◌++◌, refl, sym, ap, subst, ◌∙◌, inl, inr}
use Rattle.std.proofs.{Common.{Option, Some, None}, lemmas.Bool.{cases_Bool, false≢true, true≢false}}
use Rattle.std.specs.{Prelude.{MatchOption, if◌then◌else◌}, Int.from_bool}
use Rattle.slots.specs.Slots.{has_bit, match_some}
use Rattle.ahci_registers.specs.Bits as line_bits
use Rattle.ahci_registers.specs.Lines.{LineEvent, after, pends, LineEvent.{Caused, WroteError, WroteGlobal, WrotePortMask, WrotePortStatus}}
use Rattle.ahci_registers.specs.{Lines.LineEvent.WroteStatus, Offsets.register_at, declared.{link.Effect.Effect, register.Register.Register}}
use Rattle.ahci_registers.specs.declared.link.Effect.TheVariants as effect
use Rattle.ahci_registers.specs.declared.register.Register.TheVariants as ahci
use Rattle.guest_fetch.specs.{Commands.Fetched, declared.fetch.Supplied.Supplied}
use Rattle.guest_fetch.specs.declared.fetch.Supplied.TheVariants as came_as
use Rattle.hba_fbs.specs.{Choosing.may_feed, declared.{error.WriteError.WriteError, turn.Turn.{Turn, TheVariants.Feeds}}}
use Rattle.ahci_controller.specs.{Access.{fits as fits_width, merged}, Feeding.{GathersIf, Loses, LosesIf, MissesIf as MissesDataIf, SendsIf}}
use Rattle.ahci_controller.specs.{Feeding.without_feeding, Fetching.{GoesOn, MissesIf, SuppliesIf, answered, fits, is_asked, without_fetch}}
use Rattle.ahci_controller.specs.{Issuing.{PlacesSlot, RefusesSlot, not_issued}, Latch.{edge, edge_between, latched, opening_latch, raised, releases}}
use Rattle.ahci_controller.specs.Next.{Frames, FramesFor, GoesIf, Reads, RestsNow, TurnsIf, is_fed, is_halted, next_device, next_read, next_slot}
use Rattle.ahci_controller.specs.{Next.{next_write, turn_to, written}, Reading.shown, States.ControllerState, Taking.Hears, Wants.dropped}
use Rattle.ahci_controller.specs.{Wide.{WritesAt, WritesFitting, WritesIf}, Writing.{Leaves, ResetsBy, Restarts, WritesGlobal, WritesRegister}}
use Rattle.ahci_controller.specs.{Writing.{link_effect, link_moved, plain}, declared.{access.Width.Width, feeding.Fed.Fed, issuing.NotTaken.NotTaken}}
use Rattle.ahci_controller.specs.declared.{issuing.Supply.Supply, latch.{Edge.{Edge, TheVariants.{Steady, Rising, Falling}}, Latch.Latch}}
use Rattle.ahci_controller.specs.declared.{next.Next.Next, own.OwnRegisters.OwnRegisters, taking.Took.Took, wide.WideWritten.WideWritten}
use Rattle.ahci_controller.specs.declared.writing.Written.{Written}
use Rattle.ahci_controller.specs.Own as own_words
use Rattle.controller_laws.specs.Events as event
use Rattle.controller_laws.specs.{Events.{Does, Event, Runs}, Interrupts.{ClearsWide, GoesBy, LineIsKept, LineIsTold, OpensLatched, PendingFalls}}
use Rattle.controller_laws.specs.Interrupts.{PendingRises, PendsWide, StaysLatched, clears, clears_at, edges_in, edges_of, edges_of_fed}
use Rattle.controller_laws.specs.Interrupts.{edges_of_supply, is_calm, line_after, line_shown, pending_shown}

-- ---- the interrupts

-- they stay, or something happens to them; only what clears IS.IPS releases it
data Moves (cleared : Bool) (old new : Latch) : Type 0 where
  Stays : new ≡ old → Moves cleared old new
  Latched : (e : LineEvent) → new ≡ latched old e → (releases e ≡ true → cleared ≡ true) → Moves cleared old new

kept_or : (a b : Bool) → (a || b) ≡ false → a ≡ false
kept_or false b h = refl
kept_or true b h = absurd (true≢false h)

released : (r : Bool) → (not r && true) ≡ false → r ≡ true
released true h = refl
released false h = absurd (true≢false h)

falls_by : (cleared : Bool) (old new : Latch) → Moves cleared old new → old.pending ≡ true → new.pending ≡ false → cleared ≡ true
falls_by cleared old new (Stays same) was now = absurd (true≢false (sym was ∙ sym (ap (λ (l : Latch). l.pending) same) ∙ now))
falls_by cleared old new (Latched e is only) was now =
    let gone : ((not (releases e) && old.pending) || pends (after old.lines e)) ≡ false = sym (ap (λ (l : Latch). l.pending) is) ∙ now in
    only (released (releases e) (sym (ap (λ (b : Bool). not (releases e) && b) was) ∙ kept_or (not (releases e) && old.pending) (pends (after old.lines e)) gone))

none_kept : (a : Bool) → (a && false) ≡ false
none_kept true = refl
none_kept false = refl

rises_by : (cleared : Bool) (old new : Latch) → Moves cleared old new → old.pending ≡ false → new.pending ≡ true → pends new.lines ≡ true
rises_by cleared old new (Stays same) was now = absurd (true≢false (sym now ∙ ap (λ (l : Latch). l.pending) same ∙ was))
rises_by cleared old new (Latched e is only) was now =
    let here : ((not (releases e) && old.pending) || pends (after old.lines e)) ≡ true = sym (ap (λ (l : Latch). l.pending) is) ∙ now in
    let none : (not (releases e) && old.pending) ≡ false = ap (λ (b : Bool). not (releases e) && b) was ∙ none_kept (not (releases e)) in
    ap (λ (l : Latch). pends l.lines) is ∙ ap (λ (b : Bool). b || pends (after old.lines e)) (sym none) ∙ here

or_true : (a : Bool) → (a || true) ≡ true
or_true true = refl
or_true false = refl

keeps_by : (cleared : Bool) (old new : Latch) → Moves cleared old new → (pends old.lines ≡ true → old.pending ≡ true) → pends new.lines ≡ true → new.pending ≡ true
keeps_by cleared old new (Stays same) was now = ap (λ (l : Latch). l.pending) same ∙ was (sym (ap (λ (l : Latch). pends l.lines) same) ∙ now)
keeps_by cleared old new (Latched e is only) was now =
    let here : pends (after old.lines e) ≡ true = sym (ap (λ (l : Latch). pends l.lines) is) ∙ now in
    ap (λ (l : Latch). l.pending) is ∙ ap (λ (b : Bool). (not (releases e) && old.pending) || b) here ∙ or_true (not (releases e) && old.pending)

-- ---- what registers show of them

pending_is : (c : ControllerState) → pending_shown c ≡ c.latch.pending
unfolding shown
pending_is c = by c.latch.pending
  where
    by : (p : Bool) → has_bit (from_bool p) 0 ≡ p
    by true = refl
    by false = refl

pub line_is : (c : ControllerState) → line_shown c ≡ raised c.latch
unfolding shown
line_is c = by c.latch.pending c.latch.lines.enabled
  where
    by : (p e : Bool) → (has_bit (from_bool p) 0 && has_bit (2 ^ 31 + 2 * from_bool e) 1) ≡ (p && e)
    by true true = refl
    by true false = refl
    by false true = refl
    by false false = refl

calm_is : (c : ControllerState) → pends c.latch.lines ≡ not (is_calm c)
unfolding shown pends
calm_is c = refl

calm_pends : (c : ControllerState) → is_calm c ≡ false → pends c.latch.lines ≡ true
calm_pends c calm = calm_is c ∙ ap not calm

pends_calm : (c : ControllerState) → pends c.latch.lines ≡ true → is_calm c ≡ false
pends_calm c here = by (is_calm c) (sym (calm_is c) ∙ here)
  where
    by : (b : Bool) → not b ≡ true → b ≡ false
    by false h = refl
    by true h = absurd (false≢true h)

-- ---- edges

goes_one : (was is : Bool) → GoesBy was (edge_between was is ∷ []) is
goes_one true true = refl
goes_one true false = refl
goes_one false true = refl
goes_one false false = refl

goes_both : (xs ys : List Edge) (a b c : Bool) → GoesBy a xs b → GoesBy b ys c → GoesBy a (xs ++ ys) c
goes_both [] ys a b c h k = subst (λ (x : Bool). GoesBy x ys c) (sym h) k
goes_both (Steady ∷ xs) ys a b c h k = goes_both xs ys a b c h k
goes_both (Rising ∷ xs) ys false b c h k = goes_both xs ys true b c h k
goes_both (Rising ∷ xs) ys true b c h k = absurd h
goes_both (Falling ∷ xs) ys true b c h k = goes_both xs ys false b c h k
goes_both (Falling ∷ xs) ys false b c h k = absurd h

follows : (xs : List Edge) (a b : Bool) → GoesBy a xs b → line_after a xs ≡ b
follows [] a b h = h
follows (Steady ∷ xs) a b h = follows xs a b h
follows (Rising ∷ xs) false b h = follows xs true b h
follows (Rising ∷ xs) true b h = absurd h
follows (Falling ∷ xs) true b h = follows xs false b h
follows (Falling ∷ xs) false b h = absurd h

-- a call: what it does to the interrupts, and what it tells
record Tells (cleared : Bool) (old new : Latch) (edges : List Edge) : Type 0 where
  moves : Moves cleared old new
  line : GoesBy (raised old) edges (raised new)

steady : (cleared : Bool) (old new : Latch) → new ≡ old → Tells cleared old new []
steady cleared old new same = record { moves = Stays same; line = ap raised (sym same) }

with_edge : (cleared : Bool) (old new : Latch) (e : Edge) → Moves cleared old new → e ≡ edge old new → Tells cleared old new (e ∷ [])
with_edge cleared old new e moves is = record {
  moves = moves;
  line = subst (λ (x : Edge). GoesBy (raised old) (x ∷ []) (raised new)) (sym is) (goes_one (raised old) (raised new));
}

caused : (old new : Latch) (causes : ℕ) (e : Edge) → new ≡ latched old (Caused causes) → e ≡ edge old (latched old (Caused causes)) → Tells false old new (e ∷ [])
caused old new causes e is told = with_edge false old new e (Latched (Caused causes) is (λ h. h)) (told ∙ ap (edge old) (sym is))

-- ---- writes

global : (resets : Bool) (value : ℕ) (old new : ControllerState) → WritesGlobal resets old value new → new.latch ≡ latched old.latch (WroteGlobal value)
global true value old new h = ap (λ (c : ControllerState). c.latch) h.rest
global false value old new h = ap (λ (c : ControllerState). c.latch) h

linked : (e : Effect) (old new : ControllerState) → ResetsBy e old new → new.latch ≡ old.latch
linked effect.LinkReset old new h = ap (λ (c : ControllerState). c.latch) h.rest
linked other old new h = ap (λ (c : ControllerState). c.latch) h

fallen : (fall : Bool) (c : ControllerState) → (if fall then dropped c else c).latch ≡ c.latch
fallen true c = refl
fallen false c = refl

starts : (idle : Bool) (own : OwnRegisters) (old new : ControllerState) (ignored : Option WriteError) → Restarts old idle own ignored new → new.latch ≡ old.latch
starts idle own old new ignored h = ap (λ (c : ControllerState). c.latch) h.rest ∙ fallen (own_words.falls old.own own old.core.registers new.core.registers) old

asked : (running : Bool) (c d : ControllerState) → d.latch ≡ c.latch → (if running then d else c).latch ≡ c.latch
asked true c d same = same
asked false c d same = refl

register : (r : Register) (value : ℕ) (old new : ControllerState) (result : Written) → Leaves r old value result new → Moves (clears r value) old.latch new.latch
register ahci.Ghc value old new result h = Latched (WroteGlobal value) (global (line_bits.has_bit value 0) value old new h.0) (λ r. r)
register ahci.Is value old new result h = Latched (WroteStatus value) (ap (λ (c : ControllerState). c.latch) h.0) (λ r. r)
register ahci.PxIs value old new result h = Latched (WrotePortStatus value) (ap (λ (c : ControllerState). c.latch) h.0.rest) (λ r. r)
register ahci.PxIe value old new result h = Latched (WrotePortMask value) (ap (λ (c : ControllerState). c.latch) h.0) (λ r. r)
register ahci.PxCmd value old new result h = Stays (starts _ _ h.0.middle new result.ignored h.0.starts ∙ ap (λ (c : ControllerState). c.latch) h.0.clears.rest)
register ahci.PxSctl value old new result h = Latched (Caused _) (linked (link_effect old value) (link_moved old value) new h.0) (λ r. r)
register ahci.PxSerr value old new result h = Latched (WroteError value) (ap (λ (c : ControllerState). c.latch) h.0.rest) (λ r. r)
register ahci.PxSact value old new result h = Stays (ap (λ (c : ControllerState). c.latch) h.0.rest)
register ahci.PxCi value old new result h = Stays (ap (λ (c : ControllerState). c.latch) h.0 ∙ asked old.own.starts old _ refl)
register ahci.PxSntf value old new result h = Stays (ap (λ (c : ControllerState). c.latch) h.0.rest)
register ahci.PxFbs value old new result h = Latched (Caused _) (ap (λ (c : ControllerState). c.latch) h.0.rest) (λ r. r)
register other value old new result h = Stays (ap (λ (c : ControllerState). c.latch) h.0)

-- where no register begins, nothing happens
nothing_told : (cleared : Bool) (old new : ControllerState) (result : Written) → new ≡ old → result.line ≡ Steady → Tells cleared old.latch new.latch (result.line ∷ [])
nothing_told cleared old new result same is =
    subst (λ (e : Edge). Tells cleared old.latch new.latch (e ∷ [])) (sym is) (record { moves = Stays (ap (λ (c : ControllerState). c.latch) same); line = ap (λ (c : ControllerState). raised c.latch) (sym same) })

at_register : (o : Option Register) (value : Register → ℕ) (old new : ControllerState) (result : Written) (nothing : Type 0) → (nothing → new ≡ old) → (nothing → result.line ≡ Steady) → MatchOption o nothing (λ r. WritesRegister r old (value r) result new)
    → Tells (match_some o false (λ r. clears r (value r))) old.latch new.latch (result.line ∷ [])
at_register None value old new result nothing same quiet h = nothing_told false old new result (same h) (quiet h)
at_register (Some r) value old new result nothing same quiet h = with_edge (clears r (value r)) old.latch new.latch result.line (register r (value r) old new (plain result) h.leaves) h.line

part : (empty : Bool) (offset value mask : ℕ) (old new : ControllerState) (result : Written) → WritesIf empty old offset value mask result new
    → Tells (if empty then false else match_some (register_at offset) false (λ r. clears r (merged r (shown r old) value mask))) old.latch new.latch (result.line ∷ [])
part true offset value mask old new result h = nothing_told false old new result h.0 (ap (λ (w : Written). w.line) h.1)
part false offset value mask old new result h = at_register (register_at offset) (λ r. merged r (shown r old) value mask) old new result _ (λ n. n.0) (λ n. ap (λ (w : Written). w.line) n.1) h

write : (offset value : ℕ) (old new : ControllerState) (result : Written) → WritesAt old offset value result new → Tells (clears_at offset value) old.latch new.latch (result.line ∷ [])
write offset value old new result h = at_register (register_at offset) (λ r. value) old new result _ (λ n. n.0) (λ n. ap (λ (w : Written). w.line) n.1) h

-- ---- supplies

no_tell : (old new : ControllerState) (supply other : Supply) → new.latch ≡ old.latch → supply ≡ other → edges_of_supply other ≡ [] → Tells false old.latch new.latch (edges_of_supply supply)
no_tell old new supply other same is none = subst (λ (l : List Edge). Tells false old.latch new.latch l) (sym (ap edges_of_supply is ∙ none)) (steady false old.latch new.latch same)

refused : (slot : ℕ) (reason : NotTaken) (base new : ControllerState) (supply : Supply) → RefusesSlot base slot reason supply new → Tells false base.latch new.latch (edges_of_supply supply)
refused slot reason base new supply h =
    subst (λ (s : Supply). Tells false base.latch new.latch (edges_of_supply s)) (sym h.told) (caused base.latch new.latch _ _ (ap (λ (c : ControllerState). c.latch) h.rest) refl)

placed : (slot : ℕ) (command : Fetched) (o : Option NotTaken) (base new : ControllerState) (supply : Supply) → MatchOption o (PlacesSlot base slot command supply new) (λ reason. RefusesSlot base slot reason supply new) → Tells false base.latch new.latch (edges_of_supply supply)
placed slot command None base new supply h = no_tell base new supply _ (ap (λ (c : ControllerState). c.latch) h.rest) h.told refl
placed slot command (Some reason) base new supply h = refused slot reason base new supply h

goes_on : (slot : ℕ) (came : Supplied) (base new : ControllerState) (supply : Supply) → GoesOn base slot came supply new → Tells false base.latch new.latch (edges_of_supply supply)
goes_on slot (came_as.Refused r) base new supply h = refused slot _ base new supply h
goes_on slot (came_as.Whole command) base new supply h = placed slot command (not_issued base.core slot command) base new supply h
goes_on slot other base new supply h = no_tell base new supply _ (ap (λ (c : ControllerState). c.latch) h.0) h.1 refl

supplies : (fit : Bool) (slot : ℕ) (bytes : List ℕ) (old new : ControllerState) (supply : Supply) → SuppliesIf fit old slot bytes supply new → Tells false old.latch new.latch (edges_of_supply supply)
supplies false slot bytes old new supply h = no_tell old new supply _ (ap (λ (c : ControllerState). c.latch) h.0) h.1 refl
supplies true slot bytes old new supply h = goes_on slot h.came (without_fetch (answered old slot) slot) new supply h.goes

misses : (out : Bool) (slot : ℕ) (old new : ControllerState) (supply : Supply) → MissesIf out old slot supply new → Tells false old.latch new.latch (edges_of_supply supply)
misses false slot old new supply h = no_tell old new supply _ (ap (λ (c : ControllerState). c.latch) h.0) h.1 refl
misses true slot old new supply h = refused slot _ (without_fetch (answered old slot) slot) new supply h

-- ---- what is next

frames : (dev slot : Option ℕ) (alternates : Bool) (base new : ControllerState) (next : Next) → FramesFor dev slot alternates base next new → new.latch ≡ base.latch
frames None None alternates base new next h = ap (λ (c : ControllerState). c.latch) h.0
frames None (Some slot) alternates base new next h = ap (λ (c : ControllerState). c.latch) h.rest
frames (Some dev) None alternates base new next h = ap (λ (c : ControllerState). c.latch) h.rest
frames (Some dev) (Some slot) false base new next h = ap (λ (c : ControllerState). c.latch) h.rest
frames (Some dev) (Some slot) true base new next h = ap (λ (c : ControllerState). c.latch) h.rest

reads : (o : Option ℕ) (base new : ControllerState) (next : Next) → MatchOption o (Frames base next new) (λ slot. Reads base slot next new) → new.latch ≡ base.latch
reads None base new next h = frames (next_device base) (next_slot base) base.circle.fed base new next h
reads (Some slot) base new next h = ap (λ (c : ControllerState). c.latch) h.1

rests : (o : Option ℕ) (base new : ControllerState) (next : Next) → MatchOption o (RestsNow base next new) (λ slot. Reads base slot next new) → new.latch ≡ base.latch
rests None base new next h = ap (λ (c : ControllerState). c.latch) h.0
rests (Some slot) base new next h = ap (λ (c : ControllerState). c.latch) h.1

goes : (started : Bool) (base new : ControllerState) (next : Next) → GoesIf started base next new → new.latch ≡ base.latch
goes true base new next h = reads (next_read base) base new next h
goes false base new next h = rests (next_read h.middle) h.middle new next h.reads ∙ starts _ _ base h.middle h.ignored h.starts

turns_if : (halted : Bool) (base new : ControllerState) (next : Next) → TurnsIf halted base next new → new.latch ≡ base.latch
turns_if true base new next h = ap (λ (c : ControllerState). c.latch) h.0
turns_if false base new next h = goes base.core.registers.started base new next h

turns : (o : Option Next) (old new : ControllerState) (next : Next) → MatchOption o (TurnsIf (is_halted (written old)) (written old) next new) (λ write. (next ≡ write) × (new ≡ written old)) → new.latch ≡ old.latch
turns None old new next h = turns_if (is_halted (written old)) (written old) new next h
turns (Some write) old new next h = ap (λ (c : ControllerState). c.latch) h.1

-- ---- Data to devices

not_fed : (old new : ControllerState) (fed other : Fed) → new.latch ≡ old.latch → fed ≡ other → edges_of_fed other ≡ [] → Tells false old.latch new.latch (edges_of_fed fed)
not_fed old new fed other same is none = subst (λ (l : List Edge). Tells false old.latch new.latch l) (sym (ap edges_of_fed is ∙ none)) (steady false old.latch new.latch same)

sends : (due : Bool) (dev : ℕ) (base new : ControllerState) (fed : Fed) → SendsIf due base dev fed new → Tells false base.latch new.latch (edges_of_fed fed)
sends false dev base new fed h = not_fed base new fed _ (ap (λ (c : ControllerState). c.latch) h.0) h.1 refl
sends true dev base new fed h =
    subst (λ (f : Fed). Tells false base.latch new.latch (edges_of_fed f)) (sym h.goes) (caused base.latch new.latch _ _ (ap (λ (c : ControllerState). c.latch) h.rest) refl)

gathers : (out : Bool) (dev : ℕ) (old new : ControllerState) (fed : Fed) → GathersIf out old dev fed new → Tells false old.latch new.latch (edges_of_fed fed)
gathers false dev old new fed h = not_fed old new fed _ (ap (λ (c : ControllerState). c.latch) h.0) h.1 refl
gathers true dev old new fed h = sends (may_feed old.core dev) dev (without_feeding old dev) new fed h

loses : (turn : Turn) (base new : ControllerState) (fed : Fed) → Loses turn base fed new → Tells false base.latch new.latch (edges_of_fed fed)
loses (Feeds dev slot offset len) base new fed h =
    subst (λ (f : Fed). Tells false base.latch new.latch (edges_of_fed f)) (sym h.missed) (caused base.latch new.latch _ _ (ap (λ (c : ControllerState). c.latch) h.rest) refl)
loses other base new fed h = not_fed base new fed _ (ap (λ (c : ControllerState). c.latch) h.0) h.1 refl

loses_if : (due : Bool) (dev : ℕ) (old new : ControllerState) (fed : Fed) → LosesIf due (without_feeding old dev) dev fed new → Tells false old.latch new.latch (edges_of_fed fed)
loses_if false dev old new fed h = not_fed old new fed _ (ap (λ (c : ControllerState). c.latch) h.0) h.1 refl
loses_if true dev old new fed h = loses (turn_to (without_feeding old dev) dev) (without_feeding old dev) new fed h

misses_data : (out : Bool) (dev : ℕ) (old new : ControllerState) (fed : Fed) → MissesDataIf out old dev fed new → Tells false old.latch new.latch (edges_of_fed fed)
misses_data false dev old new fed h = not_fed old new fed _ (ap (λ (c : ControllerState). c.latch) h.0) h.1 refl
misses_data true dev old new fed h = loses_if (may_feed old.core dev) dev old new fed h

-- ---- frames

takes : (frame : List ℕ) (old new : ControllerState) (took : Took) → Hears old frame took new → Tells false old.latch new.latch (took.line ∷ [])
takes frame old new took h = with_edge false old.latch new.latch took.line (Latched (Caused _) (ap (λ (c : ControllerState). c.latch) h.rest) (λ r. r)) h.line

-- ---- all calls

wide_line : (does_fit : Bool) (offset : ℕ) (width : Width) (value : ℕ) (old new : ControllerState) (result : WideWritten) → WritesFitting does_fit old offset width value result new → GoesBy (raised old.latch) (result.low.line ∷ result.high.line ∷ []) (raised new.latch)
wide_line true offset width value old new result h =
    goes_both (result.low.line ∷ []) (result.high.line ∷ []) (raised old.latch) (raised h.middle.latch) (raised new.latch) (part _ _ _ _ old h.middle result.low h.low).line (part _ _ _ _ h.middle new result.high h.high).line
wide_line false offset width value old new result h =
    subst (λ (e : Edge). GoesBy (raised old.latch) (e ∷ result.high.line ∷ []) (raised new.latch)) (sym (ap (λ (w : Written). w.line) h.0.1))
    (subst (λ (e : Edge). GoesBy (raised old.latch) (e ∷ []) (raised new.latch)) (sym (ap (λ (w : Written). w.line) h.1.1)) (ap (λ (c : ControllerState). raised c.latch) (sym h.0.0)))

event_line : (e : Event) (old new : ControllerState) → Does old e new → GoesBy (raised old.latch) (edges_of e) (raised new.latch)
event_line (event.Wrote offset value written) old new does = (write offset value old new written does).line
event_line (event.WroteWide offset width value written) old new does = wide_line (fits_width width offset) offset width value old new written does
event_line (event.Supplied slot number bytes supply) old new does = (supplies (fits old slot number bytes) slot bytes old new supply does).line
event_line (event.Missed slot number supply) old new does = (misses (is_asked old.wants slot number) slot old new supply does).line
event_line (event.Took frame took) old new does = (takes frame old new took does.hears).line
event_line (event.Turned next) old new does = ap raised (sym (turns (next_write old) old new next does))
event_line (event.Gathered dev number frame fed) old new does = (gathers (is_fed old.wants dev number) dev old new fed does.1).line
event_line (event.NotThere dev number fed) old new does = (misses_data (is_fed old.wants dev number) dev old new fed does).line
event_line other old new does = ap (λ (c : ControllerState). raised c.latch) (sym does.1)

run_line : (events : List Event) (old new : ControllerState) → Runs old events new → GoesBy (raised old.latch) (edges_in events) (raised new.latch)
run_line [] old new run = ap (λ (c : ControllerState). raised c.latch) (sym run.1)
run_line (e ∷ events) old new run = goes_both (edges_of e) (edges_in events) (raised old.latch) (raised run.1.0.latch) (raised new.latch) (event_line e old run.1.0 run.1.1) (run_line events run.1.0 new run.1.2)

pub line_is_told : LineIsTold
line_is_told old new events run = rw (line_is old, line_is new) (run_line events old new run)

pub line_is_kept : LineIsKept
line_is_kept old new events run = follows (edges_in events) (line_shown old) (line_shown new) (line_is_told old new events run)

-- ---- IS.IPS

abbrev Holds : Latch → Type 0
Holds l = pends l.lines ≡ true → l.pending ≡ true

wide_holds : (does_fit : Bool) (offset : ℕ) (width : Width) (value : ℕ) (old new : ControllerState) (result : WideWritten) → WritesFitting does_fit old offset width value result new → Holds old.latch → Holds new.latch
wide_holds true offset width value old new result h was =
    keeps_by _ h.middle.latch new.latch (part _ _ _ _ h.middle new result.high h.high).moves (keeps_by _ old.latch h.middle.latch (part _ _ _ _ old h.middle result.low h.low).moves was)
wide_holds false offset width value old new result h was = subst (λ (c : ControllerState). Holds c.latch) (sym h.0.0) was

event_holds : (e : Event) (old new : ControllerState) → Does old e new → Holds old.latch → Holds new.latch
event_holds (event.Wrote offset value written) old new does was = keeps_by _ old.latch new.latch (write offset value old new written does).moves was
event_holds (event.WroteWide offset width value written) old new does was = wide_holds (fits_width width offset) offset width value old new written does was
event_holds (event.Supplied slot number bytes supply) old new does was = keeps_by _ old.latch new.latch (supplies (fits old slot number bytes) slot bytes old new supply does).moves was
event_holds (event.Missed slot number supply) old new does was = keeps_by _ old.latch new.latch (misses (is_asked old.wants slot number) slot old new supply does).moves was
event_holds (event.Took frame took) old new does was = keeps_by _ old.latch new.latch (takes frame old new took does.hears).moves was
event_holds (event.Turned next) old new does was = subst Holds (sym (turns (next_write old) old new next does)) was
event_holds (event.Gathered dev number frame fed) old new does was = keeps_by _ old.latch new.latch (gathers (is_fed old.wants dev number) dev old new fed does.1).moves was
event_holds (event.NotThere dev number fed) old new does was = keeps_by _ old.latch new.latch (misses_data (is_fed old.wants dev number) dev old new fed does).moves was
event_holds other old new does was = subst (λ (c : ControllerState). Holds c.latch) (sym does.1) was

run_holds : (events : List Event) (old new : ControllerState) → Runs old events new → Holds old.latch → Holds new.latch
run_holds [] old new run was = subst (λ (c : ControllerState). Holds c.latch) (sym run.1) was
run_holds (e ∷ events) old new run was = run_holds events run.1.0 new run.1.2 (event_holds e old run.1.0 run.1.1 was)

pub stays_latched : StaysLatched
stays_latched old new events run was calm =
    pending_is new ∙ run_holds events old new run (λ here. sym (pending_is old) ∙ was (pends_calm old here)) (calm_pends new calm)

opens_calm : pends opening_latch.lines ≡ false
unfolding pends
opens_calm = refl

pub opens_latched : OpensLatched
opens_latched c h calm = absurd (false≢true (sym opens_calm ∙ sym (ap (λ (l : Latch). pends l.lines) h.latch) ∙ calm_pends c calm))

-- what a call that clears nothing leaves
not_fallen : (old new : ControllerState) → Moves false old.latch new.latch → pending_shown old ≡ true → pending_shown new ≡ false → ⊥
not_fallen old new moves was now = false≢true (falls_by false old.latch new.latch moves (sym (pending_is old) ∙ was) (sym (pending_is new) ∙ now))

same_pending : (old new : ControllerState) → new.latch ≡ old.latch → pending_shown old ≡ true → pending_shown new ≡ false → ⊥
same_pending old new same = not_fallen old new (Stays same)

wide_falls : (does_fit : Bool) (offset : ℕ) (width : Width) (value : ℕ) (old new : ControllerState) (result : WideWritten) → (h : WritesFitting does_fit old offset width value result new) → pending_shown old ≡ true → pending_shown new ≡ false → ClearsWide does_fit old offset width value result new h
wide_falls false offset width value old new result h was now = same_pending old new (ap (λ (c : ControllerState). c.latch) h.0.0) was now
wide_falls true offset width value old new result h was now = elim (cases_Bool (pending_shown h.middle)) [
  | inl still ↦ inr (falls_by _ h.middle.latch new.latch (part _ _ _ _ h.middle new result.high h.high).moves (sym (pending_is h.middle) ∙ still) (sym (pending_is new) ∙ now))
  | inr gone ↦ inl (falls_by _ old.latch h.middle.latch (part _ _ _ _ old h.middle result.low h.low).moves (sym (pending_is old) ∙ was) (sym (pending_is h.middle) ∙ gone))
]

pub pending_falls : PendingFalls
pending_falls old new (event.Wrote offset value written) does was now = falls_by _ old.latch new.latch (write offset value old new written does).moves (sym (pending_is old) ∙ was) (sym (pending_is new) ∙ now)
pending_falls old new (event.WroteWide offset width value written) does was now = wide_falls (fits_width width offset) offset width value old new written does was now
pending_falls old new (event.Supplied slot number bytes supply) does was now = not_fallen old new (supplies (fits old slot number bytes) slot bytes old new supply does).moves was now
pending_falls old new (event.Missed slot number supply) does was now = not_fallen old new (misses (is_asked old.wants slot number) slot old new supply does).moves was now
pending_falls old new (event.Took frame took) does was now = not_fallen old new (takes frame old new took does.hears).moves was now
pending_falls old new (event.Turned next) does was now = same_pending old new (turns (next_write old) old new next does) was now
pending_falls old new (event.Gathered dev number frame fed) does was now = not_fallen old new (gathers (is_fed old.wants dev number) dev old new fed does.1).moves was now
pending_falls old new (event.NotThere dev number fed) does was now = not_fallen old new (misses_data (is_fed old.wants dev number) dev old new fed does).moves was now
pending_falls old new other does was now = same_pending old new (ap (λ (c : ControllerState). c.latch) does.1) was now

risen : (cleared : Bool) (old new : ControllerState) → Moves cleared old.latch new.latch → pending_shown old ≡ false → pending_shown new ≡ true → is_calm new ≡ false
risen cleared old new moves was now = pends_calm new (rises_by cleared old.latch new.latch moves (sym (pending_is old) ∙ was) (sym (pending_is new) ∙ now))

same_risen : (old new : ControllerState) → new.latch ≡ old.latch → pending_shown old ≡ false → pending_shown new ≡ true → is_calm new ≡ false
same_risen old new same = risen false old new (Stays same)

wide_rises : (does_fit : Bool) (offset : ℕ) (width : Width) (value : ℕ) (old new : ControllerState) (result : WideWritten) → (h : WritesFitting does_fit old offset width value result new) → pending_shown old ≡ false → pending_shown new ≡ true → PendsWide does_fit old offset width value result new h
wide_rises false offset width value old new result h was now =
    absurd (false≢true (sym was ∙ pending_is old ∙ ap (λ (c : ControllerState). c.latch.pending) (sym h.0.0) ∙ sym (pending_is new) ∙ now))
wide_rises true offset width value old new result h was now = elim (cases_Bool (pending_shown h.middle)) [
  | inl up ↦ inl (risen _ old h.middle (part _ _ _ _ old h.middle result.low h.low).moves was up)
  | inr down ↦ inr (risen _ h.middle new (part _ _ _ _ h.middle new result.high h.high).moves down now)
]

pub pending_rises : PendingRises
pending_rises old new (event.Wrote offset value written) does was now = risen _ old new (write offset value old new written does).moves was now
pending_rises old new (event.WroteWide offset width value written) does was now = wide_rises (fits_width width offset) offset width value old new written does was now
pending_rises old new (event.Supplied slot number bytes supply) does was now = risen _ old new (supplies (fits old slot number bytes) slot bytes old new supply does).moves was now
pending_rises old new (event.Missed slot number supply) does was now = risen _ old new (misses (is_asked old.wants slot number) slot old new supply does).moves was now
pending_rises old new (event.Took frame took) does was now = risen _ old new (takes frame old new took does.hears).moves was now
pending_rises old new (event.Turned next) does was now = same_risen old new (turns (next_write old) old new next does) was now
pending_rises old new (event.Gathered dev number frame fed) does was now = risen _ old new (gathers (is_fed old.wants dev number) dev old new fed does.1).moves was now
pending_rises old new (event.NotThere dev number fed) does was now = risen _ old new (misses_data (is_fed old.wants dev number) dev old new fed does).moves was now
pending_rises old new other does was now = same_risen old new (ap (λ (c : ControllerState). c.latch) does.1) was now
