-- For `others_leave_a_device`. What is none of a device's leaves its view, and is no event of its history.
use Rattle.std.proofs.Common.{◌≡◌, ◌≢◌, ℕ, Bool, true, false, List, [], ◌∷◌, refl, sym, ap, subst, ◌∙◌, inl, inr, Option, Some, None, ◌++◌}
use Rattle.std.proofs.lemmas.Bool.{cases_eq, ne_eqb}
use Rattle.std.specs.Prelude.{if◌then◌else◌, map}
use Rattle.fis_view.specs.Frames.{Stamped}
use Rattle.slots.specs.{Slots.{Issue, issue_at}, Work.{is_dma, is_read}}
use Rattle.hba_fbs.specs.{declared.{register.Register.{Register, TheVariants.{Ci, Cmd, Fbs}}, report.TakeReport.TakeReport}, Issuing.{aimed, asked}}
use Rattle.hba_fbs.specs.{Issuing.view_issued, Sending.{Data, Gives, Nothing, Order, Outgoing, Sends, Unreadable, outgoing}, Taking.ignores}
use Rattle.hba_fbs.specs.{Taking.port_of, Views.{DeviceView, Port, stopped_view, view_of}, Writing.{cleared_by, is_device, view_after}}
use Rattle.hba_laws.specs.{Client.{By, Stops, own}, Delivering.{begun_by, by_device, event_sent, event_taken, touched_by_clear, touched_by_out}}
use Rattle.hba_laws.specs.{Delivering.touched_by_write, History.{Emptied, Event, SetUp}, Hosts.{Flushed, Gave, Host, TakesFrame, Took, Wrote}}
use Rattle.hba_laws.proofs.Door.{other_below}
use Rattle.disk_simulation.specs.Elsewhere.{IsForOther, OthersLeaveDevice, WritesElsewhere}

other_event : (n dev : ℕ) (o : Option Event) → n ≢ dev → own n (by_device dev o) ≡ []
other_event n dev None other = refl
other_event n dev (Some e) other = ap (λ (b : Bool). if b then e ∷ [] else []) (ne_eqb dev n (λ same. other (sym same)))

taken_elsewhere : (n : ℕ) (old new : Host) (frame : List ℕ) (report : TakeReport) (b : Bool) → ignores (port_of frame) old.port frame ≡ b
    → TakesFrame old frame report new → n ≢ port_of frame → view_of n new.port ≡ view_of n old.port
taken_elsewhere n old new frame report true is takes other = ap (λ (p : Port). view_of n p) (takes.ignored is).port
taken_elsewhere n old new frame report false is takes other = (takes.heard is).others n other

-- ## Writes

not_cleared : (n : ℕ) (o : Option ℕ) → o ≢ Some n → is_device n o ≡ false
not_cleared n None other = refl
not_cleared n (Some dev) other = ne_eqb dev n (λ same. other (ap Some same))

none_cleared : (n : ℕ) (o : Option ℕ) → o ≢ Some n → own n (touched_by_clear o) ≡ []
none_cleared n None other = refl
none_cleared n (Some dev) other = ap (λ (b : Bool). if b then Emptied ∷ [] else []) (ne_eqb dev n (λ same. other (ap Some same)))

view_kept : (n value : ℕ) (register : Register) (old : Host) → WritesElsewhere n old register value
    → view_after register old.port old.memory value n ≡ view_of n old.port
unfolding view_after
view_kept n value Cmd old other = ap (λ (b : Bool). if b then stopped_view (view_of n old.port) else view_of n old.port) other
view_kept n value Ci old other =
    ap (λ (b : Bool). if b then view_issued old.port.registers old.memory value (view_of n old.port) else view_of n old.port)
    (ne_eqb n (aimed old.port.registers old.memory.structure value) other)
view_kept n value Fbs old other =
    ap (λ (b : Bool). if b then stopped_view (view_of n old.port) else view_of n old.port) (not_cleared n (cleared_by old.port.errors value) other)
view_kept n value rest old other = refl

none_written : (n value : ℕ) (register : Register) (old : Host) → WritesElsewhere n old register value
    → own n (touched_by_write register old value) ≡ []
none_written n value Cmd old other = ap (λ (b : Bool). own n (if b then Stops ∷ [] else [])) other
none_written n value Ci old other =
    other_below n (aimed old.port.registers old.memory.structure value) old.memory (asked old.port.registers old.memory value) 32 (λ same. other (sym same))
none_written n value Fbs old other = none_cleared n (cleared_by old.port.errors value) other
none_written n value rest old other = refl

-- ## What goes out

other_one : (n dev : ℕ) (e : Event) → n ≢ dev → own n (By dev e ∷ []) ≡ []
other_one n dev e other = ap (λ (b : Bool). if b then e ∷ [] else []) (ne_eqb dev n (λ same. other (sym same)))

other_order : (n dev slot : ℕ) (e : Event) (o : Option Issue) → n ≢ dev → own n (map (By dev) (begun_by slot o) ++ By dev e ∷ []) ≡ []
other_order n dev slot e None other = other_one n dev e other
other_order n dev slot e (Some i) other = by_dma (is_dma i.work.kind)
  where
    begins : Event
    begins = SetUp slot 0 i.work.len (is_read i.work.kind)

    by_dma : (b : Bool) → own n (map (By dev) (if b then SetUp slot 0 i.work.len (is_read i.work.kind) ∷ [] else []) ++ By dev e ∷ []) ≡ []
    by_dma true =
        ap (λ (b : Bool). if b then begins ∷ own n (By dev e ∷ []) else own n (By dev e ∷ [])) (ne_eqb dev n (λ same. other (sym same)))
        ∙ other_one n dev e other
    by_dma false = other_one n dev e other

given_elsewhere : (n : ℕ) (old new : Host) (out : Outgoing) (frame : Option Stamped) → Gives out old.port old.memory frame new.port → IsForOther n out
    → (view_of n new.port ≡ view_of n old.port) × (own n (touched_by_out old out) ≡ [])
given_elsewhere n old new Nothing frame gives other = (ap (λ (p : Port). view_of n p) gives.1, refl)
given_elsewhere n old new (Unreadable dev) frame gives other = absurd other
given_elsewhere n old new (Data dev offset len command) (Some f) gives other = (gives.others n other, other_one n dev _ other)
given_elsewhere n old new (Order dev slot command) (Some f) gives other = (gives.others n other, other_order n dev slot (event_sent old.port.slots slot) (issue_at old.port.slots slot) other)
given_elsewhere n old new rest None gives other = absurd gives

-- what goes out to a device changes its view alone
pub view_sends : (P : DeviceView → Type 0) (n dev : ℕ) (host new : Host) (bytes : List ℕ) (view : DeviceView) (frame : Stamped)
    → Sends host.port dev bytes view frame new.port → (P (view_of dev host.port) → P view) → P (view_of n host.port) → P (view_of n new.port)
view_sends P n dev host new bytes view frame sends step was = elim (cases_eq n dev) [
  | inl is ↦
      subst (λ (m : ℕ). P (view_of m new.port)) (sym is) (subst P (sym sends.own) (step (subst (λ (m : ℕ). P (view_of m host.port)) is was)))
  | inr other ↦ subst P (sym (sends.others n other)) was
]

-- ## All of them

pub others_leave_device : OthersLeaveDevice
others_leave_device n old new (Took frame report) below does other = record {
  view = taken_elsewhere n old new frame report (ignores (port_of frame) old.port frame) refl does other;
  history = other_event n (port_of frame) (event_taken old frame) other;
}
others_leave_device n old new (Wrote register value) below does other = record {
  view = does.1.views n below ∙ view_kept n value register old other;
  history = none_written n value register old other;
}
others_leave_device n old new (Flushed dev) below does other = record {
  view = does.0.others n other;
  history = ap (λ (b : Bool). if b then Emptied ∷ [] else []) (ne_eqb dev n (λ same. other (sym same)));
}
others_leave_device n old new (Gave frame) below does other =
    let both = given_elsewhere n old new (outgoing old.port old.memory) frame does.0 other in
    record { view = both.0; history = both.1 }
others_leave_device n old new rest below does other = record { view = ap (view_of n) does.1; history = refl }
