-- Of a connection that is over nothing more comes.
use Rattle.std.proofs.{Common.{◌≡◌, Bool, List, [], ◌∷◌, ◌++◌, append_assoc, refl, sym, ap, ◌∙◌, subst}, lemmas.List.{append-nil}}
use Rattle.fis_view.specs.Frames.{Stamped}
use Rattle.multiplier.specs.Passing.{of_conn}
use Rattle.fan_out.specs.Calls.{given}
use Rattle.ahci_machine.specs.States.{MachineState}
use Rattle.machine_laws.proofs.{RisDeeds.{IsThere, Outer, Rising, deed_rises, outer, way}, RisFan.{then_sends, two}, RisRun.{Laws, given_both}}
use Rattle.machine_laws.proofs.RisRun.{passes, sound_now}
use Rattle.machine_laws.specs.{ControllerLaws.RunsRuled, Deeds.Deed, Rising.{AreLinked, Frames, FramesAreOver, came_by, frames_in, more_frames}}
use Rattle.machine_laws.specs.Rising.{sent_by, untaken}

then_rises : (a b d : Outer) (c1 c2 s1 s2 : List Stamped) → Rising a c1 s1 b → Rising b c2 s2 d → Rising a (c1 ++ c2) (s1 ++ s2) d
then_rises a b d c1 c2 s1 s2 first next = record {
  calls = first.calls ++ next.calls;
  sends = then_sends a.0 b.0 d.0 first.calls next.calls s1 s2 first.sends next.sends;
  gives =
      append_assoc c1 c2 (way d) ∙ ap (λ (l : List Stamped). c1 ++ l) next.gives ∙ sym (append_assoc c1 (way b) (given next.calls))
      ∙ ap (λ (l : List Stamped). l ++ given next.calls) first.gives ∙ append_assoc (way a) (given first.calls) (given next.calls)
      ∙ ap (λ (l : List Stamped). way a ++ l) (sym (given_both first.calls next.calls));
  there = next.there;
}

-- what came and was sent by deeds between which the link is not reset
pub record Stretch (old : MachineState) (deeds : List Deed) (new : MachineState) (run : RunsRuled old deeds new) : Type 0 where
  pub came : List Stamped
  pub sent : List Stamped
  pub rising : Rising (outer old) came sent (outer new)
  pub frames : (was : Frames) → frames_in was old deeds new run ≡ record { sent = was.sent ++ sent; came = was.came ++ came }

pub stretch : (old : MachineState) (deeds : List Deed) (new : MachineState) (run : RunsRuled old deeds new) → AreLinked deeds → IsThere (outer old) → Stretch old deeds new run
stretch old [] new run linked there = record {
  came = [];
  sent = [];
  rising = subst (Rising (outer old) [] []) (sym (ap outer run.1)) (record { calls = []; sends = (refl, refl); gives = sym (append-nil (way (outer old))); there = there });
  frames = λ was. λ i. record { sent = sym (append-nil was.sent) i; came = sym (append-nil was.came) i };
}
stretch old (deed ∷ later) new run linked there =
    let mid : MachineState = run.1.0 in
    let came : List Stamped = came_by old deed mid run.1.1 in
    let sent : List Stamped = sent_by old deed mid run.1.1 in
    let one : Rising (outer old) came sent (outer mid) = deed_rises deed old mid run.1.1 linked.0 there in
    let rest : Stretch mid later new run.1.2 = stretch mid later new run.1.2 linked.1 one.there in
    record {
      came = came ++ rest.came;
      sent = sent ++ rest.sent;
      rising = then_rises (outer old) (outer mid) (outer new) came rest.came sent rest.sent one rest.rising;
      frames = λ was.
          ap (λ (b : Bool). frames_in (more_frames b was sent came) mid later new run.1.2) linked.0
          ∙ rest.frames (record { sent = was.sent ++ sent; came = was.came ++ came })
          ∙ (λ i. record { sent = append_assoc was.sent sent rest.sent i; came = append_assoc was.came came rest.came i });
    }

pub over : Laws → FramesAreOver
over laws old deeds new run was h linked n c less is_over =
    ap (λ (f : Frames). of_conn n c f.came ++ of_conn n c (untaken new)) (s.frames was)
    ∙ ap (λ (l : List Stamped). l ++ of_conn n c (untaken new)) (two n c was.came s.came)
    ∙ append_assoc (of_conn n c was.came) (of_conn n c s.came) (of_conn n c (untaken new))
    ∙ ap (λ (l : List Stamped). of_conn n c was.came ++ l)
    (sym (two n c s.came (untaken new)) ∙ ap (of_conn n c) s.rising.gives ∙ two n c (untaken old) (given s.rising.calls)
    ∙ ap (λ (l : List Stamped). of_conn n c (untaken old) ++ l) none ∙ append-nil (of_conn n c (untaken old)))
  where
    s : Stretch old deeds new run
    s = stretch old deeds new run linked h.taken

    none : of_conn n c (given s.rising.calls) ≡ []
    none = (passes laws.0 old.fan new.fan s.rising.calls s.sent (sound_now laws old was h) s.rising.sends).over n c less is_over
