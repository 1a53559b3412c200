-- From the moment at which a disk sends Data of a tag until they are taken no bit of its slot falls: FISes come in order, and the disk has not ended the
-- command that it sends them for.
use Rattle.std.proofs.Common.{◌≡◌, ℕ, ◌≤◌, ◌&&◌, Bool, true, false, List, [], ◌∷◌, ◌++◌, append-nil, inl, inr, refl, sym, ap, subst, ◌∙◌, arith}
use Rattle.std.proofs.{Common.Contains, lemmas.{Bool.{eq-eqb, eqb-true, false≢true}, List.Elements.{Contains-push}}}
use Rattle.std.specs.Prelude.{◌==◌, if◌then◌else◌}
use Rattle.fis_view.specs.Frames.{Stamped}
use Rattle.multiplier.specs.Passing.{of_conn}
use Rattle.ahci_machine.specs.States.{MachineState}
use Rattle.machine_laws.specs.{ControllerLaws.RunsRuled, Deeds.{Deed, Does}, Rising.{sent_by, untaken}}
use Rattle.machine_theorem.specs.{Identity.picks, OwnSlots.{AllKeepLine, BeginsClear, KeepsLine}, Tags.ended_with}
use Rattle.machine_theorem.proofs.{Cut.Cut, EndsFew.{sent_few, sent_of}, FallsFew.came_of, OwnPlace.one_sent, Risen.{Begins, came_few, names_tag}}
use Rattle.machine_theorem.proofs.{RisenTold.conn_both, Stretch.{Stretch, calls, came_begins, comes, falls, fell_few, front, sends}, TheSlots.Laws}
use Rattle.machine_theorem.proofs.TheSlots.{begins_first, none_first}

-- ---- the device at the port sends on one connection

none_if : (a b : Bool) (f : Stamped) → (a ≡ true → b ≡ true → ⊥) → (if a && b then f ∷ [] else []) ≡ []
none_if true true f never = absurd (never refl refl)
none_if true false f never = refl
none_if false b f never = refl

module _ (many : Bool) (n c dev d : ℕ) (other : d ≡ c → ⊥) where
  one_other : (old : MachineState) (deed : Deed) (new : MachineState) (does : Does old deed new) → KeepsLine many n c dev old deed new does → of_conn n d (sent_by old deed new does) ≡ []
  one_other old deed new does line = elim (one_sent old deed new does) [
    | inl none ↦ ap (of_conn n d) none
    | inr some ↦
        ap (of_conn n d) some.1
        ∙ none_if (some.0.stamp.port == n) (some.0.stamp.conn == d) some.0 (λ here this.
        other (sym (eqb-true some.0.stamp.conn d this)
        ∙ line.sent some.0 (subst (λ (l : List Stamped). Contains l some.0) (sym some.1) (Contains-push [] some.0)) (eqb-true some.0.stamp.port n here)))
  ]

  pub none_other : (deeds : List Deed) (old now : MachineState) (run : RunsRuled old deeds now) → AllKeepLine many n c dev old deeds now run → of_conn n d (sent_of old deeds now run) ≡ []
  none_other [] old now run line = refl
  none_other (deed ∷ later) old now run line =
      conn_both n d (sent_by old deed run.1.0 run.1.1) (sent_of run.1.0 later now run.1.2)
      ∙ ap (λ (l : List Stamped). l ++ of_conn n d (sent_of run.1.0 later now run.1.2)) (one_other old deed run.1.0 run.1.1 line.0)
      ∙ none_other later run.1.0 now run.1.2 line.1

-- ---- in order

false_not : (d c : ℕ) → (d == c) ≡ false → d ≡ c → ⊥
false_not d c e same = false≢true (sym e ∙ eq-eqb d c same)

-- Up to the end of a stretch as much came of the connection as was sent before one of its deeds.
module _ (laws : Laws) (s : Stretch) (deed : Deed) (cut : Cut deed s.at s.deeds s.now s.run) (c dev : ℕ) (begins : BeginsClear s.n c dev s.at)
    (line : AllKeepLine s.many s.n c dev s.at s.deeds s.now s.run)
    (prior : of_conn s.n c (came_of s.at s.deeds s.now s.run) ≡ of_conn s.n c (sent_of s.at cut.sooner cut.mid cut.led)) where
  abbrev sooner : Stretch
  sooner = front s deed cut

  -- on the connection, and on another one
  same_conn : Begins (names_tag s.tag) s.n c (comes s) (sends sooner)
  same_conn = record { more = []; is = append-nil (picks (names_tag s.tag) (of_conn s.n c (comes s))) ∙ ap (picks (names_tag s.tag)) prior }

  other_conn : (d : ℕ) → (d ≡ c → ⊥) → Begins (names_tag s.tag) s.n d (comes s) (sends sooner)
  other_conn d other =
      let q : Stamped → Bool = names_tag s.tag in
      let it = begins_first q s.n d (comes s) (untaken s.now) (sends s) (came_begins laws s d) in
      let none : picks q (of_conn s.n d (comes s)) ≡ [] =
      none_first (picks q (of_conn s.n d (comes s))) it.more (it.is ∙ ap (picks q) (none_other s.many s.n c dev d other s.deeds s.at s.now s.run line)) in
      record { more = picks q (of_conn s.n d (sends sooner)); is = ap (λ (l : List Stamped). l ++ picks q (of_conn s.n d (sends sooner))) none }

  beginning : (d : ℕ) → Begins (names_tag s.tag) s.n d (comes s) (sends sooner)
  beginning d = by (d == c) refl
    where
      by : (b : Bool) → (d == c) ≡ b → Begins (names_tag s.tag) s.n d (comes s) (sends sooner)
      by true e = subst (λ (x : ℕ). Begins (names_tag s.tag) s.n x (comes s) (sends sooner)) (sym (eqb-true d c e)) same_conn
      by false e = other_conn d (false_not d c e)

  -- so no more bits fell until its end than commands had ended before the deed
  pub few_behind : falls s ≤ ended_with s.tag (calls sooner)
  few_behind =
      let fell = fell_few laws s in
      let few = came_few s.n s.tag (comes s) (sends sooner) beginning in
      let ends = sent_few laws.only s.many s.n s.tag s.low s.p s.limit laws.falling.disks cut.sooner s.at cut.mid cut.led sooner.keeps s.rest.disk s.rest.there s.base s.same in
      omega (arith, fell, few, ends)
