-- Where a FIS of a connection is taken, no more ends came than were sent before it: so no more bits fell until then.
use Rattle.std.proofs.Common.{◌≡◌, ℕ, ◌≤◌, Bool, true, false, List, [], ◌∷◌, ◌++◌, append-nil, sym, ap, subst, ◌∙◌, inl, inr, arith, Contains, refl}
use Rattle.std.proofs.lemmas.{Bool.{and_parts, eq-eqb, eqb-true, false≢true}, List.Elements.{Contains-push}}
use Rattle.std.specs.Prelude.{◌==◌, if◌then◌else◌}
use Rattle.fis_view.specs.Frames.{Stamped}
use Rattle.multiplier.specs.Passing.{of_conn}
use Rattle.hba_fbs.specs.declared.report.Wrote.{Wrote}
use Rattle.ahci_machine.specs.States.{MachineState}
use Rattle.machine_laws.specs.{ControllerLaws.RunsRuled, Deeds.{Deed, Does}, Rising.{sent_by, untaken}}
use Rattle.machine_theorem.specs.{Identity.{calls_of, picks}, OwnSlots.{AllKeepLine, BeginsClear, KeepsLine, is_of}, Tags.ended_with}
use Rattle.machine_theorem.proofs.{EndsFew.{sent_few, sent_of}, OwnPlace.{IsFound, one_sent}, Risen.{Begins, came_few, names_tag}}
use Rattle.machine_theorem.proofs.{RisenTold.conn_both, Stretch.{Stretch, came_begins, comes, falls, fell_few, sends}, TheSlots.{Laws, begins_first}}
use Rattle.machine_theorem.proofs.TheSlots.{none_first}

-- ---- other connections of the port

module _ (many : Bool) (n c dev d : ℕ) (other : d ≡ c → ⊥) where
  none_one : (f : Stamped) → (f.stamp.port ≡ n → f.stamp.conn ≡ c) → of_conn n d (f ∷ []) ≡ []
  none_one f own = by (is_of n d f) refl
    where
      by : (b : Bool) → is_of n d f ≡ b → (if is_of n d f then f ∷ [] else []) ≡ []
      by true e =
          let both = and_parts (f.stamp.port == n) (f.stamp.conn == d) e in
          absurd (other (sym (eqb-true f.stamp.conn d both.1) ∙ own (eqb-true f.stamp.port n both.0)))
      by false e = ap (λ (b : Bool). if b then f ∷ [] else []) e

  none_by : (old : MachineState) (deed : Deed) (new : MachineState) (does : Does old deed new) → KeepsLine many n c dev old deed new does
      → of_conn n d (sent_by old deed new does) ≡ []
  none_by old deed new does line = elim (one_sent old deed new does) [
    | inl none ↦ ap (of_conn n d) none
    | inr some ↦ ap (of_conn n d) some.1
        ∙ none_one some.0 (line.sent some.0 (subst (λ (l : List Stamped). Contains l some.0) (sym some.1) (Contains-push [] some.0)))
  ]

  none_sent : (deeds : List Deed) (old now : MachineState) (run : RunsRuled old deeds now) → AllKeepLine many n c dev old deeds now run
      → of_conn n d (sent_of old deeds now run) ≡ []
  none_sent [] old now run keeps = refl
  none_sent (deed ∷ later) old now run keeps =
      conn_both n d (sent_by old deed run.1.0 run.1.1) (sent_of run.1.0 later now run.1.2)
      ∙ ap (λ (l : List Stamped). l ++ of_conn n d (sent_of run.1.0 later now run.1.2)) (none_by old deed run.1.0 run.1.1 keeps.0)
      ∙ none_sent later run.1.0 now run.1.2 keeps.1

-- ---- what came, connection by connection

not_same : (a b : ℕ) → a ≡ b → (a == b) ≡ false → ⊥
not_same a b same e = false≢true (sym e ∙ eq-eqb a b same)

module _ (laws : Laws) (s : Stretch) (c dev : ℕ) (begins : BeginsClear s.n c dev s.at) (line : AllKeepLine s.many s.n c dev s.at s.deeds s.now s.run)
    (f : Stamped) (wrote : Wrote)
    (it : IsFound s.many s.n c dev s.at s.deeds s.now s.run f wrote) where
  abbrev sent_first : List Stamped
  sent_first = sent_of s.at it.found.cut.sooner it.found.cut.mid it.found.cut.led

  -- of this connection all that was sent before the FIS, and no more
  own_came : Begins (names_tag s.tag) s.n c (comes s) sent_first
  own_came = record { more = []; is = append-nil (picks (names_tag s.tag) (of_conn s.n c (comes s))) ∙ ap (picks (names_tag s.tag)) (it.came ∙ sym it.found.prior) }

  -- of each other none that names the tag
  others_came : (d : ℕ) → (d ≡ c → ⊥) → Begins (names_tag s.tag) s.n d (comes s) sent_first
  others_came d other =
      let q : Stamped → Bool = names_tag s.tag in
      let first = begins_first q s.n d (comes s) (untaken s.now) (sends s) (came_begins laws s d) in
      let none : picks q (of_conn s.n d (comes s)) ≡ [] =
      none_first (picks q (of_conn s.n d (comes s))) first.more (first.is ∙ ap (picks q) (none_sent s.many s.n c dev d other s.deeds s.at s.now s.run line)) in
      record { more = picks q (of_conn s.n d sent_first); is = ap (λ (l : List Stamped). l ++ picks q (of_conn s.n d sent_first)) none }

  each_came : (d : ℕ) → Begins (names_tag s.tag) s.n d (comes s) sent_first
  each_came d = by (d == c) refl
    where
      by : (b : Bool) → (d == c) ≡ b → Begins (names_tag s.tag) s.n d (comes s) sent_first
      by true e = subst (λ (k : ℕ). Begins (names_tag s.tag) s.n k (comes s) sent_first) (sym (eqb-true d c e)) own_came
      by false e = others_came d (λ same. not_same d c same e)

  -- no more bits fell until the FIS is taken than the disk ended commands before it sent it
  pub few_fell : falls s ≤ ended_with s.tag (calls_of s.n s.at it.found.cut.sooner it.found.cut.mid it.found.cut.led)
  few_fell =
      let cut = it.found.cut in
      let few = fell_few laws s in
      let order = came_few s.n s.tag (comes s) sent_first each_came in
      let ends = sent_few laws.only s.many s.n s.tag s.low s.p s.limit laws.falling.disks cut.sooner s.at cut.mid cut.led
      (cut.keeps s.many s.n s.tag s.keeps).0 s.rest.disk s.rest.there s.base s.same in
      omega (arith, few, order, ends)
