-- For the fields `nothing_lost` and `on_the_way` of `laws`. Nothing is lost in one move, and so in a whole run.
use Rattle.std.proofs.Common.{◌≡◌, ◌≢◌, ℕ, zero, suc, ◌<◌, ◌≤◌, List, [], ◌∷◌, ◌++◌, Bool, true, false, cond, eqb, refl, sym, ap, subst, ◌∙◌, append_assoc, inl, inr, map, length, arith}
use Rattle.std.specs.Prelude.{◌==◌, ◌&&◌, filter, Ok}
use Rattle.std.proofs.lemmas.{Bool.{cases_Bool, cases_eq, eq-eqb, ne_eqb}, List.append-nil}
use Rattle.fis_view.specs.Frames.{Stamped, marked}
use Rattle.multiplier.specs.{Arbiter.control_port, State.{port_at, rising}}
use Rattle.multiplier.proofs.Door.{up_to, up_to_is}
use Rattle.pm_world.specs.{Laws.FromEachWorld, Places.{Places, IsOrderly, IsTold}, Rules.{Rule, Run}}
use Rattle.pm_world.specs.Traffic.{sent_by, taken_by, sent, taken, all_marked, stamped, of_conn, waiting, transit, is_removed, on_host_link, is_took}
use Rattle.pm_world.specs.{Traffic.{IsPrefixOf, NothingAfterRemoval, NothingLost}, declared.{step.Step.Step, step.Answer.Answer}}
use Rattle.hba_fbs.specs.declared.report.TakeReport.{TakeReport}
use Rattle.pm_world.specs.declared.step.Answer.TheVariants as answer
use Rattle.pm_world.proofs.steps.Lists.{stamped-append, of_conn-append, all_marked-append, stamped-one, of_conn-one}
use Rattle.pm_world.proofs.upward.FrameMoves.{Stays, Enters, Rises, Says, Leaves, GoesUp, Moves, rule_moves}
use Rattle.pm_world.proofs.steps.Orderly.{orderly_after, removed_after, run_orderly}

-- what is at a port and on the host's link decides what is on its way
on_its_way : ℕ → ℕ → List Stamped → List Stamped → List (List ℕ)
on_its_way n c upward waits = stamped n c upward ++ all_marked n (of_conn c waits)

kept : (n c : ℕ) (old new : Places) → new.upward.frames ≡ old.upward.frames → waiting n new ≡ waiting n old → transit n c new ≡ transit n c old
kept n c old new upward waits = rw (upward, waits)

stays_conserves : (old new : Places) → Stays old new → (n c : ℕ) → is_removed n c new ≡ false → transit n c new ≡ transit n c old
stays_conserves old new m n c there =
    ap (λ frames. stamped n c frames ++ all_marked n (of_conn c (waiting n new))) m.upward
    ∙ ap (λ bytes. stamped n c old.upward.frames ++ all_marked n bytes) (m.waits n c there)

-- a frame of this port, as it waits, marked, and as it goes on
marked_one : (n c : ℕ) (f : Stamped) → all_marked n (of_conn c (f ∷ [])) ≡ stamped n c (rising n f ∷ [])
marked_one n c f =
    let b : eqb n n ≡ true = eq-eqb n n refl in
    rw (of_conn-one c f, stamped-one n c (rising n f), b) (by_test (f.stamp.conn == c))
  where
    by_test : (t : Bool) → all_marked n (cond t (f.bytes ∷ []) []) ≡ cond t (marked f.bytes n ∷ []) []
    by_test true = refl
    by_test false = refl

-- a frame of another port
not_mine : (n c : ℕ) (f : Stamped) → n ≢ f.stamp.port → stamped n c (f ∷ []) ≡ []
not_mine n c f other =
    let b : eqb f.stamp.port n ≡ false = ne_eqb f.stamp.port n (λ e. other (sym e)) in
    rw (stamped-one n c f, b)

-- what is on its way if one more frame waits at the end
more_waits : (n c : ℕ) (upward waits : List Stamped) (f : Stamped) → on_its_way n c upward (waits ++ f ∷ []) ≡ on_its_way n c upward waits ++ all_marked n (of_conn c (f ∷ []))
unfolding on_its_way
more_waits n c upward waits f = rw (of_conn-append c waits (f ∷ []), all_marked-append n (of_conn c waits) (of_conn c (f ∷ [])), append_assoc)

enters_conserves : (old new : Places) (port conn number : ℕ) (bytes : List ℕ) (f : Stamped) → IsTold f port conn number bytes → Enters port f old new → (n c : ℕ) → transit n c new ≡ transit n c old ++ all_marked n (sent_by n c (answer.Sent port conn number bytes))
enters_conserves old new port conn number bytes f told m n c =
    elim (cases_eq n port) [
      | inl e ↦
          let says : sent_by port c (answer.Sent port conn number bytes) ≡ of_conn c (f ∷ []) =
          let b : eqb port port ≡ true = eq-eqb port port refl in rw (of_conn-one c f, b, told.conn_is, told.bytes_are) in
          rw (e, m.upward, m.here, says) (unfold on_its_way in more_waits port c old.upward.frames (waiting port old) f)
      | inr other ↦
          let b : eqb port n ≡ false = ne_eqb port n (λ e. other (sym e)) in
          rw b (kept n c old new m.upward (m.elsewhere n other) ∙ sym (append-nil (transit n c old)))
    ]

rises_conserves : (old new : Places) (port : ℕ) (f : Stamped) → Rises port f old new → (n c : ℕ) → transit n c new ≡ transit n c old
rises_conserves old new port f m n c =
    elim (cases_eq n port) [
      | inl e ↦
          let one = marked_one port c f in
          let split : of_conn c (f ∷ waiting port new) ≡ of_conn c (f ∷ []) ++ of_conn c (waiting port new) = of_conn-append c (f ∷ []) (waiting port new) in
          rw (e, m.upward, m.here, split, stamped-append port c old.upward.frames (rising port f ∷ []), all_marked-append port (of_conn c (f ∷ [])) (of_conn c (waiting port new)), one, append_assoc)
      | inr other ↦
          rw (m.upward, m.elsewhere n other, stamped-append n c old.upward.frames (rising port f ∷ []), not_mine n c (rising port f) other, append-nil)
    ]

says_conserves : (old new : Places) (f : Stamped) → Says f old new → (n c : ℕ) → n ≢ control_port → transit n c new ≡ transit n c old
says_conserves old new f m n c device =
    let none : stamped n c (f ∷ []) ≡ [] = not_mine n c f (λ e. device (e ∙ m.port_is)) in
    rw (m.upward, m.waits n, stamped-append n c old.upward.frames (f ∷ []), none, append-nil)

goes_up_conserves : (old new : Places) (port : ℕ) → GoesUp port old new → (n c : ℕ) → n ≢ control_port → transit n c new ≡ transit n c old
goes_up_conserves old new port (inl rose) n c device = rises_conserves old new port rose.0 rose.1 n c
goes_up_conserves old new port (inr said) n c device = says_conserves old new said.1.0 said.1.1 n c device

leaves_conserves : (old new : Places) (port conn number : ℕ) (bytes : List ℕ) (report : TakeReport) (f : Stamped) → IsTold f port conn number bytes → Leaves f old new → (n c : ℕ) → taken_by n c (answer.Took port conn number bytes report) ++ transit n c new ≡ transit n c old
leaves_conserves old new port conn number bytes report f told m n c =
    let split : stamped n c (f ∷ new.upward.frames) ≡ stamped n c (f ∷ []) ++ stamped n c new.upward.frames = stamped-append n c (f ∷ []) new.upward.frames in
    rw (m.waits n, m.upward, split, stamped-one n c f, told.port_is, told.conn_is, told.bytes_are, append_assoc)

-- if the removal of a connection is not recorded, what a step took and what is then on its way is
-- what was on its way and what the step sent
conserves : (old : Places) (a : Answer) (new : Places) → Moves old a new → (n c : ℕ) → n ≢ control_port → is_removed n c new ≡ false → taken_by n c a ++ transit n c new ≡ transit n c old ++ all_marked n (sent_by n c a)
conserves old (answer.Sent port conn number bytes) new m n c device there = enters_conserves old new port conn number bytes m.0 m.1 m.2 n c
conserves old (answer.Up port) new m n c device there = goes_up_conserves old new port m n c device ∙ sym (append-nil (transit n c old))
conserves old (answer.Took port conn number bytes report) new m n c device there = leaves_conserves old new port conn number bytes report m.0 m.1 m.2 n c ∙ sym (append-nil (transit n c old))
conserves old _ new m n c device there = stays_conserves old new m n c there ∙ sym (append-nil (transit n c old))

-- ---- a connection that is removed

-- a frame that rises is not of a removed connection
rises_none : (old new : Places) (port : ℕ) (f : Stamped) → Rises port f old new → (n c : ℕ) → is_removed n c old ≡ true → stamped n c (rising port f ∷ []) ≡ []
rises_none old new port f m n c gone =
    elim (cases_eq n port) [
      | inl e ↦ elim (cases_eq f.stamp.conn c) [
        | inl same ↦
            let wrong : is_removed port f.stamp.conn old ≡ true = subst (λ d. is_removed port d old ≡ true) (sym same) (subst (λ k. is_removed k c old ≡ true) e gone) in
            let never = m.present in
            absurd (cc)
        | inr differs ↦
            let b : eqb f.stamp.conn c ≡ false = ne_eqb f.stamp.conn c differs in
            rw (stamped-one n c (rising port f), b, and_false (eqb port n)) refl
      ]
      | inr other ↦ not_mine n c (rising port f) other
    ]
  where
    and_false : (b : Bool) → (b && false) ≡ false
    and_false true = refl
    and_false false = refl

says_none : (old new : Places) (f : Stamped) → Says f old new → (n c : ℕ) → n ≢ control_port → stamped n c (f ∷ []) ≡ []
says_none old new f m n c device = not_mine n c f (λ e. device (e ∙ m.port_is))

-- nothing of it goes on the host's link
rises_over : (old new : Places) (port : ℕ) (f : Stamped) → Rises port f old new → (n c : ℕ) → is_removed n c old ≡ true → on_host_link n c new ≡ on_host_link n c old
rises_over old new port f m n c gone =
    let none = rises_none old new port f m n c gone in
    rw (m.upward, stamped-append n c old.upward.frames (rising port f ∷ []), none, append-nil)

says_over : (old new : Places) (f : Stamped) → Says f old new → (n c : ℕ) → n ≢ control_port → on_host_link n c new ≡ on_host_link n c old
says_over old new f m n c device =
    let none = says_none old new f m n c device in
    rw (m.upward, stamped-append n c old.upward.frames (f ∷ []), none, append-nil)

leaves_over : (old new : Places) (port conn number : ℕ) (bytes : List ℕ) (report : TakeReport) (f : Stamped) → IsTold f port conn number bytes → Leaves f old new → (n c : ℕ) → taken_by n c (answer.Took port conn number bytes report) ++ on_host_link n c new ≡ on_host_link n c old
leaves_over old new port conn number bytes report f told m n c =
    let split : stamped n c (f ∷ new.upward.frames) ≡ stamped n c (f ∷ []) ++ stamped n c new.upward.frames = stamped-append n c (f ∷ []) new.upward.frames in
    rw (m.upward, split, stamped-one n c f, told.port_is, told.conn_is, told.bytes_are) refl

-- what a step took of it and what is then on the host's link is what was there
over : (old : Places) (a : Answer) (new : Places) → Moves old a new → (n c : ℕ) → n ≢ control_port → is_removed n c old ≡ true → taken_by n c a ++ on_host_link n c new ≡ on_host_link n c old
over old (answer.Sent port conn number bytes) new m n c device gone = ap (stamped n c) m.2.upward
over old (answer.Up port) new m n c device gone = elim m [ inl rose ↦ rises_over old new port rose.0 rose.1 n c gone | inr said ↦ says_over old new said.1.0 said.1.1 n c device ]
over old (answer.Took port conn number bytes report) new m n c device gone = leaves_over old new port conn number bytes report m.0 m.1 m.2 n c
over old _ new m n c device gone = ap (stamped n c) m.upward

-- what a step took of any connection, and what is then on the host's link, begins what was on its way and what was sent
arrives : (old : Places) (a : Answer) (new : Places) → Moves old a new → (n c : ℕ) → n ≢ control_port → IsPrefixOf (taken_by n c a ++ on_host_link n c new) (transit n c old ++ all_marked n (sent_by n c a))
arrives old (answer.Sent port conn number bytes) new m n c device =
    (all_marked n (of_conn c (waiting n new)), enters_conserves old new port conn number bytes m.0 m.1 m.2 n c)
arrives old (answer.Up port) new m n c device =
    (all_marked n (of_conn c (waiting n new)), goes_up_conserves old new port m n c device ∙ sym (append-nil (transit n c old)))
arrives old (answer.Took port conn number bytes report) new m n c device = (
  all_marked n (of_conn c (waiting n new)),
  append_assoc (taken_by n c (answer.Took port conn number bytes report)) (on_host_link n c new) (all_marked n (of_conn c (waiting n new)))
      ∙ leaves_conserves old new port conn number bytes report m.0 m.1 m.2 n c
      ∙ sym (append-nil (transit n c old)),
)
arrives old _ new m n c device =
    (all_marked n (of_conn c (waiting n old)), rw (ap (stamped n c) m.upward) (sym (append-nil (transit n c old))))

-- ---- a whole run

-- a removal stays recorded
pub run_stays : (old : Places) (steps : List Step) (answers : List Answer) (new : Places) → IsOrderly old → Run old steps answers new → (n c : ℕ) → is_removed n c old ≡ true → is_removed n c new ≡ true
run_stays old [] [] new orderly run n c gone = rw run gone
run_stays old (s ∷ steps) (a ∷ answers) new orderly run n c gone =
    run_stays run.0 steps answers new (orderly_after old s a run.0 orderly run.1) run.2 n c (removed_after old s a run.0 orderly run.1 n c gone)
run_stays old [] (a ∷ answers) new orderly run n c gone = absurd run
run_stays old (s ∷ steps) [] new orderly run n c gone = absurd run

-- so a removal that is not recorded was not recorded before
run_never : (old : Places) (steps : List Step) (answers : List Answer) (new : Places) → IsOrderly old → Run old steps answers new → (n c : ℕ) → is_removed n c new ≡ false → is_removed n c old ≡ false
run_never old steps answers new orderly run n c never =
    elim (cases_Bool (is_removed n c old)) [
      | inl gone ↦ let wrong = run_stays old steps answers new orderly run n c gone in absurd (cc)
      | inr not_so ↦ not_so
    ]

run_conserves : (old : Places) (steps : List Step) (answers : List Answer) (new : Places) → IsOrderly old → Run old steps answers new → (n c : ℕ) → n ≢ control_port → is_removed n c new ≡ false → taken n c answers ++ transit n c new ≡ transit n c old ++ all_marked n (sent n c answers)
run_conserves old [] [] new orderly run n c device never = rw run (sym (append-nil (transit n c old)))
run_conserves old (s ∷ steps) (a ∷ answers) new orderly run n c device never =
    let mid = run.0 in
    let still = orderly_after old s a mid orderly run.1 in
    let first = conserves old a mid (rule_moves old s a mid orderly run.1) n c device (run_never mid steps answers new still run.2 n c never) in
    let rest = run_conserves mid steps answers new still run.2 n c device never in
    rw (append_assoc, rest, ← append_assoc, first, append_assoc, all_marked-append n (sent_by n c a) (sent n c answers))
run_conserves old [] (a ∷ answers) new orderly run n c device never = absurd run
run_conserves old (s ∷ steps) [] new orderly run n c device never = absurd run

run_over : (old : Places) (steps : List Step) (answers : List Answer) (new : Places) → IsOrderly old → Run old steps answers new → (n c : ℕ) → n ≢ control_port → is_removed n c old ≡ true → taken n c answers ++ on_host_link n c new ≡ on_host_link n c old
run_over old [] [] new orderly run n c device gone = rw run refl
run_over old (s ∷ steps) (a ∷ answers) new orderly run n c device gone =
    let mid = run.0 in
    let first = over old a mid (rule_moves old s a mid orderly run.1) n c device gone in
    let rest = run_over mid steps answers new (orderly_after old s a mid orderly run.1) run.2 n c device (removed_after old s a mid orderly run.1 n c gone) in
    rw (append_assoc, rest) first
run_over old [] (a ∷ answers) new orderly run n c device gone = absurd run
run_over old (s ∷ steps) [] new orderly run n c device gone = absurd run

run_arrives : (old : Places) (steps : List Step) (answers : List Answer) (new : Places) → IsOrderly old → Run old steps answers new → (n c : ℕ) → n ≢ control_port → IsPrefixOf (taken n c answers ++ on_host_link n c new) (transit n c old ++ all_marked n (sent n c answers))
run_arrives old [] [] new orderly run n c device = (all_marked n (of_conn c (waiting n old)), rw run (sym (append-nil (transit n c old))))
run_arrives old (s ∷ steps) (a ∷ answers) new orderly run n c device =
    let mid = run.0 in
    let still = orderly_after old s a mid orderly run.1 in
    let moves = rule_moves old s a mid orderly run.1 in
    elim (cases_Bool (is_removed n c mid)) [
      | inl gone ↦
          let first = arrives old a mid moves n c device in
          let rest = run_over mid steps answers new still run.2 n c device gone in
          (first.0 ++ all_marked n (sent n c answers), ended (taken_by n c a) (taken n c answers) (on_host_link n c new) (on_host_link n c mid) first.0 (transit n c old ++ all_marked n (sent_by n c a)) (all_marked n (sent n c answers)) rest first.1 ∙ tail a answers)
      | inr never ↦
          let first = conserves old a mid moves n c device never in
          let rest = run_arrives mid steps answers new still run.2 n c device in
          (rest.0, went_on (taken_by n c a) (taken n c answers) (on_host_link n c new) rest.0 (transit n c mid) (all_marked n (sent n c answers)) (transit n c old ++ all_marked n (sent_by n c a)) rest.1 first ∙ tail a answers)
    ]
  where
    tail : (a : Answer) (answers : List Answer) → (transit n c old ++ all_marked n (sent_by n c a)) ++ all_marked n (sent n c answers) ≡ transit n c old ++ all_marked n (sent n c (a ∷ answers))
    tail a answers = rw (append_assoc, all_marked-append n (sent_by n c a) (sent n c answers)) refl

    ended : (t more host was rest whole put : List (List ℕ)) → more ++ host ≡ was → (t ++ was) ++ rest ≡ whole → ((t ++ more) ++ host) ++ (rest ++ put) ≡ whole ++ put
    ended t more host was rest whole put e f =
        ap (λ xs. xs ++ (rest ++ put)) (append_assoc t more host ∙ ap (λ xs. t ++ xs) e)
        ∙ sym (append_assoc (t ++ was) rest put)
        ∙ ap (λ xs. xs ++ put) f

    went_on : (t more host rest between put whole : List (List ℕ)) → (more ++ host) ++ rest ≡ between ++ put → t ++ between ≡ whole → ((t ++ more) ++ host) ++ rest ≡ whole ++ put
    went_on t more host rest between put whole e f =
        ap (λ xs. xs ++ rest) (append_assoc t more host)
        ∙ append_assoc t (more ++ host) rest
        ∙ ap (λ xs. t ++ xs) e
        ∙ sym (append_assoc t between put)
        ∙ ap (λ xs. xs ++ put) f
run_arrives old [] (a ∷ answers) new orderly run n c device = absurd run
run_arrives old (s ∷ steps) [] new orderly run n c device = absurd run

pub nothing_lost : (old : Places) (steps : List Step) (answers : List Answer) (new : Places) → IsOrderly old → Run old steps answers new → NothingLost old answers new
nothing_lost old steps answers new orderly run = record {
  conserved = run_conserves old steps answers new orderly run;
  over = run_over old steps answers new orderly run;
  stays = run_stays old steps answers new orderly run;
  arrives = run_arrives old steps answers new orderly run;
  prefix = λ n c device.
      let all = run_arrives old steps answers new orderly run n c device in
      (on_host_link n c new ++ all.0, sym (append_assoc (taken n c answers) (on_host_link n c new) all.0) ∙ all.1);
}

-- ---- after the host saw a removal

-- from place k of these frames on, none is of connection c of port n
abbrev NoneFrom : ℕ → ℕ → ℕ → List Stamped → Type 0
NoneFrom n c zero frames = stamped n c frames ≡ []
NoneFrom n c (suc k) [] = Prim.Unit {0}
NoneFrom n c (suc k) (f ∷ frames) = NoneFrom n c k frames

none_at_all : (n c k : ℕ) → NoneFrom n c k []
none_at_all n c zero = refl
none_at_all n c (suc k) = tt

none_from_end : (n c : ℕ) (frames : List Stamped) → NoneFrom n c (length frames) frames
none_from_end n c [] = refl
none_from_end n c (f ∷ frames) = none_from_end n c frames

-- one more frame, of another connection, is put at the end
none_more : (n c k : ℕ) (frames : List Stamped) (g : Stamped) → stamped n c (g ∷ []) ≡ [] → NoneFrom n c k frames → NoneFrom n c k (frames ++ g ∷ [])
none_more n c zero frames g other none = rw (stamped-append n c frames (g ∷ []), none, other) refl
none_more n c (suc k) [] g other none = none_at_all n c k
none_more n c (suc k) (f ∷ frames) g other none = none_more n c k frames g other none

-- the first of frames, if none of them is of the connection
none_later : (n c : ℕ) (f : Stamped) (frames : List Stamped) → stamped n c (f ∷ frames) ≡ [] → stamped n c frames ≡ []
none_later n c f frames = by_test (f.stamp.port == n && f.stamp.conn == c)
  where
    by_test : (b : Bool) → map (λ (g : Stamped). g.bytes) (cond b (f ∷ filter (λ g. g.stamp.port == n && g.stamp.conn == c) frames) (filter (λ g. g.stamp.port == n && g.stamp.conn == c) frames)) ≡ [] → stamped n c frames ≡ []
    by_test true e = absurd (cc)
    by_test false e = e

-- how many frames the host took
abbrev tooks : List Answer → ℕ
tooks answers = length (filter is_took answers)

-- where the frames of the connection stand on the host's link, and how many frames are still to be
-- taken before none of them is there
abbrev LeftOver : ℕ → ℕ → List Answer → Places → Type 0
LeftOver n c answers now = (k : ℕ) × NoneFrom n c k now.upward.frames × (k ≤ tooks answers)

same_over : (n c : ℕ) (answers : List Answer) (old new : Places) → new.upward.frames ≡ old.upward.frames → LeftOver n c answers old → LeftOver n c answers new
same_over n c answers old new e left = (left.0, subst (NoneFrom n c left.0) (sym e) left.1, left.2)

up_over : (n c port : ℕ) (answers : List Answer) (old new : Places) → GoesUp port old new → n ≢ control_port → is_removed n c old ≡ true → LeftOver n c answers old → LeftOver n c answers new
up_over n c port answers old new (inl rose) device gone left =
    let none = none_more n c left.0 old.upward.frames (rising port rose.0) (rises_none old new port rose.0 rose.1 n c gone) left.1 in
    (left.0, subst (NoneFrom n c left.0) (sym rose.1.upward) none, left.2)
up_over n c port answers old new (inr said) device gone left =
    let none = none_more n c left.0 old.upward.frames said.1.0 (says_none old new said.1.0 said.1.1 n c device) left.1 in
    (left.0, subst (NoneFrom n c left.0) (sym said.1.1.upward) none, left.2)

took_over : (n c k : ℕ) (answers : List Answer) (old new : Places) (f : Stamped) → Leaves f old new → NoneFrom n c k old.upward.frames → k ≤ suc (tooks answers) → LeftOver n c answers new
took_over n c zero answers old new f m none most =
    let here : stamped n c (f ∷ new.upward.frames) ≡ [] = subst (NoneFrom n c zero) m.upward none in
    (zero, none_later n c f new.upward.frames here, omega arith)
took_over n c (suc k) answers old new f m none most =
    let here : NoneFrom n c k new.upward.frames = subst (NoneFrom n c (suc k)) m.upward none in
    (k, here, omega (arith, most))

-- one step, for a connection that is removed
step_over : (n c : ℕ) (old : Places) (a : Answer) (later : List Answer) (new : Places) → Moves old a new → n ≢ control_port → is_removed n c old ≡ true → LeftOver n c (a ∷ later) old → LeftOver n c later new
step_over n c old (answer.Sent port conn number bytes) later new m device gone left = same_over n c later old new m.2.upward left
step_over n c old (answer.Up port) later new m device gone left = up_over n c port later old new m device gone left
step_over n c old (answer.Took port conn number bytes report) later new m device gone left = took_over n c left.0 later old new m.0 m.2 left.1 left.2
step_over n c old _ later new m device gone left = same_over n c later old new m.upward left

-- a whole run, in which as many frames are taken as stood up to the last of the connection
all_over : (n c : ℕ) (old : Places) (steps : List Step) (answers : List Answer) (new : Places) → IsOrderly old → Run old steps answers new → n ≢ control_port → is_removed n c old ≡ true → LeftOver n c answers old → on_host_link n c new ≡ []
all_over n c old [] [] new orderly run device gone left = rw run (none_left left.0 left.1 left.2)
  where
    none_left : (k : ℕ) → NoneFrom n c k old.upward.frames → k ≤ 0 → stamped n c old.upward.frames ≡ []
    none_left zero none most = none
    none_left (suc k) none most = absurd (omega (arith, most))
all_over n c old (s ∷ steps) (a ∷ answers) new orderly run device gone left =
    let mid = run.0 in
    all_over n c mid steps answers new (orderly_after old s a mid orderly run.1) run.2 device (removed_after old s a mid orderly run.1 n c gone)
    (step_over n c old a answers mid (rule_moves old s a mid orderly run.1) device gone left)
all_over n c old [] (a ∷ answers) new orderly run device gone left = absurd run
all_over n c old (s ∷ steps) [] new orderly run device gone left = absurd run

-- a run in two parts, by its answers
pub record Parts (old : Places) (steps : List Step) (first later : List Answer) (new : Places) : Type 0 where
  pub before : List Step
  pub after : List Step
  pub mid : Places
  pub begins : Run old before first mid
  pub goes_on : Run mid after later new

pub in_parts : (first later : List Answer) (old : Places) (steps : List Step) (new : Places) → Run old steps (first ++ later) new → Parts old steps first later new
in_parts [] later old steps new run = record { before = []; after = steps; mid = old; begins = refl; goes_on = run }
in_parts (a ∷ first) later old (s ∷ steps) new run =
    let rest = in_parts first later run.0 steps new run.2 in
    record { before = s ∷ rest.before; after = rest.after; mid = rest.mid; begins = (run.0, run.1, rest.begins); goes_on = rest.goes_on }
in_parts (a ∷ first) later old [] new run = absurd run

nothing_left : (more rest : List (List ℕ)) → more ++ rest ≡ [] → more ≡ []
nothing_left [] rest e = refl
nothing_left (x ∷ more) rest e = absurd (cc)

-- every connection up to a removed one is removed
earlier_removed : (n c d : ℕ) (now : Places) → is_removed n c now ≡ true → 0 < d → d ≤ c → is_removed n d now ≡ true
earlier_removed n c d now gone some most =
    let both = up_to_is (port_at now.multiplier n).gone c gone in
    let high : c ≤ (port_at now.multiplier n).gone = both.1 in
    up_to (port_at now.multiplier n).gone d some (omega (arith, most, high))

pub nothing_after : (old : Places) (steps : List Step) (answers : List Answer) (new : Places) → IsOrderly old → Run old steps answers new → NothingAfterRemoval old answers
nothing_after old steps answers new orderly run = record {
  none = λ n c device gone first later e took d some most.
      let parts = in_parts first later old steps new (subst (λ (all : List Answer). Run old steps all new) (sym e) run) in
      let removed = earlier_removed n c d old gone some most in
      let enough : length old.upward.frames ≤ tooks first = omega (arith, took) in
      let empty = all_over n d old parts.before first parts.mid orderly parts.begins device removed (length old.upward.frames, none_from_end n d old.upward.frames, enough) in
      let still = run_stays old parts.before first parts.mid orderly parts.begins n d removed in
      let over = run_over parts.mid parts.after later new (run_orderly old parts.before first parts.mid orderly parts.begins) parts.goes_on n d device still in
      nothing_left (taken n d later) (on_host_link n d new) (over ∙ empty);
}

-- from each world on the way
pub on_the_way : (old : Places) (steps : List Step) (answers : List Answer) (new : Places) → IsOrderly old
    → FromEachWorld old steps answers new (λ mid later. NothingLost mid later new × NothingAfterRemoval mid later)
on_the_way old steps answers new orderly first later told rest mid of_steps of_answers begins goes_on =
    let still = run_orderly old first told mid orderly begins in
    (nothing_lost mid later rest new still goes_on, nothing_after mid later rest new still goes_on)

-- a run goes on by one step
pub run_more : (old : Places) (steps : List Step) (answers : List Answer) (mid : Places) (s : Step) (a : Answer) (new : Places) → Run old steps answers mid → Rule mid s (Ok a) new → Run old (steps ++ s ∷ []) (answers ++ a ∷ []) new
run_more old [] [] mid s a new run more = (new, rw (sym run) more, refl)
run_more old (t ∷ steps) (b ∷ answers) mid s a new run more = (run.0, run.1, run_more run.0 steps answers mid s a new run.2 more)
run_more old [] (b ∷ answers) mid s a new run more = absurd run
run_more old (t ∷ steps) [] mid s a new run more = absurd run

-- one run and then another
unfoldable pub run_append : (a b c : Places) (first : List Step) (told : List Answer) (second : List Step) (more : List Answer) → Run a first told b → Run b second more c → Run a (first ++ second) (told ++ more) c
run_append a b c [] [] second more run next = subst (λ (p : Places). Run p second more c) run next
run_append a b c (s ∷ first) (x ∷ told) second more run next = (run.0, run.1, run_append run.0 b c first told second more run.2 next)
run_append a b c [] (x ∷ told) second more run next = absurd run
run_append a b c (s ∷ first) [] second more run next = absurd run
