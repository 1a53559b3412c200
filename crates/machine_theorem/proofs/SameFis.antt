-- The FIS by which a bit falls behind a stretch is the one that the disk sent as it ended the last command of the tag.
use Rattle.std.proofs.Common.{◌≡◌, ℕ, ◌+◌, ◌≤◌, ◌&&◌, Bool, true, false, List, [], ◌∷◌, ◌++◌, length, Option, Some, None, Ok, Err, refl, sym, ap}
use Rattle.std.proofs.{Common.{subst, ◌∙◌, arith, All, Contains}, lemmas.{Bool.{and_parts, eq-eqb}, List.{length-append, Elements.{All-append}}}}
use Rattle.std.proofs.lemmas.List.Elements.{All-cons, All-contains, All-head, All-nil, All-tail, Contains-append_left, Contains-append_right}
use Rattle.std.proofs.lemmas.List.Elements.{Contains-push}
use Rattle.std.specs.Prelude.{◌==◌, if◌then◌else◌}
use Rattle.fis_view.specs.Frames.{Stamped}
use Rattle.fan_out.specs.{FanOuts.wants_at, Fans.seat_at, Seats.connection, declared.fan_out.FanOut.{FanOut, TheVariants.{Device, Multiplier}}}
use Rattle.fan_out.specs.declared.seat.Seat.{Seat}
use Rattle.sata_disk.specs.State.{DiskState, new_disk}
use Rattle.sata_disk.specs.declared.out.Out.TheVariants as out
use Rattle.sata_disk_laws.specs.{Calls.{Call, after_calls}, Laws.reached}
use Rattle.sata_disk_laws.proofs.Door.{calls_after}
use Rattle.ahci_machine.specs.States.{MachineState}
use Rattle.ahci_machine.specs.declared.act.Act.TheVariants as act
use Rattle.machine_laws.specs.{ControllerLaws.RunsRuled, Deeds.{Deed, Does, FrameOffered, Moved}, Disks.calls_at, Falling.{AllLast, connection_at}}
use Rattle.machine_laws.specs.Rising.{risen, sent_by}
use Rattle.machine_theorem.specs.{Identity.{AllKeep, IsThere, calls_of, picks}, Tags.{ended_with, once_if}}
use Rattle.machine_theorem.proofs.{AtEnd.{LastEnd, speaks}, EndsFew.{one_call, sender_is, sent_few, sent_of}, LastSaid.all_ends, OneConn.IsHere}
use Rattle.machine_theorem.proofs.{OneConn.{came_as_sent, last_came}, Risen.{names_of, names_tag}, Stretch.{AllEnded, Fall, Falls, Stretch, calls}}
use Rattle.machine_theorem.proofs.{Stretch.{comes, counts, front, has_disk, names, sends}, TagCounts.ended_both, Within.picks_both}
use Rattle.machine_theorem.proofs.TheSlots as slots

-- ---- the connection of what is sent

connected : (seat : Seat) → seat.is_there ≡ true → connection seat ≡ Some seat.last
connected seat there = ap (λ (b : Bool). if b then Some seat.last else None) there

conn_is : (fan : FanOut) (k : ℕ) (frame : Stamped) → wants_at fan k ≡ true → connection_at fan k ≡ Some (risen fan k frame).stamp.conn
conn_is (Device s) k frame room = connected s.seat (and_parts _ _ (and_parts _ _ room).1).0
conn_is (Multiplier f) k frame room = connected (seat_at f k) (and_parts _ _ (and_parts _ _ room).1).0

abbrev pub IsConn : (n tag : ℕ) → Option ℕ → Stamped → Type 0
IsConn n tag conn f = names_of n tag f ≡ true → Some f.stamp.conn ≡ conn

one_conn : (many : Bool) (n tag : ℕ) (conn : Option ℕ) (old : MachineState) (k : ℕ) (frame : Stamped) → IsThere many n old → connection_at old.fan n ≡ conn → wants_at old.fan k ≡ true
    → IsConn n tag conn (risen old.fan k frame)
one_conn many n tag conn old k frame there is room named =
    let here : k ≡ n = sender_is many n old k frame there room (and_parts _ _ named).0 in
    sym (conn_is old.fan k frame room) ∙ ap (λ (j : ℕ). connection_at old.fan j) here ∙ is

deed_conn : (many : Bool) (n tag : ℕ) (conn : Option ℕ) (old : MachineState) (deed : Deed) (new : MachineState) (does : Does old deed new) → IsThere many n old → connection_at old.fan n ≡ conn
    → All (IsConn n tag conn) (sent_by old deed new does)
deed_conn many n tag conn old (Moved (act.Speaks k o)) new does there is =
    let h = does.does.does.1 in
    All-cons (IsConn n tag conn) (risen old.fan k h.frame) [] (one_conn many n tag conn old k h.frame there is h.room) (All-nil (IsConn n tag conn))
deed_conn many n tag conn old (Moved a) new does there is = All-nil (IsConn n tag conn)
deed_conn many n tag conn old (FrameOffered k frame (Ok x)) new does there is =
    All-cons (IsConn n tag conn) (risen old.fan k frame) [] (one_conn many n tag conn old k frame there is does.own.1) (All-nil (IsConn n tag conn))
deed_conn many n tag conn old (FrameOffered k frame (Err back)) new does there is = All-nil (IsConn n tag conn)
deed_conn many n tag conn old deed new does there is = All-nil (IsConn n tag conn)

run_conn : (many : Bool) (n tag : ℕ) (conn : Option ℕ) (deeds : List Deed) (old now : MachineState) (run : RunsRuled old deeds now) → AllKeep many n tag old deeds now run → AllLast n old deeds now run
    → connection_at old.fan n ≡ conn → All (IsConn n tag conn) (sent_of old deeds now run)
run_conn many n tag conn [] old now run keeps lasts is = All-nil (IsConn n tag conn)
run_conn many n tag conn (deed ∷ later) old now run keeps lasts is =
    All-append (IsConn n tag conn) (sent_by old deed run.1.0 run.1.1) (sent_of run.1.0 later now run.1.2) (deed_conn many n tag conn old deed run.1.0 run.1.1 keeps.0.end is)
    (run_conn many n tag conn later run.1.0 now run.1.2 keeps.1 lasts.1 (lasts.0.same ∙ is))

some_same : (a b : ℕ) → Some a ≡ Some b → a ≡ b
some_same a b e = cc

-- the same one, where it is of that of a FIS
all_same : (n tag c : ℕ) (conn : Option ℕ) → Some c ≡ conn → (frames : List Stamped) → All (IsConn n tag conn) frames → All (IsHere (names_tag tag) n c) frames
all_same n tag c conn is [] all = All-nil (IsHere (names_tag tag) n c)
all_same n tag c conn is (f ∷ later) all =
    All-cons (IsHere (names_tag tag) n c) f later (λ named. some_same f.stamp.conn c (All-head (IsConn n tag conn) f later all named ∙ sym is))
    (all_same n tag c conn is later (All-tail (IsConn n tag conn) f later all))

-- ---- it is the last

and_true : (a b : Bool) → a ≡ true → b ≡ true → (a && b) ≡ true
and_true true b e f = f
and_true false b e f = absurd (cc)

one_names : (b : Bool) (f : Stamped) → 1 ≤ length (if b then f ∷ [] else []) → b ≡ true
one_names true f some = refl
one_names false f some = absurd (omega (arith, some))

fewer_here : (n tag c : ℕ) (xs : List Stamped) → length (picks (λ f. names_of n tag f && (f.stamp.conn == c)) xs) ≤ length (picks (names_of n tag) xs)
fewer_here n tag c [] = omega arith
fewer_here n tag c (x ∷ xs) = by (names_of n tag x) (x.stamp.conn == c) (picks (λ f. names_of n tag f && (f.stamp.conn == c)) xs) (picks (names_of n tag) xs) (fewer_here n tag c xs)
  where
    by : (a b : Bool) (us vs : List Stamped) → length us ≤ length vs → length (if a && b then x ∷ us else us) ≤ length (if a then x ∷ vs else vs)
    by true true us vs e = omega (arith, e)
    by true false us vs e = omega (arith, e)
    by false b us vs e = e

pub same_fis : (laws : slots.Laws) (s : Stretch) (fall : Fall s) → Falls s fall → AllEnded s fall → (end : LastEnd s)
    → sent_by end.last.cut.mid (speaks s end.tags) end.last.cut.next end.last.cut.does ≡ fall.does.does.frame ∷ []
same_fis laws s fall falls ended end =
    let c = end.last.cut in
    let deed : Deed = speaks s end.tags in
    let t : Stretch = front s deed c in
    let frame : Stamped = fall.does.does.frame in
    let f : Stamped = risen c.mid.fan s.n c.does.does.does.1.frame in
    let q : Stamped → Bool = names_tag s.tag in
    let N : Stamped → Bool = names s in
    let sooner : List Stamped = sent_of s.at c.sooner c.mid c.led in
    let later : List Stamped = sent_of c.next c.later s.now c.rest in
    let came : List Stamped = comes s ++ frame ∷ [] in
    let sent : List Stamped = sends s in
    let conn : Option ℕ = connection_at s.at.fan s.n in
    let sent_conn : All (IsConn s.n s.tag conn) sent = run_conn s.many s.n s.tag conn s.deeds s.at s.now s.run s.keeps s.lasts refl in
    let came_conn : All (IsConn s.n s.tag conn) came = came_as_sent q s.n (λ g. Some g.stamp.conn ≡ conn) came sent falls.order sent_conn in
    let has : Contains came frame = Contains-push (comes s) frame in
    let mine : Some frame.stamp.conn ≡ conn = All-contains (IsConn s.n s.tag conn) came frame came_conn has falls.named in
    let all : All (IsHere q s.n frame.stamp.conn) sent = all_same s.n s.tag frame.stamp.conn conn mine sent sent_conn in
    let here_came : All (IsHere q s.n frame.stamp.conn) came = all_same s.n s.tag frame.stamp.conn conn mine came came_conn in
    let has_f : Contains sent f =
    subst (λ (l : List Stamped). Contains l f) (sym c.sent)
    (Contains-append_right sooner (f ∷ later) f (Contains-append_left (f ∷ []) later f (Contains-push [] f))) in
    let cs : List Call = calls_at c.mid deed s.n in
    let d : DiskState = reached s.p s.limit (s.base ++ calls t) in
    let step = laws.falling.disks c.mid deed c.next c.does s.n d (has_disk laws t).there refl in
    let few_sooner = sent_few laws.only s.many s.n s.tag s.low s.p s.limit laws.falling.disks c.sooner s.at c.mid c.led (c.keeps s.many s.n s.tag s.keeps).0 s.rest.disk s.rest.there s.base s.same in
    let few_later = sent_few laws.only s.many s.n s.tag s.low s.p s.limit laws.falling.disks c.later c.next s.now c.rest (c.keeps s.many s.n s.tag s.keeps).2 (after_calls d cs) step.is
    ((s.base ++ calls t) ++ cs) (sym (calls_after (s.base ++ calls t) cs (new_disk s.p s.limit))) in
    let none_later = sym (all_ends s.n s.tag c.later c.next s.now c.rest) ∙ end.last.none in
    let one : ended_with s.tag cs ≡ 1 = one_call s.n s.n s.tag (out.Ends end.tags) refl (ap once_if end.named) in
    let rest : List Call = calls_of s.n c.next c.later s.now c.rest in
    let ends : ended_with s.tag (calls s) ≡ ended_with s.tag (calls t) + (ended_with s.tag cs + ended_with s.tag rest) =
    ap (ended_with s.tag) (c.own s.n) ∙ ended_both s.tag (calls t) (cs ++ rest) ∙ ap (λ (k : ℕ). ended_with s.tag (calls t) + k) (ended_both s.tag cs rest) in
    let parts : length (picks N sent) ≡ length (picks N sooner) + (length (picks N (f ∷ [])) + length (picks N later)) =
    ap (λ (l : List Stamped). length (picks N l)) c.sent ∙ long_both N sooner (f ∷ later)
    ∙ ap (λ (k : ℕ). length (picks N sooner) + k) (long_both N (f ∷ []) later) in
    let k = counts laws s in
    let k1 = k.ended in
    let k2 = k.heard in
    let k3 = k.asked in
    let k4 = k.ordered in
    let k5 = k.one in
    let fell = falls.few in
    let all_sent = ended.sent in
    let came_all = ended.came in
    let some_f : 1 ≤ length (picks N (f ∷ [])) = omega (arith, parts, few_sooner, few_later, none_later, one, ends, fell, came_all, k1, k2, k3, k4, k5) in
    let named_f : N f ≡ true = one_names (N f) f some_f in
    let here_f : f.stamp.conn ≡ frame.stamp.conn = All-contains (IsHere q s.n frame.stamp.conn) sent f all has_f named_f in
    let few_here = fewer_here s.n s.tag frame.stamp.conn later in
    let few_now : length (picks N sent) ≤ length (picks N came) = omega (arith, all_sent, k1, k2, k3, k4, k5, fell) in
    let same : frame ≡ f = last_came q s.n frame.stamp.conn came sent (falls.order frame.stamp.conn) here_came all few_now frame f
    (record {
      front = comes s;
      later = [];
      is = refl;
      passes = and_true (N frame) (frame.stamp.conn == frame.stamp.conn) falls.named (eq-eqb frame.stamp.conn frame.stamp.conn refl);
      none = refl;
    })
    (record {
      front = sooner;
      later = later;
      is = c.sent;
      passes = and_true (N f) (f.stamp.conn == frame.stamp.conn) named_f (eq-eqb f.stamp.conn frame.stamp.conn here_f);
      none = omega (arith, few_here, few_later, none_later);
    }) in
    ap (λ (g : Stamped). g ∷ []) (sym same)
  where
    long_both : (p : Stamped → Bool) (xs ys : List Stamped) → length (picks p (xs ++ ys)) ≡ length (picks p xs) + length (picks p ys)
    long_both p xs ys = ap (λ (l : List Stamped). length l) (picks_both p xs ys) ∙ length-append (picks p xs) (picks p ys)
