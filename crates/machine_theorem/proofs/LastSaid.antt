-- The last end with a tag in a run, and the last FIS that asks for it.
use Rattle.std.proofs.Common.{◌≡◌, ℕ, ◌+◌, ◌≤◌, Bool, true, false, List, [], ◌∷◌, ◌++◌, length, Option, Some, None, Result, Ok, Err, refl, sym, ap}
use Rattle.std.proofs.{Common.{subst, ◌∙◌, arith}, lemmas.{Bool.{eqb-true, false≢true}, Grind.{flat_map-append}, List.{length-append}}}
use Rattle.std.specs.Prelude.{◌==◌, if◌then◌else◌}
use Rattle.fis_view.specs.Frames.{Stamped, marked}
use Rattle.block_queue.specs.Line.{has_bit}
use Rattle.sata_disk.specs.declared.out.Out.TheVariants as out
use Rattle.sata_disk_laws.specs.Calls.{Call, Plugs, Starts, Asks, Answers, Sends}
use Rattle.ahci_controller.specs.declared.feeding.Fed.{Fed}
use Rattle.ahci_controller.specs.declared.feeding.Fed.TheVariants as fed
use Rattle.ahci_controller.specs.declared.next.Next.TheVariants as next
use Rattle.controller_laws.specs.Events.{Event}
use Rattle.ahci_machine.specs.{Gathers.host_stamp, States.{MachineState, bay_at}, declared.act.Act.Act}
use Rattle.ahci_machine.specs.declared.act.Act.TheVariants as act
use Rattle.machine_laws.specs.{ControllerLaws.{RunsRuled, calls_in}, Controllers.{deed_calls, lost_calls, miss_calls, rest_calls, supply_calls}}
use Rattle.machine_laws.specs.{Deeds.{Deed, Does, Missed, Moved, Supplied, Answered, Pulled}, Disks.{calls_at, calls_by, heard, unless_refused}}
use Rattle.machine_laws.specs.Falling.{sent_by, sent_in}
use Rattle.machine_theorem.specs.{Identity.{asked_of, asks_of, calls_of, heard_as, is_for}, Tags.{ended_with, once_if}}
use Rattle.machine_theorem.proofs.{Asking.{DataAskNone, asked_both, picked}, Cut.total, Ordered.{loses, misses, rests, supplies}}
use Rattle.machine_theorem.proofs.TagCounts.{ended_both}

-- ---- ends

-- how many ends of the tag a deed is to the disk at a port
abbrev pub ends_by : (n tag : ℕ) → (old : MachineState) → (deed : Deed) → (new : MachineState) → Does old deed new → ℕ
ends_by n tag old deed new does = ended_with tag (calls_at old deed n)

pub all_ends : (n tag : ℕ) (deeds : List Deed) (old now : MachineState) (run : RunsRuled old deeds now) → total (ends_by n tag) old deeds now run ≡ ended_with tag (calls_of n old deeds now run)
all_ends n tag [] old now run = refl
all_ends n tag (deed ∷ later) old now run =
    let both = ended_both tag (calls_at old deed n) (calls_of n run.1.0 later now run.1.2) in
    let more = all_ends n tag later run.1.0 now run.1.2 in
    omega (arith, both, more)

pub record IsEnd (n tag : ℕ) (deed : Deed) : Type 0 where
  pub tags : ℕ
  pub is : deed ≡ Moved (act.Speaks n (out.Ends tags))
  pub named : has_bit tags tag ≡ true

none_if : (b : Bool) (calls : List Call) (tag : ℕ) → ended_with tag calls ≡ 0 → ended_with tag (if b then calls else []) ≡ 0
none_if true calls tag e = e
none_if false calls tag e = refl

quiet : {C : Type 0} (b : Bool) (calls : List Call) (tag : ℕ) → ended_with tag calls ≡ 0 → 1 ≤ ended_with tag (if b then calls else []) → C
quiet b calls tag e some = absurd (let none = none_if b calls tag e in omega (arith, some, none))

heard_none : (o : Option Stamped) (tag : ℕ) → ended_with tag (heard o) ≡ 0
heard_none None tag = refl
heard_none (Some f) tag = refl

bit_of : (b : Bool) → 1 ≤ once_if b + 0 → b ≡ true
bit_of true some = refl
bit_of false some = absurd (omega (arith, some))

end_by : (n tag k tags : ℕ) (b : Bool) → (k == n) ≡ b → 1 ≤ ended_with tag (if b then Sends (out.Ends tags) ∷ [] else []) → IsEnd n tag (Moved (act.Speaks k (out.Ends tags)))
end_by n tag k tags true here some = record {
  tags = tags;
  is = ap (λ (j : ℕ). Moved (act.Speaks j (out.Ends tags))) (eqb-true k n here);
  named = bit_of (has_bit tags tag) some;
}
end_by n tag k tags false here some = absurd (omega (arith, some))

move_end : (n tag : ℕ) (a : Act) (down : Option Stamped) → 1 ≤ ended_with tag (calls_by a n down) → IsEnd n tag (Moved a)
move_end n tag (act.Speaks k (out.Ends tags)) down some = end_by n tag k tags (k == n) refl some
move_end n tag (act.Speaks k (out.Own r)) down some = quiet (k == n) (Sends (out.Own r) ∷ []) tag refl some
move_end n tag (act.Speaks k (out.Beside r)) down some = quiet (k == n) (Sends (out.Beside r) ∷ []) tag refl some
move_end n tag (act.Speaks k (out.Of p r)) down some = quiet (k == n) (Sends (out.Of p r) ∷ []) tag refl some
move_end n tag (act.Speaks k (out.Page page)) down some = quiet (k == n) (Sends (out.Page page) ∷ []) tag refl some
move_end n tag (act.Speaks k (out.Data p len)) down some = quiet (k == n) (Sends (out.Data p len) ∷ []) tag refl some
move_end n tag (act.Begins k) down some = quiet (k == n) (Plugs ∷ []) tag refl some
move_end n tag (act.Hears k unheard) down some = quiet (k == n) (heard down) tag (heard_none down tag) some
move_end n tag (act.Starts k place) down some = quiet (k == n) (Starts (Some place) ∷ []) tag refl some
move_end n tag (act.Asks id request) down some = quiet (id.port == n) (Asks request ∷ []) tag refl some
move_end n tag other down some = absurd (omega (arith, some))

refused_none : {A B : Type 0} (told : Result A B) (calls : List Call) (tag : ℕ) → ended_with tag calls ≡ 0 → ended_with tag (unless_refused told calls) ≡ 0
refused_none (Ok x) calls tag e = e
refused_none (Err x) calls tag e = refl

pub end_is : (n tag : ℕ) (old : MachineState) (deed : Deed) → 1 ≤ ended_with tag (calls_at old deed n) → IsEnd n tag deed
end_is n tag old (Moved a) some = move_end n tag a (bay_at old n).down some
end_is n tag old (Answered id answer told) some =
    quiet (id.port == n) (unless_refused told (Answers id.number answer ∷ [])) tag (refused_none told (Answers id.number answer ∷ []) tag refl) some
end_is n tag old (Pulled k told) some = quiet (k == n) (unless_refused told (Plugs ∷ [])) tag (refused_none told (Plugs ∷ []) tag refl) some
end_is n tag old deed some = absurd (omega (arith, some))

-- ---- FISes that ask

-- how many FISes that a deed sends ask the disk for the tag
abbrev pub asks_by : (many : Bool) → (n tag : ℕ) → (old : MachineState) → (deed : Deed) → (new : MachineState) → Does old deed new → ℕ
asks_by many n tag old deed new does = length (asked_of many n tag (sent_in (deed_calls old deed new does)))

pub sent_both : (many : Bool) (n tag : ℕ) (xs ys : List Event) → asked_of many n tag (sent_in (xs ++ ys)) ≡ asked_of many n tag (sent_in xs) ++ asked_of many n tag (sent_in ys)
sent_both many n tag xs ys = ap (asked_of many n tag) (flat_map-append sent_by xs ys) ∙ asked_both many n tag (sent_in xs) (sent_in ys)

pub long_both : (many : Bool) (n tag : ℕ) (xs ys : List Event) → length (asked_of many n tag (sent_in (xs ++ ys))) ≡ length (asked_of many n tag (sent_in xs)) + length (asked_of many n tag (sent_in ys))
long_both many n tag xs ys = ap (λ (l : List (List ℕ)). length l) (sent_both many n tag xs ys) ∙ length-append (asked_of many n tag (sent_in xs)) (asked_of many n tag (sent_in ys))

pub all_asks : (many : Bool) (n tag : ℕ) (deeds : List Deed) (old now : MachineState) (run : RunsRuled old deeds now) → total (asks_by many n tag) old deeds now run ≡ length (asked_of many n tag (sent_in (calls_in old deeds now run)))
all_asks many n tag [] old now run = refl
all_asks many n tag (deed ∷ later) old now run =
    let both = long_both many n tag (deed_calls old deed run.1.0 run.1.1) (calls_in run.1.0 later now run.1.2) in
    let more = all_asks many n tag later run.1.0 now run.1.2 in
    omega (arith, both, more)

pub record IsAsk (many : Bool) (n tag : ℕ) (deed : Deed) : Type 0 where
  pub dev : ℕ
  pub slot : ℕ
  pub fis : List ℕ
  pub is : deed ≡ Moved (act.Turns (next.Order dev slot fis))
  pub own : is_for many n (record { bytes = fis; stamp = host_stamp dev }) ≡ true
  pub asks : asks_of tag (marked fis 0) ≡ true

record Passes (b c : Bool) : Type 0 where
  first : b ≡ true
  second : c ≡ true

passes : (b c : Bool) (bytes : List ℕ) → 1 ≤ length (if b then (if c then bytes ∷ [] else []) else []) → Passes b c
passes true true bytes some = record { first = refl; second = refl }
passes true false bytes some = absurd (omega (arith, some))
passes false c bytes some = absurd (omega (arith, some))

one_passes : (many : Bool) (n tag : ℕ) (f : Stamped) → 1 ≤ length (asked_of many n tag (f ∷ [])) → Passes (is_for many n f) (asks_of tag (heard_as f))
one_passes many n tag f some =
    passes (is_for many n f) (asks_of tag (heard_as f)) (heard_as f) (subst (λ (l : List (List ℕ)). 1 ≤ length l) (picked (asks_of tag) (is_for many n f) f) some)

none_sent : {C : Type 0} (many : Bool) (n tag : ℕ) (events : List Event) → sent_in events ≡ [] → 1 ≤ length (asked_of many n tag (sent_in events)) → C
none_sent many n tag events none some =
    absurd (let is : length (asked_of many n tag (sent_in events)) ≡ 0 = ap (λ (l : List Stamped). length (asked_of many n tag l)) none in omega (arith, some, is))

gathers_none : {C : Type 0} (many : Bool) (n tag : ℕ) (answer : Fed) (f : Stamped) → asks_of tag (heard_as f) ≡ false → 1 ≤ length (asked_of many n tag (f ∷ [])) → C
gathers_none many n tag answer f none some = absurd (false≢true (sym none ∙ (one_passes many n tag f some).second))

pub ask_is : (many : Bool) (n tag : ℕ) (old : MachineState) (deed : Deed) (new : MachineState) (does : Does old deed new) → DataAskNone tag (deed_calls old deed new does)
    → 1 ≤ length (asked_of many n tag (sent_in (deed_calls old deed new does))) → IsAsk many n tag deed
ask_is many n tag old (Moved (act.Turns (next.Order dev slot fis))) new does none some =
    let it = one_passes many n tag (record { bytes = fis; stamp = host_stamp dev }) some in
    record { dev = dev; slot = slot; fis = fis; is = refl; own = it.first; asks = it.second }
ask_is many n tag old (Moved (act.Turns other)) new does none some = absurd (omega (arith, some))
ask_is many n tag old (Moved (act.Gathers dev (fed.Goes message line))) new does none some =
    gathers_none many n tag (fed.Goes message line) (record { bytes = does.does.gathering.bytes; stamp = host_stamp dev }) none.0 some
ask_is many n tag old (Moved (act.Gathers dev other)) new does none some = absurd (omega (arith, some))
ask_is many n tag old (Moved act.Rests) new does none some = none_sent many n tag (rest_calls old does.middle does.does) (rests old does.middle does.does) some
ask_is many n tag old (Moved (act.Loses why)) new does none some = none_sent many n tag (lost_calls old.incoming why) (loses old.incoming why) some
ask_is many n tag old (Moved a) new does none some = absurd (omega (arith, some))
ask_is many n tag old (Supplied w bytes) new does none some =
    none_sent many n tag (supply_calls w bytes old does.answer new does.supplies) (supplies w bytes old does.answer new does.supplies) some
ask_is many n tag old (Missed w) new does none some = none_sent many n tag (miss_calls w old does.answer new does.misses) (misses w old does.answer new does.misses) some
ask_is many n tag old deed new does none some = absurd (omega (arith, some))
