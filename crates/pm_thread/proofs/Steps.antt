-- What one step leaves of a sound worker.
use Rattle.std.proofs.Common.{◌≡◌, ◌==◌, ◌≤◌, ◌<◌, ℕ, Bool, true, false, List, [], ◌∷◌, ◌++◌, length, Option, Some, None, Result, Ok, Err, refl, sym}
use Rattle.std.proofs.{Common.{ap, ◌∙◌, subst, append-nil, arith}, lemmas.{List.{length-set}, Grind.{flat_map-append}}}
use Rattle.std.specs.{Prelude.{All, if◌then◌else◌, is_some, slice_index_or, slice_set}, Option.option_to_list}
use Rattle.ruled_links.specs.Links.{Seat}
use Rattle.fis_view.specs.Frames.{Stamped}
use Rattle.link_items.specs.declared.items.Presence.TheVariants as presence
use Rattle.pm_ports.specs.declared.port.{GoneError.GoneError, PortError.PortError, Offered.Offered}
use Rattle.multiplier.specs.{Orders.{InDeviceOrder, InStampedOrder}, State.{PmState, is_notice, opening, port_at}, Rules.{CameRule, CanPutBackDown}}
use Rattle.multiplier.specs.Rules.{CanPutBackUp, FromDeviceRule, FromHostRule, GoneRule, KeepsPorts, NextDownRule, NextUpRule, UndoesDown, UndoesUp}
use Rattle.multiplier.specs.Passing.{Call, FromHost, FromDevice, Came, Gone, NextUp, PutBackUp, NextDown, PutBackDown, DoesAll, EndsWith, Past}
use Rattle.multiplier.specs.{Passing.{all_past, lost_from, made_by, to_port}, Stamping.{taken_by, taken_of}, declared.multiplier.Passed.Passed}
use Rattle.multiplier.proofs.Door.{last_gone}
use Rattle.pm_thread.specs.Runs.{PmView, PortSeats, IsSound, IsUnused, frames_at, presence_at, commands_at, heard_of, none_past}
use Rattle.pm_thread.proofs.{Seats.{at_kept, at_more, each_at, none_at}, Calls.{down_more, does_more, past_more, sound_more, stamped_run}}

-- the calls that were
abbrev pub past_of : (w : PmView) → IsSound w → Past
past_of w was = all_past none_past was.run.calls

-- ---- a new worker

pub begins : (w : PmView) → 1 ≤ length w.ports → length w.ports ≤ 15 → w.pm ≡ opening (length w.ports) → All IsUnused w.ports → w.host.sent ≡ []
    → w.commands.taken ≡ []
    → w.hand ≡ None → InDeviceOrder [] → IsSound w
begins w some few new unused up commands hand starts =
    let none : (n : ℕ) → frames_at w.ports n ≡ [] = none_at (λ p. p.frames.taken) IsUnused (λ p u. u.frames) w.ports unused in
    record {
      some = some;
      few = few;
      count = ap (λ (pm : PmState). pm.registers.ports) new;
      order = λ n. subst InDeviceOrder (sym (none n)) starts;
      run = record {
        calls = [];
        does = new;
        frames = none;
        presence = none_at (λ p. p.presence.taken) IsUnused (λ p u. u.presence) w.ports unused;
        commands = commands ∙ ap option_to_list (sym hand);
        up = up;
        down = none_at (λ p. p.commands.sent) IsUnused (λ p u. u.commands) w.ports unused;
      };
    }

-- ---- at one port

came_count : (old : PmState) (n conn : ℕ) (result : Result (Unit {0}) PortError) (new : PmState) → CameRule old n conn result new
    → new.registers.ports ≡ old.registers.ports
came_count old n conn (Ok done) new rule = ap (λ (m : PmState). m.registers.ports) rule.1
came_count old n conn (Err e) new rule = ap (λ (m : PmState). m.registers.ports) rule.1

gone_count : (old : PmState) (n conn : ℕ) (result : Result (Unit {0}) GoneError) (new : PmState) → GoneRule old n conn result new
    → new.registers.ports ≡ old.registers.ports
gone_count old n conn (Ok done) new rule = ap (λ (m : PmState). m.registers.ports) rule.1
gone_count old n conn (Err e) new rule = ap (λ (m : PmState). m.registers.ports) rule.1

-- a frame is given back only if the port holds one
module _ (old : PmState) (n : ℕ) (frame : Stamped) (new : PmState) (empty : (port_at old n).up ≡ None) where
  pub not_back : (back : Stamped) → FromDeviceRule old n frame (Err back) new → ⊥
  not_back back rule = absurd (let wrong : true ≡ false = sym rule.1 ∙ ap is_some empty in cc)

-- the worker with another multiplier, and other seats at port i
abbrev pub with_port_seats : PmView → ℕ → PortSeats → PmState → PmView
with_port_seats old i q pm = record { pm = pm; ports = slice_set old.ports i q; host = old.host; commands = old.commands; hand = old.hand }

module _ (old : PmView) (was : IsSound old) (i : ℕ) (q d : PortSeats) (new : PmState) (lt : i < length old.ports) where
  there : i < old.pm.registers.ports
  there = let c = was.count in omega (arith, c, lt)

  -- the hand and the FISes of the host stay
  commands_stay : old.commands.taken ≡ (heard_of was.run.calls ++ []) ++ option_to_list old.hand
  commands_stay = was.run.commands ∙ ap (λ l. l ++ option_to_list old.hand) (sym (append-nil (heard_of was.run.calls)))

  module _ (frames : q.frames.taken ≡ (slice_index_or old.ports i d).frames.taken)
      (sent : q.commands.sent ≡ (slice_index_or old.ports i d).commands.sent) where
    pub tells_came : (conn : ℕ) (result : Result (Unit {0}) PortError) → CameRule old.pm i conn result new
        → q.presence.taken ≡ (slice_index_or old.ports i d).presence.taken ++ presence.Came conn ∷ [] → IsSound (with_port_seats old i q new)
    tells_came conn result rule told =
        sound_more old (with_port_seats old i q new) was (Came i conn result ∷ []) (new, tt, (there, rule), refl) (length-set old.ports i q)
        (came_count old.pm i conn result new rule)
        (λ n. subst InDeviceOrder (sym (at_kept (λ s. s.frames.taken) old.ports i q d frames n)) (was.order n))
        (λ n. at_kept (λ s. s.frames.taken) old.ports i q d frames n ∙ sym (append-nil (frames_at old.ports n)))
        (λ n. at_more (λ s. s.presence.taken) old.ports i q d (presence.Came conn ∷ []) lt told n
        ∙ ap (λ l. presence_at old.ports n ++ l) (sym (append-nil (if i == n then presence.Came conn ∷ [] else []))))
        commands_stay was.run.up (λ n. at_kept (λ s. s.commands.sent) old.ports i q d sent n ∙ was.run.down n)

    pub tells_gone : (conn : ℕ) (result : Result (Unit {0}) GoneError) → GoneRule old.pm i conn result new
        → q.presence.taken ≡ (slice_index_or old.ports i d).presence.taken ++ presence.Gone conn ∷ [] → IsSound (with_port_seats old i q new)
    tells_gone conn result rule told =
        sound_more old (with_port_seats old i q new) was
        (Gone i conn result (lost_from (port_at old.pm i).up (port_at new i).up) (lost_from (port_at old.pm i).down (port_at new i).down) ∷ [])
        (new, tt, (there, rule, refl, refl), refl) (length-set old.ports i q) (gone_count old.pm i conn result new rule)
        (λ n. subst InDeviceOrder (sym (at_kept (λ s. s.frames.taken) old.ports i q d frames n)) (was.order n))
        (λ n. at_kept (λ s. s.frames.taken) old.ports i q d frames n ∙ sym (append-nil (frames_at old.ports n)))
        (λ n. at_more (λ s. s.presence.taken) old.ports i q d (presence.Gone conn ∷ []) lt told n
        ∙ ap (λ l. presence_at old.ports n ++ l) (sym (append-nil (if i == n then presence.Gone conn ∷ [] else []))))
        commands_stay was.run.up (λ n. at_kept (λ s. s.commands.sent) old.ports i q d sent n ∙ was.run.down n)

  pub receives : (frame : Stamped) (result : Result Offered Stamped) → FromDeviceRule old.pm i frame result new → (port_at old.pm i).up ≡ None
      → KeepsPorts old.pm new
      → InDeviceOrder q.frames.taken → q.frames.taken ≡ (slice_index_or old.ports i d).frames.taken ++ frame ∷ []
      → q.presence.taken ≡ (slice_index_or old.ports i d).presence.taken → q.commands.sent ≡ (slice_index_or old.ports i d).commands.sent
      → IsSound (with_port_seats old i q new)
  receives frame (Err back) rule empty kept order frames told sent = absurd (not_back old.pm i frame new empty back rule)
  receives frame (Ok offered) rule empty kept order frames told sent =
      sound_more old (with_port_seats old i q new) was (FromDevice i frame (Ok offered) ∷ []) (new, tt, (there, rule), refl)
      (length-set old.ports i q) kept.count
      (each_at (λ s. s.frames.taken) InDeviceOrder old.ports i q order was.order)
      (λ n. at_more (λ s. s.frames.taken) old.ports i q d (frame ∷ []) lt frames n
      ∙ ap (λ l. frames_at old.ports n ++ l) (sym (append-nil (if i == n then frame ∷ [] else []))))
      (λ n. at_kept (λ s. s.presence.taken) old.ports i q d told n ∙ sym (append-nil (presence_at old.ports n)))
      commands_stay was.run.up (λ n. at_kept (λ s. s.commands.sent) old.ports i q d sent n ∙ was.run.down n)

  module _ (frames : q.frames.taken ≡ (slice_index_or old.ports i d).frames.taken)
      (told : q.presence.taken ≡ (slice_index_or old.ports i d).presence.taken) where
    order_stays : (n : ℕ) → InDeviceOrder (frames_at (slice_set old.ports i q) n)
    order_stays n = subst InDeviceOrder (sym (at_kept (λ s. s.frames.taken) old.ports i q d frames n)) (was.order n)

    frames_stay : (n : ℕ) → frames_at (slice_set old.ports i q) n ≡ frames_at old.ports n ++ []
    frames_stay n = at_kept (λ s. s.frames.taken) old.ports i q d frames n ∙ sym (append-nil (frames_at old.ports n))

    told_stays : (n : ℕ) → presence_at (slice_set old.ports i q) n ≡ presence_at old.ports n ++ []
    told_stays n = at_kept (λ s. s.presence.taken) old.ports i q d told n ∙ sym (append-nil (presence_at old.ports n))

    pub sends_down : (frame : Stamped) → NextDownRule old.pm i (Some frame) new → KeepsPorts old.pm new
        → q.commands.sent ≡ (slice_index_or old.ports i d).commands.sent ++ frame ∷ []
        → IsSound (with_port_seats old i q new)
    sends_down frame rule kept sent =
        sound_more old (with_port_seats old i q new) was (NextDown i (Some frame) ∷ []) (new, tt, (there, rule), refl)
        (length-set old.ports i q) kept.count
        order_stays frames_stay told_stays commands_stay was.run.up
        (λ n. at_more (λ s. s.commands.sent) old.ports i q d (frame ∷ []) lt sent n
        ∙ ap (λ l. l ++ (if i == n then frame ∷ [] else [])) (was.run.down n)
        ∙ sym (down_more n i (past_of old was).down frame))

    -- what the link did not take goes back
    pub keeps_down : (frame : Stamped) (mid : PmState) → NextDownRule old.pm i (Some frame) mid → CanPutBackDown mid i frame
        → UndoesDown mid i frame new → KeepsPorts old.pm mid → KeepsPorts mid new
        → q.commands.sent ≡ (slice_index_or old.ports i d).commands.sent → IsSound (with_port_seats old i q new)
    keeps_down frame mid rule can undoes kept back sent =
        let down : List (ℕ × Stamped) = (past_of old was).down in
        sound_more old (with_port_seats old i q new) was (NextDown i (Some frame) ∷ PutBackDown i frame ∷ [])
        (mid, tt, (there, rule), (new, (down, refl), (can, undoes), refl)) (length-set old.ports i q) (back.count ∙ kept.count)
        order_stays frames_stay told_stays commands_stay was.run.up
        (λ n. at_kept (λ s. s.commands.sent) old.ports i q d sent n ∙ was.run.down n
        ∙ ap (to_port n) (sym (last_gone (down ++ (i, frame) ∷ []) down (i, frame) refl)))

-- nothing went over a link of port i
pub rests : (old : PmView) → IsSound old → (i : ℕ) (q d : PortSeats) → q.frames.taken ≡ (slice_index_or old.ports i d).frames.taken
    → q.presence.taken ≡ (slice_index_or old.ports i d).presence.taken → q.commands.sent ≡ (slice_index_or old.ports i d).commands.sent
    → IsSound (with_port_seats old i q old.pm)
rests old was i q d frames told sent =
    let count : length (slice_set old.ports i q) ≡ length old.ports = length-set old.ports i q in
    record {
      some = subst (λ k. 1 ≤ k) (sym count) was.some;
      few = subst (λ k. k ≤ 15) (sym count) was.few;
      count = was.count ∙ sym count;
      order = λ n. subst InDeviceOrder (sym (at_kept (λ s. s.frames.taken) old.ports i q d frames n)) (was.order n);
      run = record {
        calls = was.run.calls;
        does = subst (λ k. DoesAll none_past (opening k) was.run.calls old.pm) (sym count) was.run.does;
        frames = λ n. at_kept (λ s. s.frames.taken) old.ports i q d frames n ∙ was.run.frames n;
        presence = λ n. at_kept (λ s. s.presence.taken) old.ports i q d told n ∙ was.run.presence n;
        commands = was.run.commands;
        up = was.run.up;
        down = λ n. at_kept (λ s. s.commands.sent) old.ports i q d sent n ∙ was.run.down n;
      };
    }

-- ---- at the host

-- the worker with another multiplier, and another seat at the host
abbrev pub with_host : PmView → Seat Stamped → PmState → PmView
with_host old host pm = record { pm = pm; ports = old.ports; host = host; commands = old.commands; hand = old.hand }

-- a notification is what was made last
made_last : (b : Bool) (made : List Stamped) (frame : Stamped) → b ≡ true → EndsWith (if b then made ++ frame ∷ [] else made) frame
made_last true made frame is = (made, refl)
made_last false made frame is = absurd cc

module _ (old : PmView) (was : IsSound old) (new : PmState) where
  -- a FIS of the host is in the hand
  pub fetches : (w : PmView) → w.pm ≡ old.pm → w.ports ≡ old.ports → w.host ≡ old.host → old.hand ≡ None → (frame : Stamped) → w.hand ≡ Some frame
      → w.commands.taken ≡ old.commands.taken ++ frame ∷ [] → IsSound w
  fetches w pm ports host empty frame hand taken = record {
    some = subst (λ (l : List PortSeats). 1 ≤ length l) (sym ports) was.some;
    few = subst (λ (l : List PortSeats). length l ≤ 15) (sym ports) was.few;
    count = ap (λ (m : PmState). m.registers.ports) pm ∙ was.count ∙ ap length (sym ports);
    order = λ n. subst (λ (l : List PortSeats). InDeviceOrder (frames_at l n)) (sym ports) (was.order n);
    run = record {
      calls = was.run.calls;
      does = subst (λ (l : List PortSeats). DoesAll none_past (opening (length l)) was.run.calls w.pm) (sym ports)
          (subst (λ (m : PmState). DoesAll none_past (opening (length old.ports)) was.run.calls m) (sym pm) was.run.does);
      frames = λ n. ap (λ (l : List PortSeats). frames_at l n) ports ∙ was.run.frames n;
      presence = λ n. ap (λ (l : List PortSeats). presence_at l n) ports ∙ was.run.presence n;
      commands = taken ∙ ap (λ l. l ++ frame ∷ []) (was.run.commands ∙ ap (λ h. heard_of was.run.calls ++ option_to_list h) empty
          ∙ append-nil (heard_of was.run.calls))
          ∙ ap (λ h. heard_of was.run.calls ++ option_to_list h) (sym hand);
      up = ap (λ s. s.sent) host ∙ was.run.up;
      down = λ n. ap (λ (l : List PortSeats). commands_at l n) ports ∙ was.run.down n;
    };
  }

  frames_same : (n : ℕ) → frames_at old.ports n ≡ frames_at old.ports n ++ []
  frames_same n = sym (append-nil (frames_at old.ports n))

  told_same : (n : ℕ) → presence_at old.ports n ≡ presence_at old.ports n ++ []
  told_same n = sym (append-nil (presence_at old.ports n))

  -- the multiplier takes the FIS in the hand
  pub hears : (frame : Stamped) (passed : Passed) (hand : Option Stamped) → FromHostRule old.pm frame (Ok passed) new → KeepsPorts old.pm new
      → old.hand ≡ Some frame → hand ≡ None
      → IsSound (record { pm = new; ports = old.ports; host = old.host; commands = old.commands; hand = hand })
  hears frame passed hand rule kept had none =
      let w : PmView = record { pm = new; ports = old.ports; host = old.host; commands = old.commands; hand = hand } in
      sound_more old w was (FromHost frame (Ok passed) (made_by (Ok passed) new) ∷ [])
      (new, tt, (rule, refl), refl) refl kept.count was.order frames_same told_same
      (was.run.commands ∙ ap (λ h. heard_of was.run.calls ++ option_to_list h) had ∙ sym (append-nil (heard_of was.run.calls ++ frame ∷ []))
      ∙ ap (λ h. (heard_of was.run.calls ++ frame ∷ []) ++ option_to_list h) (sym none))
      was.run.up was.run.down

  module _ (frame : Stamped) (rule : NextUpRule old.pm (Ok (Some frame)) new) where
    gives : DoesAll (past_of old was) old.pm (NextUp (Ok (Some frame)) ∷ []) new
    gives = (new, tt, rule, refl)

    -- it may be sent
    pub may_send : InStampedOrder (old.host.sent ++ frame ∷ [])
    may_send =
        let calls : List Call = was.run.calls in
        let all : List Call = calls ++ NextUp (Ok (Some frame)) ∷ [] in
        let k : ℕ = length old.ports in
        let does : DoesAll none_past (opening k) all new =
        does_more none_past (opening k) old.pm new calls (NextUp (Ok (Some frame)) ∷ []) was.run.does gives in
        let took : (n : ℕ) → taken_of n all ≡ frames_at old.ports n = λ n. taken_more n ∙ sym (was.run.frames n) in
        let stamped = stamped_run k all new was.few does (λ n. subst InDeviceOrder (sym (took n)) (was.order n)) in
        subst InStampedOrder (ap (λ (p : Past). p.up) (past_more none_past calls (NextUp (Ok (Some frame)) ∷ []))
        ∙ ap (λ l. l ++ frame ∷ []) (sym was.run.up)) stamped.order
      where
        taken_more : (n : ℕ) → taken_of n (was.run.calls ++ NextUp (Ok (Some frame)) ∷ []) ≡ taken_of n was.run.calls
        taken_more n = flat_map-append (taken_by n) was.run.calls (NextUp (Ok (Some frame)) ∷ []) ∙ append-nil (taken_of n was.run.calls)

    commands_rest : old.commands.taken ≡ (heard_of was.run.calls ++ []) ++ option_to_list old.hand
    commands_rest = was.run.commands ∙ ap (λ l. l ++ option_to_list old.hand) (sym (append-nil (heard_of was.run.calls)))

    pub sends_up : (host : Seat Stamped) → KeepsPorts old.pm new → host.sent ≡ old.host.sent ++ frame ∷ [] → IsSound (with_host old host new)
    sends_up host kept sent =
        sound_more old (with_host old host new) was (NextUp
        (Ok (Some frame)) ∷ []) gives refl kept.count was.order frames_same told_same commands_rest
        (sent ∙ ap (λ l. l ++ frame ∷ []) was.run.up) was.run.down

    -- what the link did not take goes back
    pub keeps_up : (host : Seat Stamped) (last : PmState) → CanPutBackUp new frame → UndoesUp new frame last → KeepsPorts old.pm new
        → KeepsPorts new last → host.sent ≡ old.host.sent
        → IsSound (with_host old host last)
    keeps_up host last can undoes kept back sent =
        let past : Past = past_of old was in
        sound_more old (with_host old host last) was (NextUp (Ok (Some frame)) ∷ PutBackUp frame ∷ [])
        (new, tt, rule, (last, ((past.up, refl), made_last (is_notice frame) past.made frame), (can, undoes), refl)) refl
        (back.count ∙ kept.count) was.order frames_same told_same commands_rest
        (sent ∙ was.run.up ∙ sym (last_gone (past.up ++ frame ∷ []) past.up frame refl)) was.run.down
