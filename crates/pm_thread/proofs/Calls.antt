-- More calls after others.
use Rattle.std.proofs.Common.{◌≡◌, ◌==◌, ◌≤◌, ℕ, zero, suc, Bool, true, false, List, [], ◌∷◌, ◌++◌, length, map, None, refl, sym, ap, ◌∙◌, subst}
use Rattle.std.proofs.{Common.arith, lemmas.{Grind.{flat_map-append}, List.{map-append, Elements.{filter-append}}}}
use Rattle.std.specs.{Prelude.{if◌then◌else◌, replicate, slice_index_or}, Option.option_to_list}
use Rattle.fis_view.specs.Frames.{Stamped}
use Rattle.pm_ports.specs.Port as port
use Rattle.multiplier.specs.{Orders.InDeviceOrder, State.{PmState, IsSound as IsSoundPm, opening, port_at}, Passing.{Call, DoesAll, Past, all_past}}
use Rattle.multiplier.specs.{Passing.{past_after, to_port}, Stamping.{taken_by, taken_of, IsStamped}}
use Rattle.multiplier.proofs.Door.{begins_stamped, goes_up_stamped, opens_sound}
use Rattle.pm_thread.specs.Runs.{PmView, IsSound, frames_at, presence_at, commands_at, told_by, told_of, heard_by, heard_of, none_past}

pub does_more : (past : Past) (old mid new : PmState) (calls more : List Call) → DoesAll past old calls mid
    → DoesAll (all_past past calls) mid more new → DoesAll past old (calls ++ more) new
does_more past old mid new [] more all rest = subst (λ (pm : PmState). DoesAll past pm more new) all rest
does_more past old mid new (call ∷ calls) more all rest =
    (all.0, all.1, all.2, does_more (past_after past call) all.0 mid new calls more all.3 rest)

pub past_more : (past : Past) (calls more : List Call) → all_past past (calls ++ more) ≡ all_past (all_past past calls) more
past_more past [] more = refl
past_more past (call ∷ calls) more = past_more (past_after past call) calls more

to_port-append : (n : ℕ) (front more : List (ℕ × Stamped)) → to_port n (front ++ more) ≡ to_port n front ++ to_port n more
to_port-append n front more = ap (map (λ (s : ℕ × Stamped). s.1)) (filter-append (λ (s : ℕ × Stamped). s.0 == n) front more)
    ∙ map-append (λ (s : ℕ × Stamped). s.1) _ _

-- one more FIS went down
pub down_more : (n m : ℕ) (front : List (ℕ × Stamped)) (frame : Stamped)
    → to_port n (front ++ (m, frame) ∷ []) ≡ to_port n front ++ (if m == n then frame ∷ [] else [])
down_more n m front frame = to_port-append n front ((m, frame) ∷ []) ∙ ap (λ l. to_port n front ++ l) (by (m == n))
  where
    by : (b : Bool) → map (λ (s : ℕ × Stamped). s.1) (if b then (m, frame) ∷ [] else []) ≡ (if b then frame ∷ [] else [])
    by true = refl
    by false = refl

-- ---- a sound worker goes on

-- With these calls more, by which the lists grew by what they took and gave, it is still a run.
pub sound_more : (old new : PmView) (was : IsSound old) (more : List Call)
    → DoesAll (all_past none_past was.run.calls) old.pm more new.pm
    → length new.ports ≡ length old.ports
    → new.pm.registers.ports ≡ old.pm.registers.ports
    → ((n : ℕ) → InDeviceOrder (frames_at new.ports n))
    → ((n : ℕ) → frames_at new.ports n ≡ frames_at old.ports n ++ taken_of n more)
    → ((n : ℕ) → presence_at new.ports n ≡ presence_at old.ports n ++ told_of n more)
    → new.commands.taken ≡ (heard_of was.run.calls ++ heard_of more) ++ option_to_list new.hand
    → new.host.sent ≡ (all_past (all_past none_past was.run.calls) more).up
    → ((n : ℕ) → commands_at new.ports n ≡ to_port n (all_past (all_past none_past was.run.calls) more).down)
    → IsSound new
sound_more old new was more does long count order frames presence commands up down =
    let calls : List Call = was.run.calls in
    record {
      some = let s = was.some in omega (arith, long, s);
      few = let f = was.few in omega (arith, long, f);
      count = count ∙ was.count ∙ sym long;
      order = order;
      run = record {
        calls = calls ++ more;
        does = subst (λ (k : ℕ). DoesAll none_past (opening k) (calls ++ more) new.pm) (sym long)
            (does_more none_past (opening (length old.ports)) old.pm new.pm calls more was.run.does does);
        frames = λ n. frames n ∙ ap (λ l. l ++ taken_of n more) (was.run.frames n) ∙ sym (flat_map-append (taken_by n) calls more);
        presence = λ n. presence n ∙ ap (λ l. l ++ told_of n more) (was.run.presence n) ∙ sym (flat_map-append (told_by n) calls more);
        commands = commands ∙ ap (λ l. l ++ option_to_list new.hand) (sym (flat_map-append heard_by calls more));
        up = up ∙ ap (λ (p : Past). p.up) (sym (past_more none_past calls more));
        down = λ n. down n ∙ ap (λ (p : Past). to_port n p.down) (sym (past_more none_past calls more));
      };
    }

-- ---- what goes up is in order

empty_at : (count n : ℕ) → slice_index_or (replicate count port.empty_port) n port.empty_port ≡ port.empty_port
empty_at zero n = refl
empty_at (suc count) zero = refl
empty_at (suc count) (suc n) = empty_at count n

pub none_held : (k n : ℕ) → (port_at (opening k) n).up ≡ None
none_held k n = ap (λ (p : port.PortState). p.up) (empty_at 15 n)

pub stamped_run : (k : ℕ) (calls : List Call) (pm : PmState) → k ≤ 15 → DoesAll none_past (opening k) calls pm
    → ((n : ℕ) → InDeviceOrder (taken_of n calls))
    → IsStamped (λ n. taken_of n calls) (all_past none_past calls) pm
stamped_run k calls pm le does order =
    let sound : IsSoundPm (opening k) = opens_sound k le in
    let none : (n : ℕ) → option_to_list (port_at (opening k) n).up ≡ [] = λ n. ap option_to_list (none_held k n) in
    let begins : IsStamped (λ n. []) none_past (opening k) =
    subst (λ (t : ℕ → List Stamped). IsStamped t none_past (opening k)) (λ i n. none n i) (begins_stamped none_past (opening k) sound refl) in
    goes_up_stamped (λ n. []) none_past (opening k) calls pm sound does begins (λ n lt. order n)
