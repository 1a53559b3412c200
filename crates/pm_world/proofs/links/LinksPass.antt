-- For the field `links` of `laws`. In each step, and so in each run, the links of a world go on as links.
use Rattle.std.proofs.{Common.{◌≡◌, ℕ, zero, suc, List, [], ◌∷◌, ◌++◌, Option, Some, None, true, refl, map, arith}, lemmas.{List.map-append}}
use Rattle.std.proofs.lemmas.{List.Elements.filter-append}
use Rattle.std.specs.Prelude.{slice_get, ◌==◌, MatchOption, Ok}
use Rattle.fis_view.specs.Frames.{Stamped}
use Rattle.multiplier.specs.State.{port_at, rising}
use Rattle.hba_driver.specs.declared.mode.Mode.{Mode}
use Rattle.pm_world.specs.{Attached.Attached as Device, Downward.on_down_link, Links.{HasRoom, HaveRoom, KeepsLinks, LinksPass, held_down}}
use Rattle.pm_world.specs.{Links.on_presence, Places.{IsOrderly, Place, Places, new_world_in, opening}, Rules.{Rule, Run}, Traffic.{held, is_removed}}
use Rattle.pm_world.specs.{Traffic.on_link, declared.step.{Config.Config, Step.Step, Answer.Answer}}
use Rattle.pm_world.proofs.{links.{LinkLemmas.{nothing_left, option_fits, still}, LinksDown.{GoesDown, HasRoomDown}}, upward.Law.run_stays}
use Rattle.pm_world.proofs.links.{LinksDown.{HaveRoomDown, down_fits, host_down-append, port_down-append, rule_goes_down}, LinksUp.GoesUp}
use Rattle.pm_world.proofs.links.LinksUp.{HasRoomUp, HaveRoomUp, host_up-append, link_fits, port_up-append, presence_fits, rule_goes_up}
use Rattle.pm_world.proofs.steps.Orderly.{opening_orderly, orderly_after}

-- ---- room on both ways

room_up : (capacity : ℕ) (o : Option Place) → MatchOption o (Prim.Unit {0}) (HasRoom capacity) → MatchOption o (Prim.Unit {0}) (HasRoomUp capacity)
room_up capacity None room = tt
room_up capacity (Some place) room = record {
  up = room.up;
  up_within = room.up_within;
  presence = room.presence;
  presence_within = room.presence_within;
}

room_down : (capacity : ℕ) (o : Option Place) → MatchOption o (Prim.Unit {0}) (HasRoom capacity) → MatchOption o (Prim.Unit {0}) (HasRoomDown capacity)
room_down capacity None room = tt
room_down capacity (Some place) room = record { down = room.down; down_within = room.down_within }

room_both : (capacity : ℕ) (o : Option Place) → MatchOption o (Prim.Unit {0}) (HasRoomUp capacity) → MatchOption o (Prim.Unit {0}) (HasRoomDown capacity)
    → MatchOption o (Prim.Unit {0}) (HasRoom capacity)
room_both capacity None up down = tt
room_both capacity (Some place) up down = record {
  up = up.up;
  up_within = up.up_within;
  down = down.down;
  down_within = down.down_within;
  presence = up.presence;
  presence_within = up.presence_within;
}

module _ (capacity : ℕ) (now : Places) where
  all_up : HaveRoom capacity now → HaveRoomUp capacity now
  all_up room = record {
    devices = λ n. room_up capacity (slice_get now.devices n) (room.devices n);
    upward = room.upward;
    upward_within = room.upward_within;
  }

  all_down : HaveRoom capacity now → HaveRoomDown capacity now
  all_down room = record {
    devices = λ n. room_down capacity (slice_get now.devices n) (room.devices n);
    downward = room.downward;
    downward_within = room.downward_within;
  }

  all_both : HaveRoomUp capacity now → HaveRoomDown capacity now → HaveRoom capacity now
  all_both up down = record {
    devices = λ n. room_both capacity (slice_get now.devices n) (up.devices n) (down.devices n);
    upward = up.upward;
    upward_within = up.upward_within;
    downward = down.downward;
    downward_within = down.downward_within;
  }

-- ---- one step

abbrev Goes : ℕ → Places → List Answer → Places → Type 0
Goes capacity old answers new = LinksPass capacity old answers new × HaveRoom capacity new

both_go : (capacity : ℕ) (old : Places) (a : Answer) (new : Places) → GoesUp capacity old a new → GoesDown capacity old a new → Goes capacity old (a ∷ []) new
both_go capacity old a new up down =
    (record { ports = up.ports; host = up.host; rises = up.rises; ports_down = down.ports; host_down = down.host }, all_both capacity new up.room down.room)

rule_goes : (capacity : ℕ) (old : Places) (s : Step) (a : Answer) (new : Places) → HaveRoom capacity old → IsOrderly old → Rule old s (Ok a) new → Goes capacity old (a ∷ []) new
rule_goes capacity old s a new room orderly rule =
    both_go capacity old a new (rule_goes_up capacity old a new (all_up capacity old room) orderly s rule) (rule_goes_down capacity old a new (all_down capacity old room) orderly s rule)

-- ---- a whole run

-- nothing went over the links before the first step
none_passed : (capacity : ℕ) (now : Places) → HaveRoom capacity now → LinksPass capacity now [] now
none_passed capacity now room = record {
  ports = λ n. record {
    passed = [];
    left = [];
    risen = [];
    lost = [];
    recorded = [];
    link = still capacity (on_link (slice_get now.devices n)) (link_fits capacity (slice_get now.devices n) ((all_up capacity now room).devices n));
    passed_is = refl;
    hold = still 1 (held n now.multiplier) (option_fits (port_at now.multiplier n).up);
    goes_on = nothing_left now.multiplier n;
    presence =
        still capacity (on_presence (slice_get now.devices n)) (presence_fits capacity (slice_get now.devices n) ((all_up capacity now room).devices n));
    recorded_is = refl;
  };
  host = record { rose = []; took = []; link = still capacity now.upward.frames room.upward_within; rose_is = refl; took_is = refl };
  rises = λ n other. refl;
  ports_down = λ n. record {
    fell = [];
    left = [];
    sunk = [];
    lost = [];
    took = [];
    hold = still 1 (held_down n now.multiplier) (option_fits (port_at now.multiplier n).down);
    goes_on = nothing_left now.multiplier n;
    link =
        still capacity (on_down_link (slice_get now.devices n)) (down_fits capacity (slice_get now.devices n) ((all_down capacity now room).devices n));
    fell_is = refl;
    sunk_is = refl;
    took_is = refl;
  };
  host_down = record { pushed = []; passed = []; link = still capacity now.downward.frames room.downward_within; pushed_is = refl; passed_is = refl };
}

-- what passed in some steps, and then in more
passes-append : (capacity : ℕ) (a b c : Places) (first second : List Answer) → ((n d : ℕ) → is_removed n d b ≡ true → is_removed n d c ≡ true) → LinksPass capacity a first b → LinksPass capacity b second c
    → LinksPass capacity a (first ++ second) c
passes-append capacity a b c first second stays p q = record {
  ports = λ n.
      port_up-append capacity n (slice_get a.devices n) (slice_get b.devices n) (slice_get c.devices n) (held n a.multiplier) b.multiplier c.multiplier first second
      (p.ports n) (q.ports n) (stays n);
  host = host_up-append capacity a.upward.frames b.upward.frames c.upward.frames first second p.host q.host;
  rises = λ n other.
      rw (
        filter-append (λ (f : Stamped). f.stamp.port == n) p.host.rose q.host.rose,
        map-append (rising n) (p.ports n).risen (q.ports n).risen,
        p.rises n other,
        q.rises n other,
      )
      refl;
  ports_down = λ n.
      port_down-append capacity n (slice_get a.devices n) (slice_get b.devices n) (slice_get c.devices n) (held_down n a.multiplier) b.multiplier c.multiplier first second
      (p.ports_down n) (q.ports_down n) (stays n);
  host_down = host_down-append capacity a.downward.frames b.downward.frames c.downward.frames first second p.host_down q.host_down;
}

run_passes : (capacity : ℕ) (old : Places) (steps : List Step) (answers : List Answer) (new : Places) → IsOrderly old → Run old steps answers new → HaveRoom capacity old → Goes capacity old answers new
run_passes capacity old [] [] new orderly run room = rw run (none_passed capacity old room, room)
run_passes capacity old (s ∷ steps) (a ∷ answers) new orderly run room =
    let one = rule_goes capacity old s a run.0 room orderly run.1 in
    let orderly_now : IsOrderly run.0 = orderly_after old s a run.0 orderly run.1 in
    let rest = run_passes capacity run.0 steps answers new orderly_now run.2 one.1 in
    (passes-append capacity old run.0 new (a ∷ []) answers (run_stays run.0 steps answers new orderly_now run.2) one.0 rest.0, rest.1)
run_passes capacity old [] (a ∷ answers) new orderly run room = absurd run
run_passes capacity old (s ∷ steps) [] new orderly run room = absurd run

opening_room : (capacity : ℕ) (units : List Device) (n : ℕ) → MatchOption (slice_get (map (opening capacity) units) n) (Prim.Unit {0}) (HasRoom capacity)
opening_room capacity [] n = tt
opening_room capacity (u ∷ units) zero = record {
  up = refl;
  up_within = omega arith;
  down = refl;
  down_within = omega arith;
  presence = refl;
  presence_within = omega arith;
}
opening_room capacity (u ∷ units) (suc n) = opening_room capacity units n

-- the links of a new world have room for what its configuration says
new_have_room : (mode : Mode) (config : Config) (units : List Device) → HaveRoom config.capacity (new_world_in mode config units)
new_have_room mode config units = record {
  devices = opening_room config.capacity units;
  upward = refl;
  upward_within = omega arith;
  downward = refl;
  downward_within = omega arith;
}

pub keeps_links : (old : Places) (steps : List Step) (answers : List Answer) (new : Places) → IsOrderly old → Run old steps answers new → KeepsLinks old answers new
keeps_links old steps answers new orderly run = record {
  goes_on = λ capacity room. run_passes capacity old steps answers new orderly run room;
  reached = λ mode config units right before told made.
      let so_far =
      run_passes config.capacity (new_world_in mode config units) before told old (opening_orderly mode config units right) made (new_have_room mode config units) in
      (run_passes config.capacity old steps answers new orderly run so_far.1).0;
}
