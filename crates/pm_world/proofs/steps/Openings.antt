-- For `World::with_mode`. In a new world nothing is on its way, up or down.
use Rattle.std.proofs.Common.{◌≡◌, ℕ, zero, suc, List, [], ◌∷◌, ◌++◌, ap, refl, map, replicate, ◌∙◌}
use Rattle.std.specs.Prelude.{slice_get, slice_index_or, option_to_list}
use Rattle.fis_view.specs.Frames.{Stamped}
use Rattle.pm_ports.specs.Port.{PortState, empty_port}
use Rattle.multiplier.specs.State.{port_at}
use Rattle.hba_driver.specs.declared.mode.Mode.{Mode}
use Rattle.pm_world.specs.{Attached.Attached, declared.step.Config.Config, Downward.{falling_to, on_down_link}}
use Rattle.pm_world.specs.{Places.{opening, new_world, new_world_in}, Traffic.{all_marked, of_conn, on_link, waiting, transit}}

on_opening : (capacity : ℕ) (units : List Attached) (n : ℕ) → on_link (slice_get (map (opening capacity) units) n) ≡ []
on_opening capacity [] n = refl
on_opening capacity (u ∷ units) zero = refl
on_opening capacity (u ∷ units) (suc n) = on_opening capacity units n

on_opening_down : (capacity : ℕ) (units : List Attached) (n : ℕ) → on_down_link (slice_get (map (opening capacity) units) n) ≡ []
on_opening_down capacity [] n = refl
on_opening_down capacity (u ∷ units) zero = refl
on_opening_down capacity (u ∷ units) (suc n) = on_opening_down capacity units n

-- each port is empty, and so is what stands in for a port that is not there
each_empty : (count n : ℕ) → slice_index_or (replicate count empty_port) n empty_port ≡ empty_port
each_empty zero n = refl
each_empty (suc count) zero = refl
each_empty (suc count) (suc n) = each_empty count n

pub port_opening : (config : Config) (units : List Attached) (n : ℕ) → port_at (new_world config units).multiplier n ≡ empty_port
port_opening config units n = each_empty 15 n

pub waits_opening : (config : Config) (units : List Attached) (n : ℕ) → waiting n (new_world config units) ≡ []
waits_opening config units n =
    ap (λ (p : PortState). option_to_list p.up ++ on_link (slice_get (new_world config units).devices n)) (port_opening config units n)
    ∙ on_opening config.capacity units n

pub nothing_stands : (mode : Mode) (config : Config) (units : List Attached) (n c : ℕ) → transit n c (new_world_in mode config units) ≡ []
nothing_stands mode config units n c = ap (λ (frames : List Stamped). all_marked n (of_conn c frames)) (waits_opening config units n)

pub nothing_falls : (mode : Mode) (config : Config) (units : List Attached) (n : ℕ) → falling_to n (new_world_in mode config units) ≡ []
nothing_falls mode config units n =
    ap (λ (p : PortState). on_down_link (slice_get (new_world_in mode config units).devices n) ++ option_to_list p.down) (port_opening config units n)
    ∙ ap (λ (xs : List Stamped). xs ++ []) (on_opening_down config.capacity units n)
