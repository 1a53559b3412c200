-- What the command of a place keeps at each stage: how much of it moved, and that its Data are whole sectors.
use Rattle.std.proofs.Common.{◌≡◌, ℕ, ◌+◌, ◌-◌, ◌*◌, ◌<◌, ◌≤◌, true, false, List, [], ◌++◌, length, take, drop, refl, sym, ◌∙◌, subst, arith, inl}
use Rattle.std.proofs.{Common.{inr, ◌⊎◌, length-take-le, length-drop}, lemmas.Bool.{eqb-true, ltb-true, ltb-false}}
use Rattle.std.specs.Prelude.{Bool, nat_lt, if◌then◌else◌, ◌==◌, ◌&&◌}
use Rattle.block_command.specs.declared.command.{Command.Command, Protocol.{Protocol, TheVariants.Pio}, Stage.{Stage, TheVariants.{Waiting, Load}}}
use Rattle.block_command.specs.declared.command.Stage.TheVariants.{Loading, SetUpRead, Announce, Sending, SetUpWrite, Activate, Receiving, Store}
use Rattle.block_command.specs.{declared.command.Stage.TheVariants.{Storing, Flush, Flushing, End, Fail}, Moments.{Moment, chunk, data_stage}}
use Rattle.block_command.specs.{Moments.{first_data_stage, is_queued, is_verify, part_count, part_len, read_end, read_on}, Laws.{Input, Goes, Loads}}
use Rattle.block_command.specs.Laws.{Comes, Stores, Flushes, Fails, after}
use Rattle.block_command.proofs.Door.{at}
use Rattle.block_queue.proofs.Door.{of_and}

abbrev pub is_pio : Protocol → Bool
is_pio Pio = true
is_pio _ = false

-- sectors, in Data FISes of whole ones
pub record IsWhole (c : Command) : Type 0 where
  pub some : 0 < c.count
  pub sectors : ℕ
  pub block : c.block ≡ sectors * 512
  pub least : 0 < sectors
  pub most : sectors ≤ 16

-- so many sectors of the part that came were sent, and more are to be
pub record IsPart (c : Command) (done : ℕ) (bytes : List ℕ) (sent : ℕ) : Type 0 where
  pub more : done < c.count
  pub all : length bytes ≡ part_len c done
  pub gone : ℕ
  pub sectors : sent ≡ gone * 512
  pub left : sent < length bytes

abbrev pub Fits : Command → ℕ → List ℕ → ℕ → Stage → Type 0
Fits c done bytes sent Waiting = (done ≡ 0) × (sent ≡ 0)
Fits c done bytes sent Load = (done < c.count) × (sent ≡ 0)
Fits c done bytes sent Loading = (done < c.count) × (sent ≡ 0)
Fits c done bytes sent SetUpRead = (is_queued c.protocol ≡ true) × IsPart c done bytes sent
Fits c done bytes sent Announce = (is_pio c.protocol ≡ true) × IsPart c done bytes sent
Fits c done bytes sent Sending = IsPart c done bytes sent
Fits c done bytes sent SetUpWrite = is_queued c.protocol ≡ true
Fits c done bytes sent stage = Unit {0}

abbrev pub FitsAt : Moment → Type 0
FitsAt m = Fits m.command m.done m.bytes m.sent m.stage

-- ## Parts

part_case : (left : ℕ) (b : Bool) → nat_lt left 2048 ≡ b → 0 < left
    → (0 < (if b then left else 2048)) × ((if b then left else 2048) ≤ left)
part_case left true e some = (some, omega arith)
part_case left false e some = let high = ltb-false left 2048 e in (omega arith, high)

pub part_some : (c : Command) (done : ℕ) → done < c.count → (0 < part_count c done) × (done + part_count c done ≤ c.count)
part_some c done more =
    let both = part_case (c.count - done) _ refl (omega (arith, more)) in
    let low = both.1 in
    (both.0, omega (arith, low, more))

chunk_case : (block left k j : ℕ) (b : Bool) → nat_lt left block ≡ b → block ≡ k * 512 → left ≡ j * 512
    → (i : ℕ) × ((if b then left else block) ≡ i * 512) × (i ≤ j) × (i ≤ k) × ((i ≡ j) ⊎ (i ≡ k))
chunk_case block left k j true e whole sectors = let low = ltb-true left block e in (j, sectors, omega arith, omega (arith, low, whole, sectors), inl refl)
chunk_case block left k j false e whole sectors = let high = ltb-false left block e in (k, whole, omega (arith, high, whole, sectors), omega arith, inr refl)

-- the sectors of the next Data FIS
pub record IsNext (c : Command) (done : ℕ) (bytes : List ℕ) (sent : ℕ) (gone : ℕ) : Type 0 where
  pub sectors : ℕ
  pub long : chunk c (length bytes - sent) ≡ sectors * 512
  pub carried : length (take (chunk c (length bytes - sent)) (drop sent bytes)) ≡ sectors * 512
  pub some : 0 < sectors
  pub most : sectors ≤ 16
  pub within : gone + sectors ≤ part_count c done

either_some : (i j k : ℕ) → (i ≡ j) ⊎ (i ≡ k) → 0 < j → 0 < k → 0 < i
either_some i j k (inl e) m n = omega (arith, e, m)
either_some i j k (inr e) m n = omega (arith, e, n)

pub next_is : (c : Command) (done : ℕ) (bytes : List ℕ) (sent : ℕ) → IsWhole c → (p : IsPart c done bytes sent) → IsNext c done bytes sent p.gone
next_is c done bytes sent w p =
    let all = p.all in let at' = p.sectors in let left = p.left in
    let some = (part_some c done p.more).0 in
    let rest : length bytes - sent ≡ (part_count c done - p.gone) * 512 = omega (arith, all, at', left) in
    let over : p.gone < part_count c done = omega (arith, all, at', left) in
    let x = chunk_case c.block (length bytes - sent) w.sectors (part_count c done - p.gone) _ refl w.block rest in
    let is = x.2 in let low = x.3 in let most = w.most in
    let bytes' : chunk c (length bytes - sent) ≡ x.0 * 512 = x.1 in
    record {
      sectors = x.0;
      long = x.1;
      carried = length-take-le (chunk c (length bytes - sent)) (drop sent bytes)
          (let long = length-drop sent bytes in omega (arith, long, rest, bytes', is)) ∙ x.1;
      some = either_some x.0 _ _ x.4 (omega (arith, over)) w.least;
      most = omega (arith, low, most);
      within = omega (arith, is, over);
    }

-- ## What is done with a command

data_fits : (c : Command) (done : ℕ) (bytes : List ℕ) (sent : ℕ) (p : Protocol) → is_pio p ≡ is_pio c.protocol → IsPart c done bytes sent
    → Fits c done bytes sent (data_stage p)
data_fits c done bytes sent Pio e is = (sym e, is)
data_fits c done bytes sent other e is = is

end_fits : (c : Command) (done : ℕ) (bytes : List ℕ) (sent : ℕ) (p : Protocol) → Fits c done bytes sent (read_end p)
end_fits c done bytes sent Pio = tt
end_fits c done bytes sent other = tt

read_case : (c : Command) (done : ℕ) (b : Bool) → nat_lt done c.count ≡ b → Fits c done [] 0 (if b then Load else read_end c.protocol)
read_case c done true e = (ltb-true done c.count e, refl)
read_case c done false e = end_fits c done [] 0 c.protocol

started_fits : (c : Command) (done : ℕ) (bytes : List ℕ) (sent : ℕ) (w q : Bool) → q ≡ is_queued c.protocol → 0 < c.count → (done ≡ 0) × (sent ≡ 0)
    → Fits c done bytes sent (if w then (if q then SetUpWrite else Activate) else Load)
started_fits c done bytes sent true true e some fits = sym e
started_fits c done bytes sent true false e some fits = tt
started_fits c done bytes sent false q e some fits = (let none = fits.0 in omega (arith, some, none), fits.1)

set_up_fits : (c : Command) (done : ℕ) (bytes : List ℕ) (sent : ℕ) (b : Bool) → Fits c done bytes sent (if b then Receiving else Activate)
set_up_fits c done bytes sent true = tt
set_up_fits c done bytes sent false = tt

first_case : (c : Command) (done : ℕ) (bytes : List ℕ) (b : Bool) → (is_queued c.protocol && done == 0) ≡ b → IsPart c done bytes 0
    → Fits c done bytes 0 (if b then SetUpRead else data_stage c.protocol)
first_case c done bytes true e is = ((of_and _ _ e).0, is)
first_case c done bytes false e is = data_fits c done bytes 0 c.protocol refl is

loaded_part : (c : Command) (done : ℕ) (bytes : List ℕ) → (length bytes == part_len c done) ≡ true → done < c.count → IsPart c done bytes 0
loaded_part c done bytes e more =
    let all = eqb-true (length bytes) (part_len c done) e in let some = (part_some c done more).0 in
    record { more = more; all = all; gone = 0; sectors = refl; left = omega (arith, all, some) }

sectors_fit : (c : Command) (done : ℕ) (bytes old : List ℕ) (sent : ℕ) (b d : Bool) → (length bytes == part_len c done) ≡ b → (done < c.count) × (sent ≡ 0)
    → FitsAt (if b then (if d then read_on (at c done old sent Loading) (done + part_count c done)
    else at c done bytes sent (first_data_stage c.protocol done)) else at c done old sent Loading)
sectors_fit c done bytes old sent false d e fits = fits
sectors_fit c done bytes old sent true true e fits = read_case c (done + part_count c done) _ refl
sectors_fit c done bytes old sent true false e fits =
    let P : ℕ → Type 0 = λ n. Fits c done bytes n (first_data_stage c.protocol done) in
    subst P (sym fits.1) (first_case c done bytes _ refl (loaded_part c done bytes e fits.0))

came_fits : (c : Command) (done : ℕ) (bytes old : List ℕ) (sent : ℕ) (b d : Bool)
    → FitsAt (if b then at c done old sent Fail else at c done bytes sent (if d then Activate else Store))
came_fits c done bytes old sent true d = tt
came_fits c done bytes old sent false true = tt
came_fits c done bytes old sent false false = tt

stored_fits : (c : Command) (done : ℕ) (b d : Bool) → FitsAt (at c done [] 0 (if b then Activate else (if d then Flush else End)))
stored_fits c done true d = tt
stored_fits c done false true = tt
stored_fits c done false false = tt

sent_fits : (c : Command) (done : ℕ) (bytes : List ℕ) (to gone : ℕ) (b : Bool) → nat_lt to (length bytes) ≡ b → done < c.count → length bytes ≡ part_len c done
    → to ≡ gone * 512
    → FitsAt (if b then at c done bytes to (data_stage c.protocol) else read_on (at c done bytes to Sending) (done + part_count c done))
sent_fits c done bytes to gone true e more all sectors = data_fits c done bytes to c.protocol refl
    (record { more = more; all = all; gone = gone; sectors = sectors; left = ltb-true to (length bytes) e })
sent_fits c done bytes to gone false e more all sectors = read_case c (done + part_count c done) _ refl

sending_fits : (c : Command) (done : ℕ) (bytes : List ℕ) (sent : ℕ) → IsWhole c → (p : IsPart c done bytes sent) → FitsAt (after (at c done bytes sent Sending) Goes)
sending_fits c done bytes sent w p =
    let n = next_is c done bytes sent w p in let long = n.long in let at' = p.sectors in
    sent_fits c done bytes _ (p.gone + n.sectors) _ refl p.more p.all (omega (arith, long, at'))

pub fits_after : (c : Command) (done : ℕ) (bytes : List ℕ) (sent : ℕ) (stage : Stage) (i : Input) → IsWhole c → Fits c done bytes sent stage
    → FitsAt (after (at c done bytes sent stage) i)
fits_after c done bytes sent Waiting Goes w fits = started_fits c done bytes sent c.write _ refl w.some fits
fits_after c done bytes sent SetUpRead Goes w fits = fits.1
fits_after c done bytes sent Announce Goes w fits = fits.1
fits_after c done bytes sent Sending Goes w fits = sending_fits c done bytes sent w fits
fits_after c done bytes sent SetUpWrite Goes w fits = set_up_fits c done bytes sent c.auto_activate
fits_after c done bytes sent Loading (Loads given) w fits = sectors_fit c done given bytes sent _ (is_verify c.protocol) refl fits
fits_after c done bytes sent Receiving (Comes part) w fits = came_fits c done (bytes ++ part) bytes sent _ _
fits_after c done bytes sent Storing Stores w fits = stored_fits c _ _ c.lasting
fits_after c done bytes sent Flushing Flushes w fits = tt
fits_after c done bytes sent Load Goes w fits = fits
fits_after c done bytes sent Activate Goes w fits = tt
fits_after c done bytes sent Store Goes w fits = tt
fits_after c done bytes sent Flush Goes w fits = tt
fits_after c done bytes sent End Goes w fits = tt
fits_after c done bytes sent Fail Goes w fits = tt
fits_after c done bytes sent Loading Fails w fits = tt
fits_after c done bytes sent Storing Fails w fits = tt
fits_after c done bytes sent Flushing Fails w fits = tt
fits_after c done bytes sent stage Goes w fits = fits
fits_after c done bytes sent stage i w fits = fits
