-- For `answers_each_command_once`. The ledger and the disk still agree after a write takes its Data.
use Rattle.std.proofs.Common.{◌≡◌, ◌==◌, eqb, ℕ, ◌+◌, ◌-◌, ◌*◌, ◌<◌, ◌≤◌, Bool, true, false, List, [], ◌∷◌, ◌++◌, Some, length, refl, ap, sym, subst}
use Rattle.std.proofs.{Common.{◌∙◌, arith, rules, tests}, lemmas.{Bool.{eq-eqb, Decides.nat_tests}, List.Elements.{filter_map-append}}}
use Rattle.disk_model.specs.{declared.{plan.DiskPlan.DiskPlan, answer.Answer.{Answer, TheVariants.Ended}}, Chunks.{chunk_from, chunk_count, put}}
use Rattle.disk_model.specs.{Disks.{Moment, Writing, stored}, Ledger.{Moving, Written, moves, with_writes}, Between.{Agrees, AreSetUp, AreTags}}
use Rattle.disk_model.specs.Between.{ChunkPart, Fresh, IsHeld, IsMoving, IsSized, ended_tags, moved_sectors, tag_of}
use Rattle.disk_model.proofs.agreement.{PlaceLemmas.{length-put}, GeometryLemmas.chunk_part, QueueLemmas.{replies_same, pages_same, AreTags-append}}
use Rattle.disk_model.proofs.agreement.{QueueLemmas.{IsQueue-filter}, AgreeLemmas.{Beside, Stands, along, shown, writing, only_moves}}

pub with_writes-append : (medium : List ℕ) (ws : List Written) (w : Written)
    → with_writes medium (ws ++ w ∷ []) ≡ put (with_writes medium ws) w.at w.bytes
unfolding with_writes
with_writes-append medium [] w = refl
with_writes-append medium (x ∷ ws) w = with_writes-append (put medium x.at x.bytes) ws w

-- one more command has ended
pub ended_tags-more : (owed : List Answer) (t : ℕ) → ended_tags (owed ++ Ended t ∷ []) ≡ ended_tags owed ++ t ∷ []
ended_tags-more owed t = filter_map-append tag_of owed (Ended t ∷ [])

pub tags_more : (owed : List Answer) (t : ℕ) → AreTags (ended_tags owed) → t < 32 → AreTags (ended_tags (owed ++ Ended t ∷ []))
tags_more owed t tags small = subst AreTags (sym (ended_tags-more owed t)) (AreTags-append (ended_tags owed) t tags small)

-- the write's data, as its last DMA Activate left it
abbrev pub asked_for : DiskPlan → Writing → Moving → Moving
asked_for plan w v = record v {
  command = w.command;
  bytes = w.staged;
  moved = 512 * moved_sectors plan w.command w.left;
  offset = 512 * chunk_from plan w.command w.left;
  count = 512 * chunk_count plan w.command w.left;
  active = true;
}

-- a write that waits for the Data of its next chunk
pub record IsAsking (plan : DiskPlan) (sectors : ℕ) (w : Writing) (v : Moving) : Type 0 where
  pub moving : IsMoving plan sectors w.command w.left (asked_for plan w v)
  pub writes : w.command.write ≡ true
  pub whole : length w.staged ≡ 512 * w.command.count

-- what is known in addition for a write that waits
abbrev pub asked : DiskPlan → Beside → Writing → Moving → Beside
asked plan k w v = along k (Some (asked_for plan w v))

-- both take the Data
abbrev pub Stores : DiskPlan → ℕ → Moment → Beside → Writing → Moving → List ℕ → Type 0
Stores plan sectors m k w v bytes =
    Agrees plan sectors (stored plan m w bytes) (moves (shown m (asked plan k w v)) (asked_for plan w v) bytes)

store_last : (plan : DiskPlan) (sectors : ℕ) (m : Moment) (k : Beside) (w : Writing) (v : Moving) (bytes : List ℕ)
    → IsSized plan → IsAsking plan sectors w v → length bytes ≡ 512 * chunk_count plan w.command w.left → w.left ≡ 1
    → Stands plan sectors (writing m m.owed w) (asked plan k w v) → Stores plan sectors (writing m m.owed w) k w v bytes
store_last plan sectors m k w v bytes sized asking fits one a =
    let c = w.command in
    let mv = asking.moving in
    let writes = asking.writes in
    let staged : List ℕ = put w.staged (512 * chunk_from plan c w.left) bytes in
    let part : ChunkPart plan c w.left = chunk_part plan c w.left sized.low mv.some mv.more mv.among in
    let is_last : (w.left == 1) ≡ true = eq-eqb w.left 1 one in
    let total : 512 * moved_sectors plan c w.left + length bytes ≡ 512 * c.count = omega (arith, part.last one) in
    let is_all : (512 * moved_sectors plan c w.left + length bytes == 512 * c.count) ≡ true = eq-eqb _ _ total in
    let whole = asking.whole in
    let inside : 512 * chunk_from plan c w.left + length bytes ≤ length w.staged = omega (arith, part.inside, whole) in
    let size : length staged ≡ length w.staged = length-put w.staged bytes (512 * chunk_from plan c w.left) inside in
    let room : 512 * c.lba + length staged ≤ length m.medium = omega (arith, size, whole, mv.inside, a.length_is) in
    let owes = Ended c.tag ∷ [] in
    rw (is_last, is_all, writes) (record {
      outstanding = refl;
      failed = refl;
      unanswered = sym (ended_tags-more m.owed c.tag);
      medium = ap (λ (xs : List ℕ). put xs (512 * c.lba) staged) a.medium
          ∙ sym (with_writes-append _ k.writes (record { tag = c.tag; at = 512 * c.lba; bytes = staged }));
      length_is = length-put m.medium staged (512 * c.lba) room ∙ a.length_is;
      queue = IsQueue-filter _ m.queued a.queue;
      tags = tags_more m.owed c.tag a.tags mv.tag;
      reads = a.reads;
      moving = tt;
      failure = a.failure;
      resetting = refl;
      in_reset = refl;
      awaited = sym (replies_same m.owed owes refl);
      pages = rw (pages_same m.owed owes refl) a.pages;
    })

store_more : (plan : DiskPlan) (sectors : ℕ) (m : Moment) (k : Beside) (w : Writing) (v : Moving) (bytes : List ℕ)
    → IsSized plan → IsAsking plan sectors w v → length bytes ≡ 512 * chunk_count plan w.command w.left
    → (w.left ≡ 1 → ⊥) → IsHeld m.queued m.owed w.command.tag → AreSetUp plan w.command (w.left - 1) v.setups
    → Stands plan sectors (writing m m.owed w) (asked plan k w v) → Stores plan sectors (writing m m.owed w) k w v bytes
store_more plan sectors m k w v bytes sized asking fits other held named a =
    let c = w.command in
    let mv = asking.moving in
    let whole = asking.whole in
    let part : ChunkPart plan c w.left = chunk_part plan c w.left sized.low mv.some mv.more mv.among in
    let less : moved_sectors plan c w.left + chunk_count plan c w.left < c.count = part.more other in
    let not_last : (w.left == 1) ≡ false = search (rules, tests) in
    let not_all : (512 * moved_sectors plan c w.left + length bytes == 512 * c.count) ≡ false = grind (arith, nat_tests, less, fits) in
    let inside : 512 * chunk_from plan c w.left + length bytes ≤ length w.staged = omega (arith, part.inside, whole) in
    rw (not_last, not_all) (only_moves _ _ m k _ _ _ _ _ _ _ a (
      Fresh,
      record {
        moving = record {
          same = refl;
          more = omega (arith, mv.more, other);
          among = omega (arith, mv.among);
          inside = mv.inside;
          some = mv.some;
          few = mv.few;
          tag = mv.tag;
          moved = omega (arith, part.next);
        };
        writes = asking.writes;
        bytes = refl;
        whole = length-put w.staged bytes (512 * chunk_from plan c w.left) inside ∙ whole;
        stage = (refl, refl);
        setups = named;
      },
      held,
    ))

pub store_by : (plan : DiskPlan) (sectors : ℕ) (m : Moment) (k : Beside) (w : Writing) (v : Moving) (bytes : List ℕ) (last : Bool)
    → eqb w.left 1 ≡ last → IsSized plan → IsAsking plan sectors w v
    → length bytes ≡ 512 * chunk_count plan w.command w.left → IsHeld m.queued m.owed w.command.tag
    → AreSetUp plan w.command (w.left - 1) v.setups
    → Stands plan sectors (writing m m.owed w) (asked plan k w v) → Stores plan sectors (writing m m.owed w) k w v bytes
store_by plan sectors m k w v bytes true e sized asking fits held named a =
    let one : w.left ≡ 1 = grind (arith, nat_tests, e) in
    store_last plan sectors m k w v bytes sized asking fits one a
store_by plan sectors m k w v bytes false e sized asking fits held named a =
    store_more plan sectors m k w v bytes sized asking fits (λ is. cc (eq-eqb w.left 1 is, e)) held named a
