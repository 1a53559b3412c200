-- What the command of a FIS asks for is at the place that the FIS names, and moves whole sectors.
use Rattle.std.proofs.Common.{◌≡◌, ℕ, zero, suc, ◌+◌, ◌-◌, ◌*◌, ◌/◌, ◌%◌, ◌<◌, ◌≤◌, ◌^◌, ◌⊎◌, true, false, List, Some, None, refl, sym, ap, ◌∙◌}
use Rattle.std.proofs.{Common.{subst, arith, inl, inr}, lemmas.{Bool.{cases_eq, eqb-true, lt-ltb}, Nat.Bits.{bit_at_above, bit_at_cat_high}}}
use Rattle.std.proofs.lemmas.Nat.Bits.{bit_at_cat_low}
use Rattle.std.specs.{Prelude.{Option, Bool, not, ◌==◌, ◌||◌, ◌&&◌, nat_le, if◌then◌else◌}, Int.bit_at}
use Rattle.fis_view.specs.Table.{H2d, Command, Count, Device, Features, Lba, field}
use Rattle.block_command.specs.declared.command.Command as block
use Rattle.block_command.specs.declared.command.Protocol.TheVariants as protocol
use Rattle.block_queue.specs.Line.{Line}
use Rattle.ata_reply.specs.declared.reply.AtaError.TheVariants.{Aborted}
use Rattle.ata_command.specs.Asks.{DiskFacts, asked, asked_by, block_in, block_of, moved, queued, sectors_asked, tag_of_place, transferred_by, sets}
use Rattle.ata_command.specs.{Asks.{sets_multiple, trimmed, smart_asked, does_smart}, Modes.sectors_in, Opcodes.{opcode_of, or_other, transfer_of}}
use Rattle.ata_command.specs.declared.{asked.{Asked.Asked, LogPage.LogPage, Move.Move, Refusal.Refusal, SmartTask.SmartTask}, opcode.Opcode.Opcode}
use Rattle.ata_command.specs.declared.{opcode.Way.Way, settings.Multiple.{Multiple, TheVariants.{Off, One, Two, Four, Eight, Sixteen}}}
use Rattle.ata_command.specs.declared.settings.{Setting.Setting, Settings.Settings}
use Rattle.ata_command.specs.declared.asked.Asked.TheVariants as ask
use Rattle.ata_command.specs.declared.opcode.Opcode.TheVariants as code
use Rattle.ata_command.specs.declared.opcode.Transfer as moves
use Rattle.ata_command.specs.declared.opcode.Way.TheVariants as way
use Rattle.sata_disk.specs.{State.{is_taken, tags_below, tags_of}, Hearing.{page_asked, with_logs}}
use Rattle.sata_disk_laws.specs.Once.{place_in}
use Rattle.sata_disk_laws.proofs.Tracks.{NoTags}

-- blocks of whole sectors
pub record IsBlock (n : ℕ) : Type 0 where
  pub sectors : ℕ
  pub is : n ≡ sectors * 512
  pub least : 0 < sectors
  pub most : sectors ≤ 16

abbrev pub AskedAt : ℕ → Asked → Type 0
AskedAt place (ask.Moves m) = (m.command.place ≡ place) × IsBlock m.command.block
AskedAt place (ask.Refused r) = r.tag ≡ tag_of_place place
AskedAt place a = place ≡ 32

one_block : (n : ℕ) → 0 < n → n ≤ 16 → IsBlock (n * 512)
one_block n least most = record { sectors = n; is = refl; least = least; most = most }

record IsAt (place : ℕ) (a : Asked) : Type 0 where
  pub is : AskedAt place a

either_at : (place : ℕ) (b : Bool) (x y : Asked) → IsAt place x → IsAt place y → IsAt place (if b then x else y)
either_at place true x y e f = e
either_at place false x y e f = f

moves_at : (place : ℕ) (m : Move) → m.command.place ≡ place → IsBlock m.command.block → IsAt place (ask.Moves m)
moves_at place m e is = record { is = (e, is) }

refused_at : (place : ℕ) (r : Refusal) → r.tag ≡ tag_of_place place → IsAt place (ask.Refused r)
refused_at place r e = record { is = e }

trims_at : (n : ℕ) → IsAt 32 (ask.Trims n)
trims_at n = record { is = refl }

reads_at : (place : ℕ) (p : LogPage) → place ≡ 32 → IsAt place (ask.ReadsLog p)
reads_at place p e = record { is = e }

moved_at : (d : DiskFacts) (c : block.Command) (wide : Bool) (place : ℕ) → c.place ≡ place → IsBlock c.block → IsAt place (moved d c wide)
moved_at d c wide place e is = either_at place _ _ _ (moves_at place _ e is) (refused_at place _ (ap tag_of_place e))

-- ## Queued commands

abbrev pub queued_command : List ℕ → (write : Bool) → Settings → block.Command
queued_command f write s = record {
  place = field H2d Count f % 256 / 8;
  lba = field H2d Lba f;
  count = sectors_asked (field H2d Features f) 65536;
  write = write;
  lasting = write && ((field H2d Device f / 128 % 2 == 1) || not s.write_cache);
  protocol = protocol.Queued;
  block = 8192;
  auto_activate = write && s.auto_activate;
}

tag_some : (place : ℕ) → place < 32 → Some place ≡ tag_of_place place
tag_some place low = sym (ap (λ b. if b then Some place else None) (lt-ltb place 32 low))

queued_at : (f : List ℕ) (write : Bool) (d : DiskFacts) (s : Settings) → IsAt (field H2d Count f % 256 / 8) (queued f write d s)
queued_at f write d s = either_at (field H2d Count f % 256 / 8) (nat_le d.depth (field H2d Count f % 256 / 8)) _ (moved d (queued_command f write s) true)
    (refused_at _ (record { error = Aborted; lba = 0; wide = true; tag = Some (field H2d Count f % 256 / 8) }) (tag_some _ (omega arith)))
    (moved_at d (queued_command f write s) true _ refl (one_block 16 (omega arith) (omega arith)))

-- ## The others

abbrev IsBlocks : Option ℕ → Type 0
IsBlocks None = Unit {0}
IsBlocks (Some n) = IsBlock n

multiple_block : (m : Multiple) → IsBlocks (block_of (sectors_in m))
multiple_block Off = tt
multiple_block One = one_block 1 (omega arith) (omega arith)
multiple_block Two = one_block 2 (omega arith) (omega arith)
multiple_block Four = one_block 4 (omega arith) (omega arith)
multiple_block Eight = one_block 8 (omega arith) (omega arith)
multiple_block Sixteen = one_block 16 (omega arith) (omega arith)

way_block : (w : Way) (m : Multiple) → IsBlocks (block_in w m)
way_block way.Single m = one_block 1 (omega arith) (omega arith)
way_block way.Multiple m = multiple_block m
way_block other m = one_block 16 (omega arith) (omega arith)

transferred_at : (f : List ℕ) (t : moves.Transfer) (d : DiskFacts) (s : Settings) (x : Option ℕ) → IsBlocks x → AskedAt 32 (transferred_by f t d s x)
transferred_at f t d s None is = refl
transferred_at f t d s (Some n) is = (moved_at d _ t.wide 32 refl is).is

sets_at : (x : Option Setting) → AskedAt 32 (sets x)
sets_at None = refl
sets_at (Some s) = refl

multiple_at : (x : Option Multiple) → AskedAt 32 (sets_multiple x)
multiple_at None = refl
multiple_at (Some m) = refl

smart_at : (x : Option SmartTask) → IsAt 32 (does_smart x)
smart_at None = record { is = refl }
smart_at (Some t) = record { is = refl }

abbrev is_queued_op : Opcode → Bool
is_queued_op code.ReadQueued = true
is_queued_op code.WriteQueued = true
is_queued_op _ = false

other_at : (o : Opcode) (f : List ℕ) (d : DiskFacts) (s : Settings) → is_queued_op o ≡ false → AskedAt 32 (asked_by o f d s)
other_at code.ReadQueued f d s e = absurd (cc)
other_at code.WriteQueued f d s e = absurd (cc)
other_at (code.Transfer t) f d s e = transferred_at f t d s _ (way_block t.way s.multiple)
other_at code.SetFeatures f d s e = sets_at _
other_at code.SetMultiple f d s e = multiple_at _
other_at code.DataSet f d s e = let x : IsAt 32 (trimmed f d) = either_at 32 _ _ _ (trims_at _) (refused_at 32 _ refl) in x.is
other_at code.Smart f d s e = let x : IsAt 32 (smart_asked f) = either_at 32 _ _ _ (smart_at _) (refused_at 32 _ refl) in x.is
other_at other f d s e = refl

-- ## The command code

record IsOther (o : Opcode) : Type 0 where
  pub is : is_queued_op o ≡ false

either_op : (b : Bool) (x y : Opcode) → IsOther x → IsOther y → IsOther (if b then x else y)
either_op true x y e f = e
either_op false x y e f = f

op : (o : Opcode) → is_queued_op o ≡ false → IsOther o
op o e = record { is = e }

neither : (a b : Bool) (rest : Opcode) → a ≡ false → b ≡ false → IsOther rest
    → is_queued_op (if a then code.ReadQueued else (if b then code.WriteQueued else rest)) ≡ false
neither true b rest e f is = absurd (cc)
neither false true rest e f is = absurd (cc)
neither false false rest e f is = is.is

other_op : (x : Option moves.Transfer) (c : ℕ) → (c == 0x60) ≡ false → (c == 0x61) ≡ false → is_queued_op (or_other x c) ≡ false
other_op (Some t) c e f = refl
other_op None c e f = neither (c == 0x60) (c == 0x61) _ e f
    (either_op _ _ _ (op code.Flush refl) (either_op _ _ _ (op code.SetFeatures refl) (either_op _ _ _ (op code.SetMultiple refl)
    (either_op _ _ _ (op code.DataSet refl) (either_op _ _ _ (op code.Identify refl) (either_op _ _ _ (op code.ReadLog refl)
    (either_op _ _ _ (op code.ReadLogDma refl) (either_op _ _ _ (op code.Smart refl) (either_op _ _ _ (op code.Standby refl)
    (either_op _ _ _ (op code.Idle refl) (either_op _ _ _ (op code.CheckPower refl) (op code.Unknown refl))))))))))))

op_at : (f : List ℕ) (d : DiskFacts) (s : Settings) (a b : Bool) → (field H2d Command f == 0x60) ≡ a → (field H2d Command f == 0x61) ≡ b
    → AskedAt (if a || b then field H2d Count f % 256 / 8 else 32) (asked_by (opcode_of (field H2d Command f)) f d s)
op_at f d s true b e g =
    let P : ℕ → Type 0 = λ c. AskedAt (field H2d Count f % 256 / 8) (asked_by (opcode_of c) f d s) in
    subst P (sym (eqb-true (field H2d Command f) 0x60 e)) (queued_at f false d s).is
op_at f d s false true e g =
    let P : ℕ → Type 0 = λ c. AskedAt (field H2d Count f % 256 / 8) (asked_by (opcode_of c) f d s) in
    subst P (sym (eqb-true (field H2d Command f) 0x61 g)) (queued_at f true d s).is
op_at f d s false false e g = other_at (opcode_of (field H2d Command f)) f d s (other_op (transfer_of (field H2d Command f)) (field H2d Command f) e g)

log_at : (place : ℕ) (p : LogPage) → place ≡ 32 → AskedAt place (page_asked p)
log_at place p e = let x : IsAt place (page_asked p) = either_at place _ _ _ (reads_at place p e) (refused_at place _ (sym (ap tag_of_place e))) in x.is

logs_at : (place : ℕ) (a : Asked) → AskedAt place a → AskedAt place (with_logs a)
logs_at place (ask.ReadsLog p) is = log_at place p is
logs_at place other is = is

pub asked_at : (f : List ℕ) (d : DiskFacts) (s : Settings) → AskedAt (place_in f) (with_logs (asked f d s))
unfolding asked
asked_at f d s = logs_at (place_in f) (asked_by (opcode_of (field H2d Command f)) f d s) (op_at f d s _ _ refl refl)

tag_low : (n : ℕ) (b : Bool) → ((if b then n % 256 / 8 else 32) < 32) ⊎ ((if b then n % 256 / 8 else 32) ≡ 32)
tag_low n true = inl (omega arith)
tag_low n false = inr refl

pub place_low : (f : List ℕ) → (place_in f < 32) ⊎ (place_in f ≡ 32)
place_low f = tag_low (field H2d Count f) _

-- ## No tag is taken

bit_case : (n m : ℕ) (b : Bool) → n + (if b then 2 ^ m else 0) ≡ 0 → (n ≡ 0) × (b ≡ false)
bit_case n m true e = absurd (let some = power m in omega (arith, e, some))
  where
    power : (m : ℕ) → 0 < 2 ^ m
    power zero = omega arith
    power (suc m) = let low = power m in omega (arith, low)
bit_case n m false e = (omega (arith, e), refl)

none_below : (l : Line) (n : ℕ) → tags_below l n ≡ 0 → (t : ℕ) → t < n → is_taken l t ≡ false
unfolding tags_below
none_below l zero e t low = absurd (omega (arith, low))
none_below l (suc n) e t low = elim (cases_eq t n) [
  | inl same ↦ ap (is_taken l) same ∙ (bit_case (tags_below l n) n (is_taken l n) e).1
  | inr apart ↦ none_below l n (bit_case (tags_below l n) n (is_taken l n) e).0 t (omega (arith, low, apart))
]

pub no_tags : (l : Line) → (tags_of l == 0) ≡ true → NoTags l
unfolding tags_of
no_tags l e = none_below l 32 (eqb-true (tags_below l 32) 0 e)

-- ## A tag is free where it is not taken

bit_of : (n t : ℕ) (b : Bool) → n < 2 ^ t → bit_at (n + (if b then 2 ^ t else 0)) t ≡ (if b then 1 else 0)
bit_of n t true low =
    let more : n + 2 ^ t ≡ 1 * 2 ^ t + n = omega arith in
    let none : t - t ≡ 0 = omega arith in
    ap (λ x. bit_at x t) more ∙ bit_at_cat_high 1 t n t low (omega arith) ∙ ap (bit_at 1) none
bit_of n t false low = let same : n + 0 ≡ n = omega arith in ap (λ x. bit_at x t) same ∙ bit_at_above n t t low (omega arith)

bit_below : (n k t : ℕ) (b : Bool) → t < k → bit_at (n + (if b then 2 ^ k else 0)) t ≡ bit_at n t
bit_below n k t true low =
    let more : n + 2 ^ k ≡ 1 * 2 ^ k + n = omega arith in ap (λ x. bit_at x t) more ∙ bit_at_cat_low 1 k n t low
bit_below n k t false low = let same : n + 0 ≡ n = omega arith in ap (λ x. bit_at x t) same

less_case : (n k : ℕ) (b : Bool) → n < 2 ^ k → n + (if b then 2 ^ k else 0) < 2 ^ suc k
less_case n k true low = omega (arith, low)
less_case n k false low = omega (arith, low)

tags_less : (l : Line) (n : ℕ) → tags_below l n < 2 ^ n
unfolding tags_below
tags_less l zero = omega arith
tags_less l (suc n) = less_case (tags_below l n) n (is_taken l n) (tags_less l n)

tag_bit : (l : Line) (n t : ℕ) → t < n → bit_at (tags_below l n) t ≡ (if is_taken l t then 1 else 0)
unfolding tags_below
tag_bit l zero t low = absurd (omega (arith, low))
tag_bit l (suc n) t low = elim (cases_eq t n) [
  | inl same ↦
      let P : ℕ → Type 0 = λ k. bit_at (tags_below l n + (if is_taken l n then 2 ^ n else 0)) k ≡ (if is_taken l k then 1 else 0) in
      subst P (sym same) (bit_of (tags_below l n) n (is_taken l n) (tags_less l n))
  | inr apart ↦ bit_below (tags_below l n) n t (is_taken l n) (omega (arith, low, apart)) ∙ tag_bit l n t (omega (arith, low, apart))
]

free_bit : (b : Bool) → ((if b then 1 else 0) == 0) ≡ not b
free_bit true = refl
free_bit false = refl

pub tag_free : (l : Line) (t : ℕ) → t < 32 → (bit_at (tags_of l) t == 0) ≡ not (is_taken l t)
unfolding tags_of
tag_free l t low = ap (λ n. n == 0) (tag_bit l 32 t low) ∙ free_bit (is_taken l t)
