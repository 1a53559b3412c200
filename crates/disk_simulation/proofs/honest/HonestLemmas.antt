-- For `done_is_honest`. What a queued command that is done brought, or left on the medium.
use Rattle.std.proofs.Common.{length, ◌≡◌, ◌==◌, ◌&&◌, ℕ, zero, suc, ◌+◌, ◌<◌, Bool, true, false, List, [], ◌∷◌, ◌++◌, get_or, refl, sym, ap, subst, ◌∙◌, inl, inr, Option, Some, None, Ok, Result, arith, ◌≤◌}
use Rattle.std.specs.{Prelude.{All, is_some, slice_get}, List.range_with_len}
use Rattle.std.proofs.lemmas.{Bool.{and_parts, cases_Bool, eq-eqb, true≢false}, List.Elements.{All-head, All-tail}, List.Folds.list_all_at}
use Rattle.std.proofs.lemmas.{List.FromFn.{get_or-range_with_len, length-range_with_len}, Option.slice_get_within}
use Rattle.fis_view.specs.{Table.{Bits, SActive, field}, Seen.seen, declared.{view.Fis.Fis, view.FisFault.FisFault}}
use Rattle.fis_view.specs.declared.view.Fis.TheVariants as view
use Rattle.slots.specs.{Slots.has_bit, Work.is_queued}
use Rattle.disk_model.specs.{declared.request.Command.Command, Chunks.sectors_at, Ends.{AreEntered, AreRight, EndsAgree, IsBits, IsRight}}
use Rattle.disk_model.specs.{Histories.{Happening, Sent}, Ledger.{IsRead, Ledger, Names, ReadOut, Written, ledger, listens, medium_with}}
use Rattle.disk_model.proofs.Door.{ends_agree}
use Rattle.hba_laws.specs.History.{History, Named, Transfer, completes, filled, is_all_filled, issued}
use Rattle.disk_simulation.specs.{Same.{IsReadOf, IsWriteOf, SlotCommand, Stand}, Answers.{ByRead, ByWrite, HasEnded}, Together.Same}
use Rattle.disk_simulation.specs.Honest.{AreFilledBy, BroughtSectors, DoneIsHonest, IsDoneHonestly, IsOnMedium, NextIsRight}
use Rattle.disk_simulation.proofs.events.AnswerLemmas.{StandsFirst, named_first, names_keep}

-- ## Lists

-- what holds of all holds of what stands somewhere
at_place : {X : Type 0} (P : X → Type 0) (xs : List X) (i : ℕ) (x : X) → slice_get xs i ≡ Some x → All P xs → P x
at_place P [] i x there all = cc there
at_place P (y ∷ xs) zero x there all = let same : y ≡ x = cc there in subst P same (All-head P y xs all)
at_place P (y ∷ xs) (suc i) x there all = at_place P xs i x there (All-tail P y xs all)

-- and where it does not hold of the last ones it stands among those before them
before_last : {X : Type 0} (P : X → Type 0) (xs ys : List X) (i : ℕ) (x : X) → slice_get (xs ++ ys) i ≡ Some x → All P ys → (P x → ⊥)
    → slice_get xs i ≡ Some x
before_last P [] ys i x there all not = absurd (not (at_place P ys i x there all))
before_last P (y ∷ xs) ys zero x there all not = there
before_last P (y ∷ xs) ys (suc i) x there all not = before_last P xs ys i x there all not

-- ## Filled bytes

the_byte : (o : Option ℕ) → is_some o ≡ true → (b : ℕ) × (o ≡ Some b)
the_byte None here = absurd (true≢false (sym here))
the_byte (Some b) here = (b, refl)

byte_at : (g : ℕ → Option ℕ) (len i : ℕ) → is_all_filled g len ≡ true → i < len → (b : ℕ) × (g i ≡ Some b)
byte_at g len i all lt =
    let long = length-range_with_len 0 len in
    elim (cases_Bool (is_some (g i))) [
      | inl here ↦ the_byte (g i) here
      | inr missing ↦
          let zero_first : 0 + i ≡ i = omega arith in
          let at : is_some (g (get_or (range_with_len 0 len) i 0)) ≡ false =
          ap (λ k. is_some (g k)) (get_or-range_with_len 0 len i 0 lt ∙ zero_first) ∙ missing in
          absurd (true≢false (sym all ∙ list_all_at (λ k. is_some (g k)) (range_with_len 0 len) i 0 (omega (arith, long)) at))
    ]

fills_all : (g : ℕ → Option ℕ) (len : ℕ) (bytes : List ℕ) → is_all_filled g len ≡ true → Stand g bytes → AreFilledBy g len bytes
fills_all g len bytes all stands i lt =
    let b = byte_at g len i all lt in
    let there : slice_get bytes i ≡ Some b.0 = stands i b.0 b.1 in
    (b.1 ∙ sym there, slice_get_within bytes i b.0 there)

-- ## What comes next

pub next_where : (sectors : ℕ) (disk host : List Happening) (down up : List (List ℕ)) (bytes : List ℕ) → EndsAgree sectors disk host down (bytes ∷ up)
    → IsRight (ledger host) (seen bytes)
unfolding AreRight
next_where sectors disk host down up bytes ends =
    let right : IsRight (ledger host) (seen bytes) × AreRight (listens (ledger host) (Sent bytes)) up = ends.right in
    right.0

pub next_right : NextIsRight
next_right plan sectors disk host down up bytes size run linked careful =
    next_where sectors disk host down up bytes (ends_agree plan sectors disk host down (bytes ∷ up) size run linked careful)

-- ## A command that is done

pub record IsNamed (s mask : ℕ) (past : History) (t : Transfer) : Type 0 where
  pub bit : has_bit mask s ≡ true
  pub filled_is : is_all_filled (filled s past) t.work.len ≡ true

pub named_by : (s mask : ℕ) (past : History) (t : Transfer) → completes s (Named mask) past t.work ≡ true → IsNamed s mask past t
named_by s mask past t done =
    let parts = and_parts (has_bit mask s) (is_queued t.work.kind && is_all_filled (filled s past) t.work.len) done in
    let more = and_parts (is_queued t.work.kind) (is_all_filled (filled s past) t.work.len) parts.1 in
    record { bit = parts.0; filled_is = more.1 }

other_way : {X : Type 0} (b : Bool) → b ≡ false → b ≡ true → X
other_way b unset set = absurd (true≢false (sym set ∙ unset))

brought : (sectors s at : ℕ) (c : SlotCommand) (past : History) (t : Transfer) (k : Ledger) (r : ReadOut)
    → is_all_filled (filled s past) t.work.len ≡ true → All (IsRead sectors) k.reads → slice_get k.reads at ≡ Some r → IsReadOf c.command r
    → Stand (filled s past) r.bytes → c.since ≤ length r.before
    → BroughtSectors sectors c (filled s past) t.work.len k
brought sectors s at c past t k r all reads there of stands counted =
    let bytes : r.bytes ≡ sectors_at (medium_with sectors r.before) r.command.lba r.command.count =
    at_place (IsRead sectors) k.reads at r there reads in
    let is : r.bytes ≡ sectors_at (medium_with sectors r.before) c.command.lba c.command.count =
    bytes ∙ ap (λ (q : Command). sectors_at (medium_with sectors r.before) q.lba q.count) of.command in
    record {
      at = at;
      read = r;
      ended = there;
      command = of.command;
      since = counted;
      bytes = subst (AreFilledBy (filled s past) t.work.len) is (fills_all (filled s past) t.work.len r.bytes all stands);
    }

entered : (s at : ℕ) (c : SlotCommand) (past : History) (t : Transfer) (disk k : Ledger) (w : Written) → c.command.tag ≡ s
    → is_all_filled (filled s past) t.work.len ≡ true → AreEntered disk k s → slice_get k.writes at ≡ Some w → IsWriteOf s c.command w
    → Stand (filled s past) w.bytes → c.since ≤ at
    → IsOnMedium c (filled s past) t.work.len disk
entered s at c past t disk k w tag all on there of stands counted =
    let here : slice_get (disk.writes ++ on.later) at ≡ Some w = ap (λ (ws : List Written). slice_get ws at) (sym on.same) ∙ there in
    record {
      at = at;
      written = w;
      entered =
          before_last (λ (x : Written). (x.tag == s) ≡ false) disk.writes on.later at w here on.others
          (λ other. true≢false (sym (eq-eqb w.tag s of.tag) ∙ other));
      since = counted;
      tag = of.tag ∙ sym tag;
      place = of.at;
      long = of.long;
      bytes = fills_all (filled s past) t.work.len w.bytes all stands;
    }

pub done_by : (sectors s : ℕ) (c : SlotCommand) (past : History) (t : Transfer) (disk k : Ledger) → c.command.tag ≡ s
    → is_all_filled (filled s past) t.work.len ≡ true → All (IsRead sectors) k.reads → AreEntered disk k s → HasEnded s c past k
    → IsDoneHonestly sectors c (filled s past) t.work.len disk k
done_by sectors s c past t disk k tag all reads on (ByRead at r there of stands counted) =
    record { reads = λ way. brought sectors s at c past t k r all reads there of stands counted; writes = λ way. other_way c.command.write of.reads way }
done_by sectors s c past t disk k tag all reads on (ByWrite at w there of stands counted) =
    record { reads = λ way. other_way c.command.write way of.writes; writes = λ way. entered s at c past t disk k w tag all on there of stands counted }

pub names_of : (k : Ledger) (fis : Result Fis FisFault) (f : List ℕ) → fis ≡ Ok (view.SetBits f) → IsRight k fis
    → Names k.unanswered (field Bits SActive f)
names_of k fis f is right =
    let r : IsRight k (Ok (view.SetBits f)) = subst (IsRight k) is right in
    r.answers r.fine

-- where both ends agree
pub done_where : (sectors : ℕ) (disk host : List Happening) (down up : List (List ℕ)) (bytes f : List ℕ) → EndsAgree sectors disk host down (bytes ∷ up)
    → IsRight (ledger host) (seen bytes) → seen bytes ≡ Ok (view.SetBits f)
    → (commands : ℕ → SlotCommand) (past : History) → Same commands past (ledger host)
    → (s : ℕ) (t : Transfer) → issued s past ≡ Some t → is_queued t.work.kind ≡ true
    → completes s (Named (field Bits SActive f)) past t.work ≡ true
    → IsDoneHonestly sectors (commands s) (filled s past) t.work.len (ledger disk) (ledger host)
done_where sectors disk host down up bytes f ends right is commands past same s t there queued done =
    let k : Ledger = ledger host in
    let names : Names k.unanswered (field Bits SActive f) = names_of (ledger host) (seen bytes) f is right in
    let named : IsNamed s (field Bits SActive f) past t = named_by s (field Bits SActive f) past t done in
    let first : StandsFirst s k.unanswered = named_first s (field Bits SActive f) k.unanswered names named.bit in
    let on : AreEntered (ledger disk) (ledger host) s = ends.entered (subst IsBits (sym is) tt) s first.rest first.is in
    done_by sectors s (commands s) past t (ledger disk) (ledger host) (same.tags s) named.filled_is ends.reads on
    (names_keep.own s (field Bits SActive f) (commands s) past (ledger host) names named.bit (same.live s t there queued))

pub done_is_honest : DoneIsHonest
done_is_honest plan sectors disk host down up bytes f size run linked careful is commands past same s t there queued done =
    done_where sectors disk host down up bytes f (ends_agree plan sectors disk host down (bytes ∷ up) size run linked careful)
    (next_right plan sectors disk host down up bytes size run linked careful) is commands past same s t there queued done
