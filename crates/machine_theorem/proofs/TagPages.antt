-- The command that is under way at a place is the one that the books have there.
use Rattle.std.proofs.Common.{◌≡◌, ℕ, zero, suc, true, false, List, [], ◌∷◌, get_or, set, Some, None, refl, sym, ap, ◌∙◌, ◌⊎◌, inl, inr, subst}
use Rattle.std.proofs.lemmas.{Bool.cases_eq, List.{get_or-set_other}, Option.same_Some}
use Rattle.std.specs.{Prelude.{Option, Bool, if◌then◌else◌, replicate}, Option.option_map}
use Rattle.block_command.specs.{declared.command.Command.Command, Moments.{Moment, opening}, Laws.{Comes, Goes, Happening, Input, after, blank}}
use Rattle.block_command.specs.Laws.{happening}
use Rattle.block_disk.specs.{Laws.{At, Page, Refused, Took, at_page, entered_in, page_entered, shown_at}, Requests.{Books, Queue, entered_by, is_out}}
use Rattle.block_disk.specs.{Requests.{no_books, seen, told}, Table.{is_under_way, with_command, with_input}}
use Rattle.block_disk.proofs.Door.{each_is}
use Rattle.block_queue.specs.Deeds as deed
use Rattle.block_queue.specs.{Deeds.{Deed, act_of, after_deed, seen_of}, Line.{Line, command_at}}
use Rattle.block_scheduler.specs.Laws.{all_deeds}
use Rattle.block_engine.specs.Laws.{all_moves}
use Rattle.disk_pages.specs.declared.profile.Profile.{Profile}
use Rattle.sata_disk.specs.State.{commands, new_disk}
use Rattle.sata_disk_laws.specs.{Calls.{Call, all_steps}, Laws.reached}
use Rattle.sata_disk_books.specs.Books.{books_after, page_in}
use Rattle.sata_disk_books.proofs.Door.{after_deeds, line_then}
use Rattle.machine_theorem.proofs.TagKept.{held_map, held_of, held_parts}

abbrev Same : Option Moment → Option Page → Type 0
Same x y = (c : Command) (page : Page) → held_of x ≡ Some c → y ≡ Some page → page.command ≡ c

abbrev AreSame : List (Option Moment) → List (Option Page) → Type 0
AreSame xs ys = (q : ℕ) → Same (get_or xs q None) (get_or ys q None)

none_first : (y : Option Page) → Same None y
none_first y c page h e = absurd (cc)

none_second : (x : Option Moment) → Same x None
none_second x c page h e = absurd (cc)

pub here_or : {A : Type 0} (xs : List (Option A)) (place : ℕ) (x : Option A) → (get_or (set xs place x) place None ≡ x) ⊎ (get_or (set xs place x) place None ≡ None)
here_or [] place x = inr refl
here_or (y ∷ xs) zero x = inl refl
here_or (y ∷ xs) (suc place) x = here_or xs place x

same_at : (x x' : Option Moment) (y y' : Option Page) → (x' ≡ x) ⊎ (x' ≡ None) → (y' ≡ y) ⊎ (y' ≡ None) → Same x y → Same x' y'
same_at x x' y y' (inr a) b s = subst (λ (o : Option Moment). Same o y') (sym a) (none_first y')
same_at x x' y y' (inl a) (inr b) s = subst (λ (o : Option Page). Same x' o) (sym b) (none_second x')
same_at x x' y y' (inl a) (inl b) s = subst (λ (o : Option Moment). Same o y') (sym a) (subst (λ (o : Option Page). Same x o) (sym b) s)

both_set : (xs : List (Option Moment)) (ys : List (Option Page)) (place : ℕ) (x : Option Moment) (y : Option Page) → AreSame xs ys → Same x y
    → AreSame (set xs place x) (set ys place y)
both_set xs ys place x y all s q = elim (cases_eq q place) [
  | inl e ↦ subst (λ (k : ℕ). Same (get_or (set xs place x) k None) (get_or (set ys place y) k None)) (sym e) (same_at x _ y _ (here_or xs place x) (here_or ys place y) s)
  | inr apart ↦ subst (λ (o : Option Moment). Same o (get_or (set ys place y) q None)) (sym (get_or-set_other xs place q x None apart))
      (subst (λ (o : Option Page). Same (get_or xs q None) o) (sym (get_or-set_other ys place q y None apart)) (all q))
]

-- one list changes alone
first_set : (xs : List (Option Moment)) (ys : List (Option Page)) (place : ℕ) (x : Option Moment) → AreSame xs ys → Same x (get_or ys place None) → AreSame (set xs place x) ys
first_set xs ys place x all s q = elim (cases_eq q place) [
  | inl e ↦ subst (λ (k : ℕ). Same (get_or (set xs place x) k None) (get_or ys k None)) (sym e) (same_at x _ (get_or ys place None) _ (here_or xs place x) (inl refl) s)
  | inr apart ↦ subst (λ (o : Option Moment). Same o (get_or ys q None)) (sym (get_or-set_other xs place q x None apart)) (all q)
]

second_set : (xs : List (Option Moment)) (ys : List (Option Page)) (place : ℕ) (y : Option Page) → AreSame xs ys → Same (get_or xs place None) y → AreSame xs (set ys place y)
second_set xs ys place y all s q = elim (cases_eq q place) [
  | inl e ↦ subst (λ (k : ℕ). Same (get_or xs k None) (get_or (set ys place y) k None)) (sym e) (same_at (get_or xs place None) _ y _ (inl refl) (here_or ys place y) s)
  | inr apart ↦ subst (λ (o : Option Page). Same (get_or xs q None) o) (sym (get_or-set_other ys place q y None apart)) (all q)
]

-- ---- what happens to a command leaves it

entered_same : (x : Option Moment) (h : Happening) (y : Option Page) → Same x y → Same x (option_map (λ p. page_entered p h) y)
entered_same x h None s = s
entered_same x h (Some p) s = λ c page held e. ap (λ (k : Page). k.command) (sym (same_Some (page_entered p h) page e)) ∙ s c p held refl

after_same : (x : Option Moment) (i : Input) (y : Option Page) → Same x y → Same (option_map (λ m. after m i) x) y
after_same x i y s = λ c page held e. s c page (held_map x i c held) e

shown_same : (xs : List (Option Moment)) (ys : List (Option Page)) (place : ℕ) (i : Input) (x : Option Moment) → get_or xs place None ≡ x → AreSame xs ys
    → AreSame (set xs place (option_map (λ m. after m i) x)) (entered_in ys (shown_at place x i))
shown_same xs ys place i None e all = first_set xs ys place None all (none_first (get_or ys place None))
shown_same xs ys place i (Some m) e all =
    both_set xs ys place (Some (after m i)) (option_map (λ p. page_entered p (happening m i)) (at_page ys place)) all
    (entered_same (Some (after m i)) (happening m i) (at_page ys place)
    (after_same (Some m) i (at_page ys place) (subst (λ (o : Option Moment). Same o (get_or ys place None)) e (all place))))

goes : (xs : List (Option Moment)) (ys : List (Option Page)) (place : ℕ) (i : Input) → AreSame xs ys
    → AreSame (set xs place (option_map (λ m. after m i) (get_or xs place None))) (entered_in ys (shown_at place (get_or xs place None) i))
goes xs ys place i all = shown_same xs ys place i (get_or xs place None) refl all

-- ---- one deed

answers_same : (q r : Queue) (b e : Books) (x y : Bool) → AreSame q.table.places b.pages → AreSame r.table.places b.pages → AreSame q.table.places e.pages → AreSame r.table.places e.pages
    → AreSame (if x then r else q).table.places (if y then e else b).pages
answers_same q r b e true true one two three four = four
answers_same q r b e true false one two three four = two
answers_same q r b e false true one two three four = three
answers_same q r b e false false one two three four = one

takes_same : (l : Line) (b : Books) (k : Command) (ranks : List ℕ) (x : Bool) → AreSame l.queue.table.places b.pages
    → AreSame (if x then l else record l { queue = record l.queue { table = if x then l.queue.table else with_command l.queue.table k.place (Some (opening k)) }; ranks = ranks }).queue.table.places
    (entered_in b.pages (if x then Refused k else Took k))
takes_same l b k ranks true all = all
takes_same l b k ranks false all =
    both_set l.queue.table.places b.pages k.place (Some (opening k)) (Some (record { command = k; ledger = blank })) all
    (λ c page held e. ap (λ (p : Page). p.command) (sym (same_Some (record { command = k; ledger = blank }) page e)) ∙ (held_parts (opening k) c held).1)

deed_same : (l : Line) (d : Deed) (b : Books) → AreSame l.queue.table.places b.pages
    → AreSame (after_deed l d).queue.table.places (entered_by b (seen l.queue (act_of d))).pages
deed_same l (deed.Takes k) b all = takes_same l b k _ (is_under_way (command_at l k.place)) all
deed_same l (deed.Starts place) b all = goes l.queue.table.places b.pages place Goes all
deed_same l (deed.Sends place) b all = goes l.queue.table.places b.pages place Goes all
deed_same l (deed.Asks place) b all = goes l.queue.table.places b.pages place Goes all
deed_same l (deed.Hears place part) b all = goes l.queue.table.places b.pages place (Comes part) all
deed_same l (deed.Answers place number i) b all =
    let xs : List (Option Moment) = l.queue.table.places in
    let r : Queue = record l.queue { table = with_input l.queue.table place i; out = set l.queue.out place 0 } in
    let e : Books = record { pages = entered_in b.pages (At place (told i)); out = set b.out place 0 } in
    let two : AreSame r.table.places b.pages = first_set xs b.pages place _ all (after_same (get_or xs place None) i (get_or b.pages place None) (all place)) in
    let entered = entered_same (get_or xs place None) (told i) (get_or b.pages place None) (all place) in
    answers_same l.queue r b e (is_out l.queue.out place number) (is_out b.out place number) all two
    (second_set xs b.pages place _ all entered)
    (both_set xs b.pages place _ _ all (after_same (get_or xs place None) i _ entered))
deed_same l deed.Resets b all = λ q. subst (λ (o : Option Page). Same (get_or (replicate 33 None) q None) o) (sym (each_is (Option Page) 33 q None)) (none_second _)
deed_same l deed.Draws b all = all

deeds_same : (ds : List Deed) (l : Line) (b : Books) → AreSame l.queue.table.places b.pages → AreSame (after_deeds l ds).queue.table.places (books_after b (seen_of l ds)).pages
unfolding books_after seen_of
deeds_same [] l b all = all
deeds_same (d ∷ later) l b all = deeds_same later (after_deed l d) (entered_by b (seen l.queue (act_of d))) (deed_same l d b all)

-- ---- every run

opens_same : AreSame (replicate 33 None) (replicate 33 None)
opens_same q = subst (λ (o : Option Page). Same (get_or (replicate 33 None) q None) o) (sym (each_is (Option Page) 33 q None)) (none_second _)

pub page_same : (p : Profile) (limit : ℕ) (calls : List Call) (tag : ℕ) (c : Command) (page : Page) → held_of (command_at (commands (reached p limit calls)) tag) ≡ Some c
    → page_in p limit calls tag ≡ Some page → page.command ≡ c
page_same p limit calls tag c page held is =
    let d = new_disk p limit in
    let ds : List Deed = all_deeds d.engine.schedule (all_moves d.engine (all_steps d calls)) in
    deeds_same ds (commands d) no_books opens_same tag c page (ap (λ (l : Line). held_of (command_at l tag)) (sym (line_then d calls)) ∙ held) is
