-- The numbers of the requests that are not answered: each was given, and to one alone. So a caller's answer is taken for what it answers.
use Rattle.std.specs.Prelude.{ℕ, ◌≡◌, ◌<◌, ◌-◌, ◌==◌, nat_lt, nat_le, Bool, false, not, ◌&&◌, ◌||◌, List, Option, Some, None, if◌then◌else◌}
use Rattle.block_disk.specs.Requests.{number_at}
use Rattle.block_queue.specs.{Line.{Line, any_below, orphan}, declared.queue.Orphan.Orphan}
use Rattle.block_engine.specs.declared.{aside.AsideStage.{AsideStage, TheVariants.Asked}, numbers.Holder.{Holder, TheVariants.{Command, Store}}}
use Rattle.block_engine.specs.declared.numbers.Holder.TheVariants.{Aside, Discard}

abbrev pub IsHolder : Holder → Type 0
IsHolder (Command p) = p < 33
IsHolder (Store p) = p < 33
IsHolder Aside = Unit {0}
IsHolder Discard = Unit {0}

abbrev pub store_number : Option Orphan → Option ℕ
store_number None = None
store_number (Some o) = Some o.number

abbrev pub asked_number : AsideStage → Option ℕ
asked_number (Asked number) = Some number
asked_number _ = None

-- the number that one of them has
abbrev pub number_of : Line → AsideStage → Option ℕ → Holder → Option ℕ
number_of l stage dropped (Command p) = number_at l.queue.out p
number_of l stage dropped (Store p) = store_number (orphan l p)
number_of l stage dropped Aside = asked_number stage
number_of l stage dropped Discard = dropped

-- this number was given, and to this one alone
pub record IsAlone (l : Line) (stage : AsideStage) (dropped : Option ℕ) (h : Holder) (number : ℕ) : Type 0 where
  pub given : number < l.queue.next
  pub own : (g : Holder) → IsHolder g → number_of l stage dropped g ≡ Some number → g ≡ h

pub record AreNumbered (l : Line) (stage : AsideStage) (dropped : Option ℕ) : Type 0 where
  pub each : (h : Holder) (number : ℕ) → IsHolder h → number_of l stage dropped h ≡ Some number → IsAlone l stage dropped h number

-- ## What is tested of a restored engine

-- all of them in a row
abbrev pub holder_at : ℕ → Holder
holder_at index = if nat_lt index 33 then Command index else (if nat_lt index 66 then Store (index - 33)
    else (if index == 66 then Aside else Discard))

abbrev pub is_number : Option ℕ → ℕ → Bool
is_number None number = false
is_number (Some n) number = n == number

-- another of them has this number
abbrev pub has_number : Line → AsideStage → Option ℕ → (index number other : ℕ) → Bool
has_number l stage dropped index number other = not (other == index) && is_number (number_of l stage dropped (holder_at other)) number

abbrev pub misnumbered : Line → AsideStage → Option ℕ → (index : ℕ) → Option ℕ → Bool
misnumbered l stage dropped index None = false
misnumbered l stage dropped index (Some number) = any_below (has_number l stage dropped index number) 68 || nat_le l.queue.next number

-- the number of one of them is that of another, or was not given
abbrev pub is_misnumbered : Line → AsideStage → Option ℕ → ℕ → Bool
is_misnumbered l stage dropped index = misnumbered l stage dropped index (number_of l stage dropped (holder_at index))

abbrev pub are_numbered : Line → AsideStage → Option ℕ → Bool
are_numbered l stage dropped = not (any_below (is_misnumbered l stage dropped) 68)
