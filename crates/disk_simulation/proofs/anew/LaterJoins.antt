-- For `reports_are_honest_later`. What is done of a disk that was plugged in again.
use Rattle.std.proofs.Common.{◌≡◌, ℕ, ◌+◌, ◌≤◌, List, [], ◌∷◌, ◌++◌, length, length-append, sym, ap, subst, ◌∙◌, arith}
use Rattle.fis_view.specs.{Table.{Bits, SActive, field}, Seen.seen}
use Rattle.disk_model.specs.{Anew.IsLinkedOn, Ends.{AreEntered, EndsAgree, IsBits, IsRight}, Histories.{Happening, Plugged}}
use Rattle.disk_model.specs.{Later.{IsReadThere, TellsOfAll}, Ledger.{Ledger, Names, Written, ledger}}
use Rattle.disk_model.proofs.Door.{ends_agree_anew, later_is_linked, later_tells_of_all}
use Rattle.hba_laws.specs.History.{History, filled}
use Rattle.disk_simulation.specs.{Anew.IsNextRight, Answers.{ByRead, ByWrite, HasEnded}, Later.{NextIsRightLater, ReportsHonestlyLater, later_by}}
use Rattle.disk_simulation.specs.Same.{SlotCommand, Stand}
use Rattle.disk_simulation.proofs.{anew.AnewHonest.{IsOfBits, next_anew, of_bits}, events.AnswerLemmas.{StandsFirst, named_first, names_keep}}
use Rattle.disk_simulation.proofs.honest.HonestLemmas.{IsNamed, done_by, named_by, names_of, next_where}

pub next_later : NextIsRightLater
next_later plan sectors before disk given down up bytes size run linked careful =
    let tells : TellsOfAll before given = later_tells_of_all before disk given down (bytes ∷ up) linked careful in
    let next : IsNextRight (before ++ given) bytes =
    next_anew plan sectors (before ++ Plugged ∷ []) (before ++ disk) (before ++ given) down up bytes size run
    (later_is_linked before disk given down (bytes ∷ up) linked) tells.careful in
    record { right = tells.right (seen bytes) next.right; short = next.short }

ended_there : (before given : List Happening) (s : ℕ) (c : SlotCommand) (past : History) → TellsOfAll before given → HasEnded s c past (ledger given)
    → HasEnded s (later_by (length (ledger before).writes) c) past (ledger (before ++ given))
ended_there before given s c past tells (ByRead at r there of stands counted) =
    let far : IsReadThere before given r = tells.reads at r there in
    ByRead far.at far.read far.ended (record { command = far.command ∙ of.command; reads = of.reads; long = ap length far.bytes ∙ of.long })
    (subst (Stand (filled s past)) (sym far.bytes) stands)
    (subst (λ (ws : List Written). length (ledger before).writes + c.since ≤ length ws) (sym far.had)
    (let long : length ((ledger before).writes ++ r.before) ≡ length (ledger before).writes + length r.before =
    length-append (ledger before).writes r.before in omega (arith, long, counted)))
ended_there before given s c past tells (ByWrite at w there of stands counted) =
    ByWrite (length (ledger before).writes + at) w (tells.writes at w there) of stands (omega (arith, counted))

pub reports_later : ReportsHonestlyLater
reports_later plan sectors before disk given down up bytes size run linked careful n host new report commands past sound below plain framed from_n takes joined s t lt here queued set =
    let k : Ledger = ledger given in
    let tells : TellsOfAll before given = later_tells_of_all before disk given down (bytes ∷ up) linked careful in
    let on : IsLinkedOn (before ++ Plugged ∷ []) (before ++ disk) (before ++ given) down [] (bytes ∷ up) =
    later_is_linked before disk given down (bytes ∷ up) linked in
    let ends : EndsAgree sectors (before ++ disk) (before ++ given) down (bytes ∷ up) =
    ends_agree_anew plan sectors (before ++ Plugged ∷ []) (before ++ disk) (before ++ given) down [] (bytes ∷ up) size run on tells.careful in
    let right : IsRight (ledger given) (seen bytes) =
    tells.right (seen bytes) (next_where sectors (before ++ disk) (before ++ given) down up bytes ends) in
    let bits : IsOfBits bytes s past t =
    of_bits n host new bytes report commands past (ledger given) sound below plain framed from_n takes joined s t lt here queued set in
    let names : Names k.unanswered (field Bits SActive bytes) = names_of (ledger given) (seen bytes) bytes bits.is right in
    let named : IsNamed s (field Bits SActive bytes) past t = named_by s (field Bits SActive bytes) past t bits.done in
    let first : StandsFirst s k.unanswered = named_first s (field Bits SActive bytes) k.unanswered names named.bit in
    let entered : AreEntered (ledger (before ++ disk)) (ledger (before ++ given)) s =
    ends.entered (subst IsBits (sym bits.is) tt) s first.rest (tells.unanswered ∙ first.is) in
    let ended : HasEnded s (commands s) past (ledger given) =
    names_keep.own s (field Bits SActive bytes) (commands s) past (ledger given) names named.bit (joined.same.live s t here queued) in
    done_by sectors s (later_by (length (ledger before).writes) (commands s)) past t (ledger (before ++ disk)) (ledger (before ++ given)) (joined.same.tags s) named.filled_is ends.reads entered
    (ended_there before given s (commands s) past tells ended)
