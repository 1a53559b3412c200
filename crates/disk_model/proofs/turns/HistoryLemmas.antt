-- For the calls of a disk. What one more event adds to what was sent.
use Rattle.std.proofs.Common.{◌≡◌, ℕ, List, [], ◌∷◌, ◌++◌, refl, ap, sym, ◌∙◌, ◌+◌, ◌<◌, get_or, drop, length, append_assoc}
use Rattle.std.proofs.lemmas.List.{append-nil, drop_more}
use Rattle.disk_model.specs.Histories.{Happening, Received, Sent, Plugged, Loaded, Script, sent_in, GoesOn, SendsNext}
use Rattle.disk_model.specs.Scripts.{Reading, script_of, ScriptStandsFor, ScriptMaySend}

pub sent_in-append : (h e : List Happening) → sent_in (h ++ e) ≡ sent_in h ++ sent_in e
sent_in-append [] e = refl
sent_in-append (Received b ∷ h) e = sent_in-append h e
sent_in-append (Sent b ∷ h) e = ap (λ (xs : List (List ℕ)). b ∷ xs) (sent_in-append h e)
sent_in-append (Plugged ∷ h) e = sent_in-append h e
sent_in-append (Loaded b ∷ h) e = sent_in-append h e

-- an event that sends nothing
pub script_stays : (s : Reading) (e : Happening) → sent_in (e ∷ []) ≡ [] → GoesOn script_of ScriptStandsFor s e s
script_stays s e quiet = record {
  plan = refl;
  goes_on = λ h stands.
      let same : sent_in (h ++ e ∷ []) ++ s.left ≡ sent_in h ++ s.left =
      rw (sent_in-append, quiet, append-nil) in
      same ∙ stands;
}

-- the next frame of the script is sent
pub script_sends : (frames : List (List ℕ)) (n : ℕ) (old : Reading) (bytes : List ℕ)
    → record { frames = frames; left = drop n frames } ≡ old → n < length frames → bytes ≡ get_or frames n bytes
    → SendsNext script_of ScriptStandsFor ScriptMaySend old bytes (record { frames = frames; left = drop (n + 1) frames })
script_sends frames n old bytes was below read =
    let next : drop n frames ≡ bytes ∷ drop (n + 1) frames = drop_more frames n bytes below ∙ ap (λ (b : List ℕ). b ∷ drop (n + 1) frames) (sym read) in
    let left : old.left ≡ bytes ∷ drop (n + 1) frames = ap (λ (s : Reading). s.left) (sym was) ∙ next in
    let all : old.frames ≡ frames = ap (λ (s : Reading). s.frames) (sym was) in
    record {
      plan = ap Script (sym all);
      allowed = λ h stands. (drop (n + 1) frames, ap (λ (xs : List (List ℕ)). sent_in h ++ xs) (sym left) ∙ stands);
      goes_on = λ h stands.
          let step : sent_in (h ++ Sent bytes ∷ []) ++ drop (n + 1) frames ≡ sent_in h ++ old.left =
          rw (sent_in-append, append_assoc, left) in
          step ∙ stands ∙ all;
    }
