-- The lists of seats, port by port.
use Rattle.std.proofs.Common.{◌≡◌, ◌≢◌, ◌==◌, ◌<◌, ℕ, zero, suc, List, [], ◌∷◌, ◌++◌, length, map, refl, sym, ap, ◌∙◌, subst, inl, inr, append-nil}
use Rattle.std.proofs.{Common.arith, Math.Seq.{map-set_same}, lemmas.{Bool.{cases_eq, eq-eqb, ne_eqb}, List.Elements.{All-tail}}}
use Rattle.std.specs.Prelude.{All, if◌then◌else◌, slice_index_or, slice_set}
use Rattle.pm_thread.specs.Runs.{PmView, PortSeats, SameLinks, ends_of, at_port}

module _ {A : Type 0} (part : PortSeats → List A) where
  -- a port that takes the place of one with the same part
  pub at_kept : (ports : List PortSeats) (i : ℕ) (q d : PortSeats) → part q ≡ part (slice_index_or ports i d) → (n : ℕ)
      → at_port part (slice_set ports i q) n ≡ at_port part ports n
  at_kept [] i q d e n = refl
  at_kept (p ∷ ports) zero q d e zero = e
  at_kept (p ∷ ports) zero q d e (suc n) = refl
  at_kept (p ∷ ports) (suc i) q d e zero = refl
  at_kept (p ∷ ports) (suc i) q d e (suc n) = at_kept ports i q d e n

  at_here : (ports : List PortSeats) (i : ℕ) (d : PortSeats) → i < length ports → at_port part ports i ≡ part (slice_index_or ports i d)
  at_here [] i d lt = absurd (omega (arith, lt))
  at_here (p ∷ ports) zero d lt = refl
  at_here (p ∷ ports) (suc i) d lt = at_here ports i d (omega (arith, lt))

  at_same : (ports : List PortSeats) (i : ℕ) (q : PortSeats) → i < length ports → at_port part (slice_set ports i q) i ≡ part q
  at_same [] i q lt = absurd (omega (arith, lt))
  at_same (p ∷ ports) zero q lt = refl
  at_same (p ∷ ports) (suc i) q lt = at_same ports i q (omega (arith, lt))

  at_else : (ports : List PortSeats) (i : ℕ) (q : PortSeats) (n : ℕ) → n ≢ i → at_port part (slice_set ports i q) n ≡ at_port part ports n
  at_else [] i q n other = refl
  at_else (p ∷ ports) zero q zero other = absurd (other refl)
  at_else (p ∷ ports) zero q (suc n) other = refl
  at_else (p ∷ ports) (suc i) q zero other = refl
  at_else (p ∷ ports) (suc i) q (suc n) other = at_else ports i q n (λ same. other (ap suc same))

  -- one with more of it
  pub at_more : (ports : List PortSeats) (i : ℕ) (q d : PortSeats) (xs : List A) → i < length ports → part q ≡ part (slice_index_or ports i d) ++ xs
      → (n : ℕ) → at_port part (slice_set ports i q) n ≡ at_port part ports n ++ (if i == n then xs else [])
  at_more ports i q d xs lt e n = elim (cases_eq n i) [
    | inl here ↦ subst (λ k. at_port part (slice_set ports i q) k ≡ at_port part ports k ++ (if i == k then xs else [])) (sym here)
        (at_same ports i q lt ∙ e ∙ ap (λ l. l ++ xs) (sym (at_here ports i d lt))
        ∙ ap (λ b. at_port part ports i ++ (if b then xs else [])) (sym (eq-eqb i i refl)))
    | inr away ↦ at_else ports i q n away ∙ sym (append-nil (at_port part ports n))
        ∙ ap (λ b. at_port part ports n ++ (if b then xs else [])) (sym (ne_eqb i n (λ same. away (sym same))))
  ]

  -- what holds for each holds for each after it
  pub each_at : (P : List A → Type 0) (ports : List PortSeats) (i : ℕ) (q : PortSeats) → P (part q) → ((n : ℕ) → P (at_port part ports n))
      → (n : ℕ) → P (at_port part (slice_set ports i q) n)
  each_at P [] i q is all n = all n
  each_at P (p ∷ ports) zero q is all zero = is
  each_at P (p ∷ ports) zero q is all (suc n) = all (suc n)
  each_at P (p ∷ ports) (suc i) q is all zero = all zero
  each_at P (p ∷ ports) (suc i) q is all (suc n) = each_at P ports i q is (λ k. all (suc k)) n

  -- none of it anywhere
  pub none_at : (P : PortSeats → Type 0) → ((p : PortSeats) → P p → part p ≡ []) → (ports : List PortSeats) → All P ports → (n : ℕ)
      → at_port part ports n ≡ []
  none_at P none [] all n = refl
  none_at P none (p ∷ ports) all zero = none p (all 0 p (omega arith))
  none_at P none (p ∷ ports) all (suc n) = none_at P none ports (All-tail P p ports all) n

-- the seats of port i are of the links that they were of
pub same_links : (old new : PmView) (i : ℕ) (q d : PortSeats) → new.ports ≡ slice_set old.ports i q
    → ends_of q ≡ ends_of (slice_index_or old.ports i d)
    → new.host ≡ old.host → new.commands ≡ old.commands → SameLinks old new
same_links old new i q d set same host commands = record {
  ports = ap (map ends_of) set ∙ map-set_same ends_of old.ports i q d same;
  host = ap (λ s. record { link = s.link; room = s.room }) host;
  commands = ap (λ s. record { link = s.link; room = s.room }) commands;
}
