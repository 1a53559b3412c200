-- The order of what a device gives, and the connection and number that come next.
use Rattle.std.proofs.Common.{◌≡◌, ◌≢◌, ◌==◌, ◌<◌, ℕ, ◌+◌, false, List, [], ◌∷◌, ◌++◌, length, get_or, append-nil, length-append, refl, sym, ap, ◌∙◌}
use Rattle.std.proofs.{Common.{subst, inl, inr, arith}, lemmas.{Bool.{cases_eq, ne_eqb}, List.{get_or_append_left, Elements.{filter-append}}}}
use Rattle.std.proofs.Math.Seq.{get_or-append_seam}
use Rattle.std.specs.Prelude.{if◌then◌else◌}
use Rattle.fis_view.specs.Frames.{Stamped}
use Rattle.multiplier.specs.Orders.{of_connection}
use Rattle.link_items.specs.{Beginnings.device_starts, OrderLaws.IsAt}
use Rattle.link_items.proofs.Door.{device_counts, device_goes_on}
use Rattle.disk_thread.specs.Runs.{IsCounted, ArePast}

pub counted_none : (fises : List Stamped) → fises ≡ [] → IsCounted fises 0 0
counted_none [] e = record { order = device_starts; at = device_counts.starts 0 }
counted_none (f ∷ fises) e = absurd cc

-- the next connection begins at number 0
pub counted_comes : (fises : List Stamped) (conn number : ℕ) → IsCounted fises conn number → IsCounted fises (conn + 1) 0
counted_comes fises conn number h =
    record { order = h.order; at = device_counts.comes fises conn number (conn + 1) h.at (omega arith) }

-- one more FIS
pub counted_more : (fises : List Stamped) (conn number : ℕ) (f : Stamped) → IsCounted fises conn number → f.stamp.conn ≡ conn → f.stamp.number ≡ number
    → IsCounted (fises ++ f ∷ []) conn (number + 1)
counted_more fises conn number f h of_conn of_number =
    let here : IsAt fises f.stamp.conn f.stamp.number = rw (of_conn, of_number) h.at in
    let more : IsAt (fises ++ f ∷ []) f.stamp.conn (f.stamp.number + 1) = device_counts.goes_on fises f here in
    record {
      order = (device_goes_on fises f).1 (h.order, device_counts.next fises f here);
      at = subst (λ n. IsAt (fises ++ f ∷ []) conn (n + 1)) of_number (subst (λ c. IsAt (fises ++ f ∷ []) c (f.stamp.number + 1)) of_conn more);
    }

-- ---- the connections before

pub past_none : (past : List ℕ) (fises : List Stamped) → past ≡ [] → ArePast past 0 fises
past_none [] fises e = record { long = refl; each = λ c other lt. absurd (omega (arith, lt)) }
past_none (n ∷ past) fises e = absurd cc

-- the number of this connection joins those before
pub past_comes : (past : List ℕ) (fises : List Stamped) (conn number : ℕ) → IsCounted fises conn number → ArePast past conn fises
    → ArePast (past ++ number ∷ []) (conn + 1) fises
past_comes past fises conn number h p = record {
  long = let l = p.long in omega (arith, l, length-append past (number ∷ []));
  each = λ c other lt. elim (cases_eq c conn) [
    | inl is ↦
        ap (λ k. get_or (past ++ number ∷ []) k other) (is ∙ sym p.long) ∙ get_or-append_seam past number [] other
        ∙ h.at.next ∙ ap (λ k. length (of_connection k fises)) (sym is)
    | inr apart ↦
        let less : c < conn = omega (arith, lt, apart) in
        get_or_append_left past (number ∷ []) other c (let l = p.long in omega (arith, l, less)) ∙ p.each c other less
  ];
}

-- a FIS of this connection is not one of those before
pub past_more : (past : List ℕ) (fises : List Stamped) (conn : ℕ) (f : Stamped) → ArePast past conn fises → f.stamp.conn ≡ conn → ArePast past conn (fises ++ f ∷ [])
past_more past fises conn f p of_conn = record {
  long = p.long;
  each = λ c other lt.
      let apart : f.stamp.conn ≢ c = λ same. absurd (omega (arith, same, of_conn, lt)) in
      let test : (f.stamp.conn == c) ≡ false = ne_eqb f.stamp.conn c apart in
      p.each c other lt ∙ ap length (sym (filter-append (λ g. g.stamp.conn == c) fises (f ∷ [])
      ∙ ap (λ b. of_connection c fises ++ (if b then f ∷ [] else [])) test ∙ append-nil (of_connection c fises)));
}

-- no FIS is of a later connection
pub none_later : (fises : List Stamped) (conn number c : ℕ) → IsCounted fises conn number → conn < c → 0 ≡ length (of_connection c fises)
none_later fises conn number c h lt = (device_counts.comes fises conn number c h.at lt).next
