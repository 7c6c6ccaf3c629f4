-- How far a text has been sent, step by step.
use Rattle.std.proofs.Common.{◌≡◌, ℕ, ◌+◌, ◌-◌, ◌<◌, ◌≤◌, true, [], ◌∷◌, ◌++◌, List, length, take, drop, ap, ◌∙◌, sym, arith, length-drop}
use Rattle.std.proofs.Common.{append_assoc, take_all, refl, zero, suc}
use Rattle.std.proofs.lemmas.List.Elements.{All-push}
use lib.Seq.{take-add}
use Rattle.cadence_flow.specs.Writer.{PacketHistory, WriterKind, RefusedNothing, Sends, after_packet}
use Rattle.cadence_flow.proofs.Histories.{concat-push}

-- Since the history `old`, the writer took the first `sent` bytes of the text xs.
pub record SentSoFar (kind : WriterKind) (old now : PacketHistory) (xs : List ℕ) (sent : ℕ) : Type 0 where
  pub bound : sent ≤ length xs
  pub untouched : sent ≡ 0 → now ≡ old
  pub none_refused : RefusedNothing old now
  pub sends : kind.reports ≡ true → Sends old now (take sent xs)
  pub whole : kind.takes_whole ≡ true → 0 < sent → sent ≡ length xs
  pub one : kind.reports ≡ true → kind.takes_whole ≡ true → 0 < sent → now.packets ≡ old.packets ++ xs ∷ []

-- The slice of the text after its first `sent` bytes is the rest of it.
pub rest_is : (xs : List ℕ) (sent : ℕ) → take (length xs - sent) (drop sent xs) ≡ drop sent xs
rest_is xs sent = take_all (length xs - sent) (drop sent xs) (omega (arith, length-drop sent xs))

-- If the first `sent` bytes of a text are sent, and then a packet of at least one of its next bytes, the bytes up to
-- the end of that packet are sent.
Sends-more : (old mid new : PacketHistory) (xs : List ℕ) (sent n : ℕ) → Sends old mid (take sent xs) → 0 < length (take n (drop sent xs))
    → new ≡ after_packet mid (take n (drop sent xs)) → Sends old new (take (sent + n) xs)
Sends-more old mid new xs sent n s some e =
    record {
      more = s.more ++ take n (drop sent xs) ∷ [];
      packets = ap (λ (h : PacketHistory). h.packets) e ∙ ap (λ (ps : List (List ℕ)). ps ++ take n (drop sent xs) ∷ []) s.packets
          ∙ append_assoc old.packets s.more (take n (drop sent xs) ∷ []);
      joined = concat-push s.more (take n (drop sent xs)) ∙ ap (λ (l : List ℕ). l ++ take n (drop sent xs)) s.joined ∙ sym (take-add sent n xs);
      none_empty = All-push (λ (p : List ℕ). 0 < length p) s.more (take n (drop sent xs)) s.none_empty some;
    }

-- If nothing was sent before and the packet was the whole text, the text is the one new packet.
first_only : (old mid new : PacketHistory) (xs : List ℕ) (sent n : ℕ) → mid ≡ old → sent ≡ 0 → n ≡ length xs
    → new ≡ after_packet mid (take n (drop sent xs)) → new.packets ≡ old.packets ++ xs ∷ []
first_only old mid new xs sent n same none all e =
    ap (λ (h : PacketHistory). h.packets) e ∙ ap (λ (h : PacketHistory). h.packets ++ take n (drop sent xs) ∷ []) same
    ∙ ap (λ (k : ℕ). old.packets ++ take n (drop k xs) ∷ []) none
    ∙ ap (λ (l : List ℕ). old.packets ++ l ∷ []) (take_all n xs (omega arith))

-- If the text is taken whole or not at all, and not whole, nothing was sent.
none_sent : (sent n : ℕ) → (0 < sent → sent ≡ n) → sent < n → sent ≡ 0
none_sent zero n h l = refl
none_sent (suc k) n h l = absurd (omega (arith, h (omega arith)))

-- At least one byte of a text that isn't empty is taken.
some_taken : (n : ℕ) (xs : List ℕ) → 0 < n → n ≤ length xs → 0 < length (take n xs)
some_taken zero xs p q = absurd (omega arith)
some_taken (suc n) [] p q = absurd (omega arith)
some_taken (suc n) (x ∷ xs) p q = omega arith

module _ (kind : WriterKind) (old mid new : PacketHistory) (xs : List ℕ) (sent n : ℕ) where
  -- What is true of the first `sent` bytes stays true after one more packet of the text was taken, in part or whole.
  pub SentSoFar-more : SentSoFar kind old mid xs sent → sent < length xs → 0 < n → n ≤ length (drop sent xs)
      → (kind.takes_whole ≡ true → n ≡ length (drop sent xs)) → (kind.reports ≡ true → new ≡ after_packet mid (take n (drop sent xs)))
      → RefusedNothing mid new → SentSoFar kind old new xs (sent + n)
  SentSoFar-more before more some count whole taken kept =
      let rest = length-drop sent xs in
      record {
        bound = omega arith;
        untouched = λ e. absurd (omega arith);
        none_refused = (kept.0 ∙ before.none_refused.0, kept.1 ∙ before.none_refused.1);
        sends = λ t. Sends-more old mid new xs sent n (before.sends t) (some_taken n (drop sent xs) some count) (taken t);
        whole = λ w p. omega (arith, whole w);
        one = λ t w p.
            let all = whole w in
            let none = none_sent sent (length xs) (before.whole w) more in
            first_only old mid new xs sent n (before.untouched none) none (omega arith) (taken t);
      }
