-- What words ask for is what the first of them says.
use Rattle.std.proofs.Common.{◌≡◌, ◌⊎◌, ℕ, List, [], ◌∷◌, ap, arith, get_or, inl, inr}
use Rattle.std.specs.Prelude.{codes}
use Rattle.cadence_text.specs.declared.line.MetricType.{MetricType}
use Rattle.cadence_text.specs.declared.line.MetricType.TheVariants.{Counter, Timer, Gauge, Meter, Histogram, Set, Distribution}
use Rattle.cadence_words.specs.Asked.{NamesKind}
use Rattle.cadence_words.specs.Commands.{IsLineOfCommand, first_word}
use Rattle.cadence_words.specs.Events.{IsLineOfCheck, IsLineOfEvent}
use Rattle.cadence_words.specs.Lines.{IsLineOfWords}
use Rattle.cadence_words.specs.declared.defaults.Defaults.{Defaults}
use Rattle.cadence_words.specs.declared.events.Fields.{Fields}

-- the second byte of a word
abbrev second : List ℕ → ℕ
second word = get_or word 1 0

-- No kind of metric has a name whose second byte is that of `check` (104) or that of `event` (118).
other_byte : (kind : MetricType) (word : List ℕ) → NamesKind word kind → (second word ≡ 104) ⊎ (second word ≡ 118) → ⊥
other_byte Counter word (inl is) h = let b : second word ≡ 0 = ap second is in elim h [ inl a ↦ omega (arith, a, b) | inr a ↦ omega (arith, a, b) ]
other_byte Counter word (inr is) h = let b : second word ≡ 111 = ap second is in elim h [ inl a ↦ omega (arith, a, b) | inr a ↦ omega (arith, a, b) ]
other_byte Timer word (inl is) h = let b : second word ≡ 115 = ap second is in elim h [ inl a ↦ omega (arith, a, b) | inr a ↦ omega (arith, a, b) ]
other_byte Timer word (inr is) h = let b : second word ≡ 105 = ap second is in elim h [ inl a ↦ omega (arith, a, b) | inr a ↦ omega (arith, a, b) ]
other_byte Gauge word (inl is) h = let b : second word ≡ 0 = ap second is in elim h [ inl a ↦ omega (arith, a, b) | inr a ↦ omega (arith, a, b) ]
other_byte Gauge word (inr is) h = let b : second word ≡ 97 = ap second is in elim h [ inl a ↦ omega (arith, a, b) | inr a ↦ omega (arith, a, b) ]
other_byte Meter word (inl is) h = let b : second word ≡ 0 = ap second is in elim h [ inl a ↦ omega (arith, a, b) | inr a ↦ omega (arith, a, b) ]
other_byte Meter word (inr is) h = let b : second word ≡ 101 = ap second is in elim h [ inl a ↦ omega (arith, a, b) | inr a ↦ omega (arith, a, b) ]
other_byte Histogram word (inl is) h = let b : second word ≡ 0 = ap second is in elim h [ inl a ↦ omega (arith, a, b) | inr a ↦ omega (arith, a, b) ]
other_byte Histogram word (inr is) h = let b : second word ≡ 105 = ap second is in elim h [ inl a ↦ omega (arith, a, b) | inr a ↦ omega (arith, a, b) ]
other_byte Set word (inl is) h = let b : second word ≡ 0 = ap second is in elim h [ inl a ↦ omega (arith, a, b) | inr a ↦ omega (arith, a, b) ]
other_byte Set word (inr is) h = let b : second word ≡ 101 = ap second is in elim h [ inl a ↦ omega (arith, a, b) | inr a ↦ omega (arith, a, b) ]
other_byte Distribution word (inl is) h = let b : second word ≡ 0 = ap second is in elim h [ inl a ↦ omega (arith, a, b) | inr a ↦ omega (arith, a, b) ]
other_byte Distribution word (inr is) h = let b : second word ≡ 105 = ap second is in elim h [ inl a ↦ omega (arith, a, b) | inr a ↦ omega (arith, a, b) ]

module _ {Z : Type 0} (d : Defaults Z) (f : Fields) where
  -- Words that ask for an event, for a service check or for a metric begin with a word for that.
  event_first : (words : List (List ℕ)) (line : List ℕ) → IsLineOfEvent d f words line → first_word words ≡ codes "event"
  event_first [] line h = absurd h
  event_first (k ∷ []) line h = absurd h
  event_first (k ∷ a ∷ []) line h = absurd h
  event_first (k ∷ a ∷ b ∷ words) line h = h.0

  check_first : (words : List (List ℕ)) (line : List ℕ) → IsLineOfCheck d f words line → first_word words ≡ codes "check"
  check_first [] line h = absurd h
  check_first (k ∷ []) line h = absurd h
  check_first (k ∷ a ∷ []) line h = absurd h
  check_first (k ∷ a ∷ b ∷ words) line h = h.0

  metric_first : (words : List (List ℕ)) (line : List ℕ) → IsLineOfWords d words line → (kind : MetricType) × NamesKind (first_word words) kind
  metric_first [] line h = absurd h
  metric_first (k ∷ []) line h = absurd h
  metric_first (k ∷ a ∷ []) line h = absurd h
  metric_first (k ∷ a ∷ b ∷ words) line (h, are, text) = (h.0, are.named)

  -- So words with one of these first words ask for nothing else.
  pub event_only : (words : List (List ℕ)) → first_word words ≡ codes "event" → (line : List ℕ) → IsLineOfCommand d f words line
      → IsLineOfEvent d f words line
  event_only words is line (inl event) = event
  event_only words is line (inr (inl check)) =
      let a : second (first_word words) ≡ 118 = ap second is in
      let b : second (first_word words) ≡ 104 = ap second (check_first words line check) in
      absurd (omega (arith, a, b))
  event_only words is line (inr (inr metric)) =
      let (kind, named) = metric_first words line metric in
      absurd (other_byte kind (first_word words) named (inr (ap second is)))

  pub check_only : (words : List (List ℕ)) → first_word words ≡ codes "check" → (line : List ℕ) → IsLineOfCommand d f words line
      → IsLineOfCheck d f words line
  check_only words is line (inl event) =
      let a : second (first_word words) ≡ 104 = ap second is in
      let b : second (first_word words) ≡ 118 = ap second (event_first words line event) in
      absurd (omega (arith, a, b))
  check_only words is line (inr (inl check)) = check
  check_only words is line (inr (inr metric)) =
      let (kind, named) = metric_first words line metric in
      absurd (other_byte kind (first_word words) named (inl (ap second is)))

  pub metric_only : (words : List (List ℕ)) → (first_word words ≡ codes "event" → ⊥) → (first_word words ≡ codes "check" → ⊥) → (line : List ℕ)
      → IsLineOfCommand d f words line → IsLineOfWords d words line
  metric_only words no_event no_check line (inl event) = absurd (no_event (event_first words line event))
  metric_only words no_event no_check line (inr (inl check)) = absurd (no_check (check_first words line check))
  metric_only words no_event no_check line (inr (inr metric)) = metric
