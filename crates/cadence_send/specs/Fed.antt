-- Input that arrives piece by piece: the texts that ended in a newline, and the text whose newline has not arrived yet.
use Rattle.std.specs.Prelude.{◌≡◌, ◌≢◌, ℕ, List, [], ◌∷◌, ◌++◌, All}
use Rattle.std.specs.List.{flat_map}
use Rattle.cadence_send.specs.Sent.{TakesTexts}
use Rattle.cadence_words.specs.declared.defaults.Defaults.{Defaults}

-- The text has no newline.
abbrev pub IsOneText : List ℕ → Type 0
IsOneText text = All (λ byte. byte ≢ 10) text

-- the texts, each with a newline after it
abbrev pub with_newlines : List (List ℕ) → List ℕ
with_newlines texts = flat_map (λ text. text ++ 10 ∷ []) texts

-- The bytes `before` waited, and then the bytes `bytes` arrived. All texts that end in a newline were taken, and the
-- bytes `after`, which follow the last newline, wait.
pub record Feeds {S Z : Type 0} (d : Defaults Z) (takes : S → S → List (List ℕ) → Type 0) (old new : S)
    (before bytes after : List ℕ) : Type 0 where
  pub texts : List (List ℕ)
  pub cut : before ++ bytes ≡ with_newlines texts ++ after
  pub each : All IsOneText texts
  pub rest : IsOneText after
  pub taken : TakesTexts d takes old new texts

-- The bytes `before` waited, and then the bytes `bytes` arrived. Only the first texts that end in a newline were taken.
pub record FeedsSome {S Z : Type 0} (d : Defaults Z) (takes : S → S → List (List ℕ) → Type 0) (old new : S)
    (before bytes : List ℕ) : Type 0 where
  pub texts : List (List ℕ)
  pub rest : List ℕ
  pub cut : before ++ bytes ≡ with_newlines texts ++ rest
  pub each : All IsOneText texts
  pub taken : TakesTexts d takes old new texts
