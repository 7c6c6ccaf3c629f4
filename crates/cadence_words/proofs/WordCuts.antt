-- The words of a text, cut off one after the other.
use Rattle.std.proofs.Common.{◌≡◌, ◌≢◌, ℕ, ◌<◌, List, [], ◌∷◌, ◌++◌, length, refl, ap, ◌∙◌, eqb, arith}
use Rattle.std.specs.Prelude.{All}
use Rattle.std.specs.List.{filter, slice_split}
use Rattle.std.proofs.lemmas.Bool.{ne_eqb}
use Rattle.std.proofs.lemmas.List.Splits.{slice_split_none, slice_split_at}
use Rattle.cadence_words.specs.Asked.{has_some, words_of}

cut_at_space : (text front others : List ℕ) → All (λ b. b ≢ 32) front → text ≡ front ++ 32 ∷ others
    → words_of text ≡ filter has_some (front ∷ slice_split (λ b. eqb b 32) others)
cut_at_space text front others plain is =
    ap words_of is ∙ ap (filter has_some) (slice_split_at (λ b. eqb b 32) front 32 others (λ k d inside. ne_eqb _ 32 (plain k d inside)) refl)

-- The text before the first space is the first word, if it is not empty.
pub word_first : (text front others : List ℕ) → All (λ b. b ≢ 32) front → text ≡ front ++ 32 ∷ others → 0 < length front
    → words_of text ≡ front ∷ words_of others
word_first text [] others plain is some = absurd (omega (arith, some))
word_first text (b ∷ front) others plain is some = cut_at_space text (b ∷ front) others plain is

pub word_later : (text front others : List ℕ) → All (λ b. b ≢ 32) front → text ≡ front ++ 32 ∷ others → length front ≡ 0
    → words_of text ≡ words_of others
word_later text [] others plain is none = cut_at_space text [] others plain is
word_later text (b ∷ front) others plain is none = absurd (omega (arith, none))

-- A text without spaces is one word, if it is not empty.
pub word_only : (text : List ℕ) → All (λ b. b ≢ 32) text → 0 < length text → words_of text ≡ text ∷ words_of []
word_only [] plain some = absurd (omega (arith, some))
word_only (b ∷ text) plain some = ap (filter has_some) (slice_split_none (λ b. eqb b 32) (b ∷ text) (λ k d inside. ne_eqb _ 32 (plain k d inside)))

pub word_none : (text : List ℕ) → length text ≡ 0 → words_of text ≡ []
word_none [] none = refl
word_none (b ∷ text) none = absurd (omega (arith, none))
