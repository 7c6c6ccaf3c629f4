-- Cleaned copies of words, made one after the other.
use Rattle.std.proofs.Common.{◌≡◌, ℕ, ◌+◌, ◌<◌, Bor, take, map, ◌++◌, List, [], ◌∷◌, length, get_or, sym, ap, ap₂, ◌∙◌}
use Rattle.std.proofs.lemmas.List.{append_assoc, map-append}
use Rattle.cadence_words.proofs.WordByWord.{taken_more, texts}

module _ {X : Type 0} (f : List ℕ → List ℕ) (view : X → List ℕ) where
  -- If the first words were copied, and then the next one, then one more of the first words was copied.
  pub copied_more : (words : List (Bor (List ℕ))) (made new : List X) (one : X) (i : ℕ) (d : Bor (List ℕ)) → i < length words
      → new ≡ made ++ one ∷ [] → view one ≡ f (get_or words i d).now → map view made ≡ map f (take i (texts words))
      → map view new ≡ map f (take (i + 1) (texts words))
  copied_more words made new one i d inside pushed is was =
      ap (map view) pushed ∙ map-append view made (one ∷ []) ∙ ap₂ (λ a b. a ++ b ∷ []) was is
      ∙ sym (ap (map f) (taken_more words i d inside) ∙ map-append f (take i (texts words)) ((get_or words i d).now ∷ []))

  -- If all words but the left ones were copied, and then the first of these, then all but the others were.
  pub copied_next : (words left others : List (List ℕ)) (made new : List X) (one : X) (word : List ℕ) → left ≡ word ∷ others
      → new ≡ made ++ one ∷ [] → view one ≡ f word → map view made ++ map f left ≡ map f words
      → map view new ++ map f others ≡ map f words
  copied_next words left others made new one word cut pushed is was =
      ap (λ l. l ++ map f others) (ap (map view) pushed ∙ map-append view made (one ∷ []) ∙ ap (λ b. map view made ++ b ∷ []) is)
      ∙ append_assoc (map view made) (f word ∷ []) (map f others)
      ∙ sym (ap (λ l. map view made ++ map f l) cut) ∙ was
