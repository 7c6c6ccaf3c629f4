-- The tests of texts and tags are true if and only if the text has no separator or the tag is clear.
use Rattle.std.proofs.Common.{◌≡◌, ℕ, ◌<◌, ◌≤◌, ◌⊎◌, inl, inr, List, [], ◌∷◌}
use Rattle.std.proofs.Common.{Option, Some, None, Bool, true, false, refl, sym, ap, subst, length, get_or, nat_eq, arith}
use Rattle.std.specs.Prelude.{All, IfSome, IsTrue, ◌↔◌, ◌&&◌, ◌==◌, not}
use Rattle.std.specs.List.{list_all}
use Rattle.std.proofs.lemmas.Bool.{and_from, and_parts, cases_lt, eq-eqb, eqb-false, eqb-true, ne_eqb, not-true}
use Rattle.std.proofs.lemmas.List.{get_or_default}
use Rattle.std.proofs.lemmas.List.Elements.{All-cons, All-head, All-nil, All-tail}
use Rattle.cadence_text.specs.Metric.{Tag}
use Rattle.cadence_text.specs.OneReading.{EndsNoField, IsClearAfter, IsClearTag, IsFieldText, IsFreeAfterKey, IsFreeText, IsNoSeparator, IsNoTagEnd}
use Rattle.cadence_text.specs.FreeTexts.{ends_no_field, is_field_if_any, is_field_text, is_no_separator, is_free_text, is_free_if_any, is_no_tag_end, is_free_after_key, is_clear_after, is_clear_tag}

-- two tests are the same if each is true whenever the other one is
pub same_test : (a b : Bool) → (a ≡ true → b ≡ true) → (b ≡ true → a ≡ true) → a ≡ b
same_test true b f g = sym (f refl)
same_test false true f g = g refl
same_test false false f g = refl

module _ {X : Type 0} (p : X → Bool) (P : X → Type 0) where
  each_passes : ((x : X) → p x ≡ true → P x) → (xs : List X) → list_all p xs ≡ true → All P xs
  each_passes f [] h = All-nil P
  each_passes f (x ∷ xs) h =
      let (first, rest) = and_parts (p x) (list_all p xs) h in All-cons P x xs (f x first) (each_passes f xs rest)

  all_pass : ((x : X) → P x → p x ≡ true) → (xs : List X) → All P xs → list_all p xs ≡ true
  all_pass f [] h = refl
  all_pass f (x ∷ xs) h = and_from (p x) (list_all p xs) (f x (All-head P x xs h)) (all_pass f xs (All-tail P x xs h))

pub no_separator : (b : ℕ) → is_no_separator b ≡ true → IsNoSeparator b
unfolding is_no_separator
no_separator b h =
    let (colon, h1) = and_parts (not (b == 58)) (not (b == 44) && (not (b == 124) && not (b == 10))) h in
    let (comma, h2) = and_parts (not (b == 44)) (not (b == 124) && not (b == 10)) h1 in
    let (bar, newline) = and_parts (not (b == 124)) (not (b == 10)) h2 in (
      eqb-false b 58 (not-true (b == 58) colon),
      eqb-false b 44 (not-true (b == 44) comma),
      eqb-false b 124 (not-true (b == 124) bar),
      eqb-false b 10 (not-true (b == 10) newline),
    )

pub no_separator_from : (b : ℕ) → IsNoSeparator b → is_no_separator b ≡ true
unfolding is_no_separator
no_separator_from b (colon, comma, bar, newline) =
    and_from (not (b == 58)) (not (b == 44) && (not (b == 124) && not (b == 10))) (ap not (ne_eqb b 58 colon))
    (and_from (not (b == 44)) (not (b == 124) && not (b == 10)) (ap not (ne_eqb b 44 comma))
    (and_from (not (b == 124)) (not (b == 10)) (ap not (ne_eqb b 124 bar)) (ap not (ne_eqb b 10 newline))))

pub free_text : (text : List ℕ) → is_free_text text ≡ true → IsFreeText text
unfolding is_free_text
free_text text h = each_passes is_no_separator IsNoSeparator no_separator text h

pub free_text_from : (text : List ℕ) → IsFreeText text → is_free_text text ≡ true
unfolding is_free_text
free_text_from text h = all_pass is_no_separator IsNoSeparator no_separator_from text h

-- a test of the same bytes is the test of the text
pub tested_text : (r : Bool) (bytes text : List ℕ) → bytes ≡ text → (IsTrue r ↔ IsFreeText bytes) → r ≡ is_free_text text
tested_text r bytes text same test =
    same_test r (is_free_text text) (λ h. free_text_from text (subst IsFreeText same (test.0 h)))
    (λ h. test.1 (subst IsFreeText (sym same) (free_text text h)))

pub no_tag_end : (b : ℕ) → is_no_tag_end b ≡ true → IsNoTagEnd b
unfolding is_no_tag_end
no_tag_end b h =
    let (comma, h1) = and_parts (not (b == 44)) (not (b == 124) && not (b == 10)) h in
    let (bar, newline) = and_parts (not (b == 124)) (not (b == 10)) h1 in (
      eqb-false b 44 (not-true (b == 44) comma),
      eqb-false b 124 (not-true (b == 124) bar),
      eqb-false b 10 (not-true (b == 10) newline),
    )

pub no_tag_end_from : (b : ℕ) → IsNoTagEnd b → is_no_tag_end b ≡ true
unfolding is_no_tag_end
no_tag_end_from b (comma, bar, newline) =
    and_from (not (b == 44)) (not (b == 124) && not (b == 10)) (ap not (ne_eqb b 44 comma))
    (and_from (not (b == 124)) (not (b == 10)) (ap not (ne_eqb b 124 bar)) (ap not (ne_eqb b 10 newline)))

pub free_after_key : (text : List ℕ) → is_free_after_key text ≡ true → IsFreeAfterKey text
unfolding is_free_after_key
free_after_key text h = each_passes is_no_tag_end IsNoTagEnd no_tag_end text h

pub free_after_key_from : (text : List ℕ) → IsFreeAfterKey text → is_free_after_key text ≡ true
unfolding is_free_after_key
free_after_key_from text h = all_pass is_no_tag_end IsNoTagEnd no_tag_end_from text h

-- a test of the text that is true if and only if the text has no separator but colons
pub tested_after_key : (r : Bool) (text : List ℕ) → (IsTrue r ↔ IsFreeAfterKey text) → r ≡ is_free_after_key text
tested_after_key r text test =
    same_test r (is_free_after_key text) (λ h. free_after_key_from text (test.0 h)) (λ h. test.1 (free_after_key text h))

-- Each byte of a text is of a kind if each byte before an index is and the index is the text's length. Otherwise the
-- byte at the index isn't.
module _ (P : ℕ → Type 0) (text : List ℕ) (at : ℕ) (bound : at ≤ length text) where
  at_end : ((at < length text) ⊎ (length text ≤ at)) → (at < length text → P (get_or text at 0) → ⊥) → All P text → at ≡ length text
  at_end (inl below) stops free = absurd (stops below (free at 0 below))
  at_end (inr over) stops free = omega arith

  pub free_at_end : ((k : ℕ) → k < at → P (get_or text k 0)) → (at < length text → P (get_or text at 0) → ⊥)
      → IsTrue (nat_eq at (length text)) ↔ All P text
  free_at_end front stops = (
    λ ends k d below. subst P (get_or_default text k 0 d below) (front k (omega (arith, eqb-true at (length text) ends))),
    λ free. eq-eqb at (length text) (at_end (cases_lt at (length text)) stops free),
  )

pub free_if_any : (text : Option (List ℕ)) → is_free_if_any text ≡ true → IfSome text IsFreeText
free_if_any None h = tt
free_if_any (Some text) h = free_text text h

pub free_if_any_from : (text : Option (List ℕ)) → IfSome text IsFreeText → is_free_if_any text ≡ true
free_if_any_from None h = refl
free_if_any_from (Some text) h = free_text_from text h

ends_no_field-from : (b : ℕ) → EndsNoField b → ends_no_field b ≡ true
unfolding ends_no_field
ends_no_field-from b (bar, newline) = and_from (not (b == 124)) (not (b == 10)) (ap not (ne_eqb b 124 bar)) (ap not (ne_eqb b 10 newline))

ends_no_field-is : (b : ℕ) → ends_no_field b ≡ true → EndsNoField b
unfolding ends_no_field
ends_no_field-is b h =
    let (bar, newline) = and_parts (not (b == 124)) (not (b == 10)) h in
    (eqb-false b 124 (not-true (b == 124) bar), eqb-false b 10 (not-true (b == 10) newline))

field_text : (text : List ℕ) → is_field_text text ≡ true → IsFieldText text
unfolding is_field_text
field_text text h = each_passes ends_no_field EndsNoField ends_no_field-is text h

field_text_from : (text : List ℕ) → IsFieldText text → is_field_text text ≡ true
unfolding is_field_text
field_text_from text h = all_pass ends_no_field EndsNoField ends_no_field-from text h

-- a test of the text that is true if and only if the text can be that of a field
pub tested_field : (r : Bool) (text : List ℕ) → (IsTrue r ↔ IsFieldText text) → r ≡ is_field_text text
tested_field r text test =
    same_test r (is_field_text text) (λ h. field_text_from text (test.0 h)) (λ h. test.1 (field_text text h))

pub field_if_any : (text : Option (List ℕ)) → is_field_if_any text ≡ true → IfSome text IsFieldText
field_if_any None h = tt
field_if_any (Some text) h = field_text text h

pub field_if_any_from : (text : Option (List ℕ)) → IfSome text IsFieldText → is_field_if_any text ≡ true
field_if_any_from None h = refl
field_if_any_from (Some text) h = field_text_from text h

clear_after : (key : Option (List ℕ)) (text : List ℕ) → is_clear_after key text ≡ true → IsClearAfter key text
clear_after None text h = free_text text h
clear_after (Some key) text h = free_after_key text h

clear_after_from : (key : Option (List ℕ)) (text : List ℕ) → IsClearAfter key text → is_clear_after key text ≡ true
clear_after_from None text h = free_text_from text h
clear_after_from (Some key) text h = free_after_key_from text h

pub clear_tag : (tag : Tag) → is_clear_tag tag ≡ true → IsClearTag tag
clear_tag tag h =
    let (key, text) = and_parts (is_free_if_any tag.key) (is_clear_after tag.key tag.text) h in
    record { key = free_if_any tag.key key; text = clear_after tag.key tag.text text }

pub clear_tag_from : (tag : Tag) → IsClearTag tag → is_clear_tag tag ≡ true
clear_tag_from tag h =
    and_from (is_free_if_any tag.key) (is_clear_after tag.key tag.text) (free_if_any_from tag.key h.key)
    (clear_after_from tag.key tag.text h.text)

pub clear_tags : (tags : List Tag) → list_all is_clear_tag tags ≡ true → All IsClearTag tags
clear_tags tags h = each_passes is_clear_tag IsClearTag clear_tag tags h

pub clear_tags_from : (tags : List Tag) → All IsClearTag tags → list_all is_clear_tag tags ≡ true
clear_tags_from tags h = all_pass is_clear_tag IsClearTag clear_tag_from tags h
