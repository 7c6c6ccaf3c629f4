-- Input that arrives piece by piece, and the lines that a packer takes of its texts.
use Rattle.std.proofs.Common.{◌≡◌, ◌≢◌, ℕ, ◌++◌, List, [], ◌∷◌, refl, sym, ap, ap₂, ◌∙◌, subst, eqb}
use Rattle.std.proofs.Common.{Option, Some, None, Result, Ok, Err}
use Rattle.std.specs.Prelude.{All, IfSome, OnErr}
use Rattle.std.specs.Io.KnownBytes.{Consumes}
use Rattle.std.specs.List.{AllByRecursion, AllZip}
use Rattle.std.proofs.lemmas.Bool.{ne_eqb}
use Rattle.std.proofs.lemmas.List.{append_assoc, append-nil}
use Rattle.std.proofs.lemmas.List.Concat.{flat_map-append}
use Rattle.std.proofs.lemmas.List.Elements.{All-append, All-nil, All-cons, recursion_from_All, filter_map-append}
use Rattle.std.proofs.lemmas.List.Splits.{slice_split_none, slice_split_at}
use Rattle.cadence_errors.specs.declared.SinkError.{SinkError}
use Rattle.cadence_flow.specs.Packer.{FlushesHeld, Packer, packer_state, whole_text}
use Rattle.cadence_flow.specs.Writer.{PacketHistory, WriterKind}
use Rattle.cadence_send.specs.Fed.{Feeds, FeedsSome, IsOneText, with_newlines}
use Rattle.cadence_send.specs.Sent.{AreLinesOf, AsksFor, SendsTexts, TakesFirst, TakesLines, TakesTexts, texts_of_input}
use Rattle.cadence_words.specs.declared.defaults.Defaults.{Defaults}

-- A text without a newline is one text.
one_text : (text : List ℕ) → IsOneText text → texts_of_input text ≡ text ∷ []
one_text text h = slice_split_none (λ b. eqb b 10) text (λ k d inside. ne_eqb _ 10 (h k d inside))

-- Texts with a newline after each are split at their newlines into the same texts.
pub texts_of-with_newlines : (texts : List (List ℕ)) (rest : List ℕ) → All IsOneText texts
    → texts_of_input (with_newlines texts ++ rest) ≡ texts ++ texts_of_input rest
texts_of-with_newlines texts rest h = by_text texts (recursion_from_All IsOneText texts h)
  where
    by_text : (ts : List (List ℕ)) → AllByRecursion IsOneText ts → texts_of_input (with_newlines ts ++ rest) ≡ ts ++ texts_of_input rest
    by_text [] h = refl
    by_text (t ∷ ts) (one, others) =
        ap texts_of_input (append_assoc (t ++ 10 ∷ []) (with_newlines ts) rest ∙ append_assoc t (10 ∷ []) (with_newlines ts ++ rest))
        ∙ slice_split_at (λ b. eqb b 10) t 10 (with_newlines ts ++ rest) (λ k d inside. ne_eqb _ 10 (one k d inside)) refl
        ∙ ap (λ ps. t ∷ ps) (by_text ts others)

zip_append : {A B : Type 0} (R : A → B → Type 0) (xs : List A) (ys : List B) (us : List A) (vs : List B) → AllZip R xs ys → AllZip R us vs
    → AllZip R (xs ++ us) (ys ++ vs)
zip_append R [] [] us vs h k = k
zip_append R [] (y ∷ ys) us vs h k = absurd h
zip_append R (x ∷ xs) [] us vs h k = absurd h
zip_append R (x ∷ xs) (y ∷ ys) us vs (h, hs) k = (h, zip_append R xs ys us vs hs k)

-- The lines of texts and then of more texts are the lines of all of them.
lines_more : {Z : Type 0} (d : Defaults Z) (texts more : List (List ℕ)) (lines others : List (List ℕ)) → AreLinesOf d texts lines
    → AreLinesOf d more others → AreLinesOf d (texts ++ more) (lines ++ others)
lines_more d texts more lines others (given, zip, are) (given', zip', are') = (
  given ++ given',
  zip_append (AsksFor d) texts given more given' zip zip',
  ap₂ (λ a b. a ++ b) are are'
      ∙ sym (filter_map-append (λ o. o) given given'),
)

module _ {W : Type 0} (kind : W → WriterKind) (history : W → PacketHistory) where
  -- A flush takes no lines.
  pub flush_takes : {A : Type 0} (p q : Packer W) (r : Result A SinkError) → FlushesHeld kind history p q r → TakesLines kind history p q []
  flush_takes p q r h = record {
    same_kind = h.same_kind;
    same_format = h.same_format;
    text = λ reports whole. h.flushes.text reports ∙ sym (append-nil (whole_text (packer_state history p)));
  }

module _ {S : Type 0} (takes : S → S → List (List ℕ) → Type 0) (none : (p : S) → takes p p [])
    (more : (p q r : S) (lines others : List (List ℕ)) → takes p q lines → takes q r others → takes p r (lines ++ others)) {Z : Type 0} (d : Defaults Z) where
  pub texts_none : (p : S) → TakesTexts d takes p p []
  texts_none p = record { lines = []; are = ([], tt, refl); took = none p }

  pub texts_more : (p q r : S) (texts others : List (List ℕ)) → TakesTexts d takes p q texts
      → TakesTexts d takes q r others → TakesTexts d takes p r (texts ++ others)
  texts_more p q r texts others h k = record {
    lines = h.lines ++ k.lines;
    are = lines_more d texts others h.lines k.lines h.are k.are;
    took = more p q r h.lines k.lines h.took k.took;
  }

  pub texts_kept : (p q r : S) (texts : List (List ℕ)) → TakesTexts d takes p q texts → takes q r []
      → TakesTexts d takes p r texts
  texts_kept p q r texts h kept = record {
    lines = h.lines;
    are = h.are;
    took = subst (takes p r) (append-nil h.lines) (more p q r h.lines [] h.took kept);
  }

  -- A text is taken if its metric's line is taken, or if it asks for no metric and no line is taken.
  pub text_taken : (p q : S) (text line : List ℕ) → AsksFor d text (Some line) → takes p q (line ∷ [])
      → TakesTexts d takes p q (text ∷ [])
  text_taken p q text line given takes = record { lines = line ∷ []; are = (Some line ∷ [], (given, tt), refl); took = takes }

  pub text_without : (p : S) (text : List ℕ) → AsksFor d text None → TakesTexts d takes p p (text ∷ [])
  text_without p text given = record { lines = []; are = (None ∷ [], (given, tt), refl); took = none p }

  -- Before the call the bytes `before` waited, and the call gets `bytes`. So far it took the texts that end in a
  -- newline, the bytes `waiting` wait for theirs, and the bytes `left` were not looked at.
  pub record Feeding (p q : S) (before bytes waiting left : List ℕ) : Type 0 where
    pub texts : List (List ℕ)
    pub cut : before ++ bytes ≡ with_newlines texts ++ (waiting ++ left)
    pub each : All IsOneText texts
    pub rest : IsOneText waiting
    pub taken : TakesTexts d takes p q texts

  pub feeding_none : (p : S) (before bytes : List ℕ) → IsOneText before → Feeding p p before bytes before bytes
  feeding_none p before bytes one = record { texts = []; cut = refl; each = All-nil IsOneText; rest = one; taken = texts_none p }

  -- If one more text ends and is taken, what was said of the texts before it is true of all of them.
  pub feeding_more : (p q r : S) (before bytes waiting left front others : List ℕ) → Feeding p q before bytes waiting left
      → left ≡ front ++ 10 ∷ others → IsOneText front → TakesTexts d takes q r ((waiting ++ front) ∷ [])
      → Feeding p r before bytes [] others
  feeding_more p q r before bytes waiting left front others h cut one more = record {
    texts = h.texts ++ (waiting ++ front) ∷ [];
    cut = h.cut
        ∙ ap (λ l. with_newlines h.texts ++ (waiting ++ l)) cut
        ∙ ap (λ l. with_newlines h.texts ++ l)
        (sym (append_assoc waiting front (10 ∷ others)) ∙ sym (append_assoc (waiting ++ front) (10 ∷ []) others))
        ∙ sym (append_assoc (with_newlines h.texts) ((waiting ++ front) ++ 10 ∷ []) others)
        ∙ ap (λ l. l ++ others) (ap (λ l. with_newlines h.texts ++ l) (sym (append-nil ((waiting ++ front) ++ 10 ∷ [])))
        ∙ sym (flat_map-append (λ text. text ++ 10 ∷ []) h.texts ((waiting ++ front) ∷ [])));
    each =
        All-append IsOneText h.texts ((waiting ++ front) ∷ []) h.each
        (All-cons IsOneText (waiting ++ front) [] (All-append (λ b. b ≢ 10) waiting front h.rest one) (All-nil IsOneText));
    rest = All-nil (λ b. b ≢ 10);
    taken = texts_more p q r h.texts ((waiting ++ front) ∷ []) h.taken more;
  }

  -- If bytes arrive and then more bytes, all of them together arrived.
  pub fed_more : (p q r : S) (first more waiting after : List ℕ) → Feeds d takes p q [] first waiting
      → Feeds d takes q r waiting more after → Feeds d takes p r [] (first ++ more) after
  fed_more p q r first more waiting after h k = record {
    texts = h.texts ++ k.texts;
    cut = ap (λ f. f ++ more) h.cut ∙ append_assoc (with_newlines h.texts) waiting more
        ∙ ap (λ l. with_newlines h.texts ++ l) k.cut
        ∙ sym (append_assoc (with_newlines h.texts) (with_newlines k.texts) after)
        ∙ ap (λ l. l ++ after) (sym (flat_map-append (λ text. text ++ 10 ∷ []) h.texts k.texts));
    each = All-append IsOneText h.texts k.texts h.each k.each;
    rest = k.rest;
    taken = texts_more p q r h.texts k.texts h.taken k.taken;
  }

  -- If a text can't be taken, the texts before it were.
  pub feeding_some : (p q r : S) (before bytes waiting left : List ℕ) → Feeding p q before bytes waiting left
      → takes q r [] → FeedsSome d takes p r before bytes
  feeding_some p q r before bytes waiting left h kept = record {
    texts = h.texts;
    rest = waiting ++ left;
    cut = h.cut;
    each = h.each;
    taken = texts_kept p q r h.texts h.taken kept;
  }

  pub fed_some : (p q r : S) (first waiting : List ℕ) → Feeds d takes p q [] first waiting → takes q r []
      → FeedsSome d takes p r [] first
  fed_some p q r first waiting h kept = record {
    texts = h.texts;
    rest = waiting;
    cut = h.cut;
    each = h.each;
    taken = texts_kept p q r h.texts h.taken kept;
  }

  pub fed_then_some : (p q r : S) (first more waiting : List ℕ) → Feeds d takes p q [] first waiting
      → FeedsSome d takes q r waiting more → FeedsSome d takes p r [] (first ++ more)
  fed_then_some p q r first more waiting h k = record {
    texts = h.texts ++ k.texts;
    rest = k.rest;
    cut = ap (λ f. f ++ more) h.cut ∙ append_assoc (with_newlines h.texts) waiting more
        ∙ ap (λ l. with_newlines h.texts ++ l) k.cut
        ∙ sym (append_assoc (with_newlines h.texts) (with_newlines k.texts) k.rest)
        ∙ ap (λ l. l ++ k.rest) (sym (flat_map-append (λ text. text ++ 10 ∷ []) h.texts k.texts));
    each = All-append IsOneText h.texts k.texts h.each k.each;
    taken = texts_more p q r h.texts k.texts h.taken k.taken;
  }

  -- If a run ends early, the first texts of the whole input were taken.
  pub first_taken : (p q : S) (known now : Option (List ℕ)) (got : List ℕ) → Consumes known now got
      → FeedsSome d takes p q [] got → IfSome known (λ text. TakesFirst d takes p q (texts_of_input text))
  first_taken p q None now got consumed h = tt
  first_taken p q (Some all) None got consumed h = absurd consumed
  first_taken p q (Some all) (Some left) got consumed h = record {
    front = h.texts;
    rest = texts_of_input (h.rest ++ left);
    cut = ap texts_of_input (consumed ∙ ap (λ t. t ++ left) h.cut ∙ append_assoc (with_newlines h.texts) h.rest left)
        ∙ texts_of-with_newlines h.texts (h.rest ++ left) h.each;
    taken = h.taken;
  }

  pub first_none : (p : S) (known : Option (List ℕ)) → IfSome known (λ text. TakesFirst d takes p p (texts_of_input text))
  first_none p None = tt
  first_none p (Some all) = record { front = []; rest = texts_of_input all; cut = refl; taken = texts_none p }

  pub fed_none : (p : S) → Feeds d takes p p [] [] []
  fed_none p = record { texts = []; cut = refl; each = All-nil IsOneText; rest = All-nil (λ b. b ≢ 10); taken = texts_none p }

  -- If bytes arrive and then the held text is sent, these bytes arrived.
  pub fed_flushed : (p q r : S) (first waiting : List ℕ) → Feeds d takes p q [] first waiting
      → takes q r [] → Feeds d takes p r [] first waiting
  fed_flushed p q r first waiting h flushed = record {
    texts = h.texts;
    cut = h.cut;
    each = h.each;
    rest = h.rest;
    taken = texts_kept p q r h.texts h.taken flushed;
  }

  -- At the end of the input, the last text is taken, although no newline ends it.
  pub fed_whole : (p q r : S) (input waiting : List ℕ) → Feeds d takes p q [] input waiting
      → TakesTexts d takes q r (waiting ∷ []) → TakesTexts d takes p r (texts_of_input input)
  fed_whole p q r input waiting h last =
      subst (TakesTexts d takes p r)
      (sym (ap texts_of_input h.cut ∙ texts_of-with_newlines h.texts waiting h.each ∙ ap (λ ts. h.texts ++ ts) (one_text waiting h.rest)))
      (texts_more p q r h.texts (waiting ∷ []) h.taken last)

pub on_err : {A E P : Type 0} (r : Result A E) → P → OnErr r P
on_err (Ok a) p = tt
on_err (Err e) p = p

pub consumes_none : (known : Option (List ℕ)) → Consumes known known []
consumes_none None = tt
consumes_none (Some xs) = refl

pub consumes_more : (old mid new : Option (List ℕ)) (got more : List ℕ) → Consumes old mid got → Consumes mid new more
    → Consumes old new (got ++ more)
consumes_more None mid new got more h k = tt
consumes_more (Some xs) None new got more h k = absurd h
consumes_more (Some xs) (Some ys) None got more h k = absurd k
consumes_more (Some xs) (Some ys) (Some zs) got more h k = h ∙ ap (λ rest. got ++ rest) k ∙ sym (append_assoc got more zs)

-- A fact about the bytes that were read is a fact about the bytes that the reader had left, if they are known.
pub of_known : (known : Option (List ℕ)) (got : List ℕ) (P : List ℕ → Type 0) → IfSome known (λ left. got ≡ left) → P got → IfSome known P
of_known None got P e h = tt
of_known (Some left) got P e h = subst P e h

-- If texts are taken and then what is held is sent, the lines of the texts are sent.
pub sent_all : {S Z : Type 0} (takes : S → S → List (List ℕ) → Type 0) (is_sent : S → Type 0)
    (more : (p q r : S) (lines others : List (List ℕ)) → takes p q lines → takes q r others → takes p r (lines ++ others))
    (d : Defaults Z) (known : Option (List ℕ)) (p q r : S)
    → IfSome known (λ text. TakesTexts d takes p q (texts_of_input text)) → takes q r [] → is_sent r
    → IfSome known (λ text. SendsTexts d takes is_sent p r (texts_of_input text))
sent_all takes is_sent more d None p q r taken flushed none = tt
sent_all takes is_sent more d (Some text) p q r taken flushed none = record {
  taken = record {
    lines = taken.lines;
    are = taken.are;
    took = subst (takes p r) (append-nil taken.lines) (more p q r taken.lines [] taken.took flushed);
  };
  none_held = none;
}

-- If the first texts were taken and then what is held is sent, the same texts were taken.
pub first_flushed : {S Z : Type 0} (takes : S → S → List (List ℕ) → Type 0) (none : (p : S) → takes p p [])
    (more : (p q r : S) (lines others : List (List ℕ)) → takes p q lines → takes q r others → takes p r (lines ++ others))
    (d : Defaults Z) (known : Option (List ℕ)) (p q r : S)
    → IfSome known (λ text. TakesFirst d takes p q (texts_of_input text)) → takes q r []
    → IfSome known (λ text. TakesFirst d takes p r (texts_of_input text))
first_flushed takes none more d None p q r h flushed = tt
first_flushed takes none more d (Some text) p q r h flushed =
    record { front = h.front; rest = h.rest; cut = h.cut; taken = texts_kept takes none more d p q r h.front h.taken flushed }

-- If all texts were taken, the first ones were.
pub first_of_all : {S Z : Type 0} (takes : S → S → List (List ℕ) → Type 0) (d : Defaults Z) (known : Option (List ℕ)) (p q : S)
    → IfSome known (λ text. TakesTexts d takes p q (texts_of_input text)) → IfSome known (λ text. TakesFirst d takes p q (texts_of_input text))
first_of_all takes d None p q h = tt
first_of_all takes d (Some text) p q h = record { front = texts_of_input text; rest = []; cut = sym (append-nil (texts_of_input text)); taken = h }
