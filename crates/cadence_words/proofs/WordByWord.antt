-- Words that are read one after the other.
use Rattle.std.proofs.Common.{◌≡◌, ◌≢◌, ℕ, zero, suc, ◌+◌, ◌<◌, ◌≤◌, ◌-◌, ◌⊎◌, Bor, drop, map, Result, Ok, Err, ◌++◌, List, [], ◌∷◌, length}
use Rattle.std.proofs.Common.{Bool, false, take, get_or, refl, sym, ap, ap₂, ◌∙◌, subst, arith, Option, Some, None, inl, inr, eqb}
use Rattle.std.specs.Prelude.{All, IfSome, if◌then◌else◌}
use Rattle.std.specs.Int.{is_negative}
use Rattle.std.specs.List.{AllZip, fold, slice_split}
use Rattle.std.specs.Str.{IsUtf8}
use Rattle.std.proofs.lemmas.Bool.{ne_eqb}
use Rattle.std.proofs.lemmas.List.{append_assoc, append-nil, get_or-map, length-drop, length-map, take_all, take_more}
use Rattle.std.proofs.lemmas.List.Elements.{recursion_from_All}
use Rattle.std.proofs.lemmas.List.Splits.{slice_split_none}
use Rattle.std.proofs.lemmas.List.Sums.{fold-append}
use Rattle.std.proofs.lemmas.Slice.Zip.{all_zipped_more, AllZip-long}
use Rattle.cadence_words.specs.Asked.{IsSaidOf, IsValueOf, SaysOf, is_level_word, leveled, valued}
use Rattle.cadence_words.specs.Asked.{AddsTags, AreHead, IsNumberWord, IsPlainWord, IsTagWord, IsValueWord, AllowsSeveral, Said, SaysLevel, words_of}
use Rattle.cadence_words.specs.Levels.{level_text, number_line, zero_first}
use Rattle.cadence_words.specs.Duration.{IsDurationWord}
use Rattle.cadence_value.specs.Finds.{Finds}
use Rattle.cadence_words.specs.Finds.{FailsAsWord, FindsOrFails}
use Rattle.cadence_errors.specs.declared.input_error.InputError.{InputError}
use Rattle.cadence_words.specs.declared.word_error.Part.{Part}
use Rattle.cadence_errors.specs.declared.input_error.InputError.TheVariants.{Unusable, OutOfMemory}
use Rattle.cadence_words.specs.Lines.{IsLineOfGiven, IsLineOfText, IsLineOfWords, IsTextOf, asked_metric, said_text, with_rate_and_time}
use Rattle.cadence_text.specs.Draft.{Draft, draft_line, draft_of, draft_with, has_text, lead, with_tag_text}
use Rattle.cadence_text.specs.Line.{line_with}
use Rattle.cadence_text.proofs.writing.DraftText.{line_of_draft_with, tagged_draft}
use Rattle.cadence_words.specs.declared.defaults.Defaults.{Defaults}
use Rattle.cadence_settings.specs.Call.{metric_for, metric_of_call, plain_call}
use Rattle.cadence_settings.specs.Settings.{Settings}
use Rattle.cadence_text.proofs.grammar.LineText.{key_text-keyed, keyed_text, plain_lacks_colon}
use Rattle.cadence_text.specs.declared.line.MetricType.{MetricType}
use Rattle.cadence_text.specs.Metric.{Metric, Tag, with_tag}
use Rattle.cadence_text.specs.OneReading.{IsClearAfter, IsFreeAfterKey, IsFreeText}
use Rattle.cadence_value.proofs.lists.SplitTexts.{Lacks, cut_at, lacks_no}
use Rattle.cadence_value.specs.Number.{Number, natural, numbers_text}

-- the texts of borrowed words
abbrev pub texts : List (Bor (List ℕ)) → List (List ℕ)
texts words = map (λ w. w.now) words

-- If the words and the values are related one by one, then each word is related to a value.
pub word_at : {B : Type 0} (R : List ℕ → B → Type 0) (words : List (Bor (List ℕ))) (ys : List B) (i : ℕ) (d : Bor (List ℕ))
    → i < length words → AllZip R (texts words) ys → (y : B) × R (get_or words i d).now y
word_at R [] ys i d inside h = absurd (omega (arith, inside))
word_at R (w ∷ words) [] i d inside h = absurd h
word_at R (w ∷ words) (y ∷ ys) zero d inside h = (y, h.0)
word_at R (w ∷ words) (y ∷ ys) (suc i) d inside h = word_at R words ys i d (omega (arith, inside)) h.1

-- One more of the first words is the next one.
pub taken_more : (words : List (Bor (List ℕ))) (i : ℕ) (d : Bor (List ℕ)) → i < length words
    → take (i + 1) (texts words) ≡ take i (texts words) ++ (get_or words i d).now ∷ []
taken_more words i d inside =
    let long : i < length (texts words) = omega (arith, inside, length-map words (λ (w : Bor (List ℕ)). w.now)) in
    let is : get_or (texts words) i (get_or words i d).now ≡ (get_or words i d).now =
    get_or-map (λ (w : Bor (List ℕ)). w.now) words i d (get_or words i d).now inside in
    take_more (texts words) i (get_or words i d).now long ∙ ap (λ z. take i (texts words) ++ z ∷ []) is

-- One more word is related to one more value.
pub word_more : {B : Type 0} (R : List ℕ → B → Type 0) (words : List (Bor (List ℕ))) (ys : List B) (i : ℕ) (d : Bor (List ℕ)) (y : B)
    → i < length words → AllZip R (take i (texts words)) ys → R (get_or words i d).now y
    → AllZip R (take (i + 1) (texts words)) (ys ++ y ∷ [])
word_more R words ys i d y inside h one =
    subst (λ zs. AllZip R zs (ys ++ y ∷ [])) (sym (taken_more words i d inside))
    (all_zipped_more R (take i (texts words)) ys (get_or words i d).now y h one)

-- the words after the first three, as the slice pattern borrows them
abbrev pub rest_of : List (Bor (List ℕ)) → List (Bor (List ℕ))
rest_of words = take (length words - 3) (drop 3 words)

rest_is : (words : List (Bor (List ℕ))) → rest_of words ≡ drop 3 words
rest_is words = take_all (length words - 3) (drop 3 words) (omega (arith, length-drop 3 words))

-- If there are at least three words, then they are three words and the others.
pub three_words : (words : List (Bor (List ℕ))) (k n v : Bor (List ℕ)) → 3 ≤ length words
    → texts words ≡ (get_or words 0 k).now ∷ (get_or words 1 n).now ∷ (get_or words 2 v).now ∷ texts (rest_of words)
three_words [] k n v long = absurd (omega (arith, long))
three_words (w1 ∷ []) k n v long = absurd (omega (arith, long))
three_words (w1 ∷ w2 ∷ []) k n v long = absurd (omega (arith, long))
three_words (w1 ∷ w2 ∷ w3 ∷ ws) k n v long = ap (λ others. w1.now ∷ w2.now ∷ w3.now ∷ texts others) (sym (rest_is (w1 ∷ w2 ∷ w3 ∷ ws)))

-- If each value with the property has a part, and there is no such part, then no value has the property.
pub hands_on : {C X Y W : Type 0} (Has : X → Type 0) (view : C → X) (HasPart : Y → Type 0) (r : Result C (InputError W)) (error : InputError W)
    → r ≡ Err error → ((x : X) → Has x → (y : Y) × HasPart y) → FailsAsWord HasPart error → FindsOrFails Has view r
hands_on Has view HasPart r (Unusable why) is from none = rw is (λ x h. let p = from x h in none p.0 p.1)
hands_on Has view HasPart r OutOfMemory is from none = rw is tt

-- The same of the error alone.
pub fails_on : {X Y W : Type 0} (Has : X → Type 0) (HasPart : Y → Type 0) (error : InputError W)
    → ((x : X) → Has x → (y : Y) × HasPart y) → FailsAsWord HasPart error → FailsAsWord Has error
fails_on Has HasPart (Unusable why) from none = λ x h. let p = from x h in none p.0 p.1
fails_on Has HasPart OutOfMemory from none = tt

-- A word without a comma is one item.
one_item : (word : List ℕ) → All (λ b. b ≢ 44) word → slice_split (λ b. eqb b 44) word ≡ word ∷ []
one_item word h = slice_split_none (λ b. eqb b 44) word (λ k d inside. ne_eqb _ 44 (h k d inside))

pub single_found : (kind : MetricType) (word : List ℕ) (n : Number) → All (λ b. b ≢ 44) word → IsNumberWord kind word n
    → IsValueWord kind word (n ∷ [])
single_found kind word n plain h =
    record { each = subst (λ ws. AllZip (IsNumberWord kind) ws (n ∷ [])) (sym (one_item word plain)) (h, tt); few = inr refl }

first_of : {A B : Type 0} (R : A → B → Type 0) (x : A) (ys : List B) → AllZip R (x ∷ []) ys → (y : B) × R x y
first_of R x [] h = absurd h
first_of R x (y ∷ ys) h = (y, h.0)

pub single_none : (kind : MetricType) (word : List ℕ) (ns : List Number) → All (λ b. b ≢ 44) word
    → ((n : Number) → IsNumberWord kind word n → ⊥) → IsValueWord kind word ns → ⊥
single_none kind word ns plain none h =
    let (n, one) = first_of (IsNumberWord kind) word ns (subst (λ ws. AllZip (IsNumberWord kind) ws ns) (one_item word plain) h.each) in
    none n one

-- Items that say numbers are a value, if there is one item or the kind allows several.
pub items_found : (kind : MetricType) (word : List ℕ) (words : List (Bor (List ℕ))) (ns : List Number)
    → texts words ≡ slice_split (λ b. eqb b 44) word → AllZip (IsNumberWord kind) (texts words) ns → AllowsSeveral kind ⊎ (length words ≡ 1)
    → IsValueWord kind word ns
items_found kind word words ns is h few = record {
  each = subst (λ ws. AllZip (IsNumberWord kind) ws ns) is h;
  few = elim few [
    | inl packs ↦ inl packs
    | inr one ↦ inr (AllZip-long (IsNumberWord kind) (texts words) ns h
        ∙ length-map words (λ (w : Bor (List ℕ)). w.now) ∙ one)
  ];
}

-- A word that says no number may still say a duration.
pub neither : (kind : MetricType) (word : List ℕ) (r : Option Number) → ((n : Number) → IsPlainWord kind word n → ⊥)
    → Finds (IsDurationWord kind word) r → Finds (IsNumberWord kind word) r
neither kind word (Some n) none h = inr h
neither kind word None none h = λ n is. elim is [ inl plain ↦ none n plain | inr span ↦ h n span ]

-- Several items are no value of a kind that doesn't allow several.
pub too_many : (kind : MetricType) (word : List ℕ) (words : List (Bor (List ℕ))) (ns : List Number)
    → texts words ≡ slice_split (λ b. eqb b 44) word → length words ≢ 1 → (AllowsSeveral kind → ⊥) → IsValueWord kind word ns → ⊥
too_many kind word words ns is other unpacked h = elim h.few [
  | inl packs ↦ unpacked packs
  | inr one ↦ other (sym (length-map words (λ (w : Bor (List ℕ)). w.now)) ∙ ap (λ ws. length ws) is
      ∙ sym (AllZip-long (IsNumberWord kind) (slice_split (λ b. eqb b 44) word) ns h.each) ∙ one)
]

-- If the word of a tag has a colon, then the key is the text before the first colon.
pub tag_keyed : (tag : Tag) (word key text : List ℕ) → All (λ b. b ≢ 58) key → word ≡ key ++ 58 ∷ text → IsTagWord word tag
    → IsFreeText key × IsFreeAfterKey text
tag_keyed tag word key text front cut h = by_key tag.key tag.text h.clear.key h.clear.text (sym (key_text-keyed tag.key tag.text) ∙ h.whole ∙ cut)
  where
    by_key : (k : Option (List ℕ)) (s : List ℕ) → IfSome k IsFreeText → IsClearAfter k s → keyed_text k s ≡ key ++ (58 ∷ text)
        → IsFreeText key × IsFreeAfterKey text
    by_key (Some k) s hk hs e =
        let (same, rest) = cut_at 58 k key (58 ∷ s) (58 ∷ text) (plain_lacks_colon k hk) (recursion_from_All (λ b. b ≢ 58) key front) refl refl e in
        let tails : s ≡ text = cc in
        (subst IsFreeText same hk, subst IsFreeAfterKey tails hs)
    by_key None s hk hs e = absurd (lacks_no 58 key text (subst (Lacks 58) e (plain_lacks_colon s hs)))

-- If the word of a tag has no colon, then it has no separator.
pub tag_unkeyed : (tag : Tag) (word : List ℕ) → All (λ b. b ≢ 58) word → IsTagWord word tag → IsFreeText word
tag_unkeyed tag word none h = by_key tag.key tag.text h.clear.text (sym (key_text-keyed tag.key tag.text) ∙ h.whole)
  where
    by_key : (k : Option (List ℕ)) (s : List ℕ) → IsClearAfter k s → keyed_text k s ≡ word → IsFreeText word
    by_key (Some k) s hs e = absurd (lacks_no 58 k s (subst (Lacks 58) (sym e) (recursion_from_All (λ b. b ≢ 58) word none)))
    by_key None s hs e = subst IsFreeText e hs

-- The metric of a call without options has neither a rate nor a time.
pub plain_rate : (s : Settings) (kind : MetricType) (name : List ℕ) (ns : List Number) → (metric_for s (plain_call kind name ns)).rate ≡ None
unfolding metric_of_call
plain_rate s kind name ns = refl

pub plain_time : (s : Settings) (kind : MetricType) (name : List ℕ) (ns : List Number) → (metric_for s (plain_call kind name ns)).time ≡ None
unfolding metric_of_call
plain_time s kind name ns = refl

-- The draft of the metric of a call has the numbers of the call as its value.
pub plain_value : (s : Settings) (kind : MetricType) (name : List ℕ) (ns : List Number)
    → draft_of (metric_for s (plain_call kind name ns)) ≡ draft_with (numbers_text ns) (metric_for s (plain_call kind name []))
unfolding metric_of_call
plain_value s kind name ns = refl

-- If all words are tags, then each of them is a tag.
pub tag_of_word : (front rest : List (List ℕ)) (word : List ℕ) (tags : List Tag) → AllZip IsTagWord (front ++ word ∷ rest) tags
    → (tag : Tag) × IsTagWord word tag
tag_of_word [] rest word [] h = absurd h
tag_of_word [] rest word (t ∷ tags) h = (t, h.0)
tag_of_word (w ∷ front) rest word [] h = absurd h
tag_of_word (w ∷ front) rest word (t ∷ tags) h = tag_of_word front rest word tags h.1

-- If one of the words is no tag, then the words are not all tags.
pub tags_fail : (words : List (List ℕ)) (word : List ℕ) (old new : Draft) (r : Result (Unit {0}) (InputError Part)) (fault : InputError Part)
    → r ≡ Err fault → ((tags : List Tag) → AllZip IsTagWord words tags → (tag : Tag) × IsTagWord word tag) → FailsAsWord (IsTagWord word) fault
    → AddsTags words old new r
tags_fail words word old new r (Unusable part) is from none = rw is (λ tags h. let p = from tags h in none p.0 p.1)
tags_fail words word old new r OutOfMemory is from none = rw is tt

-- The draft got these tags.
abbrev pub Tagged : Draft → Draft → List Tag → Type 0
Tagged old new tags = new ≡ fold with_tag_text old tags

-- The draft stays the same if no tags are added, and it has one tag more if one more is added.
pub tagged_none : (draft : Draft) → Tagged draft draft []
tagged_none draft = refl

pub tagged_more : (old mid new : Draft) (tags : List Tag) (tag : Tag) → Tagged old mid tags → new ≡ with_tag_text mid tag
    → Tagged old new (tags ++ tag ∷ [])
tagged_more old mid new tags tag was is =
    is ∙ ap (λ (d : Draft). with_tag_text d tag) was ∙ sym (fold-append with_tag_text old tags (tag ∷ []))

-- The draft of a metric with a value, after it got tags, is that of the metric with these tags after its own.
drafted_tags : (value : List ℕ) (m : Metric) (tags : List Tag)
    → fold with_tag_text (draft_with value m) tags ≡ draft_with value (record m { tags = m.tags ++ tags })
drafted_tags value m [] = ap (λ ts. draft_with value (record m { tags = ts })) (sym (append-nil m.tags))
drafted_tags value m (t ∷ tags) =
    ap (λ (d : Draft). fold with_tag_text d tags) (tagged_draft value m t) ∙ drafted_tags value (with_tag m t) tags
    ∙ ap (λ ts. draft_with value (record m { tags = ts })) (append_assoc m.tags (t ∷ []) tags)

-- What a word that sets no gauge says is the text of a value.
pub value_said : (kind : MetricType) (word : List ℕ) → is_level_word kind word ≡ false → (h : MetricType × Said)
    → (h.0 ≡ kind) × IsSaidOf kind word h.1 → (v : MetricType × List ℕ) × ((v.0 ≡ kind) × IsValueOf kind word v.1)
value_said kind word plain (k, valued text) (same, says) = ((k, text), (same, subst (λ b. SaysOf b kind word (valued text)) plain says))
value_said kind word plain (k, leveled n) (same, says) = absurd (subst (λ b. SaysOf b kind word (leveled n)) plain says)

-- A word whose first `=` has a byte before it says no level.
pub later_mark : (front rest word : List ℕ) → All (λ b. b ≢ 61) front → 0 < length front → word ≡ front ++ 61 ∷ rest → (n : Number)
    → SaysLevel word n → ⊥
later_mark [] rest word plain some is n h = absurd (omega (arith, some))
later_mark (b ∷ front) rest word plain some is n h =
    (recursion_from_All (λ b. b ≢ 61) (b ∷ front) plain).0 (subst (λ w. SaysLevel w n) is h).0

-- Tags of the same words change a draft in the same way.
same_tags : (words : List (List ℕ)) (xs ys : List Tag) (draft : Draft) → AllZip IsTagWord words xs → AllZip IsTagWord words ys
    → fold with_tag_text draft xs ≡ fold with_tag_text draft ys
same_tags [] [] [] draft hx hy = refl
same_tags [] [] (y ∷ ys) draft hx hy = absurd hy
same_tags [] (x ∷ xs) ys draft hx hy = absurd hx
same_tags (w ∷ words) [] ys draft hx hy = absurd hx
same_tags (w ∷ words) (x ∷ xs) [] draft hx hy = absurd hy
same_tags (w ∷ words) (x ∷ xs) (y ∷ ys) draft hx hy =
    ap (λ (t : List ℕ). fold with_tag_text (record draft { tags = draft.tags ++ (lead (has_text draft.tags) ++ t) }) xs)
    (hx.0.whole ∙ sym hy.0.whole)
    ∙ same_tags words xs ys (with_tag_text draft y) hx.1 hy.1

module _ {Z : Type 0} (d : Defaults Z) (n : List ℕ) (words : List (List ℕ)) where
  -- the metric of a kind, without tags of its own
  abbrev untagged : MetricType → Metric
  untagged kind = with_rate_and_time d (metric_for d.settings (plain_call kind n []))

  -- The draft of a value, after it got tags, has this line.
  tagged_line : (kind : MetricType) (value : List ℕ) (tags : List Tag)
      → draft_line (fold with_tag_text (draft_with value (untagged kind)) tags) ≡ line_with value (asked_metric d kind n tags)
  tagged_line kind value tags =
      ap draft_line (drafted_tags value (untagged kind) tags) ∙ line_of_draft_with value (asked_metric d kind n tags)

  -- The line that was written is that of a metric with this value.
  pub text_found : (kind : MetricType) (value : List ℕ) (old new : Draft) (line : List ℕ) → old ≡ draft_with value (untagged kind)
      → AddsTags words old new (Ok tt) → line ≡ draft_line new → IsTextOf d (line_with value) kind n words line
  text_found kind value old new line is (tags, each, added) from = (
    tags,
    each,
    from ∙ ap draft_line (added ∙ ap (λ (f : Draft). fold with_tag_text f tags) is) ∙ tagged_line kind value tags,
  )

  -- If a text has tags, then the words are tags.
  pub text_tags : (text : Metric → List ℕ) (kind : MetricType) (line : List ℕ) → IsTextOf d text kind n words line
      → (tags : List Tag) × AllZip IsTagWord words tags
  text_tags text kind line (tags, each, is) = (tags, each)

  -- If there is a text of one form, then there is one of another.
  pub other_text : (text other : Metric → List ℕ) (kind : MetricType) (line : List ℕ) → IsTextOf d text kind n words line
      → (line : List ℕ) × IsTextOf d other kind n words line
  other_text text other kind line (tags, each, is) = (other (asked_metric d kind n tags), (tags, each, refl))

  -- The lines of 0 and of a number, with a newline between them, set the metric to the number.
  pub zero_found : (kind : MetricType) (number : Number) (zeros numbers : List Number) (first second line : List ℕ)
      → zeros ≡ natural 0 ∷ [] → numbers ≡ number ∷ [] → IsTextOf d (line_with (numbers_text zeros)) kind n words first
      → IsTextOf d (line_with (numbers_text numbers)) kind n words second → line ≡ (first ++ 10 ∷ []) ++ second
      → IsTextOf d (zero_first number) kind n words line
  zero_found kind number zeros numbers first second line are is (tags, each, a) (others, too, b) joined =
      let value = numbers_text numbers in (
        tags,
        each,
        joined ∙ append_assoc first (10 ∷ []) second
            ∙ ap₂ (λ x y. x ++ 10 ∷ y) (a ∙ ap (λ ns. line_with (numbers_text ns) (asked_metric d kind n tags)) are)
            (b ∙ sym (tagged_line kind value others)
            ∙ ap draft_line (same_tags words others tags (draft_with value (untagged kind)) too each) ∙ tagged_line kind value tags
            ∙ ap (λ ns. line_with (numbers_text ns) (asked_metric d kind n tags)) is),
      )

  -- A number from 0 is sent as it is, and another one after the line of 0.
  pub level_found : {C : Type 0} (kind : MetricType) (number : Number) (b : Bool) (view : C → List ℕ) (r : Result C (InputError Part))
      → is_negative number.mantissa ≡ b
      → FindsOrFails (IsTextOf d (λ m. if b then zero_first number m else number_line number m) kind n words) view r
      → FindsOrFails (IsTextOf d (level_text number) kind n words) view r
  level_found kind number b view r is h = subst
      (λ (c : Bool). FindsOrFails (IsTextOf d (λ m. if c then zero_first number m else number_line number m) kind n words) view r) (sym is) h

  -- If the words of a line ask for a metric, then the first three have its kind, its name and what is said of its value.
  pub head_asked : (k v line : List ℕ) → IsLineOfGiven d (k ∷ n ∷ v ∷ words) line → (h : MetricType × Said) × AreHead k n v h.0 h.1
  head_asked k v line (h, are, text) = (h, are)

  -- The text of what the words say is the one that they ask for.
  pub line_found : {C : Type 0} (k v : List ℕ) (h : MetricType × Said) (view : C → List ℕ) (r : Result C (InputError Part))
      → AreHead k n v h.0 h.1 → FindsOrFails (IsTextOf d (said_text h.1) h.0 n words) view r
      → FindsOrFails (IsLineOfGiven d (k ∷ n ∷ v ∷ words)) view r
  line_found k v h view (Ok c) are text = (h, are, text)
  line_found k v h view (Err (Unusable why)) are none =
      λ line (other, its, (tags, each, is)). none (said_text h.1 (asked_metric d h.0 n tags)) (tags, each, refl)
  line_found k v h view (Err OutOfMemory) are none = tt

-- If there are no words, then they ask for no metric.
pub no_word : {Z : Type 0} (d : Defaults Z) (words : List (List ℕ)) → words ≡ [] → (line : List ℕ) → IsLineOfWords d words line → ⊥
no_word d words are line h = subst (λ ws. IsLineOfWords d ws line) are h

-- A text in UTF-8 asks for the metric for which its words ask.
pub text_read : {Z C : Type 0} (d : Defaults Z) (view : C → List ℕ) (text : List ℕ) (r : Result C (InputError Part)) → IsUtf8 text
    → FindsOrFails (IsLineOfWords d (words_of text)) view r → FindsOrFails (IsLineOfText d text) view r
text_read d view text (Ok c) utf8 h = (utf8, h)
text_read d view text (Err (Unusable part)) utf8 h = λ line l. h line l.1
text_read d view text (Err OutOfMemory) utf8 h = tt
