-- The events and service checks that words ask for.
use Rattle.std.proofs.Common.{◌≡◌, ℕ, ◌≤◌, Bor, Bool, Result, true, false, get_or, length, List, [], ◌∷◌, map, Option, Some, None, Ok, Err}
use Rattle.std.proofs.Common.{refl, sym, ap, ap₂, ◌∙◌, subst, arith}
use Rattle.std.specs.Prelude.{MatchResult, String, string_bytes, codes}
use Rattle.std.specs.List.{AllZip, list_all}
use Rattle.std.specs.Option.{option_copied, option_map}
use Rattle.std.proofs.lemmas.Bool.{and_from}
use Rattle.cadence_errors.specs.declared.input_error.InputError.{InputError}
use Rattle.cadence_errors.specs.declared.input_error.InputError.TheVariants.{Unusable, OutOfMemory}
use Rattle.cadence_events.specs.Cleaned.{check_as, event_as, message_as}
use Rattle.cadence_events.specs.Event.{Event, event_line, event_with}
use Rattle.cadence_events.specs.Refusals.{MakesLine, check_refusal, event_refusal, first_failed, has_no_bar}
use Rattle.cadence_events.specs.ServiceCheck.{ServiceCheck, check_line, check_with}
use Rattle.cadence_events.specs.declared.refusal.Unfit.{Unfit}
use Rattle.cadence_events.specs.declared.refusal.Unfit.TheVariants as unfit
use Rattle.cadence_events.specs.declared.service_check.ServiceStatus.{ServiceStatus}
use Rattle.cadence_text.specs.Cleaned.{container_as as any_as, tag_as, text_as}
use Rattle.cadence_text.specs.Record.{tag_of}
use Rattle.cadence_text.specs.declared.line.tag.Tag.{Tag as BorrowedTag}
use Rattle.cadence_text.specs.FreeTexts.{is_free_if_any, is_clear_tag, is_free_text}
use Rattle.cadence_text.specs.Metric.{Tag}
use Rattle.cadence_text.proofs.grammar.Cleaned.{tag_passes}
use Rattle.cadence_text.proofs.grammar.FreeTexts.{clear_tag_from}
use Rattle.cadence_words.specs.Asked.{IsTagWord, IsWord}
use Rattle.cadence_words.specs.Events.{IsLineOfCheck, IsLineOfEvent, IsLineOfNamed, IsLineOfTitled, NamesStatus, asked_check, asked_event, word_error_of}
use Rattle.cadence_words.proofs.WordByWord.{rest_of, texts, three_words}
use Rattle.cadence_words.specs.Commands.{first_word}
use Rattle.cadence_words.specs.Finds.{FailsAsWord, FindsOrFails}
use Rattle.cadence_words.specs.Lines.{tag_words_as}
use Rattle.cadence_words.specs.declared.word_error.Part.{Part}
use Rattle.cadence_words.specs.declared.defaults.Defaults.{Defaults}
use Rattle.cadence_words.specs.declared.events.Fields.{Fields}

-- Tags that words say are clear, also if they are cleaned.
clear_as : (is_cleaned : Bool) (tag : Tag) → is_clear_tag tag ≡ true → is_clear_tag (tag_as is_cleaned tag) ≡ true
clear_as true tag h = tag_passes tag
clear_as false tag h = h

tags_clear : (is_cleaned : Bool) (words : List (List ℕ)) (tags : List Tag) → AllZip IsTagWord words tags
    → list_all is_clear_tag (map (tag_as is_cleaned) tags) ≡ true
tags_clear is_cleaned [] [] h = refl
tags_clear is_cleaned [] (t ∷ tags) h = absurd h
tags_clear is_cleaned (w ∷ words) [] h = absurd h
tags_clear is_cleaned (w ∷ words) (t ∷ tags) h =
    and_from (is_clear_tag (tag_as is_cleaned t)) (list_all is_clear_tag (map (tag_as is_cleaned) tags))
    (clear_as is_cleaned t (clear_tag_from t h.0.clear)) (tags_clear is_cleaned words tags h.1)

-- The event and the service check of tags that are kept in one list are those of the same tags in another one.
pub event_of_tags : (time : Option ℕ) (f : Fields) (title text : List ℕ) (given kept : List BorrowedTag) (e : Event)
    → e ≡ asked_event time f title text (map tag_of given) → given ≡ kept → e ≡ asked_event time f title text (map tag_of kept)
event_of_tags time f title text given kept e is same = is ∙ ap (λ ts. asked_event time f title text (map tag_of ts)) same

pub check_of_tags : (time : Option ℕ) (f : Fields) (name : List ℕ) (s : ServiceStatus) (given kept : List BorrowedTag) (c : ServiceCheck)
    → c ≡ asked_check time f name s (map tag_of given) → given ≡ kept → c ≡ asked_check time f name s (map tag_of kept)
check_of_tags time f name s given kept c is same = is ∙ ap (λ ts. asked_check time f name s (map tag_of ts)) same

-- If a line was made, then nothing was refused, and it is this line.
made : {Z : Type 0} (why : Option Unfit) (line : List ℕ) (text : String Z) → MakesLine why line (Ok text)
    → (why ≡ None) × (string_bytes text ≡ line)
made None line text h = (refl, h)
made (Some why) line text h = absurd h

-- If no line was made although nothing was refused, then memory ran out.
is_unusable : InputError Unfit → ℕ
is_unusable (Unusable u) = 1
is_unusable OutOfMemory = 0

is_some : Option Unfit → ℕ
is_some (Some u) = 1
is_some None = 0

unmade : (Z : Type 0) (why : Option Unfit) (line : List ℕ) (u : Unfit) → MakesLine {Z = Z} why line (Err (Unusable u)) → why ≡ None → ⊥
unfolding is_unusable is_some
unmade Z None line u h is = let e : 1 ≡ 0 = ap is_unusable h in omega (arith, e)
unmade Z (Some w) line u h is = let e : 1 ≡ 0 = ap is_some is in omega (arith, e)

-- If no line was made, then there is no text that has the property, unless memory ran out.
fails : (Z : Type 0) (Has : List ℕ → Type 0) (why : Option Unfit) (line : List ℕ) (error : InputError Unfit)
    → MakesLine {Z = Z} why line (Err error) → ((x : List ℕ) → Has x → why ≡ None) → FailsAsWord Has (word_error_of error)
fails Z Has why line (Unusable u) h none = λ x has. unmade Z why line u h (none x has)
fails Z Has why line OutOfMemory h none = tt

-- Suppose that the line has the property if none of its texts is refused, and that no line has the property if one is. If a
-- line was made, it has the property. If none was made although there was enough memory, then no line has it.
module _ {Z : Type 0} (Has : List ℕ → Type 0) (why : Option Unfit) (line : List ℕ) where
  found : (r : Result (String Z) (InputError Unfit)) (s : Result (String Z) (InputError Part))
      → MatchResult r (λ text. s ≡ Ok text) (λ error. s ≡ Err (word_error_of error))
      → MakesLine why line r → (why ≡ None → Has line) → ((x : List ℕ) → Has x → why ≡ None) → FindsOrFails Has (λ text. string_bytes text) s
  found (Ok text) s same h has none =
      let m = made why line text h in subst (FindsOrFails Has (λ t. string_bytes t)) (sym same) (subst Has (sym m.1) (has m.0))
  found (Err error) s same h has none = subst (FindsOrFails Has (λ t. string_bytes t)) (sym same) (fails Z Has why line error h none)

module _ {Z : Type 0} (d : Defaults Z) (f : Fields) (a b : List ℕ) (words : List (List ℕ)) where
  -- If there is a line of an event, then the words are its tags.
  pub event_tags : (line : List ℕ) → IsLineOfTitled d f a b words line → (tags : List Tag) × AllZip IsTagWord words tags
  event_tags line (tags, each, is) = (tags, each)

  -- Which text of an event is refused doesn't depend on the tags that its words say.
  same_event : (k : Bool) (tags tags' : List Tag) → AllZip IsTagWord words tags → AllZip IsTagWord words tags'
      → event_refusal (event_as k (asked_event d.time f a b tags)) ≡ event_refusal (event_as k (asked_event d.time f a b tags'))
  same_event k tags tags' h h' =
      ap (λ free. first_failed ((is_free_if_any (any_as k (option_copied f.host)), unfit.Host)
      ∷ (is_free_if_any (any_as k (option_copied f.key)), unfit.AggregationKey) ∷ (is_free_if_any (any_as k (option_copied f.source)), unfit.SourceType)
      ∷ (free, unfit.Tags) ∷ (is_free_if_any (any_as k None), unfit.Container) ∷ []))
      (tags_clear k words tags h ∙ sym (tags_clear k words tags' h'))

  module _ (tags : List Tag) (each : AllZip IsTagWord words tags) (e : Event) (asked : e ≡ asked_event d.time f a b tags)
      (k : Bool) (cleans : k ≡ d.settings.cleaned) (line : List ℕ) where
    -- If a line was made, it is that of the event that is asked for. If none was made although there was enough memory, then
    -- no event that is asked for has a line.
    pub event_found : {Y : Type 0} (r : Result (String Y) (InputError Unfit)) (s : Result (String Y) (InputError Part))
        → MatchResult r (λ text. s ≡ Ok text) (λ error. s ≡ Err (word_error_of error)) → MakesLine (event_refusal (event_as k e)) line r
        → line ≡ event_line (event_with d.settings.tags d.settings.container (event_as k e))
        → FindsOrFails (IsLineOfTitled d f a b words) (λ text. string_bytes text) s
    event_found r s same h is =
        found (IsLineOfTitled d f a b words) (event_refusal (event_as k e)) line r s same h
        (λ fit. (
          tags,
          each,
          (
            sym (ap₂ (λ c x. event_refusal (event_as c x)) cleans asked) ∙ fit,
            is ∙ ap₂ (λ c x. event_line (event_with d.settings.tags d.settings.container (event_as c x))) cleans asked,
          ),
        ))
        (λ x (others, too, (none, is)). ap₂ (λ c x. event_refusal (event_as c x)) cleans asked ∙ same_event d.settings.cleaned tags others each too ∙ none)

  -- If there is a line of a service check, then the first text is a name, the second one names a status, and the words are
  -- its tags.
  pub check_named : (line : List ℕ) → IsLineOfNamed d f a b words line → IsWord a
  check_named line (named, s, is_status, tags, each, is) = named

  pub check_status : (line : List ℕ) → IsLineOfNamed d f a b words line → (s : ServiceStatus) × NamesStatus b s
  check_status line (named, s, is_status, tags, each, is) = (s, is_status)

  pub check_tags : (line : List ℕ) → IsLineOfNamed d f a b words line → (tags : List Tag) × AllZip IsTagWord words tags
  check_tags line (named, s, is_status, tags, each, is) = (tags, each)

  -- Which text of a service check is refused doesn't depend on the status, nor on the tags that its words say.
  same_check : (k : Bool) (s s' : ServiceStatus) (tags tags' : List Tag) → AllZip IsTagWord words tags → AllZip IsTagWord words tags'
      → check_refusal (check_as k (asked_check d.time f a s tags)) ≡ check_refusal (check_as k (asked_check d.time f a s' tags'))
  same_check k s s' tags tags' h h' =
      ap (λ free. first_failed ((is_free_text (text_as k a), unfit.Name) ∷ (is_free_if_any (any_as k (option_copied f.host)), unfit.Host)
      ∷ (free, unfit.Tags) ∷ (is_free_if_any (any_as k None), unfit.Container)
      ∷ (has_no_bar (option_map (message_as k) (option_copied f.message)), unfit.Message) ∷ []))
      (tags_clear k words tags h ∙ sym (tags_clear k words tags' h'))

  module _ (s : ServiceStatus) (tags : List Tag) (each : AllZip IsTagWord words tags) (c : ServiceCheck)
      (asked : c ≡ asked_check d.time f a s tags) (k : Bool) (cleans : k ≡ d.settings.cleaned) (line : List ℕ) where
    -- If a line was made, it is that of the service check that is asked for. If none was made although there was enough
    -- memory, then no service check that is asked for has a line.
    pub check_found : {Y : Type 0} (r : Result (String Y) (InputError Unfit)) (l : Result (String Y) (InputError Part)) → IsWord a → NamesStatus b s
        → MatchResult r (λ text. l ≡ Ok text) (λ error. l ≡ Err (word_error_of error)) → MakesLine (check_refusal (check_as k c)) line r
        → line ≡ check_line (check_with d.settings.tags d.settings.container (check_as k c))
        → FindsOrFails (IsLineOfNamed d f a b words) (λ text. string_bytes text) l
    check_found r l word named same h is =
        found (IsLineOfNamed d f a b words) (check_refusal (check_as k c)) line r l same h
        (λ fit. (
          word,
          s,
          named,
          tags,
          each,
          (
            sym (ap₂ (λ c x. check_refusal (check_as c x)) cleans asked) ∙ fit,
            is ∙ ap₂ (λ c x. check_line (check_with d.settings.tags d.settings.container (check_as c x))) cleans asked,
          ),
        ))
        (λ x (word, other, named, others, too, (none, is)).
        ap₂ (λ c x. check_refusal (check_as c x)) cleans asked ∙ same_check d.settings.cleaned s other tags others each too ∙ none)

-- At least three words are three words and the others.
pub three_parts : (words : List (Bor (List ℕ))) (n v : Bor (List ℕ)) → 3 ≤ length words
    → texts words ≡ (get_or words 0 n).now ∷ (get_or words 1 n).now ∷ (get_or words 2 v).now ∷ texts (rest_of words)
three_parts words n v long = three_words words n n v long

-- What the words after the first one say is what all words of a command line say.
module _ {Z C : Type 0} (d : Defaults Z) (f : Fields) (k a b : List ℕ) (others : List (List ℕ)) (view : C → List ℕ) where
  titled_whole : (r : Result C (InputError Part)) → k ≡ codes "event"
      → FindsOrFails (IsLineOfTitled d f a b (tag_words_as d.settings.cleaned others)) view r
      → FindsOrFails (IsLineOfEvent d f (k ∷ a ∷ b ∷ others)) view r
  titled_whole (Ok c) kind h = (kind, h)
  titled_whole (Err (Unusable why)) kind h = λ line (same, titled). h line titled
  titled_whole (Err OutOfMemory) kind h = tt

  named_whole : (r : Result C (InputError Part)) → k ≡ codes "check"
      → FindsOrFails (IsLineOfNamed d f (text_as d.settings.cleaned a) b (tag_words_as d.settings.cleaned others)) view r
      → FindsOrFails (IsLineOfCheck d f (k ∷ a ∷ b ∷ others)) view r
  named_whole (Ok c) kind h = (kind, h)
  named_whole (Err (Unusable why)) kind h = λ line (same, named). h line named
  named_whole (Err OutOfMemory) kind h = tt

  module _ (words : List (List ℕ)) (are : words ≡ k ∷ a ∷ b ∷ others) (cleans : Bool) (is : d.settings.cleaned ≡ cleans) where
    pub event_whole : (r : Result C (InputError Part)) → first_word words ≡ codes "event"
        → FindsOrFails (IsLineOfTitled d f a b (tag_words_as cleans others)) view r → FindsOrFails (IsLineOfEvent d f words) view r
    event_whole r first h =
        subst (λ ws. FindsOrFails (IsLineOfEvent d f ws) view r) (sym are)
        (titled_whole r (ap first_word (sym are) ∙ first) (subst (λ c. FindsOrFails (IsLineOfTitled d f a b (tag_words_as c others)) view r) (sym is) h))

    pub check_whole : (r : Result C (InputError Part)) → first_word words ≡ codes "check"
        → FindsOrFails (IsLineOfNamed d f (text_as cleans a) b (tag_words_as cleans others)) view r
        → FindsOrFails (IsLineOfCheck d f words) view r
    check_whole r first h =
        subst (λ ws. FindsOrFails (IsLineOfCheck d f ws) view r) (sym are)
        (named_whole r (ap first_word (sym are) ∙ first) (subst (λ c. FindsOrFails (IsLineOfNamed d f (text_as c a) b (tag_words_as c others)) view r) (sym is) h))
