-- Fields that can't be read, and numbers and tags that are read piece by piece.
use Rattle.std.proofs.Common.{◌≡◌, ◌≢◌, ℕ, ◌<◌, ◌^◌, List, [], ◌∷◌, ◌++◌, length, map, refl, sym, ap, ◌∙◌, subst, arith, Option, Some, None}
use Rattle.std.proofs.Common.{Result, Ok, Err, eqb}
use Rattle.std.specs.Prelude.{All, IfSome}
use Rattle.std.specs.List.{join_with_byte}
use Rattle.std.specs.Option.{option_map}
use Rattle.std.proofs.lemmas.List.Elements.{recursion_from_All}
use Rattle.std.proofs.lemmas.List.Splits.{join_with_byte-slice_split, length-slice_split}
use Rattle.cadence_text.specs.Line.{tag_text}
use Rattle.cadence_text.specs.Metric.{Tag}
use Rattle.cadence_value.specs.Number.{Number, decimal_text, number_text, numbers_text, joined_texts}
use Rattle.cadence_value.specs.Finds.{HasNone}
use Rattle.cadence_value.proofs.lists.SplitTexts.{Lacks, lacks_no, cut_at, each_image, each_mapped}
use Rattle.cadence_value.proofs.digits.Digits.{decimal_text_once}
use Rattle.cadence_text.proofs.grammar.LineText.{joined_texts-joined, keyed_text, key_text-keyed, plain_lacks_colon, number_lacks, tag_lacks}
use Rattle.cadence_errors.specs.declared.input_error.InputError.TheVariants.{Unusable, OutOfMemory}
use Rattle.cadence_read.specs.Faults.{Fault}
use Rattle.cadence_read.specs.LineTexts.{pieces_left, tags_text}
use Rattle.cadence_read.specs.Listed.{IsListedTag, IsText}
use Rattle.cadence_read.specs.Reads.{FailsAs, PrintsAs, ReadsOrFails}
use Rattle.cadence_read.proofs.LineParts.{key_listed, text_listed}
use Rattle.cadence_read.proofs.Pieces.{pieces, pieces-joined, refused_at}

-- If each good whole has a good part, and the part can't be read, then the whole can't be read.
pub fails_on : {Y Z S T : Type 0} (e : Fault) (Good : Y → Type 0) (shown : Y → S) (s : S) (Whole : Z → Type 0) (seen : Z → T) (t : T)
    → ((z : Z) → Whole z → seen z ≡ t → (y : Y) × Good y × (shown y ≡ s)) → FailsAs Good shown s e → FailsAs Whole seen t e
fails_on (Unusable why) Good shown s Whole seen t part none = λ z is. let h = part z is.0 is.1 in none h.0 (h.1, h.2)
fails_on OutOfMemory Good shown s Whole seen t part none = tt

-- A reading that returns an error that `FailsAs` allows is right.
pub hands_on : {X Z T : Type 0} (Whole : Z → Type 0) (seen : Z → T) (t : T) (view : X → Z) (r : Result X Fault) (e : Fault)
    → r ≡ Err e → FailsAs Whole seen t e → ReadsOrFails Whole seen t view r
hands_on Whole seen t view r e is none = rw is none

-- A tag whose text has a colon has a key, which is the text before the first colon.
pub tag_cut : (tag : Tag) (key text whole : List ℕ) → IsListedTag tag → All (λ b. b ≢ 58) key → whole ≡ key ++ 58 ∷ text
    → tag_text tag ≡ whole → (tag.key ≡ Some key) × (tag.text ≡ text)
tag_cut tag key text whole good plain cut e = by_key tag.key tag.text (key_listed tag good) (text_listed tag good)
    (sym (key_text-keyed tag.key tag.text) ∙ e ∙ cut)
  where
    by_key : (k : Option (List ℕ)) (s : List ℕ) → IfSome k IsText → IsText s → keyed_text k s ≡ key ++ (58 ∷ text) → (k ≡ Some key) × (s ≡ text)
    by_key (Some k) s hk hs e =
        let (same, rest) = cut_at 58 k key (58 ∷ s) (58 ∷ text) (plain_lacks_colon k hk.0) (recursion_from_All (λ b. b ≢ 58) key plain) refl refl e in
        (ap Some same, cc)
    by_key None s hk hs e = absurd (lacks_no 58 key text (subst (Lacks 58) e (plain_lacks_colon s hs.0)))

-- No time prints as a number of seconds that 64 bits don't hold.
pub time_refused : (text : Option (List ℕ)) (bytes : List ℕ) (time : ℕ) → text ≡ Some bytes → decimal_text time ≡ bytes
    → (time < 2 ^ 64 → ⊥) → HasNone (PrintsAs (λ (o : Option ℕ). IfSome o (λ t. t < 2 ^ 64)) (option_map decimal_text) text)
time_refused text bytes time some shown wide (Some t) (small, e) =
    let both : Some (decimal_text t) ≡ Some bytes = e ∙ some in
    let digits : decimal_text t ≡ bytes = cc both in
    wide (omega (arith, small, decimal_text_once t time (digits ∙ sym shown)))
time_refused text bytes time some shown wide None (small, e) = let both : None ≡ Some bytes = e ∙ some in absurd cc

-- The numbers of a text with colons are those of its pieces.
pub numbers_pieces : (ns : List Number) (text : List ℕ) → 0 < length text → numbers_text ns ≡ text → map number_text ns ≡ pieces 58 text
numbers_pieces [] text some e = absurd (omega (arith, ap (λ t. length t) e))
numbers_pieces (n ∷ ns) text some e =
    sym (pieces-joined 58 (number_text n) (map number_text ns) (each_image number_text (Lacks 58) number_lacks (n ∷ ns)))
    ∙ ap (pieces 58) (sym (joined_texts-joined 58 number_text (n ∷ ns)) ∙ e)

pub numbers_found : (ns : List Number) (text : List ℕ) → map number_text ns ≡ pieces 58 text → numbers_text ns ≡ text
numbers_found ns text e = joined_texts-joined 58 number_text ns ∙ ap (join_with_byte 58) e ∙ join_with_byte-slice_split 58 text

-- The tags of a text with commas are those of its pieces. Without a text there are no tags.
pub tags_pieces : (tags : List Tag) (text : Option (List ℕ)) → All IsListedTag tags → tags_text tags ≡ text → map tag_text tags ≡ pieces_left 44 text
tags_pieces [] None good e = refl
tags_pieces [] (Some text) good e = absurd cc
tags_pieces (tag ∷ tags) None good e = absurd cc
tags_pieces (tag ∷ tags) (Some text) good e =
    let lack =
    each_mapped tag_text IsListedTag (Lacks 44) (λ tag g. tag_lacks tag g.free) (tag ∷ tags)
    (recursion_from_All IsListedTag (tag ∷ tags) good) in
    let same : joined_texts (44 ∷ []) tag_text (tag ∷ tags) ≡ text = cc e in
    sym (pieces-joined 44 (tag_text tag) (map tag_text tags) lack) ∙ ap (pieces 44) (sym (joined_texts-joined 44 tag_text (tag ∷ tags)) ∙ same)

pub tags_found : (tags : List Tag) (text : Option (List ℕ)) → map tag_text tags ≡ pieces_left 44 text → tags_text tags ≡ text
tags_found [] None e = refl
tags_found (tag ∷ tags) None e = absurd cc
tags_found [] (Some text) e = absurd (omega (arith, ap (λ ps. length ps) e, length-slice_split (λ b. eqb b 44) text))
tags_found (tag ∷ tags) (Some text) e = ap Some (joined_texts-joined 44 tag_text (tag ∷ tags) ∙ ap (join_with_byte 44) e
    ∙ join_with_byte-slice_split 44 text)

-- If one of the pieces can't be read, then the list can't be read.
pub fails_at : {Y T : Type 0} (e : Fault) (Good : Y → Type 0) (shown : Y → List ℕ) (before left later all : List (List ℕ))
    (piece : List ℕ) (seen : List Y → T) (t : T)
    → before ++ left ≡ all → left ≡ piece ∷ later → ((ys : List Y) → All Good ys → seen ys ≡ t → map shown ys ≡ all)
    → FailsAs Good shown piece e → FailsAs (All Good) seen t e
fails_at (Unusable why) Good shown before left later all piece seen t so_far next cut none =
    λ ys is. refused_at Good shown ys before left later all piece so_far next none is.0 (cut ys is.0 is.1)
fails_at OutOfMemory Good shown before left later all piece seen t so_far next cut none = tt

-- If good values print as one text exactly if they print as another, then a reading of the one is a reading of the
-- other.
pub reads_through : {X Y S T : Type 0} (Good : Y → Type 0) (shown : Y → S) (s : S) (seen : Y → T) (t : T) (view : X → Y) (r : Result X Fault)
    → ((y : Y) → Good y → shown y ≡ s → seen y ≡ t) → ((y : Y) → Good y → seen y ≡ t → shown y ≡ s) → ReadsOrFails Good shown s view r
    → ReadsOrFails Good seen t view r
reads_through Good shown s seen t view (Ok x) there back h = (h.0, there (view x) h.0 h.1)
reads_through Good shown s seen t view (Err e) there back h = fails_on e Good shown s Good seen t (λ y good e. (y, good, back y good e)) h
