-- The record of an aggregator, one step further, and what it shows.
use Rattle.std.proofs.Common.{◌≡◌, ◌⊎◌, inl, inr, ℕ, List, [], ◌∷◌, ◌++◌, Result, Ok, Err, MatchResult, OnOk, length, map, refl, sym, ap, ap₂, subst, ◌∙◌, append-nil, append_assoc}
use Rattle.std.proofs.Math.Logic.{∥∥₁_map}
use Rattle.std.proofs.lemmas.List.{append_cancel_left, map-append}
use Rattle.std.specs.List.{AllZip}
use Rattle.cadence_aggregate.specs.Server.{Sample, IsSummary}
use Rattle.cadence_aggregate.proofs.Observed.{same_of, same_trans, same_more, same_refl}
use Rattle.cadence_aggregating.specs.Notes.{line_of_note, sample_of_note}
use Rattle.cadence_aggregating.specs.Noted.{noted}
use Rattle.cadence_aggregate.specs.Within.{StayWithin}
use Rattle.cadence_aggregate.proofs.Within.{stay_further, stay_more, stay_same}
use Rattle.cadence_aggregating.specs.Past.{SumsUp, SumsUpWithin, Summarizes}
use Rattle.cadence_aggregating.specs.Accepted.{line_of_entry, lines_of_entries}
use Rattle.cadence_errors.specs.declared.SinkError.{SinkError}
use Rattle.cadence_aggregating.specs.declared.accepted.Accepted.{Accepted}
use Rattle.cadence_aggregating.specs.declared.recorded.RecordedAggregator.{RecordedAggregator}
use Rattle.cadence_aggregating.specs.Printed.{line_saying}
use Rattle.cadence_aggregating.specs.Recorded.{samples_held}
use Rattle.cadence_aggregating.specs.Says.{LineSays}
use Rattle.cadence_aggregating.specs.Quiet.{IsQuiet}
use Rattle.cadence_aggregating.specs.Shown.{AcceptsNone, SendsAll}
use Rattle.cadence_aggregating.specs.declared.limits.Limits.{Limits}
use Rattle.cadence_aggregate.specs.declared.aggregator.Aggregator.{Aggregator}
use Rattle.cadence_aggregating.specs.declared.note.Note.{Note}
use Rattle.cadence_aggregating.specs.declared.note.Kind.TheVariants.{Amount, Level, Member, Timing, Unclear, Other}
use Rattle.cadence_aggregating.proofs.Among.{Among}
use Rattle.cadence_aggregating.proofs.Sayable.{IsSized, all_said, sayable}

-- lines that say this, and then others
pub zip_append : (xs ys : List (List ℕ)) (firsts seconds : List Sample) → AllZip LineSays xs firsts → AllZip LineSays ys seconds
    → AllZip LineSays (xs ++ ys) (firsts ++ seconds)
zip_append [] ys [] seconds h g = g
zip_append [] ys (s ∷ firsts) seconds h g = absurd h
zip_append (x ∷ xs) ys [] seconds h g = absurd h
zip_append (x ∷ xs) ys (s ∷ firsts) seconds (here, rest) g = (here, zip_append xs ys firsts seconds rest g)

-- nothing was accepted yet
pub none_past : SumsUp [] [] []
none_past = ([], tt, same_refl [])

pub none_within : (limit : ℕ) → SumsUpWithin limit [] [] []
none_within limit = ([], tt, same_refl [], stay_same limit [] [] refl)

-- the same past, whatever the limit is
pub without_limit : (limit : ℕ) (accepted : List (List ℕ)) (sent held : List Sample) → SumsUpWithin limit accepted sent held → SumsUp accepted sent held
without_limit limit accepted sent held (said, zip, sum, stay) = (said, zip, sum)

-- one more line was accepted
pub past_more : (limit : ℕ) (accepted : List Accepted) (entry : Accepted) (sent held sent' held' : List Sample) (s : Sample)
    → SumsUpWithin limit (lines_of_entries accepted) sent held → LineSays (line_of_entry entry) s
    → IsSummary ((sent ++ held) ++ s ∷ []) (sent' ++ held') → StayWithin limit ((sent ++ held) ++ s ∷ []) (sent' ++ held')
    → SumsUpWithin limit (lines_of_entries (accepted ++ entry ∷ [])) sent' held'
past_more limit accepted entry sent held sent' held' s (said, zip, sum, stay) says step within =
    let lines : lines_of_entries (accepted ++ entry ∷ []) ≡ lines_of_entries accepted ++ line_of_entry entry ∷ [] = map-append line_of_entry accepted (entry ∷ []) in
    subst (λ ls. SumsUpWithin limit ls sent' held') (sym lines) (
      said ++ s ∷ [],
      zip_append (lines_of_entries accepted) (line_of_entry entry ∷ []) said (s ∷ []) zip (says, tt),
      same_trans _ _ _ (same_more said (sent ++ held) (s ∷ []) sum) step,
      stay_further limit (said ++ s ∷ []) ((sent ++ held) ++ s ∷ []) (sent' ++ held') (stay_more limit said (sent ++ held) (s ∷ []) stay) within,
    )

-- no line was accepted, and lines may have been sent
pub past_kept : (limit : ℕ) (accepted : List (List ℕ)) (sent held sent' held' : List Sample) → SumsUpWithin limit accepted sent held
    → IsSummary (sent ++ held) (sent' ++ held') → StayWithin limit (sent ++ held) (sent' ++ held') → SumsUpWithin limit accepted sent' held'
past_kept limit accepted sent held sent' held' (said, zip, sum, stay) step within =
    (said, zip, same_trans _ _ _ sum step, stay_further limit said (sent ++ held) (sent' ++ held') stay within)

pub past_flushed : (limit : ℕ) (accepted : List (List ℕ)) (sent held sent' held' : List Sample) → SumsUpWithin limit accepted sent held
    → sent' ++ held' ≡ sent ++ held → SumsUpWithin limit accepted sent' held'
past_flushed limit accepted sent held sent' held' past same =
    past_kept limit accepted sent held sent' held' past (same_of _ _ (sym same)) (stay_same limit (sent ++ held) (sent' ++ held') same)

-- a call that failed said nothing
pub none_said : (limit : ℕ) (xs ys : List Sample) → StayWithin limit (xs ++ []) ys → StayWithin limit xs ys
none_said limit xs ys stay = subst (λ zs. StayWithin limit zs ys) (append-nil xs) stay

pub sized : (note : Note) → IsSized (sample_of_note note)
sized note = elim note.kind as (λ k. IsSized (noted k note.by note.name note.values (line_of_note note))) [
  | Amount ↦ note.in_range
  | Level ↦ tt
  | Member ↦ tt
  | Timing ↦ tt
  | Unclear ↦ tt
  | Other ↦ tt
]

pub among_mapped : {X Y : Type 0} (f : X → Y) (x : X) (xs : List X) → Among x xs → Among (f x) (map f xs)
among_mapped f x [] h = absurd h
among_mapped f x (y ∷ xs) (inl same) = inl (ap f same)
among_mapped f x (y ∷ xs) (inr later) = inr (among_mapped f x xs later)

pub among_left : {X : Type 0} (x : X) (xs ys : List X) → Among x xs → Among x (xs ++ ys)
among_left x [] ys h = absurd h
among_left x (y ∷ xs) ys (inl same) = inl same
among_left x (y ∷ xs) ys (inr later) = inr (among_left x xs ys later)

all_noted : (notes : List Note) → ((note : Note) → Among note notes → LineSays (line_of_note note) (sample_of_note note))
    → AllZip LineSays (map line_of_note notes) (map sample_of_note notes)
all_noted [] each = tt
all_noted (note ∷ notes) each = (each note (inl refl), all_noted notes (λ n among. each n (inr among)))

-- what the record shows
pub summarizes : (accepted : List (List ℕ)) (notes : List Note) (held : List Sample) → SumsUp accepted (map sample_of_note notes) held
    → Summarizes accepted (map line_of_note notes) held
summarizes accepted notes held (said, zip, sum) =
    let sent = map sample_of_note notes in
    let each : (note : Note) → Among note notes → LineSays (line_of_note note) (sample_of_note note) = λ note among.
    subst (λ t. LineSays t (sample_of_note note)) (sym note.printed)
    (sayable said (sent ++ held) sum (all_said accepted said zip) (sample_of_note note)
    (among_left (sample_of_note note) sent held (among_mapped sample_of_note note notes among)) (sized note)) in
    (sent, all_noted notes each, (said, zip, sum))

-- what the fact of a record shows
pub past_shows : (limit : ℕ) (accepted : List (List ℕ)) (notes : List Note) (held : List Sample)
    → ∥ SumsUpWithin limit accepted (map sample_of_note notes) held ∥₁ → ∥ Summarizes accepted (map line_of_note notes) held ∥₁
past_shows limit accepted notes held past =
    ∥∥₁_map past (λ p. summarizes accepted notes held (without_limit limit accepted (map sample_of_note notes) held p))

-- the lines of notes say what the notes say
pub noted_lines : (notes : List Note) → map line_of_note notes ≡ map line_saying (map sample_of_note notes)
noted_lines [] = refl
noted_lines (note ∷ notes) = ap₂ (λ a b. a ∷ b) note.printed (noted_lines notes)

-- the lines that a flush sends
pub flushed_lines : (old new : List Note) (held held' : List Sample) → map sample_of_note new ++ held' ≡ map sample_of_note old ++ held → held' ≡ []
    → map line_of_note new ≡ map line_of_note old ++ map line_saying held
flushed_lines old new held held' same none =
    let before = map sample_of_note old in
    let after = map sample_of_note new in
    let sent : after ≡ before ++ held = sym (append-nil after) ∙ ap (λ t. after ++ t) (sym none) ∙ same in
    noted_lines new ∙ ap (map line_saying) sent ∙ map-append line_saying before held ∙ ap (λ t. t ++ map line_saying held) (sym (noted_lines old))

-- if the notes say the same, their lines are the same
pub same_lines : (old new : List Note) → map sample_of_note new ≡ map sample_of_note old → map line_of_note new ≡ map line_of_note old
same_lines old new same = noted_lines new ∙ ap (map line_saying) same ∙ sym (noted_lines old)

-- If a call is quiet by what the lines of notes say, it is quiet by the lines.
pub quiet_lines : (limits : Limits) (aggregator : Aggregator) (line : List ℕ) (old new : List Note)
    → IsQuiet limits aggregator line (map sample_of_note old) (map sample_of_note new)
    → IsQuiet limits aggregator line (map line_of_note old) (map line_of_note new)
quiet_lines limits aggregator line old new (said, says, quiet) = (said, says, λ to_hold can. same_lines old new (quiet to_hold can))

-- the same of lines that wait, if none went
pub quiet_waiting : (limits : Limits) (aggregator : Aggregator) (line : List ℕ) (gone gone' old new : List Note) → gone' ≡ gone
    → IsQuiet limits aggregator line (map sample_of_note (gone ++ old)) (map sample_of_note (gone' ++ new))
    → IsQuiet limits aggregator line (map line_of_note old) (map line_of_note new)
quiet_waiting limits aggregator line gone gone' old new stay (said, says, quiet) = (
  said,
  says,
  λ to_hold can. append_cancel_left (map line_of_note gone) (map line_of_note new) (map line_of_note old)
      (sym (map-append line_of_note gone new) ∙ ap (λ g. map line_of_note (g ++ new)) (sym stay) ∙ same_lines (gone ++ old) (gone' ++ new) (quiet to_hold can)
      ∙ map-append line_of_note gone old),
)

-- the lines that a flush lets wait, if none went
pub flushed_waiting : (gone gone' old new : List Note) (held held' : List Sample) → gone' ≡ gone
    → map sample_of_note (gone' ++ new) ++ held' ≡ map sample_of_note (gone ++ old) ++ held → held' ≡ []
    → map line_of_note new ≡ map line_of_note old ++ map line_saying held
flushed_waiting gone gone' old new held held' stay same none =
    append_cancel_left (map line_of_note gone) (map line_of_note new) (map line_of_note old ++ map line_saying held)
    (sym (map-append line_of_note gone new) ∙ ap (λ g. map line_of_note (g ++ new)) (sym stay)
    ∙ flushed_lines (gone ++ old) (gone' ++ new) held held' same none
    ∙ ap (λ t. t ++ map line_saying held) (map-append line_of_note gone old)
    ∙ append_assoc (map line_of_note gone) (map line_of_note old) (map line_saying held))

-- lines without their lengths
pub without_lengths : (lines : List (List ℕ)) → map (λ (taken : List ℕ × ℕ). taken.0) (map (λ line. (line, length line)) lines) ≡ lines
without_lengths [] = refl
without_lengths (line ∷ lines) = ap (λ ls. line ∷ ls) (without_lengths lines)

-- after a flush that succeeded nothing is held, however the sink below answered it
pub emptied : {S Answered : Type 0} (old new : RecordedAggregator S) (flushed : Result (Unit {0}) SinkError)
    → (SendsAll old new × Answered) ⊎ MatchResult flushed (λ _. ⊥) (AcceptsNone old new) → OnOk flushed (samples_held new ≡ [])
emptied old new (Ok done) (inl (all, answered)) = all.none
emptied old new (Ok done) (inr none) = absurd none
emptied old new (Err e) ends = tt
