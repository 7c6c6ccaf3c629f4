-- What a flush of held text does (`Flushes`), derived from what sending that text did. The held text isn't empty here.
use Rattle.std.proofs.Common.{◌≡◌, ℕ, ◌-◌, ◌<◌, ◌≤◌, true, [], ◌∷◌, ◌++◌, List, length, take, drop, ap, ◌∙◌, sym, subst, arith, length-drop}
use Rattle.std.proofs.Common.{append_assoc, take_all, take-append-drop, refl, OnOk, OnErr, IfErr, Ok, Err, Result, inl, inr}
use Rattle.std.proofs.lemmas.List.{append-nil, drop_all}
use Rattle.std.specs.List.{concat}
use Rattle.cadence_errors.specs.declared.SinkError.{SinkError}
use Rattle.cadence_flow.specs.Writer.{PacketHistory, WriterKind, RefusedNothing, Sends, Extends}
use Rattle.cadence_flow.specs.Frame.{held_packet}
use Rattle.cadence_flow.specs.Packer.{Flushes, HasCause, PackerState, whole_text}
use Rattle.cadence_flow.proofs.Histories.{Sends-joined, SendsThen-joined, Sends-Extends, SendsThen-Extends}

-- If the first `sent` bytes are taken, the length of the text minus that of the rest is `sent`.
taken_is : (held : List ℕ) (sent : ℕ) → sent ≤ length held → length held - length (drop sent held) ≡ sent
taken_is held sent h = omega (arith, length-drop sent held)

module _ (kind : WriterKind) (old new : PacketHistory) (held : List ℕ) (sent : ℕ) where
  -- the packer before the flush
  abbrev before : PackerState
  before = record { history = old; held = held }

  -- the packer after it
  abbrev after : PackerState
  after = record { history = new; held = drop sent held }

  -- The packets afterwards and the rest together are the packets before and the held text.
  joined_text : concat new.packets ≡ concat old.packets ++ take sent held → whole_text after ≡ whole_text before
  joined_text e =
      ap (λ (l : List ℕ). l ++ drop sent held) e ∙ append_assoc (concat old.packets) (take sent held) (drop sent held)
      ∙ ap (λ (l : List ℕ). concat old.packets ++ l) (take-append-drop sent held)

  -- The cause of an error says which bytes the writer took.
  cause_text : (e : SinkError) → HasCause kind old new (take sent held) (drop sent held) e → kind.reports ≡ true
      → concat new.packets ≡ concat old.packets ++ take sent held
  cause_text e (inl refused) t = Sends-joined old new (take sent held) (refused.sent t)
  cause_text e (inr nothing) t =
      SendsThen-joined old new (take sent held) [] (nothing.sent t) ∙ ap (λ (l : List ℕ). concat old.packets ++ l) (append-nil (take sent held))

  -- The cause of an error says that the writer's packets only grew.
  cause_extends : (e : SinkError) → HasCause kind old new (take sent held) (drop sent held) e → kind.reports ≡ true → Extends old new
  cause_extends e (inl refused) t = Sends-Extends old new (take sent held) (refused.sent t)
  cause_extends e (inr nothing) t = SendsThen-Extends old new (take sent held) [] (nothing.sent t)

  -- A flush does what `Flushes` says, for each of the two results of sending the held text.
  pub Flushes-sent : {A : Type 0} (r : Result A SinkError) → 0 < length held → OnOk r (sent ≡ length held) → OnErr r (sent < length held)
      → OnOk r (RefusedNothing old new) → (kind.reports ≡ true → OnOk r (Sends old new held))
      → IfErr r (HasCause kind old new (take sent held) (drop sent held))
      → (kind.reports ≡ true → kind.takes_whole ≡ true → 0 < length held → OnOk r (new.packets ≡ old.packets ++ held ∷ []))
      → (kind.takes_whole ≡ true → OnErr r ((sent ≡ 0) × (new.packets ≡ old.packets))) → Flushes kind before after r
  Flushes-sent (Ok u) some all left kept sends cause one none =
      record {
        empties = drop_all sent held (omega arith);
        keeps_end = tt;
        idle = λ e. absurd (omega (arith, ap length e));
        none_refused = kept;
        cause = tt;
        text = λ t. joined_text (Sends-joined old new held (sends t)
            ∙ ap (λ (l : List ℕ). concat old.packets ++ l) (sym (take_all sent held (omega arith))));
        extends = λ t. Sends-Extends old new held (sends t);
        sent = sends;
        one_packet = λ t w. one t w some ∙ closed held some;
        unchanged = λ w. tt;
      }
    where
      closed : (text : List ℕ) → 0 < length text → old.packets ++ text ∷ [] ≡ old.packets ++ held_packet text
      closed [] p = absurd (omega arith)
      closed (b ∷ bs) p = refl
  Flushes-sent (Err e) some all left kept sends cause one none =
      record {
        empties = tt;
        keeps_end = (omega (arith, length-drop sent held), ap (λ (k : ℕ). drop k held) (sym (taken_is held sent (omega arith))));
        idle = λ e. absurd (omega (arith, ap length e));
        none_refused = tt;
        cause = subst (λ (k : ℕ). HasCause kind old new (take k held) (drop sent held) e) (sym (taken_is held sent (omega arith))) cause;
        text = λ t. joined_text (cause_text e cause t);
        extends = λ t. cause_extends e cause t;
        sent = λ _. tt;
        one_packet = λ _ _. tt;
        unchanged = λ w. (ap (λ (k : ℕ). drop k held) (none w).0, (none w).1);
      }
