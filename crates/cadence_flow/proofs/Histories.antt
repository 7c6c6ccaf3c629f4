-- How a writer's history grows.
use Rattle.std.proofs.Common.{◌≡◌, ℕ, ◌++◌, ◌∷◌, List, [], sym, ap, ◌∙◌, append_assoc}
use Rattle.std.proofs.lemmas.List.{append-nil}
use Rattle.std.proofs.lemmas.List.Folds.{concat-append}
use Rattle.std.specs.List.{concat}
use Rattle.cadence_flow.specs.Writer.{PacketHistory, Extends, Sends, SendsThen}

-- One more packet at the end adds its bytes to those of the packets.
pub concat-push : (ps : List (List ℕ)) (p : List ℕ) → concat (ps ++ p ∷ []) ≡ concat ps ++ p
concat-push ps p = concat-append ps (p ∷ []) ∙ ap (λ (l : List ℕ). concat ps ++ l) (append-nil p)

-- A history with the same packets extends the other one.
pub Extends-refl : (old new : PacketHistory) → new.packets ≡ old.packets → Extends old new
Extends-refl old new e = ([], e ∙ sym (append-nil old.packets))

-- If each of two steps extends the history, both together do.
pub Extends-trans : (old mid new : PacketHistory) → Extends old mid → Extends mid new → Extends old new
Extends-trans old mid new a b =
    (a.0 ++ b.0, b.1 ∙ ap (λ (l : List (List ℕ)). l ++ b.0) a.1 ∙ append_assoc old.packets a.0 b.0)

-- Sending a text adds the text to the bytes of the packets.
pub Sends-joined : (old new : PacketHistory) (text : List ℕ) → Sends old new text → concat new.packets ≡ concat old.packets ++ text
Sends-joined old new text s =
    ap (λ (ps : List (List ℕ)). concat ps) s.packets ∙ concat-append old.packets s.more ∙ ap (λ (l : List ℕ). concat old.packets ++ l) s.joined

-- Sending a text and one more packet adds both to the bytes of the packets.
pub SendsThen-joined : (old new : PacketHistory) (text packet : List ℕ) → SendsThen old new text packet
    → concat new.packets ≡ concat old.packets ++ (text ++ packet)
SendsThen-joined old new text packet s =
    ap (λ (ps : List (List ℕ)). concat ps) s.packets ∙ concat-append old.packets (s.more ++ packet ∷ [])
    ∙ ap (λ (l : List ℕ). concat old.packets ++ l) (concat-push s.more packet ∙ ap (λ (l : List ℕ). l ++ packet) s.joined)

-- Sending a text extends the history.
pub Sends-Extends : (old new : PacketHistory) (text : List ℕ) → Sends old new text → Extends old new
Sends-Extends old new text s = (s.more, s.packets)

-- Sending a text and one more packet extends the history.
pub SendsThen-Extends : (old new : PacketHistory) (text packet : List ℕ) → SendsThen old new text packet → Extends old new
SendsThen-Extends old new text packet s = (s.more ++ packet ∷ [], s.packets)

-- If a text was sent and then one more packet was taken, the text was sent and the packet after it.
pub Sends-then : (old mid new : PacketHistory) (text packet : List ℕ) → Sends old mid text → new.packets ≡ mid.packets ++ packet ∷ []
    → SendsThen old new text packet
Sends-then old mid new text packet s e =
    record {
      more = s.more;
      packets = e ∙ ap (λ (l : List (List ℕ)). l ++ packet ∷ []) s.packets ∙ append_assoc old.packets s.more (packet ∷ []);
      joined = s.joined;
      none_empty = s.none_empty;
    }
