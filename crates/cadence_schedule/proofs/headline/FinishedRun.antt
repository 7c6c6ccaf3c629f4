-- What a run shows at its end: its packets, its cut, its counts and its sums.
use Rattle.std.proofs.Common.{◌≡◌, ℕ, zero-le, ◌+◌, ◌%◌, ◌^◌, ◌<◌, ◌≤◌, List, [], ◌∷◌, ◌++◌, Option, Some, None, Ok, Bool, true}
use Rattle.std.proofs.Common.{false, length, drop, refl, sym, ap, ◌∙◌, arith, subst, cond, map}
use Rattle.std.specs.List.{concat}
use Rattle.std.specs.Option.{option_to_list}
use Rattle.std.proofs.lemmas.List.{append-nil, append_assoc, length-append, drop_at}
use Rattle.std.proofs.lemmas.List.Concat.{flat_map-append}
use Rattle.std.proofs.lemmas.List.Folds.{concat-append}
use Rattle.std.proofs.lemmas.List.Sums.{sum_by-cons}
use Rattle.cadence_flow.specs.Frame.{Format, frame, stream, held_packet}
use Rattle.cadence_flow.specs.Sums.{less, start_of, counted_kind, start_if, zero_sums}
use Rattle.cadence_flow.specs.Writer.{PacketHistory, WriterKind, Extends}
use Rattle.cadence_flow.specs.declared.stats.SinkStats.{SinkStats}
use Rattle.cadence_settings.specs.declared.call.Call.{Call}
use Rattle.cadence_schedule.specs.declared.steps.Step.TheVariants as step
use Rattle.cadence_schedule.specs.declared.steps.Reply.TheVariants as reply
use Rattle.cadence_schedule.specs.Headline.{packets_between, AreSumsBetween}
use Rattle.cadence_schedule.specs.RunHistory.{Turn, accepted, accepted_by_turn, error_count, is_error}
use Rattle.cadence_schedule.proofs.packets.ListEnds.{joined}

-- The packets and then the held text as a packet, joined, are the packets, joined, and then the held text.
pub joined_packets : (packets : List (List ℕ)) (held : List ℕ) → concat (packets ++ held_packet held) ≡ concat packets ++ held
joined_packets [] [] = refl
joined_packets [] (b ∷ held) = append-nil (b ∷ held)
joined_packets (p ∷ packets) held = ap (λ t. p ++ t) (joined_packets packets held) ∙ sym (append_assoc p (concat packets) held)

pub joined_groups : (format : Format) (groups : List (List (List ℕ))) → concat (map (stream format) groups) ≡ stream format (joined groups)
joined_groups format [] = refl
joined_groups format (group ∷ groups) =
    ap (λ t. stream format group ++ t) (joined_groups format groups) ∙ sym (flat_map-append (frame format) group (joined groups))

-- If two equal texts have the same beginning, they have the same rest.
pub goes_on : (xs ys zs : List ℕ) → xs ++ ys ≡ xs ++ zs → ys ≡ zs
goes_on [] ys zs e = e
goes_on (x ∷ xs) ys zs e = goes_on xs ys zs (let tail : xs ++ ys ≡ xs ++ zs = cc in tail)

pub between_is : (before after : PacketHistory) (more : List (List ℕ)) → after.packets ≡ before.packets ++ more → packets_between before after ≡ more
between_is before after more e = ap (drop (length before.packets)) e ∙ drop_at before.packets more (length before.packets) refl

pub short_mod : (n m : ℕ) → n ≤ m → m < 2 ^ 64 → n % 2 ^ 64 ≡ n
short_mod n m h short = omega arith

-- If a count that stayed the same grew by n modulo 2 to the 64, and n is below that, n is 0.
pub none_counted : (new old n m : ℕ) → new ≡ old → new % 2 ^ 64 ≡ (old + n) % 2 ^ 64 → n ≤ m → m < 2 ^ 64 → n ≡ 0
none_counted new old n m e f g k = omega arith

module _ {A : Type 0} (line_of : Call A → Option (List ℕ)) where
  bit_le : (b : Bool) → cond b 1 0 ≤ 1
  bit_le true = omega arith
  bit_le false = omega arith

  pub errors_le : (h : List (Turn A)) → error_count h ≤ length h
  errors_le [] = zero-le
  errors_le (t ∷ h) = omega (arith, sum_by-cons (λ u. cond (is_error u) 1 0) t h, bit_le (is_error t), errors_le h)

  option_one : (o : Option (List ℕ)) → length (option_to_list o) ≤ 1
  option_one None = zero-le
  option_one (Some line) = omega arith

  accepted_one : (t : Turn A) → length (accepted_by_turn line_of t) ≤ 1
  accepted_one (step.Call call, reply.Called (Ok n)) = option_one (line_of call)
  accepted_one (step.Call call, reply.CallDropped n m) = option_one (line_of call)
  accepted_one _ = zero-le

  pub accepted_le : (h : List (Turn A)) → length (accepted line_of h) ≤ length h
  accepted_le [] = zero-le
  accepted_le (t ∷ h) = omega (arith, length-append (accepted_by_turn line_of t) (accepted line_of h), accepted_one t, accepted_le h)

-- A sum that began at 0 is what was added to it, modulo 2 to the 64.
sum_between : (s n0 n1 more : ℕ) → n1 ≡ n0 + more → s < 2 ^ 64 → less s n1 ≡ less 0 n0 → s ≡ more % 2 ^ 64
sum_between s n0 n1 more e small same = omega arith

drop_between : (s n0 n1 : ℕ) → less s n1 ≡ less 0 n0 → (n0 + s) % 2 ^ 64 ≡ n1 % 2 ^ 64
drop_between s n0 n1 same = omega arith

-- If a counting writer has the kind of one that began with sums of 0, it began with sums of 0 too.
counted_start : (k0 k1 : WriterKind) (h0 h1 : PacketHistory) (s : SinkStats) → counted_kind k1 h1 s ≡ counted_kind k0 h0 zero_sums
    → k0.reports ≡ true → start_of s h1 ≡ start_of zero_sums h0
counted_start k0 k1 h0 h1 s same reports =
    let told : k1.reports ≡ true = ap (λ (k : WriterKind). k.reports) same ∙ reports in
    subst (λ b. start_of s h1 ≡ start_if b zero_sums h0) reports
    (subst (λ b. start_if b s h1 ≡ start_if k0.reports zero_sums h0) told (ap (λ (k : WriterKind). k.start) same))

length_between : (h0 h1 : PacketHistory) (more : List (List ℕ)) → h1.packets ≡ h0.packets ++ more
    → length (concat h1.packets) ≡ length (concat h0.packets) + length (concat more)
length_between h0 h1 more e = ap (λ p. length (concat p)) e ∙ ap (λ t. length t) (concat-append h0.packets more)
    ∙ length-append (concat h0.packets) (concat more)

pub run_sums : (k0 k1 : WriterKind) (h0 h1 : PacketHistory) (s : SinkStats) → counted_kind k1 h1 s ≡ counted_kind k0 h0 zero_sums
    → k0.reports ≡ true → Extends h0 h1 → s.bytes_sent < 2 ^ 64 → s.packets_sent < 2 ^ 64 → AreSumsBetween h0 h1 s
run_sums k0 k1 h0 h1 s same reports (more, e) bytes packets =
    let began : start_of s h1 ≡ start_of zero_sums h0 = counted_start k0 k1 h0 h1 s same reports in
    let between : packets_between h0 h1 ≡ more = between_is h0 h1 more e in
    record {
      bytes_sent =
          sum_between s.bytes_sent (length (concat h0.packets)) (length (concat h1.packets)) (length (concat more))
          (length_between h0 h1 more e) bytes (ap (λ (t : SinkStats). t.bytes_sent) began)
          ∙ ap (λ p. length (concat p) % 2 ^ 64) (sym between);
      packets_sent = sum_between s.packets_sent (length h0.packets) (length h1.packets) (length more) (ap (λ p. length p) e
          ∙ length-append h0.packets more) packets (ap (λ (t : SinkStats). t.packets_sent) began)
          ∙ ap (λ p. length p % 2 ^ 64) (sym between);
      bytes_dropped = drop_between s.bytes_dropped h0.refused_bytes h1.refused_bytes (ap (λ (t : SinkStats). t.bytes_dropped) began);
      packets_dropped = drop_between s.packets_dropped h0.refusals h1.refusals (ap (λ (t : SinkStats). t.packets_dropped) began);
    }
