-- The fates of packets, and the losses that they make.
use Rattle.std.proofs.Common.{◌≡◌, ℕ, ◌%◌, ◌+◌, ◌^◌, Bool, true, false, List, [], ◌∷◌, ◌++◌, length, refl, sym, ap, ap₂, ◌∙◌, arith}
use Rattle.std.specs.List.{filter, sum_by}
use Rattle.std.proofs.Math.Nat.{mod-add-mod}
use Rattle.std.proofs.lemmas.List.{append-nil, length-append, map-append}
use Rattle.std.proofs.lemmas.List.Elements.{filter-append}
use Rattle.std.proofs.lemmas.List.Sums.{sum_by-append}
use Rattle.cadence_send.specs.Losses.{Fate, fates_of, lines_of_packet, lost_of, losses_of, packets_in}
use Rattle.cadence_send.specs.declared.board.Losses.{Losses}

zip_more : (packets : List (List ℕ)) (are_lost : List Bool) (packet : List ℕ) (is_lost : Bool) → length are_lost ≡ length packets
    → fates_of (packets ++ packet ∷ []) (are_lost ++ is_lost ∷ []) ≡ fates_of packets are_lost ++ (packet, is_lost) ∷ []
zip_more [] [] packet is_lost same = refl
zip_more [] (l ∷ ls) packet is_lost same = absurd (omega (arith, same))
zip_more (p ∷ ps) [] packet is_lost same = absurd (omega (arith, same))
zip_more (p ∷ ps) (l ∷ ls) packet is_lost same = ap (λ fs. (p, l) ∷ fs) (zip_more ps ls packet is_lost (omega (arith, same)))

-- If a packet comes beside whether it is lost, its fate comes last.
pub fates_more : (packets after : List (List ℕ)) (are_lost are_after : List Bool) (packet : List ℕ) (is_lost : Bool)
    → after ≡ packets ++ packet ∷ [] → are_after ≡ are_lost ++ is_lost ∷ [] → length are_lost ≡ length packets
    → fates_of after are_after ≡ fates_of packets are_lost ++ (packet, is_lost) ∷ []
fates_more packets after are_lost are_after packet is_lost p l same = ap₂ fates_of p l ∙ zip_more packets are_lost packet is_lost same

-- They are then as many as before, and one.
pub paired_more : (packets after : List (List ℕ)) (are_lost are_after : List Bool) (packet : List ℕ) (is_lost : Bool)
    → after ≡ packets ++ packet ∷ [] → are_after ≡ are_lost ++ is_lost ∷ [] → length are_lost ≡ length packets
    → length are_after ≡ length after
paired_more packets after are_lost are_after packet is_lost p l same =
    ap length l ∙ length-append are_lost (is_lost ∷ []) ∙ ap (λ n. n + 1) same ∙ sym (length-append packets (packet ∷ [])) ∙ sym (ap length p)

one_more : (n m : ℕ) → m ≡ n + 1 → (n % 2 ^ 64 + 1) % 2 ^ 64 ≡ m % 2 ^ 64
one_more n m e = mod-add-mod n (2 ^ 64) 1 ∙ ap (λ k. k % 2 ^ 64) (sym e)

lost_more : (fates : List Fate) (f : Fate) → lost_of (fates ++ f ∷ []) ≡ lost_of fates ++ lost_of (f ∷ [])
lost_more fates f =
    ap packets_in (filter-append (λ (g : Fate). g.1) fates (f ∷ []))
    ∙ map-append (λ (g : Fate). g.0) (filter (λ (g : Fate). g.1) fates) (filter (λ (g : Fate). g.1) (f ∷ []))

abbrev losses_by : ℕ → ℕ → ℕ → Losses
losses_by given packets lines = record { given = given; packets = packets; lines = lines }

-- the losses after one more packet was sent
pub losses_sent : (l : Losses) (fates after : List Fate) (packet : List ℕ) → l ≡ losses_of fates → after ≡ fates ++ (packet, false) ∷ []
    → record l { given = (l.given + 1) % 2 ^ 64 } ≡ losses_of after
losses_sent l fates after packet counted more =
    let lost : lost_of (fates ++ (packet, false) ∷ []) ≡ lost_of fates = lost_more fates (packet, false) ∙ append-nil (lost_of fates) in
    let given = one_more (length fates) (length (fates ++ (packet, false) ∷ [])) (length-append fates ((packet, false) ∷ [])) in
    ap (λ (m : Losses). record m { given = (m.given + 1) % 2 ^ 64 }) counted
    ∙ ap₂ (λ (ps : List (List ℕ)) n. record { given = n; packets = length ps % 2 ^ 64; lines = sum_by lines_of_packet ps % 2 ^ 64 }) (sym lost) given
    ∙ ap losses_of (sym more)

losses_eq : {a b c x y z : ℕ} → a ≡ x → b ≡ y → c ≡ z → losses_by a b c ≡ losses_by x y z
losses_eq p q r = ap₂ (λ (f : ℕ × ℕ) l. losses_by f.0 f.1 l) (ap₂ (λ g p. (g, p)) p q) r

-- the losses after one more packet was lost
pub losses_lost : (l : Losses) (fates after : List Fate) (packet : List ℕ) (n : ℕ) → l ≡ losses_of fates → after ≡ fates ++ (packet, true) ∷ []
    → n ≡ lines_of_packet packet
    → record { given = (l.given + 1) % 2 ^ 64; packets = (l.packets + 1) % 2 ^ 64; lines = (l.lines + n) % 2 ^ 64 } ≡ losses_of after
losses_lost l fates after packet n counted more count =
    let lost : lost_of (fates ++ (packet, true) ∷ []) ≡ lost_of fates ++ packet ∷ [] = lost_more fates (packet, true) in
    let given = one_more (length fates) (length (fates ++ (packet, true) ∷ [])) (length-append fates ((packet, true) ∷ [])) in
    let packets = one_more (length (lost_of fates)) (length (lost_of fates ++ packet ∷ [])) (length-append (lost_of fates) (packet ∷ [])) in
    let last : sum_by lines_of_packet (packet ∷ []) ≡ lines_of_packet packet = omega arith in
    let sums : sum_by lines_of_packet (lost_of fates ++ packet ∷ []) ≡ sum_by lines_of_packet (lost_of fates) + lines_of_packet packet =
    sum_by-append lines_of_packet (lost_of fates) (packet ∷ []) ∙ ap (λ k. sum_by lines_of_packet (lost_of fates) + k) last in
    let lines = mod-add-mod (sum_by lines_of_packet (lost_of fates)) (2 ^ 64) (lines_of_packet packet) ∙ ap (λ k. k % 2 ^ 64) (sym sums) in
    ap₂ (λ (m : Losses) k. record { given = (m.given + 1) % 2 ^ 64; packets = (m.packets + 1) % 2 ^ 64; lines = (m.lines + k) % 2 ^ 64 }) counted count
    ∙ losses_eq given packets lines
    ∙ ap (λ (ps : List (List ℕ)). record { given = length (fates ++ (packet, true) ∷ []) % 2 ^ 64; packets = length ps % 2 ^ 64; lines = sum_by lines_of_packet ps % 2 ^ 64 }) (sym lost)
    ∙ ap losses_of (sym more)
