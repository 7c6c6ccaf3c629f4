-- The packets of a run, read one after the other.
use Rattle.std.proofs.Common.{◌≡◌, ℕ, zero, suc, ◌+◌, ◌<◌, ◌≤◌, List, [], ◌∷◌, ◌++◌, length, map, take, get_or, refl, sym, ap, ap₂, ◌∙◌, subst, arith}
use Rattle.std.specs.List.{AllZip, flat_map}
use Rattle.std.proofs.lemmas.List.{append-nil, take_more, take_all, get_or-map, length-map}
use Rattle.std.proofs.lemmas.List.Concat.{flat_map-append}
use Rattle.cadence_text.specs.Metric.{Metric}
use Rattle.cadence_errors.specs.declared.input_error.InputError.TheVariants.{Unusable, OutOfMemory}
use Rattle.cadence_read.specs.Faults.{Fault, not_metrics}
use Rattle.cadence_read.specs.Listed.{IsListOf, AreListed, FailsPacket}
use Rattle.cadence_read.proofs.PacketRead.{list_once}

zip_more : {A B : Type 0} (R : A → B → Type 0) (xs : List A) (ys : List B) (x : A) (y : B) → AllZip R xs ys → R x y
    → AllZip R (xs ++ x ∷ []) (ys ++ y ∷ [])
zip_more R [] [] x y h r = (r, tt)
zip_more R [] (b ∷ ys) x y h r = absurd h
zip_more R (a ∷ xs) [] x y h r = absurd h
zip_more R (a ∷ xs) (b ∷ ys) x y h r = (h.0, zip_more R xs ys x y h.1 r)

zip_at : {A B : Type 0} (R : A → B → Type 0) (xs : List A) (ys : List B) (k : ℕ) (d : A) → AllZip R xs ys → k < length xs
    → (y : B) × R (get_or xs k d) y
zip_at R [] ys k d h within = absurd (omega arith)
zip_at R (a ∷ xs) [] k d h within = absurd h
zip_at R (a ∷ xs) (b ∷ ys) zero d h within = (b, h.0)
zip_at R (a ∷ xs) (b ∷ ys) (suc k) d h within = zip_at R xs ys k d h.1 (omega arith)

-- If the packets so far are read as metrics, and one more packet is, then all of them together are.
pub listed_more : (packets : List (List ℕ)) (metrics more : List Metric) (packet : List ℕ) → AreListed packets metrics
    → IsListOf packet more → AreListed (packets ++ packet ∷ []) (metrics ++ more)
listed_more packets metrics more packet h list = (
  h.0 ++ more ∷ [],
  zip_more IsListOf packets h.0 packet more h.1 list,
  flat_map-append (λ list. list) h.0 (more ∷ []) ∙ ap₂ (λ a b. a ++ b) h.2 (append-nil more),
)

-- If one of the packets is not the packet of any list of metrics, then no metrics have these packets.
pub run_fails : (packets : List (List ℕ)) (e : Fault) (packet : List ℕ) (k : ℕ) (d : List ℕ) → k < length packets
    → get_or packets k d ≡ packet → FailsPacket packet e → e ≡ not_metrics → (metrics : List Metric) → AreListed packets metrics → ⊥
run_fails packets (Unusable why) packet k d within here none is metrics h =
    let (list, one) = zip_at IsListOf packets h.0 k d h.1 within in
    none list (subst (λ p. IsListOf p list) here one)
run_fails packets OutOfMemory packet k d within here none is metrics h = absurd cc

-- There is at most one list of metrics for each packet.
lists_once : (packets : List (List ℕ)) (xs ys : List (List Metric)) → AllZip IsListOf packets xs → AllZip IsListOf packets ys → xs ≡ ys
lists_once [] [] [] hx hy = refl
lists_once [] (x ∷ xs) ys hx hy = absurd hx
lists_once [] [] (y ∷ ys) hx hy = absurd hy
lists_once (p ∷ ps) [] ys hx hy = absurd hx
lists_once (p ∷ ps) (x ∷ xs) [] hx hy = absurd hy
lists_once (p ∷ ps) (x ∷ xs) (y ∷ ys) hx hy =
    let first : x ≡ y = list_once p x y hx.0 hy.0 in
    let rest : xs ≡ ys = lists_once ps xs ys hx.1 hy.1 in
    λ i. first i ∷ rest i

pub run_once : (packets : List (List ℕ)) (metrics others : List Metric) → AreListed packets metrics → AreListed packets others → others ≡ metrics
run_once packets metrics others found other =
    sym other.2 ∙ ap (flat_map (λ list. list)) (lists_once packets other.0 found.0 other.1 found.1) ∙ found.2

pub listed_same : (packets others : List (List ℕ)) (metrics same : List Metric) → packets ≡ others → metrics ≡ same
    → AreListed packets metrics → AreListed others same
listed_same packets others metrics same e f h = subst (λ ms. AreListed others ms) f (subst (λ ps. AreListed ps metrics) e h)

-- The packet at an index is that of the item at the same index.
pub packet_at : {X : Type 0} (items : X → List ℕ) (xs : List X) (k : ℕ) (x : X) (d : List ℕ) → k < length xs → x ≡ get_or xs k x
    → get_or (map items xs) k d ≡ items x
packet_at items xs k x d within is = get_or-map items xs k x d within ∙ ap items (sym is)

pub taken_more : {X : Type 0} (items : X → List ℕ) (xs : List X) (k : ℕ) (x : X) → k < length xs → x ≡ get_or xs k x
    → take k (map items xs) ++ items x ∷ [] ≡ take (k + 1) (map items xs)
taken_more items xs k x within is =
    let inside : k < length (map items xs) = omega (arith, within, length-map xs items) in
    sym (take_more (map items xs) k (items x) inside ∙ ap (λ p. take k (map items xs) ++ p ∷ []) (packet_at items xs k x (items x) within is))

pub taken_all : {X : Type 0} (items : X → List ℕ) (xs : List X) (k : ℕ) → length xs ≤ k → take k (map items xs) ≡ map items xs
taken_all items xs k whole = let short : length (map items xs) ≤ k = omega (arith, whole, length-map xs items) in take_all k (map items xs) short
