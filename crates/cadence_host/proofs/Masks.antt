-- From the mask of a load to the bytes under it.
use Rattle.std.proofs.Common.{◌≡◌, ℕ, ◌+◌, ◌*◌, ◌%◌, ◌^◌, ◌≤◌, ◌<◌, ◌↔◌, leb, cond, false, List, [], ◌∷◌, length, get_or, map, replicate, nat_eq, w8, IsTrue, refl, sym, ap, ◌∙◌, arith}
use Rattle.std.proofs.lemmas.Bool.{eqb-true, eq-eqb, leb-false, lt-leb}
use Rattle.std.proofs.lemmas.Simd.{Each1-from_get_or, length-chunk, get_or-chunk, mask_l-mod, none_from_empty_mask, tops_compared, zip2_splat_left}
use Rattle.std.proofs.lemmas.List.{length-map}
use lib.Lanes.{Each1, chunk, mask_l, top, zip2}
use Rattle.cadence_host.specs.Ascii.{IsAsciiBetween}

-- The test of a vector of n lanes, as the code makes it.
abbrev pub mask_of : List ℕ → ℕ → ℕ → ℕ
mask_of d i n = mask_l (map (top 7) (zip2 (λ a b. cond (leb a b) 255 0) (replicate n 128) (chunk i n d))) % 2 ^ 64

-- If each byte is below 128, no bit of the mask is set.
none_set : (bs : List ℕ) → Each1 (λ b. leb 128 b ≡ false) bs → mask_l (map (leb 128) bs) ≡ 0
none_set [] h = refl
none_set (b ∷ bs) h = ap (λ one. cond one 1 0 + 2 * mask_l (map (leb 128) bs)) h.0 ∙ ap (λ m. cond false 1 0 + 2 * m) (none_set bs h.1)

module _ (d : List ℕ) (i n : ℕ) (room : i + n ≤ length d) (few : n ≤ 64) where
  mask : mask_of d i n ≡ mask_l (map (leb 128) (chunk i n d))
  mask =
      let v = chunk i n d in
      let long = length-chunk i n d room in
      ap (λ l. mask_l l % 2 ^ 64) (tops_compared w8 leb (replicate n 128) v ∙ zip2_splat_left leb 128 n v long)
      ∙ mask_l-mod (map (leb 128) v) 64 (omega (arith, length-map v (leb 128), long))

  below : IsAsciiBetween d i (i + n) → (k : ℕ) → k < length (chunk i n d) → leb 128 (get_or (chunk i n d) k 0) ≡ false
  below ascii k inside =
      let within : k < n = omega (arith, length-chunk i n d room) in
      ap (leb 128) (get_or-chunk i n d k 0 within) ∙ lt-leb 128 (get_or d (i + k) 0) (ascii (i + k) (omega arith) (omega arith))

  pub ascii_at : IsTrue (nat_eq (mask_of d i n) 0) ↔ IsAsciiBetween d i (i + n)
  ascii_at = (
    λ none k from to. leb-false 128 (get_or d k 0) (none_from_empty_mask (leb 128) d i n 0 room (sym mask ∙ eqb-true _ 0 none) k from to),
    λ ascii. eq-eqb _ 0 (mask ∙ none_set (chunk i n d) (Each1-from_get_or (λ b. leb 128 b ≡ false) (chunk i n d) 0 (below ascii))),
  )
