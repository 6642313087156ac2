-- The product and the inverse of pairs as the code works them out, from the answers of the field below.
use Rattle.std.proofs.Common.{◌≡◌, ◌≢◌, ℕ, ◌+◌, ◌*◌, ◌/◌, ◌%◌, ◌^◌, ◌<◌, ◌≤◌, List, [], ◌∷◌, Ok, Err, sym, refl, ap, ◌∙◌, subst, div-lt_iff_lt-mul, arith, pow_pos, pow-add, shl_exact}
use lib.Bits.{bit_or, bit_xor, or_shifted, xor_lt}
use Rattle.std.proofs.lemmas.Bool.Decides.{nat_tests}
use Rattle.faults.specs.declared.Fault.{Fault}
use Rattle.fields.specs.Meaning.{FieldMeaning, FieldLaws, size}
use Rattle.fields.specs.Answers.{product_answer, inverse_answer}
use Rattle.fields.specs.Pairs.{pair_product, doubled}
use Rattle.fields.proofs.Answered.{both_granted, product_answered, inverse_answered, inverse_granted}
use Rattle.fields.proofs.Identities.{sum, prod, eval, solve, eval_below, Bounded, zero_times}
use Rattle.fields.proofs.PairLaws.{up, down, one_pair, bounded_one_pair, U, W, N, A, B, C, D, E, doubled_laws, nonzero_norm, pair_inverse}
use Rattle.pair_fields.specs.Pairs.{norm_answer}

module _ (f : FieldMeaning) (L : FieldLaws f) where
  -- ---- products that are not refused: of a product and c, of two sums, and with an inverse

  pub c_granted : (x y z c : ℕ) (fault : Fault) → Ok z ≡ product_answer f x y → c ≡ f.c → Err fault ≢ product_answer f z c
  c_granted x y z c fault p ec = grind (arith, nat_tests, L.closed x y, L.c_below)

  pub sums_granted : (a b d e ad be : ℕ) (fault : Fault) → Ok ad ≡ product_answer f a d → Ok be ≡ product_answer f b e
      → Err fault ≢ product_answer f (bit_xor a b) (bit_xor d e)
  sums_granted a b d e ad be fault p q = grind (arith, nat_tests, xor_lt f.width a b, xor_lt f.width d e)

  pub inverse_times_granted : (a b n i : ℕ) (fault : Fault) → Ok n ≡ norm_answer f a b → Ok i ≡ inverse_answer f n
      → (Err fault ≢ product_answer f a i) × (Err fault ≢ product_answer f (bit_xor a b) i)
  inverse_times_granted a b n i fault p q =
      let granted = inverse_granted f L n i q in
      (grind (arith, nat_tests), grind (arith, nat_tests, xor_lt f.width a b))

  -- ---- the norm

  pub norm_refused : (a b aa : ℕ) (fault : Fault) → Ok aa ≡ product_answer f a a → Err fault ≡ product_answer f b (bit_xor a b) → Err fault ≡ norm_answer f a b
  norm_refused a b aa fault p q = grind (arith, nat_tests, xor_lt f.width a b)

  pub norm_stands : (a b aa low c high : ℕ) → Ok aa ≡ product_answer f a a → Ok low ≡ product_answer f b (bit_xor a b) → c ≡ f.c → Ok high ≡ product_answer f aa c
      → Ok (bit_xor low high) ≡ norm_answer f a b
  norm_stands a b aa low c high p q ec r =
      let (ha, _, _) = both_granted f a a _ aa p in
      let (hb, _, _) = both_granted f b (bit_xor a b) _ low q in
      let e = solve f L (a ∷ b ∷ f.c ∷ []) (ha, (hb, (L.c_below, tt))) (sum (prod B (sum A B)) (prod (prod A A) C)) N refl in
      grind (arith, nat_tests)

  -- ---- pairs

  joined : f.width ≤ 4 → (s t : ℕ) → s < size f → t < size f → bit_or ((s * size f) % 2 ^ 16) t ≡ s * size f + t
  joined h s t hs ht = ap (λ (n : ℕ). bit_or n t) (shl_exact f.width f.width 16 hs (omega arith)) ∙ or_shifted s f.width t ht

  pair_below : (x a : ℕ) → a ≡ x / size f → a < size f → x < size (doubled f)
  pair_below x a e ha = grind (arith, pow-add, div-lt_iff_lt-mul, pow_pos)

  module _ (x y a b d e : ℕ) (xa : a ≡ x / size f) (xb : b ≡ x % size f) (yd : d ≡ y / size f) (ye : e ≡ y % size f) where
    pub product_refused : (fault : Fault) → Err fault ≡ product_answer f a d → Err fault ≡ product_answer (doubled f) x y
    product_refused fault p = grind (arith, nat_tests, up f L x, up f L y)

    pub product_stands : f.width ≤ 4 → (ad be all c adc : ℕ) → Ok ad ≡ product_answer f a d → Ok be ≡ product_answer f b e
        → Ok all ≡ product_answer f (bit_xor a b) (bit_xor d e) → c ≡ f.c → Ok adc ≡ product_answer f ad c
        → Ok (bit_or ((bit_xor all be * size f) % 2 ^ 16) (bit_xor be adc)) ≡ product_answer (doubled f) x y
    unfolding pair_product
    product_stands h ad be all c adc p1 p2 p3 ec p4 =
        let (ha, hd, e1) = both_granted f a d _ ad p1 in
        let (hb, he, e2) = both_granted f b e _ be p2 in
        let (_, _, e3) = both_granted f (bit_xor a b) (bit_xor d e) _ all p3 in
        let (_, _, e4) = both_granted f ad c _ adc p4 in
        let vs : List ℕ = a ∷ b ∷ f.c ∷ d ∷ e ∷ [] in
        let bs : Bounded f vs = (ha, (hb, (L.c_below, (hd, (he, tt))))) in
        let high = solve f L vs bs (sum (prod (sum A B) (sum D E)) (prod B E)) (U A B D E) refl in
        let whole = joined h (eval f vs (U A B D E)) (eval f vs (W A B D E)) (eval_below f L vs bs (U A B D E)) (eval_below f L vs bs (W A B D E)) in
        product_answered (doubled f) x y _ (pair_below x a xa ha) (pair_below y d yd hd) (cc)

  module _ (x a b : ℕ) (xa : a ≡ x / size f) (xb : b ≡ x % size f) where
    pub inverse_norm_refused : (fault : Fault) → Err fault ≡ norm_answer f a b → Err fault ≡ inverse_answer (doubled f) x
    inverse_norm_refused fault p = grind (arith, nat_tests, up f L x, down f L x)

    norm_is : (n : ℕ) → Ok n ≡ norm_answer f a b → (a < size f) × (b < size f) × (n ≡ eval f (one_pair f L x) N)
    norm_is n p = grind (arith, nat_tests)

    pub inverse_refused_below : (n : ℕ) (fault : Fault) → Ok n ≡ norm_answer f a b → Err fault ≡ inverse_answer f n → Err fault ≡ inverse_answer (doubled f) x
    inverse_refused_below n fault p q =
        let (ha, hb, e) = norm_is n p in
        let hx = pair_below x a xa ha in
        let hn = eval_below f L (one_pair f L x) (bounded_one_pair f L x hx) N in
        grind (arith, nat_tests, nonzero_norm f L x)

    pub inverse_stands : f.width ≤ 4 → (n i s t : ℕ) → Ok n ≡ norm_answer f a b → Ok i ≡ inverse_answer f n → Ok s ≡ product_answer f a i → Ok t ≡ product_answer f (bit_xor a b) i
        → Ok (bit_or ((s * size f) % 2 ^ 16) t) ≡ inverse_answer (doubled f) x
    inverse_stands h n i s t p q ps pt =
        let (ha, hb, e) = norm_is n p in
        let (_, _, hi, u) = inverse_granted f L n i q in
        let (_, _, es) = both_granted f a i _ s ps in
        let (_, _, et) = both_granted f (bit_xor a b) i _ t pt in
        let hx = pair_below x a xa ha in
        let (hy, one) = pair_inverse f L x i hx hi (ap (λ (k : ℕ). f.product k i) (sym e) ∙ u) in
        let y : ℕ = bit_or ((s * size f) % 2 ^ 16) t in
        let joint = joined h (f.product a i) (f.product (bit_xor a b) i) (L.closed a i ha hi) (L.closed (bit_xor a b) i (xor_lt f.width a b ha hb) hi) in
        let whole : y ≡ f.product (x / size f) i * size f + f.product (bit_xor (x / size f) (x % size f)) i = cc in
        let below : y < size (doubled f) = subst (λ (k : ℕ). k < size (doubled f)) (sym whole) hy in
        let inverts : pair_product f x y ≡ 1 = ap (pair_product f x) whole ∙ one in
        inverse_answered (doubled f) (doubled_laws f L h) x y hx (λ e. grind (arith, zero_times (doubled f) (doubled_laws f L h) y below)) below inverts
