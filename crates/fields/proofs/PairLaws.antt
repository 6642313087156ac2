-- The pairs over a field are a field.
use Rattle.std.proofs.Common.{◌≡◌, ◌≢◌, ℕ, zero, suc, ◌+◌, ◌*◌, ◌/◌, ◌%◌, ◌<◌, ◌≤◌, leb, List, [], ◌∷◌, sym, refl, ◌∙◌, subst, ap₂, mod-lt, mod-eq_of_lt, zero-mul, arith, leb-true, pow_pos, pow-add, shl_lt, shr_lt}
use native.Mathlib.Nat.{div-eq_of_lt}
use lib.Arith.{digits_lt}
use lib.Bits.{bit_xor, xor_shr, xor_mod, xor_block}
use lib.Pow.{split, high, low, shl-shr}
use Rattle.std.proofs.lemmas.Bool.{cond_both}
use Rattle.fields.specs.Meaning.{FieldMeaning, FieldLaws, size}
use Rattle.fields.specs.Pairs.{upper, lower, pair_product, doubled, pair, norm}
use Rattle.fields.proofs.Additive.{xor_same}
use Rattle.fields.proofs.Identities.{Expr, var, nought, one, sum, prod, eval, solve, eval_below, Bounded, one_below, times_zero}

-- ---- the coefficients of up to three pairs, A B, D E and G H, and c, as variables of expressions

abbrev pub A : Expr
A = var 0

abbrev pub B : Expr
B = var 1

abbrev pub C : Expr
C = var 2

abbrev pub D : Expr
D = var 3

abbrev pub E : Expr
E = var 4

abbrev G : Expr
G = var 5

abbrev H : Expr
H = var 6

-- the coefficients of a product
abbrev pub U : Expr → Expr → Expr → Expr → Expr
U = upper sum prod

abbrev pub W : Expr → Expr → Expr → Expr → Expr
W = lower sum prod C

-- the norm of a t + b
abbrev pub N : Expr
N = norm sum prod C A B

module _ (f : FieldMeaning) (L : FieldLaws f) where
  -- the coefficients of a pair are elements
  pub up : (x : ℕ) → x < size (doubled f) → x / size f < size f
  up x h = shr_lt f.width f.width h

  pub down : (x : ℕ) → x % size f < size f
  down x = mod-lt x (pow_pos f.width)

  -- what the variables stand for at one, two and three pairs
  abbrev pub one_pair : ℕ → List ℕ
  one_pair x = x / size f ∷ x % size f ∷ f.c ∷ []

  abbrev pub two_pairs : ℕ → ℕ → List ℕ
  two_pairs x y = x / size f ∷ x % size f ∷ f.c ∷ y / size f ∷ y % size f ∷ []

  abbrev three_pairs : ℕ → ℕ → ℕ → List ℕ
  three_pairs x y z = x / size f ∷ x % size f ∷ f.c ∷ y / size f ∷ y % size f ∷ z / size f ∷ z % size f ∷ []

  pub bounded_one_pair : (x : ℕ) → x < size (doubled f) → Bounded f (one_pair x)
  bounded_one_pair x hx = (up x hx, (down x, (L.c_below, tt)))

  pub bounded_two_pairs : (x y : ℕ) → x < size (doubled f) → y < size (doubled f) → Bounded f (two_pairs x y)
  bounded_two_pairs x y hx hy = (up x hx, (down x, (L.c_below, (up y hy, (down y, tt)))))

  bounded_three_pairs : (x y z : ℕ) → x < size (doubled f) → y < size (doubled f) → z < size (doubled f) → Bounded f (three_pairs x y z)
  bounded_three_pairs x y z hx hy hz = (up x hx, (down x, (L.c_below, (up y hy, (down y, (up z hz, (down z, tt)))))))

  abbrev pub join : ℕ → ℕ → ℕ
  join a b = a * size f + b

  -- the product of two pairs, by their coefficients
  abbrev of_pairs : ℕ → ℕ → ℕ → ℕ → ℕ
  of_pairs a b d e = join (upper bit_xor f.product a b d e) (lower bit_xor f.product f.c a b d e)

  product_up : (x y : ℕ) → x < size (doubled f) → y < size (doubled f)
      → pair_product f x y / size f ≡ upper bit_xor f.product (x / size f) (x % size f) (y / size f) (y % size f)
  unfolding pair_product
  product_up x y hx hy =
      high (upper bit_xor f.product (x / size f) (x % size f) (y / size f) (y % size f)) f.width
      (eval_below f L (two_pairs x y) (bounded_two_pairs x y hx hy) (W A B D E))

  product_down : (x y : ℕ) → x < size (doubled f) → y < size (doubled f)
      → pair_product f x y % size f ≡ lower bit_xor f.product f.c (x / size f) (x % size f) (y / size f) (y % size f)
  unfolding pair_product
  product_down x y hx hy =
      low (upper bit_xor f.product (x / size f) (x % size f) (y / size f) (y % size f)) f.width
      (eval_below f L (two_pairs x y) (bounded_two_pairs x y hx hy) (W A B D E))

  join_below : (a b : ℕ) → a < size f → b < size f → join a b < size (doubled f)
  join_below a b ha hb = subst (λ (n : ℕ). join a b < n) (sym (pow-add 2 f.width f.width)) (digits_lt ha hb)

  closed : (x y : ℕ) → x < size (doubled f) → y < size (doubled f) → pair_product f x y < size (doubled f)
  unfolding pair_product
  closed x y hx hy =
      join_below _ _ (eval_below f L (two_pairs x y) (bounded_two_pairs x y hx hy) (U A B D E)) (eval_below f L (two_pairs x y) (bounded_two_pairs x y hx hy) (W A B D E))

  commutes : (x y : ℕ) → x < size (doubled f) → y < size (doubled f) → pair_product f x y ≡ pair_product f y x
  unfolding pair_product
  commutes x y hx hy =
      ap₂ join
      (solve f L (two_pairs x y) (bounded_two_pairs x y hx hy) (U A B D E) (U D E A B) refl)
      (solve f L (two_pairs x y) (bounded_two_pairs x y hx hy) (W A B D E) (W D E A B) refl)

  associates : (x y z : ℕ) → x < size (doubled f) → y < size (doubled f) → z < size (doubled f)
      → pair_product f (pair_product f x y) z ≡ pair_product f x (pair_product f y z)
  unfolding pair_product
  associates x y z hx hy hz =
      ap₂ (λ (s t : ℕ). of_pairs s t (z / size f) (z % size f)) (product_up x y hx hy) (product_down x y hx hy)
      ∙ ap₂ join
      (solve f L (three_pairs x y z) (bounded_three_pairs x y z hx hy hz) (U (U A B D E) (W A B D E) G H) (U A B (U D E G H) (W D E G H)) refl)
      (solve f L (three_pairs x y z) (bounded_three_pairs x y z hx hy hz) (W (U A B D E) (W A B D E) G H) (W A B (U D E G H) (W D E G H)) refl)
      ∙ sym (ap₂ (λ (s t : ℕ). of_pairs (x / size f) (x % size f) s t) (product_up y z hy hz) (product_down y z hy hz))

  distributes : (x y z : ℕ) → x < size (doubled f) → y < size (doubled f) → z < size (doubled f)
      → pair_product f x (bit_xor y z) ≡ bit_xor (pair_product f x y) (pair_product f x z)
  unfolding pair_product
  distributes x y z hx hy hz =
      ap₂ (λ (s t : ℕ). of_pairs (x / size f) (x % size f) s t) (xor_shr y z f.width) (xor_mod y z f.width)
      ∙ ap₂ join
      (solve f L (three_pairs x y z) (bounded_three_pairs x y z hx hy hz) (U A B (sum D G) (sum E H)) (sum (U A B D E) (U A B G H)) refl)
      (solve f L (three_pairs x y z) (bounded_three_pairs x y z hx hy hz) (W A B (sum D G) (sum E H)) (sum (W A B D E) (W A B G H)) refl)
      ∙ sym (xor_block f.width
      (eval f (three_pairs x y z) (U A B D E)) (eval f (three_pairs x y z) (U A B G H)) (eval f (three_pairs x y z) (W A B D E)) (eval f (three_pairs x y z) (W A B G H))
      (eval_below f L (three_pairs x y z) (bounded_three_pairs x y z hx hy hz) (W A B D E)) (eval_below f L (three_pairs x y z) (bounded_three_pairs x y z hx hy hz) (W A B G H)))

  neutral : (x : ℕ) → x < size (doubled f) → pair_product f 1 x ≡ x
  unfolding pair_product
  neutral x hx =
      cc (
        div-eq_of_lt (one_below f L),
        mod-eq_of_lt (one_below f L),
        solve f L (one_pair x) (bounded_one_pair x hx) (U nought one A B) A refl,
        solve f L (one_pair x) (bounded_one_pair x hx) (W nought one A B) B refl,
        split x f.width,
      )

  -- ---- inverses, by the norm

  -- a product that is 0 has a factor that is 0
  pub quotient : (x y : ℕ) → x < size f → y < size f → (x ≢ 0) → f.product x y ≡ 0 → y ≡ 0
  quotient x y hx hy ne e =
      let (i, hi, u) = L.inverts x hx ne in
      cc (L.neutral y hy, times_zero f L i hi, solve f L (x ∷ y ∷ i ∷ []) (hx, (hy, (hi, tt))) (prod (prod A C) B) (prod C (prod A B)) refl)

  norm_zero : (a b : ℕ) → a < size f → b < size f → (a ≡ 0 → b ≡ 0 → ⊥) → eval f (a ∷ b ∷ f.c ∷ []) N ≡ 0 → ⊥
  norm_zero zero b ha hb ne e =
      let bb : f.product b b ≡ 0 = solve f L (b ∷ f.c ∷ []) (hb, (L.c_below, tt)) (prod A A) (sum (sum (prod A A) (prod nought A)) (prod (prod nought nought) B)) refl ∙ e in
      ne refl (quotient b b hb hb (ne refl) bb)
  norm_zero (suc a) b ha hb ne e =
      let (i, hi, u) = L.inverts (suc a) ha (λ z. omega (arith, z)) in
      let z : ℕ = f.product b i in
      let hz : z < size f = L.closed b i hb hi in
      let at_one = solve f L (z ∷ f.c ∷ []) (hz, (L.c_below, tt)) (sum (sum (prod A A) A) B) (sum (sum (prod A A) (prod one A)) (prod (prod one one) B)) refl in
      let at_a =
      solve f L (suc a ∷ b ∷ f.c ∷ i ∷ []) (ha, (hb, (L.c_below, (hi, tt))))
      (sum (sum (prod (prod B D) (prod B D)) (prod (prod A D) (prod B D))) (prod (prod (prod A D) (prod A D)) C)) (prod (prod D D) N) refl in
      L.c_rootless z hz (xor_same (bit_xor (f.product z z) z) f.c (cc (times_zero f L (f.product i i) (L.closed i i hi hi))))

  pub nonzero_norm : (x : ℕ) → x < size (doubled f) → (x ≢ 0) → eval f (one_pair x) N ≡ 0 → ⊥
  nonzero_norm x hx ne = grind (arith, norm_zero, up, down, split, zero-mul)

  -- the inverse, from the inverse n of the norm
  pub pair_inverse : (x n : ℕ) → x < size (doubled f) → n < size f → f.product (eval f (one_pair x) N) n ≡ 1
      → (join (f.product (x / size f) n) (f.product (bit_xor (x / size f) (x % size f)) n) < size (doubled f))
      × (pair_product f x (join (f.product (x / size f) n) (f.product (bit_xor (x / size f) (x % size f)) n)) ≡ 1)
  unfolding pair_product
  pair_inverse x n hx hn u =
      let a : ℕ = x / size f in
      let b : ℕ = x % size f in
      let vs : List ℕ = a ∷ b ∷ f.c ∷ n ∷ [] in
      let bs : Bounded f vs = (up x hx, (down x, (L.c_below, (hn, tt)))) in
      let s : ℕ = eval f vs (prod A D) in
      let t : ℕ = eval f vs (prod (sum A B) D) in
      let hs : s < size f = eval_below f L vs bs (prod A D) in
      let ht : t < size f = eval_below f L vs bs (prod (sum A B) D) in (
        join_below s t hs ht,
        cc (
          high s f.width ht,
          low s f.width ht,
          solve f L vs bs (U A B (prod A D) (prod (sum A B) D)) nought refl,
          solve f L vs bs (W A B (prod A D) (prod (sum A B) D)) (prod N D) refl,
          zero-mul (size f),
        ),
      )

  inverts : (x : ℕ) → x < size (doubled f) → (x ≢ 0)
      → (y : ℕ) × (y < size (doubled f)) × (pair_product f x y ≡ 1)
  inverts x hx ne =
      let (n, hn, u) = L.inverts (eval f (one_pair x) N) (eval_below f L (one_pair x) (bounded_one_pair x hx) N) (nonzero_norm x hx ne) in
      let r = pair_inverse x n hx hn u in
      (join (f.product (x / size f) n) (f.product (bit_xor (x / size f) (x % size f)) n), r.0, r.1)

  rootless : (z : ℕ) → z < size (doubled f) → bit_xor (pair_product f z z) z ≡ f.c * size f → ⊥
  rootless z hz e =
      L.c_rootless (z / size f) (up z hz)
      (cc (
        solve f L (one_pair z) (bounded_one_pair z hz) (sum (prod A A) A) (sum (U A B A B) A) refl,
        product_up z z hz hz,
        xor_shr (pair_product f z z) z f.width,
        shl-shr f.c f.width,
      ))

  pub doubled_laws : f.width ≤ 4 → FieldLaws (doubled f)
  doubled_laws h = record {
    some_bits = omega (arith, L.some_bits);
    few_bits = omega arith;
    closed = closed;
    commutes = commutes;
    associates = associates;
    distributes = distributes;
    neutral = neutral;
    inverts = inverts;
    roll_below = λ i h. h;
    roll_nonzero = λ i h e. omega (arith, e);
    roll_once = λ i j hi hj e. omega (arith, e);
    c_below = shl_lt f.width f.width L.c_below;
    c_rootless = rootless;
  }

  pub pair_laws : FieldLaws (pair f)
  pair_laws = cond_both (leb f.width 4) (doubled f) f FieldLaws (λ e. doubled_laws (leb-true f.width 4 e)) (λ _. L)
