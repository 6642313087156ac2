-- What a field means, and the laws that every field keeps.
use Rattle.std.specs.Prelude.{◌≡◌, ℕ, ◌+◌, ◌^◌, ◌<◌, ◌≤◌, ◌≢◌, bit_xor}

-- Elements are numbers, and the sum of two is their exclusive or.
pub record FieldMeaning : Type 0 where
  -- how many bits an element has
  pub width : ℕ
  pub product : ℕ → ℕ → ℕ
  -- the non-zero elements, each once, in an order of the field's own
  pub roll : ℕ → ℕ
  -- an element over which the field can be doubled to pairs
  pub c : ℕ

-- how many elements there are, which are the numbers below it
abbrev pub size : FieldMeaning → ℕ
size f = 2 ^ f.width

pub record FieldLaws (f : FieldMeaning) : Type 0 where
  pub some_bits : 1 ≤ f.width
  pub few_bits : f.width ≤ 8
  pub closed : (x y : ℕ) → x < size f → y < size f → f.product x y < size f
  pub commutes : (x y : ℕ) → x < size f → y < size f → f.product x y ≡ f.product y x
  pub associates : (x y z : ℕ) → x < size f → y < size f → z < size f → f.product (f.product x y) z ≡ f.product x (f.product y z)
  pub distributes : (x y z : ℕ) → x < size f → y < size f → z < size f → f.product x (bit_xor y z) ≡ bit_xor (f.product x y) (f.product x z)
  pub neutral : (x : ℕ) → x < size f → f.product 1 x ≡ x
  pub inverts : (x : ℕ) → x < size f → (x ≢ 0) → (y : ℕ) × (y < size f) × (f.product x y ≡ 1)
  pub roll_below : (i : ℕ) → i + 1 < size f → f.roll i < size f
  pub roll_nonzero : (i : ℕ) → i + 1 < size f → f.roll i ≢ 0
  pub roll_once : (i j : ℕ) → i + 1 < size f → j + 1 < size f → f.roll i ≡ f.roll j → i ≡ j
  pub c_below : f.c < size f
  pub c_rootless : (z : ℕ) → z < size f → bit_xor (f.product z z) z ≢ f.c
