-- How many elements a field has.
use Rattle.std.proofs.Common.{◌≤◌, pow_mono}
use Rattle.fields.specs.Meaning.{FieldMeaning, FieldLaws, size}

module _ (f : FieldMeaning) (L : FieldLaws f) where
  pub size_some : 2 ≤ size f
  size_some = pow_mono {i = 1} {j = f.width} L.some_bits

  pub size_few : size f ≤ 256
  size_few = pow_mono {i = f.width} {j = 8} L.few_bits
