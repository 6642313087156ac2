-- What the tables of logarithms and powers give, from one computed test of each.
use Rattle.std.specs.Prelude.{◌≡◌, ◌≢◌, refl, Bool, true, ◌&&◌, ◌||◌, List, [], ◌∷◌, ℕ, ◌+◌, ◌-◌, ◌*◌, ◌<◌, eqb, ltb, length, get_or}
use Rattle.std.proofs.Common.{sym, subst, arith, eqb-true, ltb-true, lit<}
use Rattle.std.specs.List.{list_all}
use Rattle.std.proofs.lemmas.Bool.{and_parts}
use Rattle.fields.specs.Meaning.{FieldMeaning, size}
use Rattle.fields.specs.Polynomials.{product_modulo, carryless, remainder, power, gf8, gf16}
use Rattle.fields.proofs.Tests.{all, at, same_at, passed}
use Rattle.fields.proofs.PolynomialLaws.{unless_zero}
use Rattle.fields.specs.Answers.{inverse}
use Rattle.fields.proofs.Inverses.{inverse_is}
use Rattle.fields.proofs.Powers.{power_below, power_sum}
use Rattle.binary_fields.specs.declared.table.Table.{Table}
use Rattle.binary_fields.specs.declared.table.Table.TheVariants.{Gf8, Gf16}
use Rattle.binary_fields.specs.Tables.{table_meaning, IsLogTables}
use Rattle.binary_fields.specs.Laws.{table_laws}

module _ (f : FieldMeaning) (logs powers : List ℕ) where
  abbrev log_test : ℕ → Bool
  log_test x = ltb (get_or logs x 0 + 1) (size f) && (eqb x 0 || eqb (f.roll (get_or logs x 0)) x)

  -- both lengths, every logarithm and every power
  abbrev tests : List Bool
  tests =
      eqb (length logs) (size f)
      ∷ eqb (length powers) (2 * (size f - 1))
      ∷ all (size f) log_test
      ∷ all (2 * (size f - 1)) (λ i. eqb (get_or powers i 0) (f.roll i))
      ∷ []

  pub tested_tables : list_all (λ b. b) tests ≡ true → IsLogTables f logs powers
  tested_tables t =
      let pass : (i : ℕ) → get_or tests i true ≡ true = passed tests t in
      let log = λ (x : ℕ) (h : x < size f). and_parts (ltb (get_or logs x 0 + 1) (size f)) (eqb x 0 || eqb (f.roll (get_or logs x 0)) x) (at (size f) log_test (pass 2) x h) in
      record {
        log_count = eqb-true (length logs) (size f) (pass 0);
        power_count = eqb-true (length powers) (2 * (size f - 1)) (pass 1);
        log_below = λ x h. ltb-true (get_or logs x 0 + 1) (size f) (log x h).0;
        log_is = λ x h ne. eqb-true (f.roll (get_or logs x 0)) x (unless_zero x (eqb (f.roll (get_or logs x 0)) x) ne (log x h).1);
        power_is = same_at (2 * (size f - 1)) (λ i. get_or powers i 0) f.roll (pass 3);
      }

roll_sum : (t : Table) (i j : ℕ) → (table_meaning t).roll (i + j) ≡ (table_meaning t).product ((table_meaning t).roll i) ((table_meaning t).roll j)
roll_sum Gf8 = power_sum gf8 (table_laws Gf8) 2 (lit< tt)
roll_sum Gf16 = power_sum gf16 (table_laws Gf16) 2 (lit< tt)

roll_turn : (t : Table) → (table_meaning t).roll (size (table_meaning t) - 1) ≡ 1
unfolding product_modulo carryless remainder power
roll_turn Gf8 = refl
roll_turn Gf16 = refl

roll_below : (t : Table) (i : ℕ) → (table_meaning t).roll i < size (table_meaning t)
roll_below Gf8 = power_below gf8 (table_laws Gf8) 2 (lit< tt)
roll_below Gf16 = power_below gf16 (table_laws Gf16) 2 (lit< tt)

module _ (t : Table) (logs powers : List ℕ) (h : IsLogTables (table_meaning t) logs powers) where
  abbrev q : ℕ
  q = size (table_meaning t)

  abbrev times : ℕ → ℕ → ℕ
  times = (table_meaning t).product

  -- the power at the sum of two logarithms
  pub sum_of_logs : (x y : ℕ) → x < q → y < q → (x ≢ 0) → (y ≢ 0) → get_or powers (get_or logs x 0 + get_or logs y 0) 0 ≡ times x y
  sum_of_logs x y hx hy nx ny =
      let lx = h.log_below x hx in
      let ly = h.log_below y hy in
      cc (h.power_is (get_or logs x 0 + get_or logs y 0) (omega arith), roll_sum t (get_or logs x 0) (get_or logs y 0), h.log_is x hx nx, h.log_is y hy ny)

  -- the power at what a logarithm lacks to a full turn
  pub inverse_of_log : (x : ℕ) → x < q → (x ≢ 0) → get_or powers (q - 1 - get_or logs x 0) 0 ≡ inverse (table_meaning t) x
  inverse_of_log x hx nx =
      let l : ℕ = get_or logs x 0 in
      let lx = h.log_below x hx in
      let at_rest : get_or powers (q - 1 - l) 0 ≡ (table_meaning t).roll (q - 1 - l) = h.power_is (q - 1 - l) (omega arith) in
      let whole : l + (q - 1 - l) ≡ q - 1 = omega arith in
      sym (inverse_is (table_meaning t) (table_laws t) x (get_or powers (q - 1 - l) 0) hx (subst (λ (n : ℕ). n < q) (sym at_rest) (roll_below t (q - 1 - l)))
      (cc (h.log_is x hx nx, roll_sum t l (q - 1 - l), roll_turn t)))
