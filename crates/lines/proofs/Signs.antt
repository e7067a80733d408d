-- A number read as an amount, forward and back. Assumes nothing.
use Prim.Native.Nat.{ℕ, zero, suc, ◌≤◌}
use mathlib.Core.Path.{◌≡◌, refl, sym, ap, subst}
use native.Mathlib.Omega.{arith}
use lib.IntN.{ℤ, pos, negsuc, ◌-ℤ◌, +ℤ_idl}
use mir.Syntax.{w32, w64}
use mir.Val.{SFits, to_z, of_z}
use mir.ValLaws.{to_z_pos, to_z-of_z}
use Rattle.lines.specs.Lines.{Command, back_by}

-- Forward: the number itself.
module _ (k : ℕ) (l : k ≤ 2147483647) where
  pub forth_fits : SFits w32 (pos k)
  forth_fits = record { sfits = omega arith }

  pub forth_is : (r : ℕ) → Command.goes r (to_z w32 k) ≡ Command.goes r (pos k)
  forth_is r = ap (Command.goes r) (to_z_pos w32 k (omega arith))

-- Back: a negative number, in the wider type first.
zero-less : (j : ℕ) → pos 0 -ℤ pos (suc j) ≡ negsuc j
zero-less j = +ℤ_idl (negsuc j)

less-fits : (j : ℕ) → j ≤ 2147483648 → SFits w32 (pos 0 -ℤ pos j)
less-fits zero l = record { sfits = omega arith }
less-fits (suc j) l = subst (SFits w32) (sym (zero-less j)) (record { sfits = omega arith })

less-wide : (j : ℕ) → j ≤ 2147483648 → SFits w64 (pos 0 -ℤ pos j)
less-wide zero l = record { sfits = omega arith }
less-wide (suc j) l = subst (SFits w64) (sym (zero-less j)) (record { sfits = omega arith })

module _ (k : ℕ) (l : k ≤ 2147483648) (z : ℤ) (e : z ≡ pos k) where
  wide : SFits w64 (pos k)
  wide = record { sfits = omega arith }

  pub back_fits : SFits w32 (to_z w64 (of_z w64 (pos 0 -ℤ to_z w64 (of_z w64 z))))
  back_fits = rw (e, to_z-of_z w64 (pos k) wide, to_z-of_z w64 (pos 0 -ℤ pos k) (less-wide k l)) (less-fits k l)

  by : (r j : ℕ) → (j ≡ 0 → ⊥) → Command.goes r (pos 0 -ℤ pos j) ≡ back_by r j
  by r zero n = absurd (n refl)
  by r (suc j) n = ap (Command.goes r) (zero-less j)

  pub back_is : (r : ℕ) → (k ≡ 0 → ⊥) → Command.goes r (to_z w32 (of_z w32 (to_z w64 (of_z w64 (pos 0 -ℤ to_z w64 (of_z w64 z)))))) ≡ back_by r k
  back_is r n =
      rw (e, to_z-of_z w64 (pos k) wide, to_z-of_z w64 (pos 0 -ℤ pos k) (less-wide k l), to_z-of_z w32 (pos 0 -ℤ pos k) (less-fits k l)) (by r k n)
